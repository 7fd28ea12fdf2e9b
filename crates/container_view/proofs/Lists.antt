-- One more element in a list.
use Rattle.std.proofs.Common.{◌≡◌, List, [], ◌∷◌, ◌++◌, flat_map, refl, sym, ap, ◌∙◌}
use Rattle.std.proofs.lemmas.Grind.{flat_map-append}
use Rattle.container_view.specs.Changes.{Inserts}

pub first_inserted : {X : Type 0} (x : X) (xs : List X) → Inserts x xs (x ∷ xs)
first_inserted x xs = record { before = []; after = xs; few_is = refl; many_is = refl }

pub later_inserted : {X : Type 0} (x y : X) (few many : List X) → Inserts x few many → Inserts x (y ∷ few) (y ∷ many)
later_inserted {X = X} x y few many n = record {
  before = y ∷ n.before;
  after = n.after;
  few_is = ap (λ (xs : List X). y ∷ xs) n.few_is;
  many_is = ap (λ (xs : List X). y ∷ xs) n.many_is;
}

module _ {X A : Type 0} (h : X → List A) (x : X) (few many : List X) (n : Inserts x few many) where
  split_few : flat_map h few ≡ flat_map h n.before ++ flat_map h n.after
  split_few = ap (flat_map h) n.few_is ∙ flat_map-append h n.before n.after

  split_many : flat_map h many ≡ flat_map h n.before ++ (h x ++ flat_map h n.after)
  split_many = ap (flat_map h) n.many_is ∙ flat_map-append h n.before (x ∷ n.after)

  -- an element from which nothing comes
  pub same_kinds : h x ≡ [] → flat_map h many ≡ flat_map h few
  same_kinds e = split_many ∙ ap (λ ys. flat_map h n.before ++ (ys ++ flat_map h n.after)) e ∙ sym split_few

  -- an element from which one comes
  pub one_more : (y : A) → h x ≡ y ∷ [] → Inserts y (flat_map h few) (flat_map h many)
  one_more y e = record {
    before = flat_map h n.before;
    after = flat_map h n.after;
    few_is = split_few;
    many_is = split_many ∙ ap (λ ys. flat_map h n.before ++ (ys ++ flat_map h n.after)) e;
  }

-- The names of a container's files stand in byte order.
use Rattle.std.proofs.Common.{◌≡◌, ℕ, true, List, [], ◌∷◌, ◌++◌, map, Option, Some, None, Ordering, Less, Equal, Greater, is_lt, nat_cmp, refl, sym, ap, ◌∙◌, subst}
use Rattle.std.specs.List.{AllByRecursion}
use Rattle.std.specs.List.Sorted.{IsStrictlySortedBy}
use Rattle.std.specs.Cmp.Lexicographic.{slice_cmp}
use Rattle.std.specs.Ordering.{ordering_then}
use Rattle.std.proofs.lemmas.Cmp.{nat_cmp_total, tied_itself}
use Rattle.std.proofs.lemmas.List.Kept.{IsStrictlySortedBy-filter}
use Rattle.fb_bytes.specs.Bytes.{Bytes, is_below}
use Rattle.fb_bytes.proofs.Order.{below_trans}
use Rattle.fb_outside.specs.declared.File.{File}
use Rattle.fb_outside.specs.Files.{NamePast, AreFiles}
use Rattle.file_names.specs.Reading.{name_of}
use Rattle.file_names.proofs.Numbers.{after_found}
use Rattle.mutations.proofs.Basics.{all_weaker}
use Rattle.container_view.specs.Containers.{AreRising}
use Rattle.container_view.specs.Files.{whole_name, name_in, renamed, inside}
use Rattle.container_view.specs.Names.{names_inside}
use Rattle.expire_core.specs.Doomed.{is_doomed, doomed}
use Rattle.expire_core.specs.Laws.{OrderLaw}
use Rattle.expire_core.proofs.Telling.{tells}

below_cmp : (x y : Bytes) → is_below x y ≡ true → slice_cmp nat_cmp x y ≡ Less
unfolding is_below
below_cmp x y h = go (slice_cmp nat_cmp x y) h
  where
    go : (o : Ordering) → is_lt o ≡ true → o ≡ Less
    go Less e = refl
    go Equal e = absurd cc
    go Greater e = absurd cc

itself : (n : ℕ) → nat_cmp n n ≡ Equal
itself n = tied_itself nat_cmp_total n

behind_same : (front x y : Bytes) → slice_cmp nat_cmp (front ++ x) (front ++ y) ≡ slice_cmp nat_cmp x y
behind_same [] x y = refl
behind_same (b ∷ bs) x y = ap (λ (o : Ordering). ordering_then o (slice_cmp nat_cmp (bs ++ x) (bs ++ y))) (itself b) ∙ behind_same bs x y

all_past : (name : Bytes) (files : List File) → NamePast name files → AreFiles files → AllByRecursion (λ (f : File). is_below name f.name ≡ true) files
all_past name [] p r = tt
all_past name (f ∷ fs) p r = (p, all_weaker (λ (x : File). is_below f.name x.name ≡ true) (λ (x : File). is_below name x.name ≡ true) (λ x h. below_trans name f.name x.name p h) fs (all_past f.name fs r.0 r.1))

inner_past : (container name : Bytes) (files : List File) → AllByRecursion (λ (f : File). is_below (whole_name container name) f.name ≡ true) files → AllByRecursion (λ y. slice_cmp nat_cmp name y ≡ Less) (names_inside container files)
inner_past container name [] h = tt
inner_past container name (f ∷ fs) h = go (name_in container f.name) refl (inner_past container name fs h.1)
  where
    go : (o : Option Bytes) → name_in container f.name ≡ o → AllByRecursion (λ y. slice_cmp nat_cmp name y ≡ Less) (names_inside container fs) → AllByRecursion (λ y. slice_cmp nat_cmp name y ≡ Less) (map (λ (x : File). x.name) (renamed o f.bytes ++ inside container fs))
    go None e ih = ih
    go (Some inner) e ih = (
      sym (behind_same (container ++ 47 ∷ []) name inner) ∙ ap (slice_cmp nat_cmp (whole_name container name)) (sym (after_found (container ++ 47 ∷ []) f.name inner e)) ∙ below_cmp (whole_name container name) f.name h.0,
      ih,
    )

names_rise : (container : Bytes) (files : List File) → AreFiles files → AreRising (names_inside container files)
unfolding IsStrictlySortedBy
names_rise container [] r = tt
names_rise container (f ∷ fs) r = go (name_in container f.name) refl (names_rise container fs r.1)
  where
    go : (o : Option Bytes) → name_in container f.name ≡ o → AreRising (names_inside container fs) → AreRising (map (λ (x : File). x.name) (renamed o f.bytes ++ inside container fs))
    go None e ih = ih
    go (Some inner) e ih = (inner_past container inner fs (subst (λ (n : Bytes). AllByRecursion (λ (x : File). is_below n x.name ≡ true) fs) (after_found (container ++ 47 ∷ []) f.name inner e) (all_past f.name fs r.0 r.1)), ih)

pub order_law : OrderLaw
order_law container files cutoff wanted force expiry r e =
    let t = tells (inside container files) cutoff wanted force expiry e in
    subst AreRising (sym t.by.names) (subst (λ (xs : List Bytes). AreRising (doomed cutoff xs)) (sym t.is.names) (IsStrictlySortedBy-filter (slice_cmp nat_cmp) (λ name. is_doomed cutoff (name_of name)) (names_inside container files) (names_rise container files r)))

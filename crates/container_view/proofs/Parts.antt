-- The first parts of names are the containers of their files; sorting and dropping repeats keeps them.
use Rattle.std.proofs.Common.{◌≡◌, ℕ, zero, suc, Bool, true, false, cond, not, ◌&&◌, ◌||◌, ◌==◌, ◌<◌, ◌≢◌, get_or, arith, nat_eq, is_some, List, [], ◌∷◌, ◌++◌, length, take, drop, map, Option, Some, None, option_map, refl, sym, subst, ap, ◌∙◌, nat_cmp, rules}
use Rattle.std.specs.List.{dedup, dedup_from, flat_map}
use Rattle.std.specs.List.Sorted.{IsPermutation, IsSorted}
use Rattle.std.specs.Cmp.Lexicographic.{slice_cmp, pointwise}
use Rattle.std.proofs.lemmas.Bool.{eqb-true}
use Rattle.std.proofs.lemmas.Cmp.{nat_list_cmp_total}
use Rattle.std.proofs.lemmas.List.Kept.{IsStrictlySortedBy-dedup}
use Rattle.std.proofs.lemmas.List.Sorted.{list_any-IsPermutation}
use Rattle.std.proofs.lemmas.Str.Pattern.{IsSplitOnceResult, split_parts}
use Rattle.std.specs.Borrow.{Bor}
use Rattle.std.specs.Cmp.Rules.{comparing}
use Rattle.std.specs.Option.{MatchOption}
use Rattle.std.specs.Ordering.{eq_by_cmp}
use Rattle.fb_bytes.specs.Bytes.{Bytes, is_same}
use Rattle.fb_bytes.proofs.Order.{same_eq}
use Rattle.fb_outside.specs.Files.{names_in}
use Rattle.fb_outside.specs.declared.File.{File}
use Rattle.file_names.specs.Reading.{after}
use Rattle.container_view.specs.Containers.{has_file, AreRising}
use Rattle.container_view.specs.Files.{name_in, has_no_slash}
use Rattle.container_view.specs.Names.{is_named}
use Rattle.container_view.specs.View.{as_list}
use Rattle.container_view.specs.inner.Parts.{first_part, first_parts}
use Rattle.container_view.proofs.Search.{named_any}

and_false : (a : Bool) → (a && false) ≡ false
and_false true = refl
and_false false = refl

-- ---- one name

-- a container is the first part of a name exactly where the name is its own, a slash, and more
first_is : (container name : Bytes) → is_named (as_list (first_part name)) container ≡ (has_no_slash container && is_some (name_in container name))
unfolding after is_same
first_is [] [] = refl
first_is [] (c ∷ r) = go (c == 47) (first_part r)
  where
    go : (b : Bool) (o : Option Bytes) → is_named (as_list (cond b (Some []) (option_map (λ part. c ∷ part) o))) [] ≡ is_some (cond (b && true) (Some (drop 1 (c ∷ r))) None)
    go true o = refl
    go false None = refl
    go false (Some g) = refl
first_is (b ∷ f) [] = sym (and_false (has_no_slash (b ∷ f)))
first_is (b ∷ f) (c ∷ r) = go (c == 47) refl (c == b) refl (first_part r) (first_is f r)
  where
    behind : Bool → Option Bytes
    behind t = cond (t && is_same (take (length (f ++ 47 ∷ [])) r) (f ++ 47 ∷ [])) (Some (drop (length (f ++ 47 ∷ [])) r)) None

    apart : Bool → Bool → Bool
    apart s t = (not s && has_no_slash f) && is_some (behind t)

    go : (s : Bool) → (c == 47) ≡ s → (t : Bool) → (c == b) ≡ t → (o : Option Bytes) → is_named (as_list o) f ≡ (has_no_slash f && is_some (behind true)) → is_named (as_list (cond s (Some []) (option_map (λ part. c ∷ part) o))) (b ∷ f) ≡ apart (b == 47) t
    go true e true q o ih = sym (ap (λ z. apart z true) (ap (λ n. n == 47) (sym (eqb-true c b q)) ∙ e))
    go true e false q o ih = sym (and_false (not (b == 47) && has_no_slash f))
    go false e true q None ih = ih ∙ sym (ap (λ z. apart z true) (ap (λ n. n == 47) (sym (eqb-true c b q)) ∙ e))
    go false e true q (Some g) ih = ap (λ z. (z && is_same g f) || false) q ∙ ih ∙ sym (ap (λ z. apart z true) (ap (λ n. n == 47) (sym (eqb-true c b q)) ∙ e))
    go false e false q None ih = sym (and_false (not (b == 47) && has_no_slash f))
    go false e false q (Some g) ih = ap (λ z. (z && is_same g f) || false) q ∙ sym (and_false (not (b == 47) && has_no_slash f))

no_part : (bs : Bytes) → ((i : ℕ) → i < length bs → get_or bs i 0 ≢ 47) → None ≡ first_part bs
no_part [] h = refl
no_part (b ∷ bs) h = go (b == 47) refl (no_part bs (λ i l. h (suc i) (omega arith)))
  where
    go : (t : Bool) → (b == 47) ≡ t → None ≡ first_part bs → None ≡ cond t (Some []) (option_map (λ part. b ∷ part) (first_part bs))
    go true e ih = absurd (h 0 (omega arith) (eqb-true b 47 e))
    go false e ih = ap (option_map (λ (part : Bytes). b ∷ part)) ih

some_part : (part rest : Bytes) → ((i : ℕ) → i < length part → get_or part i 0 ≢ 47) → Some part ≡ first_part (part ++ 47 ∷ rest)
some_part [] rest h = refl
some_part (b ∷ part) rest h = go (b == 47) refl (some_part part rest (λ i l. h (suc i) (omega arith)))
  where
    go : (t : Bool) → (b == 47) ≡ t → Some part ≡ first_part (part ++ 47 ∷ rest) → Some (b ∷ part) ≡ cond t (Some []) (option_map (λ p. b ∷ p) (first_part (part ++ 47 ∷ rest)))
    go true e ih = absurd (h 0 (omega arith) (eqb-true b 47 e))
    go false e ih = ap (option_map (λ (p : Bytes). b ∷ p)) ih

-- what splitting once gives
pub part_is : (bs : Bytes) (r : Option (Bor Bytes × Bor Bytes)) → IsSplitOnceResult 47 bs r → option_map (λ x. x.0.now) r ≡ first_part bs
part_is bs r h = go r (split_parts 47 bs r h (omega arith))
  where
    go : (r : Option (Bor Bytes × Bor Bytes)) → MatchOption r ((i : ℕ) → i < length bs → get_or bs i 0 ≢ 47) (λ x. (bs ≡ x.0.now ++ (47 ∷ x.1.now)) × ((i : ℕ) → i < length x.0.now → get_or x.0.now i 0 ≢ 47)) → option_map (λ x. x.0.now) r ≡ first_part bs
    go None m = no_part bs m
    go (Some x) m = some_part x.0.now x.1.now m.1 ∙ ap first_part (sym m.0)

-- ---- all names

named_append : (xs ys : List Bytes) (name : Bytes) → is_named (xs ++ ys) name ≡ (is_named xs name || is_named ys name)
named_append [] ys name = refl
named_append (x ∷ xs) ys name = go (is_same x name) (named_append xs ys name)
  where
    go : (b : Bool) → is_named (xs ++ ys) name ≡ (is_named xs name || is_named ys name) → (b || is_named (xs ++ ys) name) ≡ ((b || is_named xs name) || is_named ys name)
    go true ih = refl
    go false ih = ih

both : (a b c : Bool) → ((a && b) || (a && c)) ≡ (a && (b || c))
both true b c = refl
both false b c = refl

pub parts_named : (container : Bytes) (files : List File) → is_named (first_parts (names_in [] files)) container ≡ (has_no_slash container && has_file container files)
parts_named container [] = sym (and_false (has_no_slash container))
parts_named container (f ∷ fs) =
    named_append (as_list (first_part f.name)) (first_parts (names_in [] fs)) container
    ∙ (λ i. first_is container f.name i || parts_named container fs i)
    ∙ both (has_no_slash container) (is_some (name_in container f.name)) (has_file container fs)

-- ---- in order, and once

named_from : (x : Bytes) (xs : List Bytes) (name : Bytes) → is_named (dedup_from (pointwise nat_eq) x xs) name ≡ is_named (x ∷ xs) name
unfolding is_same
named_from x [] name = refl
named_from x (y ∷ ys) name = go (pointwise nat_eq y x) refl (named_from x ys name) (named_from y ys name)
  where
    again : (b c : Bool) → (b || c) ≡ (b || (b || c))
    again true c = refl
    again false c = refl

    go : (b : Bool) → pointwise nat_eq y x ≡ b → is_named (dedup_from (pointwise nat_eq) x ys) name ≡ is_named (x ∷ ys) name → is_named (dedup_from (pointwise nat_eq) y ys) name ≡ is_named (y ∷ ys) name → is_named (cond b (dedup_from (pointwise nat_eq) x ys) (x ∷ dedup_from (pointwise nat_eq) y ys)) name ≡ (is_same x name || (is_same y name || is_named ys name))
    go true e first second =
        first ∙ again (is_same x name) (is_named ys name)
        ∙ ap (λ (z : Bytes). is_same x name || (is_same z name || is_named ys name)) (sym (same_eq y x e))
    go false e first second = ap (λ b. is_same x name || b) second

named_dedup : (xs : List Bytes) (name : Bytes) → is_named (dedup (pointwise nat_eq) xs) name ≡ is_named xs name
named_dedup [] name = refl
named_dedup (x ∷ xs) name = named_from x xs name

pub once_named : (names sorted list : List Bytes) → IsPermutation names sorted → list ≡ dedup (pointwise nat_eq) sorted → (name : Bytes) → is_named list name ≡ is_named names name
once_named names sorted list p e name =
    ap (λ xs. is_named xs name) e
    ∙ named_dedup sorted name
    ∙ named_any sorted name
    ∙ sym (list_any-IsPermutation (λ listed. is_same listed name) names sorted p)
    ∙ sym (named_any names name)

ties : (x y : Bytes) → pointwise nat_eq x y ≡ eq_by_cmp (slice_cmp nat_cmp) x y
ties x y = search (comparing, rules)

pub once_rising : (sorted list : List Bytes) → IsSorted (slice_cmp nat_cmp) sorted → list ≡ dedup (pointwise nat_eq) sorted → AreRising list
once_rising sorted list s e = subst (λ (xs : List Bytes). AreRising xs) (sym e) (IsStrictlySortedBy-dedup nat_list_cmp_total ties sorted s)

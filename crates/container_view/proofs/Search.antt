-- What halving finds among names in byte order is what they list.
use Rattle.std.proofs.Common.{◌≡◌, ℕ, zero, suc, ◌<◌, Bool, true, false, ◌||◌, List, [], ◌∷◌, length, get_or, Result, Ok, Err, is_ok, ◌⊎◌, inl, inr, ⊎_elim, refl, sym, ap, ◌∙◌, arith, Ordering, Less, Equal, Greater, nat_cmp}
use Rattle.std.specs.Borrow.{Bor}
use Rattle.std.specs.List.{list_any}
use Rattle.std.specs.List.Sorted.{IsPermutation, IsSortedByKey, IsBinarySearchResult, IsSearchInRange}
use Rattle.std.specs.Cmp.Lexicographic.{slice_cmp}
use Rattle.std.proofs.lemmas.Bool.{cases_lt, false_from_ne_true}
use Rattle.std.proofs.lemmas.Cmp.{nat_list_cmp_total, tied_itself}
use Rattle.std.proofs.lemmas.List.Sorted.{list_any-IsPermutation, IsPermutation-map, searchable_from_sorted}
use Rattle.std.proofs.lemmas.Map.Lookups.{exact_bytes}
use Rattle.fb_bytes.specs.Bytes.{Bytes, is_same}
use Rattle.fb_bytes.proofs.Order.{same_eq, same_itself}
use Rattle.container_view.specs.Names.{is_named}
use Rattle.container_view.specs.inner.Listing.{texts}

pub named_any : (names : List Bytes) (name : Bytes) → is_named names name ≡ list_any (λ listed. is_same listed name) names
named_any [] name = refl
named_any (x ∷ xs) name = ap (λ b. is_same x name || b) (named_any xs name)

pub same_named : (xs ys : List (Bor Bytes)) (names : List Bytes) → IsPermutation xs ys → texts xs ≡ names → (name : Bytes) → is_named (texts ys) name ≡ is_named names name
same_named xs ys names p e name =
    named_any (texts ys) name
    ∙ sym (list_any-IsPermutation (λ listed. is_same listed name) (texts xs) (texts ys) (IsPermutation-map (λ (x : Bor Bytes). x.now) xs ys p))
    ∙ sym (named_any (texts xs) name)
    ∙ ap (λ xs. is_named xs name) e

module _ (name : Bytes) where
  or_true : (b : Bool) → (b || true) ≡ true
  or_true true = refl
  or_true false = refl

  named_at : (xs : List (Bor Bytes)) (i : ℕ) → i < length xs → ((d : Bor Bytes) → slice_cmp nat_cmp (get_or xs i d).now name ≡ Equal) → is_named (texts xs) name ≡ true
  named_at [] i l h = absurd (omega arith)
  named_at (x ∷ xs) zero l h = ap (λ b. b || is_named (texts xs) name) (ap (λ y. is_same y name) (exact_bytes x.now name (h x)) ∙ same_itself name)
  named_at (x ∷ xs) (suc i) l h = ap (λ b. is_same x.now name || b) (named_at xs i (omega arith) h) ∙ or_true (is_same x.now name)

  not_named : (xs : List (Bor Bytes)) → ((i : ℕ) (d : Bor Bytes) → i < length xs → slice_cmp nat_cmp (get_or xs i d).now name ≡ Equal → ⊥) → is_named (texts xs) name ≡ false
  not_named [] h = refl
  not_named (x ∷ xs) h =
      ap (λ b. b || is_named (texts xs) name) (false_from_ne_true (is_same x.now name) (λ e. h 0 x (omega arith) (ap (λ y. slice_cmp nat_cmp y name) (same_eq x.now name e) ∙ tied_itself nat_list_cmp_total name)))
      ∙ not_named xs (λ i d l. h (suc i) d (omega arith))

  less_or_greater : (o : Ordering) → (o ≡ Less) ⊎ (o ≡ Greater) → o ≡ Equal → ⊥
  less_or_greater Less h e = cc
  less_or_greater Equal (inl h) e = cc
  less_or_greater Equal (inr h) e = cc
  less_or_greater Greater h e = cc

  pub searched_names : (xs : List (Bor Bytes)) (r : Result ℕ ℕ) → IsSearchInRange r (length xs) → IsBinarySearchResult (λ y. slice_cmp nat_cmp y.now name) xs r → IsSortedByKey (λ x. x.now) (slice_cmp nat_cmp) xs → is_ok r ≡ is_named (texts xs) name
  searched_names xs (Ok i) b h s = sym (named_at xs i b h)
  searched_names xs (Err i) b h s =
      let p = h (searchable_from_sorted nat_list_cmp_total (λ (x : Bor Bytes). x.now) xs name s) in
      sym (not_named xs (λ k d l. less_or_greater _ (⊎_elim (λ u. inl (p.0 k d (omega arith) u)) (λ u. inr (p.1 k d u l)) (cases_lt k i))))

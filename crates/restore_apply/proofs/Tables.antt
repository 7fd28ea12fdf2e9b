-- A table by what its keys have, and the pairs that it has.
use Rattle.std.proofs.Common.{◌≡◌, Bool, true, false, not, ◌&&◌, cond, List, [], ◌∷◌, ◌++◌, Option, Some, None, refl, sym, ap, ◌∙◌, subst, Ordering, Less, Equal, Greater, is_lt, nat_cmp}
use Rattle.std.specs.Ordering.{is_eq, is_gt, ordering_reverse}
use Rattle.std.specs.Cmp.Lexicographic.{slice_cmp}
use Rattle.std.specs.Option.{IsSome, IfSome, MatchOption}
use Rattle.std.specs.List.{AllByRecursion, slice_get}
use Rattle.std.specs.List.Sorted.{IsStrictlySortedBy}
use Rattle.std.specs.Map.{lookup, keys_of}
use Rattle.std.specs.BTreeMap.{Updates}
use Rattle.std.proofs.lemmas.List.{append-nil}
use Rattle.std.proofs.lemmas.Cmp.{nat_list_cmp_total}
use Rattle.std.proofs.lemmas.Map.Lookups.{exact_bytes}
use Rattle.fb_bytes.specs.Bytes.{Bytes, is_below, is_same}
use Rattle.fb_bytes.specs.declared.KeyRange.{KeyRange}
use Rattle.fb_bytes.specs.declared.Pair.{Pair}
use Rattle.fb_bytes.specs.Keys.{holds}
use Rattle.fb_bytes.specs.Pairs.{value_of, KeyPast, AreRising}
use Rattle.fb_bytes.proofs.Order.{below_not_same, same_eq, same_both, not_both}
use Rattle.mutations.specs.Effects.{range_of}
use Rattle.mutations.proofs.Intersections.{holds_backwards}
use Rattle.restore_apply.specs.inner.Tables.{Table, found, Leaves, paired}

-- ---- the order of byte strings

pub same_swap : (a b : Bytes) → is_same a b ≡ is_same b a
same_swap a b = go (is_same a b) (is_same b a) refl refl
  where
    go : (s t : Bool) → is_same a b ≡ s → is_same b a ≡ t → s ≡ t
    go true true e f = refl
    go false false e f = refl
    go true false e f = not_both (same_both b a (sym (same_eq a b e))) f
    go false true e f = not_both (same_both a b (sym (same_eq b a f))) e

pub eq_same : (a b : Bytes) → is_eq (slice_cmp nat_cmp a b) ≡ is_same a b
unfolding is_below
eq_same a b = go (slice_cmp nat_cmp a b) refl
  where
    go : (o : Ordering) → slice_cmp nat_cmp a b ≡ o → is_eq (slice_cmp nat_cmp a b) ≡ is_same a b
    go Less e = ap is_eq e ∙ sym (below_not_same a b (ap is_lt e))
    go Equal e = ap is_eq e ∙ sym (same_both a b (exact_bytes a b e))
    go Greater e = ap is_eq e ∙ sym (same_swap a b ∙ below_not_same b a (ap is_lt (nat_list_cmp_total.antisymm b a ∙ ap ordering_reverse e)))

less_is_below : (a b : Bytes) → slice_cmp nat_cmp a b ≡ Less → is_below a b ≡ true
unfolding is_below
less_is_below a b e = ap is_lt e

pub below_not_gt : (a b : Bytes) → is_below a b ≡ true → is_gt (slice_cmp nat_cmp a b) ≡ false
unfolding is_below
below_not_gt a b h = go (slice_cmp nat_cmp a b) h
  where
    go : (o : Ordering) → is_lt o ≡ true → is_gt o ≡ false
    go Less e = refl
    go Equal e = refl
    go Greater e = not_both e refl

not_gt_from : (a b : Bytes) → is_gt (slice_cmp nat_cmp a b) ≡ false → is_below b a ≡ false
unfolding is_below
not_gt_from a b h = ap is_lt (nat_list_cmp_total.antisymm b a) ∙ go (slice_cmp nat_cmp a b) h
  where
    go : (o : Ordering) → is_gt o ≡ false → is_lt (ordering_reverse o) ≡ false
    go Less e = refl
    go Equal e = refl
    go Greater e = not_both refl e

from_not_below : (a b : Bytes) → is_below b a ≡ false → is_gt (slice_cmp nat_cmp a b) ≡ false
unfolding is_below
from_not_below a b h = go (slice_cmp nat_cmp a b) (sym (ap is_lt (nat_list_cmp_total.antisymm b a)) ∙ h)
  where
    go : (o : Ordering) → is_lt (ordering_reverse o) ≡ false → is_gt o ≡ false
    go Less e = refl
    go Equal e = refl
    go Greater e = not_both refl e

below_is_less : (a b : Bytes) → is_below a b ≡ true → slice_cmp nat_cmp a b ≡ Less
unfolding is_below
below_is_less a b h = go (slice_cmp nat_cmp a b) h
  where
    go : (o : Ordering) → is_lt o ≡ true → o ≡ Less
    go Less e = refl
    go Equal e = not_both e refl
    go Greater e = not_both e refl

-- ---- what is in a range

pub within : (begin end key : Bytes) → is_gt (slice_cmp nat_cmp begin key) ≡ false → slice_cmp nat_cmp key end ≡ Less → holds (range_of begin end) key ≡ true
within begin end key l u = (λ i. not (not_gt_from begin key l i) && less_is_below key end u i)

pub from_within : (begin end key : Bytes) → holds (range_of begin end) key ≡ true → (is_gt (slice_cmp nat_cmp begin key) ≡ false) × (slice_cmp nat_cmp key end ≡ Less)
from_within begin end key h = go (is_below key begin) (is_below key end) refl refl h
  where
    go : (s t : Bool) → is_below key begin ≡ s → is_below key end ≡ t → (not s && t) ≡ true → (is_gt (slice_cmp nat_cmp begin key) ≡ false) × (slice_cmp nat_cmp key end ≡ Less)
    go true t e f h = not_both h refl
    go false true e f h = (from_not_below begin key e, below_is_less key end f)
    go false false e f h = not_both h refl

pub none_within : (table : Table) (begin end key : Bytes) → is_below begin end ≡ false → holds (range_of begin end) key ≡ true → found table key ≡ None
none_within table begin end key b h = not_both h (holds_backwards (range_of begin end) key (ap not b))

-- ---- what calls leave

pub written_leaves : (old new : Table) (k key : Bytes) (value : Option Bytes) → k ≡ key → Updates (slice_cmp nat_cmp) old new k value → Leaves (λ at before. cond (is_same key at) value before) old new
written_leaves old new k key value e u at = u.0 at ∙ ap (λ b. cond b value (found old at)) (eq_same k at ∙ ap (λ z. is_same z at) e)

pub clear_next : (range : KeyRange) (table old new : Table) (key at : Bytes) → holds range key ≡ true → Updates (slice_cmp nat_cmp) old new key None
    → cond (holds range at) None (found old at) ≡ cond (holds range at) None (found table at)
    → cond (holds range at) None (found new at) ≡ cond (holds range at) None (found table at)
clear_next range table old new key at h u before = go (is_same key at) refl ∙ before
  where
    gone : found new at ≡ cond (is_same key at) None (found old at)
    gone = written_leaves old new key key None refl u at

    go : (b : Bool) → is_same key at ≡ b → cond (holds range at) None (found new at) ≡ cond (holds range at) None (found old at)
    go true e = let there : holds range at ≡ true = ap (holds range) (sym (same_eq key at e)) ∙ h in rw there refl
    go false e = ap (cond (holds range at) None) (gone ∙ ap (λ b. cond b None (found old at)) e)

pub clear_ends : (range : KeyRange) (old new : Table) (at : Bytes) → (holds range at ≡ true → found new at ≡ None)
    → cond (holds range at) None (found new at) ≡ cond (holds range at) None (found old at)
    → found new at ≡ cond (holds range at) None (found old at)
clear_ends range old new at none e = go (holds range at) refl
  where
    go : (b : Bool) → holds range at ≡ b → found new at ≡ cond (holds range at) None (found old at)
    go true h = none h ∙ sym (ap (λ b. cond b None (found old at)) h)
    go false h = sym (ap (λ b. cond b None (found new at)) h) ∙ e

-- ---- the pairs of a table

rising_from : (key : Bytes) (es : List (Bytes × Bytes)) → AllByRecursion (λ y. slice_cmp nat_cmp key y ≡ Less) (keys_of es) → KeyPast key (paired es)
rising_from key [] h = tt
rising_from key (e ∷ es) h = less_is_below key e.0 h.0

pub paired_rising : (es : List (Bytes × Bytes)) → IsStrictlySortedBy (slice_cmp nat_cmp) (keys_of es) → AreRising (paired es)
unfolding IsStrictlySortedBy
paired_rising [] h = tt
paired_rising (e ∷ es) h = (rising_from e.0 es h.0, paired_rising es h.1)

pub paired_value : (es : List (Bytes × Bytes)) (key : Bytes) → value_of (paired es) key ≡ lookup (λ k. is_eq (slice_cmp nat_cmp key k)) es
paired_value [] key = refl
paired_value (e ∷ es) key =
    ap (λ b. cond b (Some e.1) (value_of (paired es) key)) (same_swap e.0 key ∙ sym (eq_same key e.0))
    ∙ ap (λ v. cond (is_eq (slice_cmp nat_cmp key e.0)) (Some e.1) v) (paired_value es key)

-- ---- the first of a range

pub told : (x y a b : Bytes) (r v : Bool) → x ≡ a → y ≡ b → r ≡ is_below x y → r ≡ v → is_below a b ≡ v
told x y a b r v p q e f = sym (e ∙ (λ i. is_below (p i) (q i))) ∙ f

-- an entry of the table, from the begin on and before the end
abbrev pub IsFirst : Table → Bytes → Bytes → Bytes × Bytes → Type 0
IsFirst table begin end e = ((is_gt (slice_cmp nat_cmp begin e.0) ≡ false) × (slice_cmp nat_cmp e.0 end ≡ Less)) × (found table e.0 ≡ Some e.1)

pub first_is : (table : Table) (begin end : Bytes) (r t : List (Bytes × Bytes)) (k v key : Bytes) → r ≡ (k, v) ∷ t
    → IfSome (slice_get r 0) (IsFirst table begin end) → key ≡ k
    → (holds (range_of begin end) key ≡ true) × IsSome (found table key)
first_is table begin end r t k v key e h s =
    let there : IsFirst table begin end (k, v) = subst (λ es. IfSome (slice_get es 0) (IsFirst table begin end)) e h in
    subst (λ z. (holds (range_of begin end) z ≡ true) × IsSome (found table z)) (sym s)
    (within begin end k there.0.0 there.0.1, subst IsSome (sym there.1) refl)

pub first_held : (table : Table) (begin end : Bytes) (o : Option Bytes) (key : Bytes) → o ≡ Some key
    → MatchOption o ((k : Bytes) → holds (range_of begin end) k ≡ true → found table k ≡ None) (λ k. (holds (range_of begin end) k ≡ true) × IsSome (found table k))
    → holds (range_of begin end) key ≡ true
first_held table begin end o key e h =
    (subst (λ z. MatchOption z ((k : Bytes) → holds (range_of begin end) k ≡ true → found table k ≡ None) (λ k. (holds (range_of begin end) k ≡ true) × IsSome (found table k))) e h).0

pub entry_next : (old new : List (Bytes × Bytes)) (pair : Pair) (items rest all : List Pair) → new ≡ old ++ (pair.key, pair.value) ∷ [] → items ≡ pair ∷ rest → paired old ++ items ≡ all → paired new ++ rest ≡ all
entry_next old new pair items rest all n e h = ap (λ es. paired es ++ rest) n ∙ go old ∙ ap (λ xs. paired old ++ xs) (sym e) ∙ h
  where
    go : (es : List (Bytes × Bytes)) → paired (es ++ (pair.key, pair.value) ∷ []) ++ rest ≡ paired es ++ pair ∷ rest
    go [] = refl
    go (x ∷ xs) = ap (λ ys. record { key = x.0; value = x.1 } ∷ ys) (go xs)

pub paired_all : (pairs : List Pair) (rest es : List (Bytes × Bytes)) → rest ≡ [] → pairs ++ paired rest ≡ paired es → pairs ≡ paired es
paired_all pairs rest es r e = sym (append-nil pairs) ∙ sym (ap (λ xs. pairs ++ paired xs) r) ∙ e

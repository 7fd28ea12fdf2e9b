-- Replaying batches in pieces.
use Rattle.std.proofs.Common.{◌≡◌, ℕ, ◌<◌, ◌≤◌, true, false, ◌&&◌, List, [], ◌∷◌, ◌++◌, Option, ⊎_elim, refl, sym, ap, ◌∙◌, arith, nat_lt, nat_le}
use Rattle.std.specs.List.{AllByRecursion}
use Rattle.std.proofs.lemmas.Bool.{cases_lt, and_from, and_left, and_right, le-leb, lt-leb, lt-ltb, le-ltb}
use Rattle.fb_bytes.specs.Bytes.{Bytes}
use Rattle.mutations.specs.declared.batch.Batch.{Batch}
use Rattle.mutations.specs.Replay.{is_within, replayed, AreRising}
use Rattle.mutations.proofs.Basics.{all_weaker, all_so}

pub within_is : (low high n : ℕ) → low ≤ n → n < high → is_within low high n ≡ true
within_is low high n h g = and_from _ _ (le-leb low n h) (lt-ltb n high g)

pub below_within : (low high n : ℕ) → n < low → is_within low high n ≡ false
below_within low high n h = and_left _ _ (lt-leb low n h)

pub above_within : (low high n : ℕ) → high ≤ n → is_within low high n ≡ false
above_within low high n h = and_right _ _ (le-ltb n high h)

-- a bound that the number is past doesn't matter
pub upper_out : (a m b n : ℕ) → m ≤ b → n < m → is_within a m n ≡ is_within a b n
upper_out a m b n g h = ap (λ t. nat_le a n && t) (lt-ltb n m h ∙ sym (lt-ltb n b (omega arith)))

pub lower_out : (m a b n : ℕ) → m ≤ n → a ≤ m → is_within m b n ≡ is_within a b n
lower_out m a b n h g = ap (λ t. t && nat_lt n b) (le-leb m n h ∙ sym (le-leb a n (omega arith)))

module _ (limit : ℕ) (key : Bytes) where
  -- two spans that have the same batches
  pub replayed_agree : (xs : List Batch) (a b c d : ℕ) (old : Option Bytes) → AllByRecursion (λ x. is_within a b x.version ≡ is_within c d x.version) xs → replayed limit xs a b key old ≡ replayed limit xs c d key old
  replayed_agree [] a b c d old h = refl
  replayed_agree (x ∷ xs) a b c d old h = rw h.0 (replayed_agree xs a b c d _ h.1)

  -- a span that has no batch
  pub replayed_none : (xs : List Batch) (a b : ℕ) (old : Option Bytes) → AllByRecursion (λ x. is_within a b x.version ≡ false) xs → replayed limit xs a b key old ≡ old
  replayed_none [] a b old h = refl
  replayed_none (x ∷ xs) a b old h = rw h.0 (replayed_none xs a b old h.1)

  pub replayed_empty : (xs : List Batch) (a b : ℕ) (old : Option Bytes) → b ≤ a → replayed limit xs a b key old ≡ old
  replayed_empty xs a b old h = replayed_none xs a b old (all_so _ (λ x. ⊎_elim (λ l. below_within a b x.version l) (λ l. above_within a b x.version (omega arith)) (cases_lt x.version a)) xs)

  -- a span in two parts
  join_first : (x : Batch) (xs : List Batch) (a m b : ℕ) (old : Option Bytes) → ((o : Option Bytes) → replayed limit xs m b key (replayed limit xs a m key o) ≡ replayed limit xs a b key o) → m ≤ b → x.version < m → replayed limit (x ∷ xs) m b key (replayed limit (x ∷ xs) a m key old) ≡ replayed limit (x ∷ xs) a b key old
  join_first x xs a m b old ih g h =
      let e = below_within m b x.version h in
      let same : is_within a m x.version ≡ is_within a b x.version = upper_out a m b x.version g h in
      rw (e, same) (ih _)

  join_rest : (x : Batch) (xs : List Batch) (a m b : ℕ) (old : Option Bytes) → AllByRecursion (λ y. m ≤ y.version) (x ∷ xs) → a ≤ m → replayed limit (x ∷ xs) m b key (replayed limit (x ∷ xs) a m key old) ≡ replayed limit (x ∷ xs) a b key old
  join_rest x xs a m b old h l =
      let none = replayed_none (x ∷ xs) a m old (all_weaker _ _ (λ y k. above_within a m y.version k) (x ∷ xs) h) in
      ap (replayed limit (x ∷ xs) m b key) none ∙ replayed_agree (x ∷ xs) m b a b old (all_weaker _ _ (λ y k. lower_out m a b y.version k l) (x ∷ xs) h)

  pub replayed_join : (xs : List Batch) (a m b : ℕ) (old : Option Bytes) → AreRising xs → a ≤ m → m ≤ b → replayed limit xs m b key (replayed limit xs a m key old) ≡ replayed limit xs a b key old
  replayed_join [] a m b old r l g = refl
  replayed_join (x ∷ xs) a m b old r l g =
      ⊎_elim (join_first x xs a m b old (λ o. replayed_join xs a m b o r.1 l g) g)
      (λ h. join_rest x xs a m b old (h, all_weaker _ _ (λ y k. omega arith) xs r.0) l)
      (cases_lt x.version m)

  -- batches in two parts
  pub replayed_append : (xs ys : List Batch) (a b : ℕ) (old : Option Bytes) → replayed limit (xs ++ ys) a b key old ≡ replayed limit ys a b key (replayed limit xs a b key old)
  replayed_append [] ys a b old = refl
  replayed_append (x ∷ xs) ys a b old = replayed_append xs ys a b _

-- The first place that passes, and the first fault of a list of ranges.
use Rattle.std.proofs.Common.{◌≡◌, ℕ, zero, suc, ◌+◌, ◌<◌, ◌≤◌, nat_lt, Bool, true, false, cond, List, [], ◌∷◌, length, get_or, Option, Some, None, refl, ap, ◌∙◌, arith, zero-add}
use Rattle.std.proofs.lemmas.Bool.Decides.{nat_tests}
use Rattle.std.specs.List.{position, position_or_len}
use Rattle.fb_bytes.specs.declared.range_fault.RangeFault.TheVariants.{TooMany, Backwards, PastUser}
use Rattle.fb_bytes.specs.Keys.{KeyRange, is_backwards, is_past_user}
use Rattle.fb_bytes.specs.Options.{first_place, first_place_from}
use Rattle.fb_bytes.specs.RangeFaults.{range_fault, fault_at}

shifted : (n k l : ℕ) → cond (nat_lt k l) (Some (n + 1 + k)) None ≡ cond (nat_lt (1 + k) (suc l)) (Some (n + (1 + k))) None
shifted n k l = grind (arith, nat_tests)

at_front : (n l : ℕ) → Some n ≡ cond (nat_lt 0 (suc l)) (Some (n + 0)) None
at_front n l = grind (arith, nat_tests)

place_at : {A : Type 0} (passes : A → Bool) (n : ℕ) (xs : List A)
    → first_place_from n passes xs ≡ cond (nat_lt (position_or_len passes xs) (length xs)) (Some (n + position_or_len passes xs)) None
place_at passes n [] = refl
place_at passes n (x ∷ xs) = go (passes x) refl (place_at passes (n + 1) xs)
  where
    go : (b : Bool) → passes x ≡ b → first_place_from (n + 1) passes xs ≡ cond (nat_lt (position_or_len passes xs) (length xs)) (Some (n + 1 + position_or_len passes xs)) None
        → first_place_from n passes (x ∷ xs) ≡ cond (nat_lt (position_or_len passes (x ∷ xs)) (length (x ∷ xs))) (Some (n + position_or_len passes (x ∷ xs))) None
    go true p ih = rw p (at_front n (length xs))
    go false p ih = rw p (ih ∙ shifted n (position_or_len passes xs) (length xs))

pub place-position : {A : Type 0} (passes : A → Bool) (xs : List A) → first_place passes xs ≡ position passes xs
place-position passes xs =
    place_at passes 0 xs ∙ ap (λ n. cond (nat_lt (position_or_len passes xs) (length xs)) (Some n) None) (zero-add (position_or_len passes xs))

pub nowhere : {A : Type 0} (passes : A → Bool) (n : ℕ) (xs : List A) (i : ℕ) (d : A) → first_place_from n passes xs ≡ None → i < length xs → passes (get_or xs i d) ≡ false
nowhere passes n [] i d e h = absurd (omega arith)
nowhere passes n (x ∷ xs) i d e h = go (passes x) refl e (λ k q. nowhere passes (n + 1) xs k d q) i h
  where
    go : (b : Bool) → passes x ≡ b → cond b (Some n) (first_place_from (n + 1) passes xs) ≡ None
        → ((k : ℕ) → first_place_from (n + 1) passes xs ≡ None → k < length xs → passes (get_or xs k d) ≡ false)
        → (i : ℕ) → i < length (x ∷ xs) → passes (get_or (x ∷ xs) i d) ≡ false
    go true p q ih i h = cc
    go false p q ih zero h = p
    go false p q ih (suc k) h = ih k q (omega arith)

-- ---- faults of a list of ranges

count_fits : (n : ℕ) → n ≤ 1000 → nat_lt 1000 n ≡ false
count_fits n h = grind (arith, nat_tests)

pub too_many : (list : List KeyRange) → 1000 < length list → range_fault list ≡ Some (TooMany (length list))
too_many [] h = absurd (omega arith)
too_many (x ∷ xs) h =
    let t : nat_lt 1000 (length (x ∷ xs)) ≡ true = grind (arith, nat_tests) in
    rw t refl

few_fault : (list : List KeyRange) → 0 < length list → length list ≤ 1000
    → range_fault list ≡ fault_at Backwards (first_place is_backwards list) (fault_at PastUser (first_place is_past_user list) None)
few_fault [] h f = absurd (omega arith)
few_fault (x ∷ xs) h f = rw (count_fits (length (x ∷ xs)) f) refl

pub backwards_fault : (list : List KeyRange) (i : ℕ) → 0 < length list → length list ≤ 1000 → position is_backwards list ≡ Some i → range_fault list ≡ Some (Backwards i)
backwards_fault list i h f p = few_fault list h f ∙ ap (λ o. fault_at Backwards o (fault_at PastUser (first_place is_past_user list) None)) (place-position is_backwards list ∙ p)

pub past_user_fault : (list : List KeyRange) (i : ℕ) → 0 < length list → length list ≤ 1000 → position is_backwards list ≡ None → position is_past_user list ≡ Some i → range_fault list ≡ Some (PastUser i)
past_user_fault list i h f n p =
    few_fault list h f
    ∙ ap (λ o. fault_at Backwards o (fault_at PastUser (first_place is_past_user list) None)) (place-position is_backwards list ∙ n)
    ∙ ap (λ o. fault_at PastUser o None) (place-position is_past_user list ∙ p)

pub no_fault : (list : List KeyRange) → 0 < length list → length list ≤ 1000 → position is_backwards list ≡ None → position is_past_user list ≡ None → range_fault list ≡ None
no_fault list h f n p =
    few_fault list h f
    ∙ ap (λ o. fault_at Backwards o (fault_at PastUser (first_place is_past_user list) None)) (place-position is_backwards list ∙ n)
    ∙ ap (λ o. fault_at PastUser o None) (place-position is_past_user list ∙ p)

-- what a list without a fault has
pub record Sound (list : List KeyRange) : Type 0 where
  pub few : length list ≤ 1000
  pub forward : (i : ℕ) (d : KeyRange) → i < length list → is_backwards (get_or list i d) ≡ false
  pub user : (i : ℕ) (d : KeyRange) → i < length list → is_past_user (get_or list i d) ≡ false

pub sound_list : (list : List KeyRange) → range_fault list ≡ None → Sound list
sound_list [] e = cc
sound_list (x ∷ xs) e = many (nat_lt 1000 (length (x ∷ xs))) refl e
  where
    list : List KeyRange
    list = x ∷ xs

    user : length list ≤ 1000 → first_place is_backwards list ≡ None → (o : Option ℕ) → first_place is_past_user list ≡ o → fault_at PastUser o None ≡ None → Sound list
    user f b (Some i) p q = cc
    user f b None p q = record { few = f; forward = λ i d h. nowhere is_backwards 0 list i d b h; user = λ i d h. nowhere is_past_user 0 list i d p h }

    forward : length list ≤ 1000 → (o : Option ℕ) → first_place is_backwards list ≡ o → fault_at Backwards o (fault_at PastUser (first_place is_past_user list) None) ≡ None → Sound list
    forward f (Some i) p q = cc
    forward f None p q = user f p (first_place is_past_user list) refl q

    many : (b : Bool) → nat_lt 1000 (length list) ≡ b
        → cond b (Some (TooMany (length list))) (fault_at Backwards (first_place is_backwards list) (fault_at PastUser (first_place is_past_user list) None)) ≡ None → Sound list
    many true p q = cc
    many false p q = let f : length list ≤ 1000 = grind (arith, nat_tests) in forward f (first_place is_backwards list) refl q

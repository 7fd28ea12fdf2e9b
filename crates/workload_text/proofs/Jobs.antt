-- Joined ranges are those of a job.
use Rattle.std.proofs.Common.{◌≡◌, ℕ, ◌+◌, ◌<◌, ◌≤◌, Bool, true, false, not, List, [], ◌∷◌, length, refl, sym, ap, arith, nat_le, if◌then◌else◌}
use Rattle.std.specs.List.{AllByRecursion, list_all}
use Rattle.std.proofs.lemmas.Bool.{and_parts, and_from}
use Rattle.fb_bytes.specs.declared.KeyRange.{KeyRange}
use Rattle.fb_bytes.specs.Bytes.{Bytes, is_below}
use Rattle.fb_bytes.specs.Joining.{hull, with_range, joined}
use Rattle.fb_bytes.specs.Keys.{is_backwards, is_past_user, user_end, BeginPast, AreSeparate}
use Rattle.fb_bytes.proofs.Order.{below_trans}
use Rattle.workload_text.specs.Commands.{is_short, AreJobRanges}

pub by_cases : {P : Type 0} (b : Bool) → (b ≡ true → P) → (b ≡ false → P) → P
by_cases true f g = f refl
by_cases false f g = g refl

-- ---- what holds of each range of two holds of their hull

abbrev Hulls : (KeyRange → Bool) → Type 0
Hulls p = (a b : KeyRange) → p a ≡ true → p b ≡ true → p (hull a b) ≡ true

all_with : (p : KeyRange → Bool) → Hulls p → (new : KeyRange) (ranges : List KeyRange) → p new ≡ true → list_all p ranges ≡ true → list_all p (with_range new ranges) ≡ true
all_with p hulls new [] n h = and_from (p new) true n refl
all_with p hulls new (next ∷ ranges) n h =
    let parts = and_parts (p next) (list_all p ranges) h in
    let before : list_all p (next ∷ with_range new ranges) ≡ true = and_from (p next) (list_all p (with_range new ranges)) parts.0 (all_with p hulls new ranges n parts.1) in
    let behind : list_all p (new ∷ with_range next ranges) ≡ true = and_from (p new) (list_all p (with_range next ranges)) n (all_with p hulls next ranges parts.0 parts.1) in
    let both : list_all p (with_range (hull new next) ranges) ≡ true = all_with p hulls (hull new next) ranges (hulls new next n parts.0) parts.1 in
    elim (is_below next.end new.begin) as (λ b. list_all p (if b then next ∷ with_range new ranges else if is_below new.end next.begin then new ∷ with_range next ranges else with_range (hull new next) ranges) ≡ true) [
      | true ↦ before
      | false ↦ elim (is_below new.end next.begin) as (λ b. list_all p (if b then new ∷ with_range next ranges else with_range (hull new next) ranges) ≡ true) [ true ↦ behind | false ↦ both ]
    ]

pub all_joined : (p : KeyRange → Bool) → Hulls p → (ranges : List KeyRange) → list_all p ranges ≡ true → list_all p (joined ranges) ≡ true
all_joined p hulls [] h = refl
all_joined p hulls (range ∷ ranges) h =
    let parts = and_parts (p range) (list_all p ranges) h in
    all_with p hulls range (joined ranges) parts.0 (all_joined p hulls ranges parts.1)

-- a choice of two that pass
chosen : (p : Bytes → Bool) (b : Bool) (x y : Bytes) → p x ≡ true → p y ≡ true → p (if b then x else y) ≡ true
chosen p true x y h k = h
chosen p false x y h k = k

short_hulls : (limit : ℕ) → Hulls (is_short limit)
short_hulls limit a b h k =
    let x = and_parts (nat_le (length a.begin) limit) (nat_le (length a.end) limit) h in
    let y = and_parts (nat_le (length b.begin) limit) (nat_le (length b.end) limit) k in
    and_from _ _ (chosen (λ (e : Bytes). nat_le (length e) limit) (is_below b.begin a.begin) b.begin a.begin y.0 x.0)
    (chosen (λ (e : Bytes). nat_le (length e) limit) (is_below a.end b.end) b.end a.end y.1 x.1)

abbrev pub is_user : KeyRange → Bool
is_user range = not (is_past_user range)

user_hulls : Hulls is_user
user_hulls a b h k = chosen (λ (e : Bytes). not (is_below user_end e)) (is_below a.end b.end) b.end a.end k h

abbrev pub is_forward : KeyRange → Bool
is_forward range = not (is_backwards range)

forward_below : (range : KeyRange) → is_forward range ≡ true → is_below range.begin range.end ≡ true
forward_below range h = not_not (is_below range.begin range.end) h
  where
    not_not : (b : Bool) → not (not b) ≡ true → b ≡ true
    not_not true h = refl
    not_not false h = h

below_forward : (range : KeyRange) → is_below range.begin range.end ≡ true → is_forward range ≡ true
below_forward range h = ap (λ (b : Bool). not (not b)) h

-- ---- order

-- the next range begins past a lower key too
past_lower : (key end : Bytes) (ranges : List KeyRange) → is_below key end ≡ true → BeginPast end ranges → BeginPast key ranges
past_lower key end [] h p = tt
past_lower key end (range ∷ ranges) h p = below_trans key end range.begin h p

hull_forward : Hulls is_forward
hull_forward a b h k = below_forward (hull a b) (ordered a.begin b.begin a.end b.end (forward_below a h) (forward_below b k))
  where
    ordered : (ab bb ae be : Bytes) → is_below ab ae ≡ true → is_below bb be ≡ true → is_below (if is_below bb ab then bb else ab) (if is_below ae be then be else ae) ≡ true
    ordered ab bb ae be h k =
        by_cases (is_below bb ab)
        (λ lower. by_cases (is_below ae be)
        (λ more. rw (lower, more) k)
        (λ less. rw (lower, less) (below_trans bb ab ae lower h)))
        (λ upper. by_cases (is_below ae be)
        (λ more. rw (upper, more) (below_trans ab ae be h more))
        (λ less. rw (upper, less) h))

lower_chosen : (key a b : Bytes) (c : Bool) → is_below key a ≡ true → is_below key b ≡ true → is_below key (if c then b else a) ≡ true
lower_chosen key a b true h k = k
lower_chosen key a b false h k = h

backwards_forward : (range : KeyRange) → is_backwards range ≡ false → is_forward range ≡ true
backwards_forward range h = ap not h

forward_backwards : (range : KeyRange) → is_forward range ≡ true → is_backwards range ≡ false
forward_backwards range h = to_false (is_backwards range) h
  where
    to_false : (b : Bool) → not b ≡ true → b ≡ false
    to_false true h = sym h
    to_false false h = refl

past_with : (key : Bytes) (new : KeyRange) (ranges : List KeyRange) → AreSeparate ranges → is_below key new.begin ≡ true → BeginPast key ranges → BeginPast key (with_range new ranges)
past_with key new [] s h p = h
past_with key new (next ∷ ranges) s h p =
    let forward : is_below next.begin next.end ≡ true = forward_below next (backwards_forward next s.0) in
    let on : BeginPast key ranges = past_lower key next.end ranges (below_trans key next.begin next.end p forward) s.1 in
    let both : BeginPast key (with_range (hull new next) ranges) = past_with key (hull new next) ranges s.2 (lower_chosen key new.begin next.begin (is_below next.begin new.begin) h p) on in
    elim (is_below next.end new.begin) as (λ b. BeginPast key (if b then next ∷ with_range new ranges else if is_below new.end next.begin then new ∷ with_range next ranges else with_range (hull new next) ranges)) [
      | true ↦ p
      | false ↦ elim (is_below new.end next.begin) as (λ b. BeginPast key (if b then new ∷ with_range next ranges else with_range (hull new next) ranges)) [ true ↦ h | false ↦ both ]
    ]

separate_with : (new : KeyRange) (ranges : List KeyRange) → is_forward new ≡ true → AreSeparate ranges → AreSeparate (with_range new ranges)
separate_with new [] n s = (forward_backwards new n, tt, tt)
separate_with new (next ∷ ranges) n s =
    let fits : is_forward next ≡ true = backwards_forward next s.0 in
    let forward : is_below next.begin next.end ≡ true = forward_below next fits in
    let both : AreSeparate (with_range (hull new next) ranges) = separate_with (hull new next) ranges (hull_forward new next n fits) s.2 in
    by_cases {P = AreSeparate (with_range new (next ∷ ranges))} (is_below next.end new.begin)
    (λ low. rw low (s.0, past_with next.end new ranges s.2 low s.1, separate_with new ranges n s.2))
    (λ high. by_cases {P = AreSeparate (with_range new (next ∷ ranges))} (is_below new.end next.begin)
    (λ apart. rw (high, apart)
    (forward_backwards new n, past_with new.end next ranges s.2 apart (past_lower new.end next.end ranges (below_trans new.end next.begin next.end apart forward) s.1), separate_with next ranges fits s.2))
    (λ near. rw (high, near) both))

separate_joined : (ranges : List KeyRange) → list_all is_forward ranges ≡ true → AreSeparate (joined ranges)
separate_joined [] h = tt
separate_joined (range ∷ ranges) h =
    let parts = and_parts (is_forward range) (list_all is_forward ranges) h in
    separate_with range (joined ranges) parts.0 (separate_joined ranges parts.1)

-- ---- how many

few_with : (new : KeyRange) (ranges : List KeyRange) → length (with_range new ranges) ≤ length ranges + 1
few_with new [] = omega arith
few_with new (next ∷ ranges) =
    let a = few_with new ranges in
    let b = few_with next ranges in
    let c = few_with (hull new next) ranges in
    elim (is_below next.end new.begin) as (λ b. length (if b then next ∷ with_range new ranges else if is_below new.end next.begin then new ∷ with_range next ranges else with_range (hull new next) ranges) ≤ length (next ∷ ranges) + 1) [
      | true ↦ omega (arith, a)
      | false ↦ elim (is_below new.end next.begin) as (λ b. length (if b then new ∷ with_range next ranges else with_range (hull new next) ranges) ≤ length (next ∷ ranges) + 1) [ true ↦ omega (arith, b) | false ↦ omega (arith, c) ]
    ]

few_joined : (ranges : List KeyRange) → length (joined ranges) ≤ length ranges
few_joined [] = omega arith
few_joined (range ∷ ranges) =
    let a = few_with range (joined ranges) in
    let b = few_joined ranges in
    omega (arith, a, b)

some_with : (new : KeyRange) (ranges : List KeyRange) → 0 < length (with_range new ranges)
some_with new [] = omega arith
some_with new (next ∷ ranges) =
    let c = some_with (hull new next) ranges in
    elim (is_below next.end new.begin) as (λ b. 0 < length (if b then next ∷ with_range new ranges else if is_below new.end next.begin then new ∷ with_range next ranges else with_range (hull new next) ranges)) [
      | true ↦ omega arith
      | false ↦ elim (is_below new.end next.begin) as (λ b. 0 < length (if b then new ∷ with_range next ranges else with_range (hull new next) ranges)) [ true ↦ omega arith | false ↦ c ]
    ]

some_joined : (ranges : List KeyRange) → 0 < length ranges → 0 < length (joined ranges)
some_joined [] h = h
some_joined (range ∷ ranges) h = some_with range (joined ranges)

all_user : (ranges : List KeyRange) → list_all is_user ranges ≡ true → AllByRecursion (λ range. is_past_user range ≡ false) ranges
all_user [] h = tt
all_user (range ∷ ranges) h =
    let parts = and_parts (is_user range) (list_all is_user ranges) h in
    (to_false (is_past_user range) parts.0, all_user ranges parts.1)
  where
    to_false : (b : Bool) → not b ≡ true → b ≡ false
    to_false true h = sym h
    to_false false h = refl

-- forward user ranges within a limit on keys, joined
pub job_of : (limit : ℕ) (ranges : List KeyRange) → 0 < length ranges → length ranges ≤ 1000 → list_all (is_short limit) ranges ≡ true → list_all is_forward ranges ≡ true → list_all is_user ranges ≡ true → AreJobRanges limit (joined ranges)
job_of limit ranges some few short forward user = record {
  some = some_joined ranges some;
  are_ranges = record {
    separate = separate_joined ranges forward;
    user = all_user (joined ranges) (all_joined is_user user_hulls ranges user);
    few = let f = few_joined ranges in omega (arith, f);
  };
  short = all_joined (is_short limit) (short_hulls limit) ranges short;
}

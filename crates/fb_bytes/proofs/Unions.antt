-- The keys of a list of ranges, and of ranges that are joined.
use Rattle.std.proofs.Common.{◌≡◌, ℕ, ◌+◌, ◌<◌, ◌≤◌, Bool, true, false, not, ◌&&◌, ◌||◌, cond, List, [], ◌∷◌, ◌++◌, length, take, get_or, refl, sym, ap, ◌∙◌, arith, if◌then◌else◌}
use Rattle.std.proofs.lemmas.Bool.{cond_both}
use Rattle.std.proofs.lemmas.List.{take_more, take_all}
use Rattle.std.proofs.lemmas.List.Recursion.{or_at, or_push}
use Rattle.fb_bytes.specs.Bytes.{Bytes, is_below}
use Rattle.fb_bytes.specs.Keys.{KeyRange, holds, in_ranges, is_backwards, is_past_user, user_end, BeginPast, AreSeparate, AreRanges}
use Rattle.fb_bytes.specs.Joining.{hull, with_range, AreUser, Joins}
use Rattle.fb_bytes.proofs.Places.{Sound}
use Rattle.fb_bytes.proofs.Order.{below_trans, below_up, below_down, not_both}

pub holds_at : (ranges : List KeyRange) (i : ℕ) (d : KeyRange) (key : Bytes) → i < length ranges → holds (get_or ranges i d) key ≡ true → in_ranges ranges key ≡ true
holds_at ranges i d key h e = or_at (λ xs. in_ranges xs key) (λ r. holds r key) refl (λ _ _. refl) ranges i d h e

pub one_more_range : (ranges : List KeyRange) (i : ℕ) (d : KeyRange) (key : Bytes) → i < length ranges
    → in_ranges (take (i + 1) ranges) key ≡ (in_ranges (take i ranges) key || holds (get_or ranges i d) key)
one_more_range ranges i d key h =
    ap (λ xs. in_ranges xs key) (take_more ranges i d h)
    ∙ or_push (λ xs. in_ranges xs key) (λ r. holds r key) refl (λ _ _. refl) (take i ranges) (get_or ranges i d)

-- ---- the range around two that overlap or touch

or_swap : (a b : Bool) → (a || b) ≡ (b || a)
or_swap true true = refl
or_swap true false = refl
or_swap false true = refl
or_swap false false = refl

or_regroup : (a b c : Bool) → (a || (b || c)) ≡ (b || (a || c))
or_regroup true true c = refl
or_regroup true false c = refl
or_regroup false true c = refl
or_regroup false false c = refl

or_group : (a b c : Bool) → ((a || b) || c) ≡ (a || (b || c))
or_group true b c = refl
or_group false b c = refl

pushed : {X Y : Type 0} (f : X → Y) (p : Bool) (x y : X) → f (if p then x else y) ≡ cond p (f x) (f y)
pushed f true x y = refl
pushed f false x y = refl

lower_cases : (p k m : Bool) → (p ≡ true → m ≡ true → k ≡ true) → (p ≡ false → k ≡ true → m ≡ true) → not (cond p m k) ≡ (not k || not m)
lower_cases true true true f g = refl
lower_cases true true false f g = refl
lower_cases true false true f g = not_both (f refl refl) refl
lower_cases true false false f g = refl
lower_cases false true true f g = refl
lower_cases false true false f g = not_both (g refl refl) refl
lower_cases false false m f g = refl

-- a key is at or past the lower begin where it is at or past one of the two
past_lower : (a b key : Bytes) → not (is_below key (if is_below b a then b else a)) ≡ (not (is_below key a) || not (is_below key b))
past_lower a b key =
    ap not (pushed (is_below key) (is_below b a) b a)
    ∙ lower_cases (is_below b a) (is_below key a) (is_below key b) (λ p m. below_trans key b a m p) (λ p k. below_up key b a k p)

greater_cases : (p k m : Bool) → (p ≡ true → k ≡ true → m ≡ true) → (p ≡ false → m ≡ true → k ≡ true) → cond p m k ≡ (k || m)
greater_cases true true true f g = refl
greater_cases true true false f g = not_both (f refl refl) refl
greater_cases true false m f g = refl
greater_cases false true m f g = refl
greater_cases false false true f g = not_both (g refl refl) refl
greater_cases false false false f g = refl

-- a key is below the greater end where it is below one of the two
below_greater : (a b key : Bytes) → is_below key (if is_below a b then b else a) ≡ (is_below key a || is_below key b)
below_greater a b key =
    pushed (is_below key) (is_below a b) b a
    ∙ greater_cases (is_below a b) (is_below key a) (is_below key b) (λ p k. below_trans key a b k p) (λ p m. below_up key a b m p)

hull_cases : (pa pb ea eb : Bool) → (pb ≡ true → ea ≡ true) → (pa ≡ true → eb ≡ true)
    → ((not pa || not pb) && (ea || eb)) ≡ ((not pa && ea) || (not pb && eb))
hull_cases false false ea eb f g = refl
hull_cases false true true eb f g = refl
hull_cases false true false eb f g = not_both (f refl) refl
hull_cases true false true true f g = refl
hull_cases true false false true f g = refl
hull_cases true false ea false f g = not_both (g refl) refl
hull_cases true true ea eb f g = refl

-- a key before the begin of one is before the end of the other, where they overlap or touch
reaches : (end begin key : Bytes) → is_below end begin ≡ false → is_below key begin ≡ true → is_below key end ≡ true
reaches end begin key h k = go (is_below key end) refl
  where
    go : (b : Bool) → is_below key end ≡ b → is_below key end ≡ true
    go true e = e
    go false e = not_both (below_down end key begin e k) h

holds-hull : (a b : KeyRange) (key : Bytes) → is_below b.end a.begin ≡ false → is_below a.end b.begin ≡ false → holds (hull a b) key ≡ (holds a key || holds b key)
holds-hull a b key h g =
    rw (past_lower a.begin b.begin key, below_greater a.end b.end key)
    (hull_cases (is_below key a.begin) (is_below key b.begin) (is_below key a.end) (is_below key b.end) (reaches a.end b.begin key g) (reaches b.end a.begin key h))

-- ---- one range more

pub in_ranges-with_range : (new : KeyRange) (ranges : List KeyRange) (key : Bytes) → in_ranges (with_range new ranges) key ≡ (holds new key || in_ranges ranges key)
in_ranges-with_range new [] key = refl
in_ranges-with_range new (next ∷ ranges) key =
    cond_both (is_below next.end new.begin) _ _ Same
    (λ t. ap (λ b. holds next key || b) (in_ranges-with_range new ranges key) ∙ or_regroup (holds next key) (holds new key) (in_ranges ranges key))
    (λ f.
    cond_both (is_below new.end next.begin) _ _ Same
    (λ t. ap (λ b. holds new key || b) (in_ranges-with_range next ranges key))
    (λ g.
    in_ranges-with_range (hull new next) ranges key
    ∙ ap (λ b. b || in_ranges ranges key) (holds-hull new next key f g)
    ∙ or_group (holds new key) (holds next key) (in_ranges ranges key)))
  where
    Same : List KeyRange → Type 0
    Same list = in_ranges list key ≡ (holds new key || in_ranges (next ∷ ranges) key)

-- ---- order is kept

pub not_back : (range : KeyRange) → is_backwards range ≡ false → is_below range.begin range.end ≡ true
not_back range e = go (is_below range.begin range.end) refl
  where
    go : (b : Bool) → is_below range.begin range.end ≡ b → is_below range.begin range.end ≡ true
    go true e = e
    go false f = not_both (ap not f) e

or_right : (a b : Bool) → b ≡ true → (a || b) ≡ true
or_right true b e = refl
or_right false b e = e

or_left : (a b : Bool) → a ≡ true → (a || b) ≡ true
or_left true b e = refl
or_left false b e = not_both e refl

hull_forward : (a b : KeyRange) → is_backwards a ≡ false → is_backwards b ≡ false → is_backwards (hull a b) ≡ false
hull_forward a b h g =
    ap not
    (cond_both (is_below b.begin a.begin) b.begin a.begin (λ x. is_below x (hull a b).end ≡ true)
    (λ t. below_greater a.end b.end b.begin ∙ or_right (is_below b.begin a.end) (is_below b.begin b.end) (not_back b g))
    (λ f. below_greater a.end b.end a.begin ∙ or_left (is_below a.begin a.end) (is_below a.begin b.end) (not_back a h)))

past_weaker : (p q : Bytes) (ranges : List KeyRange) → is_below p q ≡ true → BeginPast q ranges → BeginPast p ranges
past_weaker p q [] h b = tt
past_weaker p q (range ∷ ranges) h b = below_trans p q range.begin h b

-- what begins past the end of a range begins past all that is before the range
pub past_next : (p : Bytes) (next : KeyRange) (ranges : List KeyRange) → is_below p next.begin ≡ true → AreSeparate (next ∷ ranges) → BeginPast p ranges
past_next p next ranges h s = past_weaker p next.end ranges (below_trans p next.begin next.end h (not_back next s.0)) s.1

begins_past : (p : Bytes) (new : KeyRange) (ranges : List KeyRange) → is_below p new.begin ≡ true → BeginPast p ranges → AreSeparate ranges → BeginPast p (with_range new ranges)
begins_past p new [] h b s = h
begins_past p new (next ∷ ranges) h b s =
    cond_both (is_below next.end new.begin) _ _ (BeginPast p) (λ t. b)
    (λ f.
    cond_both (is_below new.end next.begin) _ _ (BeginPast p) (λ t. h)
    (λ g.
    begins_past p (hull new next) ranges
    (cond_both (is_below next.begin new.begin) next.begin new.begin (λ x. is_below p x ≡ true) (λ t. b) (λ n. h))
    (past_next p next ranges b s) s.2))

pub separate-with_range : (new : KeyRange) (ranges : List KeyRange) → is_backwards new ≡ false → AreSeparate ranges → AreSeparate (with_range new ranges)
separate-with_range new [] h s = (h, tt, tt)
separate-with_range new (next ∷ ranges) h s =
    cond_both (is_below next.end new.begin) _ _ AreSeparate
    (λ t. (s.0, begins_past next.end new ranges t s.1 s.2, separate-with_range new ranges h s.2))
    (λ f.
    cond_both (is_below new.end next.begin) _ _ AreSeparate
    (λ t. (h, begins_past new.end next ranges t (past_next new.end next ranges t s) s.2, separate-with_range next ranges s.0 s.2))
    (λ g. separate-with_range (hull new next) ranges (hull_forward new next h s.0) s.2))

-- ---- so are the bound of the keys and the number of ranges

hull_user : (a b : KeyRange) → is_past_user a ≡ false → is_past_user b ≡ false → is_past_user (hull a b) ≡ false
hull_user a b h g = cond_both (is_below a.end b.end) b.end a.end (λ x. is_below user_end x ≡ false) (λ t. g) (λ f. h)

user-with_range : (new : KeyRange) (ranges : List KeyRange) → is_past_user new ≡ false → AreUser ranges → AreUser (with_range new ranges)
user-with_range new [] h u = (h, tt)
user-with_range new (next ∷ ranges) h u =
    cond_both (is_below next.end new.begin) _ _ AreUser
    (λ t. (u.0, user-with_range new ranges h u.1))
    (λ f.
    cond_both (is_below new.end next.begin) _ _ AreUser
    (λ t. (h, user-with_range next ranges u.0 u.1))
    (λ g. user-with_range (hull new next) ranges (hull_user new next h u.0) u.1))

length-with_range : (new : KeyRange) (ranges : List KeyRange) → length (with_range new ranges) ≤ length ranges + 1
length-with_range new [] = omega arith
length-with_range new (next ∷ ranges) =
    cond_both (is_below next.end new.begin) _ _ Fewer
    (λ t. let h = length-with_range new ranges in omega arith)
    (λ f.
    cond_both (is_below new.end next.begin) _ _ Fewer
    (λ t. let h = length-with_range next ranges in omega arith)
    (λ g. let h = length-with_range (hull new next) ranges in omega arith))
  where
    Fewer : List KeyRange → Type 0
    Fewer list = length list ≤ length (next ∷ ranges) + 1

pub joins : (new : KeyRange) (ranges joined : List KeyRange) → is_backwards new ≡ false → AreSeparate ranges → joined ≡ with_range new ranges → Joins new ranges joined
joins new ranges joined h s e =
    rw e
    record {
      union = in_ranges-with_range new ranges;
      separate = separate-with_range new ranges h s;
      user = user-with_range new ranges;
      few = length-with_range new ranges;
    }

-- what the first n of a list of ranges leave
pub record Joined (list : List KeyRange) (n : ℕ) (ranges : List KeyRange) : Type 0 where
  pub union : (key : Bytes) → in_ranges ranges key ≡ in_ranges (take n list) key
  pub separate : AreSeparate ranges
  pub user : AreUser ranges
  pub few : length ranges ≤ n

pub none_joined : (list ranges : List KeyRange) → ranges ≡ [] → Joined list 0 ranges
none_joined list ranges e = rw e record { union = λ key. refl; separate = tt; user = tt; few = omega arith }

pub one_joined : (list ranges joined : List KeyRange) (n : ℕ) (new d : KeyRange) → Sound list → n < length list → new ≡ get_or list n d
    → Joined list n ranges → Joins new ranges joined → Joined list (n + 1) joined
one_joined list ranges joined n new d s h e j one =
    let user : is_past_user new ≡ false = ap is_past_user e ∙ s.user n d h in
    record {
      union = λ key.
          one.union key
          ∙ ap (λ b. holds new key || b) (j.union key)
          ∙ or_swap (holds new key) (in_ranges (take n list) key)
          ∙ ap (λ r. in_ranges (take n list) key || holds r key) e
          ∙ sym (one_more_range list n d key h);
      separate = one.separate;
      user = one.user user j.user;
      few = omega (arith, j.few, one.few);
    }

pub all_joined : (list ranges : List KeyRange) (n : ℕ) → Sound list → length list ≤ n → n ≤ length list → Joined list n ranges
    → ((key : Bytes) → in_ranges ranges key ≡ in_ranges list key) × AreRanges ranges
all_joined list ranges n s h g j = (
  λ key. j.union key ∙ ap (λ l. in_ranges l key) (take_all n list h),
  record { separate = j.separate; user = j.user; few = omega (arith, j.few, s.few) },
)

-- no range is left
pub all_passed : (new : KeyRange) (whole before after rest : List KeyRange) → whole ≡ before ++ with_range new rest → length rest ≡ 0 → after ≡ before ++ new ∷ [] → after ≡ whole
all_passed new whole before after [] e n a = a ∙ sym e
all_passed new whole before after (next ∷ rest) e n a = absurd (omega arith)

-- One way through the list settles all that falls.
use Rattle.std.proofs.Common.{◌≡◌, ℕ, zero, suc, ◌+◌, ◌<◌, ◌≤◌, Bool, true, false, not, cond, ◌||◌, List, [], ◌∷◌, ◌++◌, length, get_or, set, take, drop, map, ◌-◌, refl, sym, ap, subst, ◌∙◌, append_assoc, arith}
use Rattle.std.specs.List.{filter}
use Rattle.std.proofs.lemmas.List.{append-nil, take_all, take_more}
use borrow.Rule.Slice.PartMut.{put_mid, mid_of}
use Rattle.fb_bytes.proofs.Mapped.{drop-all}
use Rattle.task_futures.specs.Futures.{Part, SeenFuture, is_part, falls, is_some_block, left, kept_joins, passed_on, settle}
use Rattle.task_futures.specs.inner.Futures.{cleared_by, first_settled, head_settled}
use Rattle.task_futures.specs.inner.Changes.{cleared, emptied, lesser_count}
use Rattle.task_futures.specs.Laws.{AreRising, HasPassedOn, HavePassedOn, AreFutures}
use Rattle.task_futures.proofs.Finding.{rising_head, rising_map, passed_open, cleared_there, cleared_none}

left_nothing : (number : ℕ) (bs : List ℕ) → left [] number bs ≡ bs
left_nothing number [] = refl
left_nothing number (b ∷ bs) = ap (λ (x : List ℕ). b ∷ x) (left_nothing number bs)

falls-append : (ps qs : List Part) (number b : ℕ) → falls (ps ++ qs) number b ≡ (falls ps number b || falls qs number b)
falls-append [] qs number b = refl
falls-append (p ∷ ps) qs number b = go (is_part number b p) (falls-append ps qs number b)
  where
    go : (t : Bool) → falls (ps ++ qs) number b ≡ (falls ps number b || falls qs number b) → (t || falls (ps ++ qs) number b) ≡ ((t || falls ps number b) || falls qs number b)
    go true ih = refl
    go false ih = ih

pub left-append : (ps qs : List Part) (number : ℕ) (bs : List ℕ) → left (ps ++ qs) number bs ≡ left qs number (left ps number bs)
left-append ps qs number [] = refl
left-append ps qs number (b ∷ bs) =
    ap (λ (t : Bool). cond (not t) (b ∷ left (ps ++ qs) number bs) (left (ps ++ qs) number bs)) (falls-append ps qs number b) ∙ go (falls ps number b) (left-append ps qs number bs)
  where
    inner : (t : Bool) → left (ps ++ qs) number bs ≡ left qs number (left ps number bs) → cond (not t) (b ∷ left (ps ++ qs) number bs) (left (ps ++ qs) number bs) ≡ cond (not t) (b ∷ left qs number (left ps number bs)) (left qs number (left ps number bs))
    inner true ih = ih
    inner false ih = ap (λ (x : List ℕ). b ∷ x) ih

    go : (t : Bool) → left (ps ++ qs) number bs ≡ left qs number (left ps number bs) → cond (not (t || falls qs number b)) (b ∷ left (ps ++ qs) number bs) (left (ps ++ qs) number bs) ≡ left qs number (cond (not t) (b ∷ left ps number bs) (left ps number bs))
    go true ih = ih
    go false ih = inner (falls qs number b) ih

-- What falls may be taken off before the way through, or on it.
pub settle-append : (ps qs : List Part) (fs : List SeenFuture) → settle (ps ++ qs) fs ≡ settle qs (map (cleared_by ps) fs)
settle-append ps qs [] = refl
settle-append ps qs (f ∷ fs) =
    ap (λ (bs : List ℕ). record { number = f.number; blocks = bs; callbacks = f.callbacks; joins = kept_joins bs f.joins } ∷ settle (passed_on bs f.joins (ps ++ qs)) fs) (left-append ps qs f.number f.blocks)
    ∙ ap (λ (gs : List SeenFuture). record { number = f.number; blocks = left qs f.number (left ps f.number f.blocks); callbacks = f.callbacks; joins = kept_joins (left qs f.number (left ps f.number f.blocks)) f.joins } ∷ gs)
    (go (left qs f.number (left ps f.number f.blocks)) (λ qs'. settle-append ps qs' fs))
  where
    go : (bs : List ℕ) → ((qs' : List Part) → settle (ps ++ qs') fs ≡ settle qs' (map (cleared_by ps) fs)) → settle (passed_on bs f.joins (ps ++ qs)) fs ≡ settle (passed_on bs f.joins qs) (map (cleared_by ps) fs)
    go [] ih = ap (λ (x : List Part). settle x fs) (append_assoc ps qs f.joins) ∙ ih (qs ++ f.joins)
    go (b ∷ bs) ih = ih qs

pub settle_first : (ps : List Part) (fs : List SeenFuture) → settle ps fs ≡ settle [] (map (cleared_by ps) fs)
settle_first ps fs = ap (λ (x : List Part). settle x fs) (sym (append-nil ps)) ∙ settle-append ps [] fs

-- ---- one more part

left_one : (p : Part) (number : ℕ) (bs : List ℕ) → filter (λ b. not (is_part number b p)) bs ≡ left (p ∷ []) number bs
left_one p number [] = refl
left_one p number (b ∷ bs) = go (is_part number b p) (left_one p number bs)
  where
    go : (t : Bool) → filter (λ b. not (is_part number b p)) bs ≡ left (p ∷ []) number bs → cond (not t) (b ∷ filter (λ b. not (is_part number b p)) bs) (filter (λ b. not (is_part number b p)) bs) ≡ cond (not (t || false)) (b ∷ left (p ∷ []) number bs) (left (p ∷ []) number bs)
    go true ih = ih
    go false ih = ap (λ (x : List ℕ). b ∷ x) ih

pub cleared-is : (p : Part) (fs : List SeenFuture) → map (cleared p) fs ≡ map (cleared_by (p ∷ [])) fs
cleared-is p [] = refl
cleared-is p (f ∷ fs) = λ i. record { number = f.number; blocks = left_one p f.number f.blocks i; callbacks = f.callbacks; joins = f.joins } ∷ cleared-is p fs i

pub cleared-more : (ps : List Part) (p : Part) (fs : List SeenFuture) → map (cleared p) (map (cleared_by ps) fs) ≡ map (cleared_by (ps ++ p ∷ [])) fs
cleared-more ps p [] = refl
cleared-more ps p (f ∷ fs) = λ i. record { number = f.number; blocks = (left_one p f.number (left ps f.number f.blocks) ∙ sym (left-append ps (p ∷ []) f.number f.blocks)) i; callbacks = f.callbacks; joins = f.joins } ∷ cleared-more ps p fs i

pub cleared-nothing : (fs : List SeenFuture) → map (cleared_by []) fs ≡ fs
cleared-nothing [] = refl
cleared-nothing (f ∷ fs) = λ i. record { number = f.number; blocks = left_nothing f.number f.blocks i; callbacks = f.callbacks; joins = f.joins } ∷ cleared-nothing fs i

-- ---- one place further

-- The first is settled, and the way goes on behind it.
settle_head : (f : SeenFuture) (fs : List SeenFuture) → settle [] (f ∷ fs) ≡ take 1 (head_settled (f ∷ fs)) ++ settle [] (drop 1 (head_settled (f ∷ fs)))
settle_head f fs = ap (λ (bs : List ℕ). record { number = f.number; blocks = bs; callbacks = f.callbacks; joins = kept_joins bs f.joins } ∷ settle (passed_on bs f.joins []) fs) (left_nothing f.number f.blocks) ∙ go f.blocks refl
  where
    go : (bs : List ℕ) → f.blocks ≡ bs → record { number = f.number; blocks = bs; callbacks = f.callbacks; joins = kept_joins bs f.joins } ∷ settle (passed_on bs f.joins []) fs ≡ take 1 (first_settled bs f fs) ++ settle [] (drop 1 (first_settled bs f fs))
    go [] e = ap (λ (gs : List SeenFuture). record { number = f.number; blocks = []; callbacks = f.callbacks; joins = [] } ∷ gs) (settle_first f.joins fs)
    go (b ∷ bs) e = ap (λ (x : List ℕ). record { number = f.number; blocks = x; callbacks = f.callbacks; joins = f.joins } ∷ settle [] fs) (sym e)

-- where the way has come to
pub record Settles (start : List SeenFuture) (i : ℕ) (now : List SeenFuture) : Type 0 where
  pub rising : AreRising now
  pub same : take i now ++ settle [] (drop i now) ≡ settle [] start

still : (f : SeenFuture) (fs : List SeenFuture) (bs : List ℕ) → f.blocks ≡ bs → HasPassedOn bs f.joins → record { number = f.number; blocks = bs; callbacks = f.callbacks; joins = kept_joins bs f.joins } ∷ settle (passed_on bs f.joins []) fs ≡ f ∷ settle [] fs
still f fs [] is none =
    ap (λ (js : List Part). record { number = f.number; blocks = []; callbacks = f.callbacks; joins = [] } ∷ settle js fs) none
    ∙ (λ i. record { number = f.number; blocks = sym is i; callbacks = f.callbacks; joins = sym none i } ∷ settle [] fs)
still f fs (b ∷ bs) is some = λ i. record { number = f.number; blocks = sym is i; callbacks = f.callbacks; joins = f.joins } ∷ settle [] fs

-- one that has passed on stays as it is
settle_still : (f : SeenFuture) (fs : List SeenFuture) → HasPassedOn f.blocks f.joins → settle [] (f ∷ fs) ≡ f ∷ settle [] fs
settle_still f fs h =
    ap (λ (bs : List ℕ). record { number = f.number; blocks = bs; callbacks = f.callbacks; joins = kept_joins bs f.joins } ∷ settle (passed_on bs f.joins []) fs) (left_nothing f.number f.blocks) ∙ still f fs f.blocks refl h

pub settle_front : (i : ℕ) (fs : List SeenFuture) → HavePassedOn (take i fs) → take i fs ++ settle [] (drop i fs) ≡ settle [] fs
settle_front zero fs h = refl
settle_front (suc i) [] h = refl
settle_front (suc i) (f ∷ fs) h = ap (λ (gs : List SeenFuture). f ∷ gs) (settle_front i fs h.1) ∙ sym (settle_still f fs h.0)

pub settle_nothing : (fs : List SeenFuture) → HavePassedOn fs → settle [] fs ≡ fs
settle_nothing [] h = refl
settle_nothing (f ∷ fs) h = settle_still f fs h.0 ∙ ap (λ (gs : List SeenFuture). f ∷ gs) (settle_nothing fs h.1)

pub settles_first : (start : List SeenFuture) (i : ℕ) → AreRising start → HavePassedOn (take i start) → Settles start i start
settles_first start i r h = record { rising = r; same = settle_front i start h }

head-long : (f : SeenFuture) (fs : List SeenFuture) → 1 ≤ length (head_settled (f ∷ fs))
head-long f fs = go f.blocks
  where
    go : (bs : List ℕ) → 1 ≤ length (first_settled bs f fs)
    go [] = omega arith
    go (b ∷ bs) = omega arith

further : (i : ℕ) (now : List SeenFuture) → i < length now → take (suc i) (take i now ++ head_settled (drop i now)) ++ settle [] (drop (suc i) (take i now ++ head_settled (drop i now))) ≡ take i now ++ settle [] (drop i now)
further i [] lt = absurd (omega arith)
further zero (f ∷ now) lt = sym (settle_head f now)
further (suc i) (f ∷ now) lt = ap (λ (gs : List SeenFuture). f ∷ gs) (further i now (omega arith))

pub settles_on : (start : List SeenFuture) (i : ℕ) (now new : List SeenFuture) → i < length now → Settles start i now → new ≡ take i now ++ head_settled (drop i now) → Settles start (i + 1) new
settles_on start i now new lt s is =
    let one : i + 1 ≡ suc i = omega arith in
    record { rising = subst AreRising (sym is) (rising_head i now s.rising); same = ap (λ (gs : List SeenFuture). take (i + 1) gs ++ settle [] (drop (i + 1) gs)) is ∙ ap (λ (n : ℕ). take n (take i now ++ head_settled (drop i now)) ++ settle [] (drop n (take i now ++ head_settled (drop i now)))) one ∙ further i now lt ∙ s.same }

pub settles_all : (start : List SeenFuture) (i : ℕ) (now : List SeenFuture) → length now ≤ i → Settles start i now → now ≡ settle [] start
settles_all start i now le s = sym (append-nil now) ∙ ap (λ (gs : List SeenFuture). gs ++ []) (sym (take_all i now le)) ∙ ap (λ (gs : List SeenFuture). take i now ++ settle [] gs) (sym (drop-all now i le)) ∙ s.same

-- ---- passing on at a place

pub passes_none : (i : ℕ) (fs : List SeenFuture) (f : SeenFuture) → i < length fs → f ≡ get_or fs i f → true ≡ is_some_block f.blocks → fs ≡ take i fs ++ head_settled (drop i fs)
passes_none i [] f lt is open_ = absurd (omega arith)
passes_none zero (g ∷ fs) f lt is open_ = go g.blocks (open_ ∙ ap (λ (x : SeenFuture). is_some_block x.blocks) is)
  where
    go : (bs : List ℕ) → true ≡ is_some_block bs → g ∷ fs ≡ first_settled bs g fs
    go [] e = absurd cc
    go (b ∷ bs) e = refl
passes_none (suc i) (g ∷ fs) f lt is open_ = ap (λ (gs : List SeenFuture). g ∷ gs) (passes_none i fs f (omega arith) is open_)

pub passes : (i k : ℕ) (fs ys : List SeenFuture) (f e d : SeenFuture) → i < length fs → f ≡ get_or fs i f → false ≡ is_some_block f.blocks → e ≡ emptied f → k ≡ length fs - (i + 1) → ys ≡ map (cleared_by f.joins) (mid_of (i + 1) k (set fs i e)) → put_mid (i + 1) k (set fs i e) ys ≡ take i fs ++ head_settled (drop i fs)
passes i k fs ys f e d lt is shut emp long made =
    let one : i + 1 ≡ suc i = omega arith in
    ap (λ (n : ℕ). put_mid n k (set fs i e) ys) one ∙ go i k fs f lt is shut emp (omega arith) (made ∙ ap (λ (n : ℕ). map (cleared_by f.joins) (mid_of n k (set fs i e))) one)
  where
    shut_is : (bs : List ℕ) → false ≡ is_some_block bs → bs ≡ []
    shut_is [] e = refl
    shut_is (b ∷ bs) e = absurd cc

    go : (i k : ℕ) (fs : List SeenFuture) (f : SeenFuture) → i < length fs → f ≡ get_or fs i f → false ≡ is_some_block f.blocks → e ≡ emptied f → k ≡ length fs - suc i → ys ≡ map (cleared_by f.joins) (mid_of (suc i) k (set fs i e)) → put_mid (suc i) k (set fs i e) ys ≡ take i fs ++ head_settled (drop i fs)
    go i k [] f lt is shut emp long made = absurd (omega arith)
    go zero k (g ∷ fs) f lt is shut emp long made =
        let whole : k ≡ length fs = omega arith in
        let mid : take k fs ≡ fs = ap (λ (n : ℕ). take n fs) whole ∙ take_all (length fs) fs (omega arith) in
        let post : drop k fs ≡ [] = drop-all fs k (omega arith) in
        let set_ : f.blocks ≡ [] = shut_is f.blocks shut in
        ap (λ (gs : List SeenFuture). e ∷ (ys ++ gs)) post ∙ ap (λ (gs : List SeenFuture). e ∷ gs) (append-nil ys ∙ made ∙ ap (map (cleared_by f.joins)) mid)
        ∙ ap (λ (x : SeenFuture). x ∷ map (cleared_by f.joins) fs) (emp ∙ (λ j. record { number = f.number; blocks = set_ j; callbacks = f.callbacks; joins = [] }))
        ∙ sym (ap (λ (bs : List ℕ). first_settled bs f fs) set_) ∙ ap (λ (x : SeenFuture). head_settled (x ∷ fs)) is
    go (suc i) k (g ∷ fs) f lt is shut emp long made = ap (λ (gs : List SeenFuture). g ∷ gs) (go i k fs f (omega arith) is shut emp (omega arith) made)

-- ---- one more part that falls

pub clears_on : (parts : List Part) (i : ℕ) (d : Part) (fs now new : List SeenFuture) → i < length parts → now ≡ map (cleared_by (take i parts)) fs → new ≡ map (cleared (get_or parts i d)) now → new ≡ map (cleared_by (take (i + 1) parts)) fs
clears_on parts i d fs now new lt so_far is =
    is ∙ ap (map (cleared (get_or parts i d))) so_far ∙ cleared-more (take i parts) (get_or parts i d) fs ∙ ap (λ (ps : List Part). map (cleared_by ps) fs) (sym (take_more parts i d lt))

pub unblocks : (part : Part) (fs now new : List SeenFuture) → now ≡ map (cleared part) fs → new ≡ settle [] now → new ≡ settle (part ∷ []) fs
unblocks part fs now new e f = f ∙ ap (settle []) (e ∙ cleared-is part fs) ∙ sym (settle_first (part ∷ []) fs)

-- ---- unblocking at a place

pub unblocks_none : (part : Part) (fs : List SeenFuture) → AreFutures fs → length fs ≤ lesser_count part.join fs → fs ≡ settle (part ∷ []) fs
unblocks_none part fs a le = unblocks part fs fs fs (cleared_none part fs le) (sym (settle_nothing fs a.passed_on))

pub unblocks_open : (part : Part) (fs : List SeenFuture) (i : ℕ) (x d : SeenFuture) → AreFutures fs → i ≡ lesser_count part.join fs → i < length fs → x ≡ cleared part (get_or fs i d) → is_some_block x.blocks ≡ true → set fs i x ≡ settle (part ∷ []) fs
unblocks_open part fs i x d a is lt e open_ =
    unblocks part fs (set fs i x) (set fs i x) (cleared_there part fs i x d a.rising is lt e) (sym (settle_nothing (set fs i x) (passed_open i fs x a.passed_on open_)))

pub unblocks_set : (part : Part) (fs : List SeenFuture) (i : ℕ) (x d : SeenFuture) (new : List SeenFuture) → AreFutures fs → i ≡ lesser_count part.join fs → i < length fs → x ≡ cleared part (get_or fs i d) → new ≡ settle [] (set fs i x) → new ≡ settle (part ∷ []) fs
unblocks_set part fs i x d new a is lt e f = unblocks part fs (set fs i x) new (cleared_there part fs i x d a.rising is lt e) f

pub rising_there : (part : Part) (fs : List SeenFuture) (i : ℕ) (x d : SeenFuture) → AreFutures fs → i ≡ lesser_count part.join fs → i < length fs → x ≡ cleared part (get_or fs i d) → AreRising (set fs i x)
rising_there part fs i x d a is lt e = subst AreRising (sym (cleared_there part fs i x d a.rising is lt e)) (rising_map (cleared part) (λ f. refl) fs a.rising)

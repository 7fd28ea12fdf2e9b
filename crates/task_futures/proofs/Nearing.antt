-- The next future of which a block falls, and what is between.
use Rattle.std.proofs.Common.{◌≡◌, ℕ, zero, suc, ◌+◌, ◌-◌, ◌<◌, ◌≤◌, Bool, true, false, not, cond, ◌&&◌, ◌||◌, eqb, ltb, min, List, [], ◌∷◌, ◌++◌, length, get_or, take, drop, Option, Some, None, refl, sym, ap, subst, ◌∙◌, append_assoc, arith}
use Rattle.std.proofs.Math.Seq.{drop-cons}
use Rattle.std.proofs.lemmas.Bool.{ne_eqb, lt-ltb, ltb-true, ltb-false}
use Rattle.std.proofs.lemmas.List.{append-nil, length-drop, take_all}
use Rattle.fb_bytes.proofs.Mapped.{drop-all}
use Rattle.task_kinds.specs.Tasks.{SeenTask}
use Rattle.task_futures.specs.Futures.{Part, SeenFuture, falls, left, passed_on, settle, becomes_set, newly_set}
use Rattle.task_futures.specs.Laws.{ArePast, AreRising, HasPassedOn, HavePassedOn}
use Rattle.task_futures.specs.inner.Changes.{lesser_count, nearer, nearest_onto, nearest, is_number_of, AreSpared, IsNextPlace}
use Rattle.task_futures.proofs.Finding.{past_at}

-- ---- the least number

IsBefore : ℕ → Option ℕ → Type 0
IsBefore m None = Unit {0}
IsBefore m (Some n) = m < n

before_nearer : (bound : ℕ) (o : Option ℕ) (join m : ℕ) → IsBefore m (nearer bound o join) → IsBefore m o
unfolding IsBefore
before_nearer bound None join m h = tt
before_nearer bound (Some n) join m h = go (ltb join bound) h
  where
    go : (b : Bool) → IsBefore m (cond b (Some n) (Some (min n join))) → m < n
    go true h = h
    go false h = omega (arith, h)

other_nearer : (bound : ℕ) (o : Option ℕ) (join m : ℕ) → bound ≤ m → IsBefore m (nearer bound o join) → join ≡ m → ⊥
unfolding IsBefore
other_nearer bound None join m le h same = go (ltb join bound) refl h
  where
    go : (b : Bool) → ltb join bound ≡ b → IsBefore m (cond b None (Some join)) → ⊥
    go true e h = let lt = ltb-true join bound e in omega (arith, lt, same, le)
    go false e h = omega (arith, h, same)
other_nearer bound (Some n) join m le h same = go (ltb join bound) refl h
  where
    go : (b : Bool) → ltb join bound ≡ b → IsBefore m (cond b (Some n) (Some (min n join))) → ⊥
    go true e h = let lt = ltb-true join bound e in omega (arith, lt, same, le)
    go false e h = omega (arith, h, same)

before_onto : (bound : ℕ) (o : Option ℕ) (ps : List Part) (m : ℕ) → IsBefore m (nearest_onto bound o ps) → IsBefore m o
before_onto bound o [] m h = h
before_onto bound o (p ∷ ps) m h = before_nearer bound o p.join m (before_onto bound (nearer bound o p.join) ps m h)

no_number : (bound : ℕ) (o : Option ℕ) (ps : List Part) (m : ℕ) → bound ≤ m → IsBefore m (nearest_onto bound o ps) → is_number_of m ps ≡ false
no_number bound o [] m le h = refl
no_number bound o (p ∷ ps) m le h =
    ap (λ (b : Bool). b || is_number_of m ps) (ne_eqb p.join m (other_nearer bound o p.join m le (before_onto bound (nearer bound o p.join) ps m h))) ∙ no_number bound (nearer bound o p.join) ps m le h

none_left : (bound : ℕ) (ps : List Part) → nearest bound ps ≡ None → (m : ℕ) → bound ≤ m → is_number_of m ps ≡ false
unfolding IsBefore
none_left bound ps e m le = no_number bound None ps m le (subst (IsBefore m) (sym e) tt)

none_between : (bound : ℕ) (ps : List Part) (n : ℕ) → nearest bound ps ≡ Some n → (m : ℕ) → bound ≤ m → m < n → is_number_of m ps ≡ false
unfolding IsBefore
none_between bound ps n e m le lt = no_number bound None ps m le (subst (IsBefore m) (sym e) lt)

IsFrom : ℕ → Option ℕ → Type 0
IsFrom bound None = Unit {0}
IsFrom bound (Some n) = bound ≤ n

from_nearer : (bound : ℕ) (o : Option ℕ) (join : ℕ) → IsFrom bound o → IsFrom bound (nearer bound o join)
unfolding IsFrom
from_nearer bound None join h = go (ltb join bound) refl
  where
    go : (b : Bool) → ltb join bound ≡ b → IsFrom bound (cond b None (Some join))
    go true e = tt
    go false e = ltb-false join bound e
from_nearer bound (Some n) join h = go (ltb join bound) refl
  where
    go : (b : Bool) → ltb join bound ≡ b → IsFrom bound (cond b (Some n) (Some (min n join)))
    go true e = h
    go false e = let le = ltb-false join bound e in omega (arith, le, h)

from_onto : (bound : ℕ) (o : Option ℕ) (ps : List Part) → IsFrom bound o → IsFrom bound (nearest_onto bound o ps)
from_onto bound o [] h = h
from_onto bound o (p ∷ ps) h = from_onto bound (nearer bound o p.join) ps (from_nearer bound o p.join h)

from_bound : (bound : ℕ) (ps : List Part) (n : ℕ) → nearest bound ps ≡ Some n → bound ≤ n
unfolding IsFrom
from_bound bound ps n e = subst (IsFrom bound) e (from_onto bound None ps tt)

-- ---- its place

-- the first has at least this number
IsLow : ℕ → List SeenFuture → Type 0
IsLow lo [] = Unit {0}
IsLow lo (f ∷ fs) = lo ≤ f.number

low_past : (lo n : ℕ) (fs : List SeenFuture) → lo ≤ n → ArePast n fs → IsLow lo fs
unfolding IsLow
low_past lo n [] le p = tt
low_past lo n (f ∷ fs) le p = omega (arith, le, p.0)

low_at : (i : ℕ) (fs : List SeenFuture) (d : SeenFuture) → i < length fs → IsLow (get_or fs i d).number (drop i fs)
unfolding IsLow
low_at i [] d lt = absurd (omega arith)
low_at zero (f ∷ fs) d lt = omega arith
low_at (suc i) (f ∷ fs) d lt = low_at i fs d (omega arith)

rising_drop : (i : ℕ) (fs : List SeenFuture) → AreRising fs → AreRising (drop i fs)
rising_drop zero fs r = r
rising_drop (suc i) [] r = tt
rising_drop (suc i) (f ∷ fs) r = rising_drop i fs r.1

all_spared : (ps : List Part) (bound : ℕ) → ((m : ℕ) → bound ≤ m → is_number_of m ps ≡ false) → (fs : List SeenFuture) → AreRising fs → IsLow bound fs → AreSpared ps fs
unfolding IsLow
all_spared ps bound none [] r low = tt
all_spared ps bound none (f ∷ fs) r low = (none f.number low, all_spared ps bound none fs r.1 (low_past bound f.number fs low r.0))

front_spared : (ps : List Part) (bound n : ℕ) → ((m : ℕ) → bound ≤ m → m < n → is_number_of m ps ≡ false) → (fs : List SeenFuture) → AreRising fs → IsLow bound fs → AreSpared ps (take (lesser_count n fs) fs)
unfolding IsLow
front_spared ps bound n none [] r low = tt
front_spared ps bound n none (f ∷ fs) r low = go (ltb f.number n) refl (front_spared ps bound n none fs r.1 (low_past bound f.number fs low r.0))
  where
    go : (b : Bool) → ltb f.number n ≡ b → AreSpared ps (take (lesser_count n fs) fs) → AreSpared ps (take (cond b (1 + lesser_count n fs) 0) (f ∷ fs))
    go true e ih =
        let one : 1 + lesser_count n fs ≡ suc (lesser_count n fs) = omega arith in
        subst (λ (k : ℕ). AreSpared ps (take k (f ∷ fs))) (sym one) (none f.number low (ltb-true f.number n e), ih)
    go false e ih = tt

-- where none before a place has a number from a bound on, fewer have lesser numbers behind it
lesser_drop : (n i : ℕ) (fs : List SeenFuture) (d : SeenFuture) → AreRising fs → i < length fs → (get_or fs i d).number ≤ n → lesser_count n fs ≡ i + lesser_count n (drop i fs)
lesser_drop n i [] d r lt le = absurd (omega arith)
lesser_drop n zero (f ∷ fs) d r lt le = omega arith
lesser_drop n (suc i) (f ∷ fs) d r lt le =
    let up = past_at f.number fs i d r.0 (omega arith) in
    let low : f.number < n = omega (arith, up, le) in
    let rest = lesser_drop n i fs d r.1 (omega arith) le in
    ap (λ (b : Bool). cond b (1 + lesser_count n fs) 0) (lt-ltb f.number n low) ∙ omega (arith, rest)

pub next_none : (ps : List Part) (first : ℕ) (fs : List SeenFuture) (d : SeenFuture) → AreRising fs → first < length fs → nearest (get_or fs first d).number ps ≡ None → AreSpared ps (drop first fs)
next_none ps first fs d r lt e = all_spared ps (get_or fs first d).number (none_left (get_or fs first d).number ps e) (drop first fs) (rising_drop first fs r) (low_at first fs d lt)

between : (ps : List Part) (first : ℕ) (fs : List SeenFuture) (d : SeenFuture) (n place : ℕ) → AreRising fs → first < length fs → nearest (get_or fs first d).number ps ≡ Some n → place ≡ lesser_count n fs → (first ≤ place) × AreSpared ps (take (place - first) (drop first fs))
between ps first fs d n place r lt e is =
    let bound : ℕ = (get_or fs first d).number in
    let behind = lesser_drop n first fs d r lt (from_bound bound ps n e) in
    let rest : place - first ≡ lesser_count n (drop first fs) = omega (arith, behind, is) in
    (omega (arith, behind, is), subst (λ (k : ℕ). AreSpared ps (take k (drop first fs))) (sym rest) (front_spared ps bound n (none_between bound ps n e) (drop first fs) (rising_drop first fs r) (low_at first fs d lt)))

pub next_some : (ps : List Part) (first : ℕ) (fs : List SeenFuture) (d : SeenFuture) (n place : ℕ) → AreRising fs → first < length fs → nearest (get_or fs first d).number ps ≡ Some n → place ≡ lesser_count n fs → place < length fs → IsNextPlace ps first fs place
next_some ps first fs d n place r lt e is within =
    let p = between ps first fs d n place r lt e is in
    record { behind = p.0; within = within; spared = p.1 }

pub next_past : (ps : List Part) (first : ℕ) (fs : List SeenFuture) (d : SeenFuture) (n place : ℕ) → AreRising fs → first < length fs → nearest (get_or fs first d).number ps ≡ Some n → place ≡ lesser_count n fs → length fs ≤ place → AreSpared ps (drop first fs)
next_past ps first fs d n place r lt e is past =
    let p = between ps first fs d n place r lt e is in
    let whole : take (place - first) (drop first fs) ≡ drop first fs = take_all (place - first) (drop first fs) (omega (arith, length-drop first fs)) in
    subst (AreSpared ps) whole p.1

pub next_end : (ps : List Part) (first : ℕ) (fs : List SeenFuture) → length fs ≤ first → AreSpared ps (drop first fs)
next_end ps first fs le = subst (AreSpared ps) (sym (drop-all fs first le)) tt

-- ---- those that are spared

left_all : (ps : List Part) (number : ℕ) (bs : List ℕ) → is_number_of number ps ≡ false → left ps number bs ≡ bs
left_all ps number [] e = refl
left_all ps number (b ∷ bs) e =
    ap (λ (t : Bool). cond (not t) (b ∷ left ps number bs) (left ps number bs)) (no_fall ps e) ∙ ap (λ (cs : List ℕ). b ∷ cs) (left_all ps number bs e)
  where
    or_no : (x y : Bool) → (x || y) ≡ false → (x ≡ false) × (y ≡ false)
    or_no true y e = absurd cc
    or_no false y e = (refl, e)

    no_fall : (ps : List Part) → is_number_of number ps ≡ false → falls ps number b ≡ false
    no_fall [] e = refl
    no_fall (p ∷ ps) e =
        let h = or_no (eqb p.join number) (is_number_of number ps) e in
        ap (λ (t : Bool). (t && eqb p.block b) || falls ps number b) h.0 ∙ no_fall ps h.1

spared_one : (ps : List Part) (f : SeenFuture) (fs : List SeenFuture) → is_number_of f.number ps ≡ false → HasPassedOn f.blocks f.joins → newly_set (f ∷ fs) (settle ps (f ∷ fs)) ≡ newly_set fs (settle ps fs)
spared_one ps f fs e h =
    ap (λ (bs : List ℕ). cond (becomes_set f.blocks bs) f.callbacks [] ++ newly_set fs (settle (passed_on bs f.joins ps) fs)) (left_all ps f.number f.blocks e) ∙ go f.blocks h
  where
    go : (bs : List ℕ) → HasPassedOn bs f.joins → cond (becomes_set bs bs) f.callbacks [] ++ newly_set fs (settle (passed_on bs f.joins ps) fs) ≡ newly_set fs (settle ps fs)
    go [] none = ap (λ (js : List Part). newly_set fs (settle (ps ++ js) fs)) none ∙ ap (λ (qs : List Part). newly_set fs (settle qs fs)) (append-nil ps)
    go (b ∷ bs) some = refl

skipped : (ps : List Part) (k : ℕ) (fs : List SeenFuture) → HavePassedOn fs → AreSpared ps (take k fs) → newly_set fs (settle ps fs) ≡ newly_set (drop k fs) (settle ps (drop k fs))
skipped ps zero fs h s = refl
skipped ps (suc k) [] h s = refl
skipped ps (suc k) (f ∷ fs) h s = spared_one ps f fs s.0 h.0 ∙ skipped ps k fs h.1 s.1

passed_drop : (i : ℕ) (fs : List SeenFuture) → HavePassedOn fs → HavePassedOn (drop i fs)
passed_drop zero fs h = h
passed_drop (suc i) [] h = tt
passed_drop (suc i) (f ∷ fs) h = passed_drop i fs h.1

drop_twice : (i k : ℕ) (fs : List SeenFuture) → drop k (drop i fs) ≡ drop (i + k) fs
drop_twice zero k fs = ap (λ (n : ℕ). drop n fs) (omega arith)
drop_twice (suc i) k [] = drop-nil k ∙ sym (drop-nil (suc i + k))
  where
    drop-nil : (n : ℕ) → drop {A = SeenFuture} n [] ≡ []
    drop-nil zero = refl
    drop-nil (suc n) = refl
drop_twice (suc i) k (f ∷ fs) =
    let one : suc i + k ≡ suc (i + k) = omega arith in
    drop_twice i k fs ∙ ap (λ (n : ℕ). drop n (f ∷ fs)) (sym one)

-- what is due so far, and what is left to look at
abbrev pub IsDueSo : Part → List SeenFuture → ℕ → List Part → List SeenTask → Type 0
IsDueSo part fs first pending due = due ++ newly_set (drop first fs) (settle pending (drop first fs)) ≡ newly_set fs (settle (part ∷ []) fs)

-- what is due once the future at the next place is looked at
pub due_on : (part : Part) (fs : List SeenFuture) (first next : ℕ) (ps qs : List Part) (due new : List SeenTask) (f : SeenFuture) → HavePassedOn fs → IsNextPlace ps first fs next → f ≡ get_or fs next f → qs ≡ passed_on (left ps f.number f.blocks) f.joins ps → new ≡ due ++ cond (becomes_set f.blocks (left ps f.number f.blocks)) f.callbacks [] → IsDueSo part fs first ps due → IsDueSo part fs (next + 1) qs new
due_on part fs first next ps qs due new f h is there pend made so =
    let rest : List SeenFuture = drop (next + 1) fs in
    let here : first + (next - first) ≡ next = omega (arith, is.behind) in
    let one : suc next ≡ next + 1 = omega arith in
    let skip : newly_set (drop first fs) (settle ps (drop first fs)) ≡ newly_set (drop next fs) (settle ps (drop next fs)) = skipped ps (next - first) (drop first fs) (passed_drop first fs h) is.spared ∙ ap (λ (gs : List SeenFuture). newly_set gs (settle ps gs)) (drop_twice first (next - first) fs ∙ ap (λ (n : ℕ). drop n fs) here) in
    let open_ : drop next fs ≡ f ∷ rest = drop-cons fs next f is.within ∙ ap (λ (g : SeenFuture). g ∷ drop (suc next) fs) (sym there) ∙ ap (λ (n : ℕ). f ∷ drop n fs) one in
    ap (λ (ts : List SeenTask). ts ++ newly_set rest (settle qs rest)) made
    ∙ append_assoc due (cond (becomes_set f.blocks (left ps f.number f.blocks)) f.callbacks []) (newly_set rest (settle qs rest))
    ∙ ap (λ (js : List Part). due ++ (cond (becomes_set f.blocks (left ps f.number f.blocks)) f.callbacks [] ++ newly_set rest (settle js rest))) pend
    ∙ ap (λ (gs : List SeenFuture). due ++ newly_set gs (settle ps gs)) (sym open_)
    ∙ ap (λ (ts : List SeenTask). due ++ ts) (sym skip)
    ∙ so

-- nothing more is due where all that is left is spared
pub due_all : (part : Part) (fs : List SeenFuture) (first : ℕ) (ps : List Part) (due : List SeenTask) → HavePassedOn fs → AreSpared ps (drop first fs) → IsDueSo part fs first ps due → due ≡ newly_set fs (settle (part ∷ []) fs)
due_all part fs first ps due h s so =
    let gs : List SeenFuture = drop first fs in
    let whole : take (length gs) gs ≡ gs = take_all (length gs) gs (omega arith) in
    let skip : newly_set gs (settle ps gs) ≡ newly_set (drop (length gs) gs) (settle ps (drop (length gs) gs)) = skipped ps (length gs) gs (passed_drop first fs h) (subst (AreSpared ps) (sym whole) s) in
    let none : newly_set gs (settle ps gs) ≡ [] = skip ∙ ap (λ (xs : List SeenFuture). newly_set xs (settle ps xs)) (drop-all gs (length gs) (omega arith)) in
    sym (append-nil due) ∙ ap (λ (ts : List SeenTask). due ++ ts) (sym none) ∙ so

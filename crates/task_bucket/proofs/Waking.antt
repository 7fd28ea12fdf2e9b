-- One pass that wakes what is due, counts it, and notes the place of the one to claim.
use Rattle.std.proofs.Common.{◌≡◌, ℕ, zero, suc, ◌+◌, ◌<◌, ◌≤◌, Bool, true, false, cond, ltb, leb, List, [], ◌∷◌, length, get_or, set, map, drop, Option, Some, None, refl, sym, ap, ◌∙◌, arith}
use Rattle.std.specs.Option.{option_map}
use Rattle.std.proofs.Math.Seq.{drop-cons}
use Rattle.std.proofs.lemmas.Bool.{lt-ltb, le-ltb, leb-true, leb-false}
use Rattle.fb_bytes.proofs.Mapped.{mapped, mapped-step, mapped-all, drop-all}
use Rattle.task_bucket.specs.declared.held.Held.{Held}
use Rattle.task_bucket.specs.Lists.{Slot}
use Rattle.task_bucket.specs.inner.Held.{slot_in, free_count, ArePast, AreRising, lesser_count, picked_place, later_place, woken}
use Rattle.task_bucket.proofs.Views.{rising_map, count_cons}
use Rattle.task_bucket.proofs.Picks.{step_of}
use Rattle.task_bucket.proofs.Walks.{pick_onto, onto_picked}

-- the place that the pass notes, from a place on
abbrev pub place_onto : ℕ → ℕ → Option ℕ → List Held → Option ℕ
place_onto pick at o [] = o
place_onto pick at o (h ∷ hs) = place_onto pick (suc at) (cond h.free (Some (later_place (leb h.uid pick) at o)) o) hs

-- ---- it is the place of the pick

-- each of these stands in the list at its place, counted from a number on
AreAt : List Held → ℕ → List Held → Type 0
AreAt all n [] = Unit {0}
AreAt all n (y ∷ ys) = (lesser_count y.uid all ≡ n) × AreAt all (suc n) ys

at_behind : (h : Held) (hs : List Held) (n : ℕ) (ys : List Held) → ArePast h.uid ys → AreAt hs n ys → AreAt (h ∷ hs) (suc n) ys
unfolding AreAt
at_behind h hs n [] p a = tt
at_behind h hs n (y ∷ ys) p a = (ap (λ (b : Bool). cond b (1 + lesser_count y.uid hs) 0) (lt-ltb h.uid y.uid p.0) ∙ omega (arith, a.0), at_behind h hs (suc n) ys p.1 a.1)

are_at : (hs : List Held) → AreRising hs → AreAt hs 0 hs
unfolding AreAt
are_at [] r = tt
are_at (h ∷ hs) r = (ap (λ (b : Bool). cond b (1 + lesser_count h.uid hs) 0) (le-ltb h.uid h.uid (omega arith)), at_behind h hs 0 hs r.0 (are_at hs r.1))

onto_place : (pick : ℕ) (all : List Held) (n : ℕ) (o : Option Slot) (ys : List Held) → AreAt all n ys → place_onto pick n (option_map (λ s. lesser_count s.uid all) o) ys ≡ option_map (λ s. lesser_count s.uid all) (pick_onto pick o ys)
unfolding AreAt
onto_place pick all n o [] a = refl
onto_place pick all n o (y ∷ ys) a =
    ap (λ (p : Option ℕ). place_onto pick (suc n) p ys) (one y.free o)
    ∙ onto_place pick all (suc n) (cond y.free (step_of pick (slot_in y) o) o) ys a.1
  where
    low : (b : Bool) → leb y.uid pick ≡ b → (s : Slot) → Some (cond b n (lesser_count s.uid all)) ≡ option_map (λ s. lesser_count s.uid all) (cond (ltb pick y.uid) (Some s) (Some (slot_in y)))
    low true e s = ap (λ (k : ℕ). Some k) (sym a.0) ∙ sym (ap (λ (b : Bool). option_map (λ s. lesser_count s.uid all) (cond b (Some s) (Some (slot_in y)))) (le-ltb pick y.uid (leb-true y.uid pick e)))
    low false e s = sym (ap (λ (b : Bool). option_map (λ s. lesser_count s.uid all) (cond b (Some s) (Some (slot_in y)))) (lt-ltb pick y.uid (leb-false y.uid pick e)))

    one : (b : Bool) (o : Option Slot) → cond b (Some (later_place (leb y.uid pick) n (option_map (λ s. lesser_count s.uid all) o))) (option_map (λ s. lesser_count s.uid all) o) ≡ option_map (λ s. lesser_count s.uid all) (cond b (step_of pick (slot_in y) o) o)
    one false o = refl
    one true None = ap (λ (k : ℕ). Some k) (sym a.0)
    one true (Some s) = low (leb y.uid pick) refl s

noted : (pick : ℕ) (hs : List Held) → AreRising hs → place_onto pick 0 None hs ≡ picked_place pick hs
noted pick hs r = onto_place pick hs 0 None hs (are_at hs r) ∙ ap (option_map (λ s. lesser_count s.uid hs)) (onto_picked pick hs r)

-- ---- the loop

-- what was woken so far, and what is left of the pass decides
pub record IsWaking (now pick : ℕ) (old held : List Held) (at count : ℕ) (place : Option ℕ) : Type 0 where
  pub is_mapped : held ≡ mapped (woken now) at old
  pub counted : count + free_count (map (woken now) (drop at old)) ≡ free_count (map (woken now) old)
  pub noted_so : place_onto pick at place (map (woken now) (drop at old)) ≡ place_onto pick 0 None (map (woken now) old)

untouched : (f : Held → Held) (i : ℕ) (xs : List Held) (d : Held) → get_or (mapped f i xs) i d ≡ get_or xs i d
untouched f zero xs d = refl
untouched f (suc i) [] d = refl
untouched f (suc i) (x ∷ xs) d = untouched f i xs d

-- the one at the place, and those behind it
next_is : (now at : ℕ) (old : List Held) (d : Held) → at < length old → map (woken now) (drop at old) ≡ woken now (get_or old at d) ∷ map (woken now) (drop (at + 1) old)
next_is now at old d lt =
    let one : suc at ≡ at + 1 = omega arith in
    ap (map (woken now)) (drop-cons old at d lt) ∙ ap (λ (n : ℕ). woken now (get_or old at d) ∷ map (woken now) (drop n old)) one

-- what a step leaves, by whether the one at the place is due
pub record IsStep (now pick : ℕ) (old held : List Held) (at count : ℕ) (place : Option ℕ) (x : Held) : Type 0 where
  pub due : x.free ≡ true → IsWaking now pick old (set held at x) (at + 1) (count + 1) (Some (later_place (leb x.uid pick) at place))
  pub not_due : x.free ≡ false → IsWaking now pick old (set held at x) (at + 1) count place

pub wakes_one : (now pick : ℕ) (old held : List Held) (at count : ℕ) (place : Option ℕ) (x d : Held) → at < length old → x ≡ woken now (get_or held at d) → IsWaking now pick old held at count place → IsStep now pick old held at count place x
wakes_one now pick old held at count place x d lt is so =
    let here : x ≡ woken now (get_or old at d) = is ∙ ap (λ (hs : List Held). woken now (get_or hs at d)) so.is_mapped ∙ ap (woken now) (untouched (woken now) at old d) in
    let rest : List Held = map (woken now) (drop (at + 1) old) in
    let all : map (woken now) (drop at old) ≡ x ∷ map (woken now) (drop (at + 1) old) = next_is now at old d lt ∙ ap (λ (y : Held). y ∷ map (woken now) (drop (at + 1) old)) (sym here) in
    let made : set held at x ≡ mapped (woken now) (at + 1) old = mapped-step (woken now) at old held x d lt so.is_mapped is in
    let count_all : count + (cond x.free 1 0 + free_count rest) ≡ free_count (map (woken now) old) = ap (λ (n : ℕ). count + n) (sym (count_cons x (map (woken now) (drop (at + 1) old)))) ∙ ap (λ (hs : List Held). count + free_count hs) (sym all) ∙ so.counted in
    let one : suc at ≡ at + 1 = omega arith in
    let note_all : place_onto pick (at + 1) (cond x.free (Some (later_place (leb x.uid pick) at place)) place) rest ≡ place_onto pick 0 None (map (woken now) old) =
    ap (λ (n : ℕ). place_onto pick n (cond x.free (Some (later_place (leb x.uid pick) at place)) place) rest) (sym one) ∙ ap (place_onto pick at place) (sym all) ∙ so.noted_so in
    record {
      due = λ e. record {
        is_mapped = made;
        counted = let ones : cond {A = ℕ} x.free 1 0 ≡ 1 = ap (λ (b : Bool). cond b 1 0) e in omega (arith, ones, count_all);
        noted_so = ap (λ (b : Bool). place_onto pick (at + 1) (cond b (Some (later_place (leb x.uid pick) at place)) place) rest) (sym e) ∙ note_all;
      };
      not_due = λ e. record {
        is_mapped = made;
        counted = let ones : cond {A = ℕ} x.free 1 0 ≡ 0 = ap (λ (b : Bool). cond b 1 0) e in omega (arith, ones, count_all);
        noted_so = ap (λ (b : Bool). place_onto pick (at + 1) (cond b (Some (later_place (leb x.uid pick) at place)) place) rest) (sym e) ∙ note_all;
      };
    }

-- what the whole pass has made
pub record IsWoken (now pick : ℕ) (old held : List Held) (count : ℕ) (place : Option ℕ) : Type 0 where
  pub woken_all : held ≡ map (woken now) old
  pub counted : count ≡ free_count held
  pub placed : place ≡ picked_place pick held

pub waking_ends : (now pick : ℕ) (old held : List Held) (at count : ℕ) (place : Option ℕ) → AreRising old → length old ≤ at → IsWaking now pick old held at count place → IsWoken now pick old held count place
waking_ends now pick old held at count place r le so =
    let all : held ≡ map (woken now) old = so.is_mapped ∙ mapped-all (woken now) at old le in
    let none : map (woken now) (drop at old) ≡ [] = ap (map (woken now)) (drop-all old at le) in
    record {
      woken_all = all;
      counted = omega (arith, so.counted, ap free_count none) ∙ ap free_count (sym all);
      placed = sym (ap (place_onto pick at place) none) ∙ so.noted_so ∙ noted pick (map (woken now) old) (rising_map (woken now) (λ h. refl) old r) ∙ ap (picked_place pick) (sym all);
    }

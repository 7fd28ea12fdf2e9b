-- The task that a claim picks, found by a walk down from the place of the pick, and then up from it.
use Rattle.std.proofs.Common.{◌≡◌, ℕ, suc, ◌+◌, ◌-◌, ◌<◌, ◌≤◌, Bool, true, false, cond, ltb, leb, List, [], ◌∷◌, ◌++◌, length, get_or, take, drop, reverse, Option, Some, None, refl, sym, ap, subst, ◌∙◌, append_assoc, arith}
use Rattle.std.specs.Option.{option_map}
use Rattle.std.specs.List.{find}
use Rattle.std.proofs.Math.ListN.{get_or-append}
use Rattle.std.proofs.lemmas.Bool.{lt-ltb, le-ltb, ltb-true, ltb-false, leb-true, leb-false}
use Rattle.std.proofs.lemmas.List.{append-nil, get_or-append_right, get_or-drop, get_or-reverse, get_or-take, length-append, length-drop, length-reverse, length-take-le, reverse-append, take-append-drop}
use Rattle.std.proofs.lemmas.List.Sums.{prefix_len-le-length}
use Rattle.fb_bytes.proofs.Mapped.{Searches, skips, stops, ends}
use Rattle.task_bucket.specs.declared.held.Held.{Held}
use Rattle.task_bucket.specs.Lists.{Slot}
use Rattle.task_bucket.specs.Claims.{picked}
use Rattle.task_bucket.specs.inner.Held.{slot_in, slots_in, ArePast, AreRising, is_upto, place_for, place_at, lesser_count, picked_place}
use Rattle.task_bucket.proofs.Views.{past_less}
use Rattle.task_bucket.proofs.Picks.{AreBelow, step_of, picked_push}
use Rattle.task_bucket.proofs.Finding.{lesser_at}

-- ---- the first that is available

abbrev is_free : Held → Bool
is_free h = h.free

abbrev else_of : Option Held → Option Held → Option Held
else_of None o = o
else_of (Some h) o = Some h

first-append : (xs ys : List Held) → find is_free (xs ++ ys) ≡ else_of (find is_free xs) (find is_free ys)
first-append [] ys = refl
first-append (x ∷ xs) ys = go x.free (first-append xs ys)
  where
    go : (b : Bool) → find is_free (xs ++ ys) ≡ else_of (find is_free xs) (find is_free ys) → cond b (Some x) (find is_free (xs ++ ys)) ≡ else_of (cond b (Some x) (find is_free xs)) (find is_free ys)
    go true ih = refl
    go false ih = ih

-- ---- the order of the walk

abbrev pub walk : ℕ → List Held → List Held
walk place hs = reverse (take place hs) ++ drop place hs

walk_at : (place step : ℕ) (hs : List Held) (d : Held) → place ≤ length hs → get_or (walk place hs) step d ≡ get_or hs (place_at place step) d
walk_at place step hs d le = go (ltb step place) refl
  where
    front : length (reverse (take place hs)) ≡ place
    front = length-reverse (take place hs) ∙ length-take-le place hs le

    go : (b : Bool) → ltb step place ≡ b → get_or (walk place hs) step d ≡ get_or hs (cond b (place - 1 - step) step) d
    go true e =
        let lt = ltb-true step place e in
        let long : length (take place hs) ≡ place = length-take-le place hs le in
        get_or-append (reverse (take place hs)) (drop place hs) d step (omega (arith, front, lt))
        ∙ get_or-reverse (take place hs) step d (omega (arith, long, lt))
        ∙ ap (λ (n : ℕ). get_or (take place hs) (n - 1 - step) d) long
        ∙ get_or-take place hs (place - 1 - step) d (omega (arith, lt))
    go false e =
        let ge = ltb-false step place e in
        let back : place + (step - place) ≡ step = omega (arith, ge) in
        get_or-append_right (reverse (take place hs)) (drop place hs) place step d front ge
        ∙ get_or-drop place hs (step - place) d ∙ ap (λ (n : ℕ). get_or hs n d) back

walk_long : (place : ℕ) (hs : List Held) → place ≤ length hs → length (walk place hs) ≡ length hs
walk_long place hs le =
    length-append (reverse (take place hs)) (drop place hs) ∙ omega (arith, length-reverse (take place hs), length-take-le place hs le, length-drop place hs)

-- ---- what is picked, one task after the other

abbrev pub pick_onto : ℕ → Option Slot → List Held → Option Slot
pick_onto pick o [] = o
pick_onto pick o (h ∷ hs) = pick_onto pick (cond h.free (step_of pick (slot_in h) o) o) hs

onto-append : (pick : ℕ) (o : Option Slot) (xs ys : List Held) → pick_onto pick o (xs ++ ys) ≡ pick_onto pick (pick_onto pick o xs) ys
onto-append pick o [] ys = refl
onto-append pick o (x ∷ xs) ys = onto-append pick (cond x.free (step_of pick (slot_in x) o) o) xs ys

slots-append : (xs ys : List Held) → slots_in (xs ++ ys) ≡ slots_in xs ++ slots_in ys
slots-append [] ys = refl
slots-append (x ∷ xs) ys = go x.free (slots-append xs ys)
  where
    go : (b : Bool) → slots_in (xs ++ ys) ≡ slots_in xs ++ slots_in ys → cond b (slot_in x ∷ slots_in (xs ++ ys)) (slots_in (xs ++ ys)) ≡ cond b (slot_in x ∷ slots_in xs) (slots_in xs) ++ slots_in ys
    go true ih = ap (λ (ss : List Slot). slot_in x ∷ ss) ih
    go false ih = ih

past_mid : (u : ℕ) (xs : List Held) (y : Held) (ys : List Held) → ArePast u (xs ++ y ∷ ys) → u < y.uid
past_mid u [] y ys p = p.0
past_mid u (x ∷ xs) y ys p = past_mid u xs y ys p.1

below_mid : (xs : List Held) (y : Held) (ys : List Held) → AreRising (xs ++ y ∷ ys) → AreBelow y.uid (slots_in xs)
below_mid [] y ys r = tt
below_mid (x ∷ xs) y ys r = go x.free (below_mid xs y ys r.1)
  where
    go : (b : Bool) → AreBelow y.uid (slots_in xs) → AreBelow y.uid (cond b (slot_in x ∷ slots_in xs) (slots_in xs))
    go true ih = (past_mid x.uid xs y ys r.0, ih)
    go false ih = ih

one_more : (pick : ℕ) (xs : List Held) (y : Held) (ys : List Held) → AreRising (xs ++ y ∷ ys) → picked pick (slots_in (xs ++ y ∷ [])) ≡ cond y.free (step_of pick (slot_in y) (picked pick (slots_in xs))) (picked pick (slots_in xs))
one_more pick xs y ys r = ap (picked pick) (slots-append xs (y ∷ [])) ∙ go y.free
  where
    go : (b : Bool) → picked pick (slots_in xs ++ cond b (slot_in y ∷ []) []) ≡ cond b (step_of pick (slot_in y) (picked pick (slots_in xs))) (picked pick (slots_in xs))
    go true = picked_push pick (slots_in xs) (slot_in y) (below_mid xs y ys r)
    go false = ap (picked pick) (append-nil (slots_in xs))

onto_all : (pick : ℕ) (xs ys : List Held) → AreRising (xs ++ ys) → pick_onto pick (picked pick (slots_in xs)) ys ≡ picked pick (slots_in (xs ++ ys))
onto_all pick xs [] r = ap (λ (hs : List Held). picked pick (slots_in hs)) (sym (append-nil xs))
onto_all pick xs (y ∷ ys) r =
    let same : (xs ++ y ∷ []) ++ ys ≡ xs ++ y ∷ ys = append_assoc xs (y ∷ []) ys in
    ap (λ (o : Option Slot). pick_onto pick o ys) (sym (one_more pick xs y ys r))
    ∙ onto_all pick (xs ++ y ∷ []) ys (subst AreRising (sym same) r)
    ∙ ap (λ (hs : List Held). picked pick (slots_in hs)) same

pub onto_picked : (pick : ℕ) (hs : List Held) → AreRising hs → pick_onto pick None hs ≡ picked pick (slots_in hs)
onto_picked pick hs r = onto_all pick [] hs r

-- none of these has a uid past the pick
AreUpto : ℕ → List Held → Type 0
AreUpto pick [] = Unit {0}
AreUpto pick (h ∷ hs) = (h.uid ≤ pick) × AreUpto pick hs

front_upto : (pick : ℕ) (hs : List Held) → AreUpto pick (take (place_for pick hs) hs)
unfolding AreUpto
front_upto pick [] = tt
front_upto pick (h ∷ hs) = go (leb h.uid pick) refl (front_upto pick hs)
  where
    go : (b : Bool) → leb h.uid pick ≡ b → AreUpto pick (take (place_for pick hs) hs) → AreUpto pick (take (cond b (1 + place_for pick hs) 0) (h ∷ hs))
    go true e ih =
        let one : 1 + place_for pick hs ≡ suc (place_for pick hs) = omega arith in
        subst (λ (n : ℕ). AreUpto pick (take n (h ∷ hs))) (sym one) (leb-true h.uid pick e, ih)
    go false e ih = tt

back_past : (pick : ℕ) (hs : List Held) → AreRising hs → ArePast pick (drop (place_for pick hs) hs)
back_past pick [] r = tt
back_past pick (h ∷ hs) r = go (leb h.uid pick) refl (back_past pick hs r.1)
  where
    go : (b : Bool) → leb h.uid pick ≡ b → ArePast pick (drop (place_for pick hs) hs) → ArePast pick (drop (cond b (1 + place_for pick hs) 0) (h ∷ hs))
    go true e ih =
        let one : 1 + place_for pick hs ≡ suc (place_for pick hs) = omega arith in
        subst (λ (n : ℕ). ArePast pick (drop n (h ∷ hs))) (sym one) ih
    go false e ih = let lt = leb-false h.uid pick e in (lt, past_less pick h.uid hs lt r.0)

reverse-cons : (x : Held) (xs : List Held) → reverse (x ∷ xs) ≡ reverse xs ++ x ∷ []
reverse-cons x xs = reverse-append (x ∷ []) xs

onto_front : (pick : ℕ) (xs : List Held) (o : Option Held) → AreUpto pick xs → pick_onto pick (option_map slot_in o) xs ≡ option_map slot_in (else_of (find is_free (reverse xs)) o)
unfolding AreUpto
onto_front pick [] o u = refl
onto_front pick (x ∷ xs) o u =
    ap (λ (p : Option Slot). pick_onto pick p xs) (taken x.free o)
    ∙ onto_front pick xs (cond x.free (Some x) o) u.1
    ∙ ap (option_map slot_in) (kept x.free o (find is_free (reverse xs)))
    ∙ ap (λ (p : Option Held). option_map slot_in (else_of p o)) (sym (ap (find is_free) (reverse-cons x xs) ∙ first-append (reverse xs) (x ∷ [])))
  where
    taken : (b : Bool) (o : Option Held) → cond b (step_of pick (slot_in x) (option_map slot_in o)) (option_map slot_in o) ≡ option_map slot_in (cond b (Some x) o)
    taken false o = refl
    taken true None = refl
    taken true (Some h) = ap (λ (t : Bool). cond t (Some (slot_in h)) (Some (slot_in x))) (le-ltb pick x.uid u.0)

    kept : (b : Bool) (o f : Option Held) → else_of f (cond b (Some x) o) ≡ else_of (else_of f (cond b (Some x) None)) o
    kept true o None = refl
    kept true o (Some h) = refl
    kept false o None = refl
    kept false o (Some h) = refl

onto_back : (pick : ℕ) (ys : List Held) (o : Option Held) → ArePast pick ys → pick_onto pick (option_map slot_in o) ys ≡ option_map slot_in (else_of o (find is_free ys))
onto_back pick [] None p = refl
onto_back pick [] (Some h) p = refl
onto_back pick (y ∷ ys) o p =
    ap (λ (q : Option Slot). pick_onto pick q ys) (taken y.free o)
    ∙ onto_back pick ys (else_of o (cond y.free (Some y) None)) p.1
    ∙ ap (option_map slot_in) (kept y.free o)
  where
    taken : (b : Bool) (o : Option Held) → cond b (step_of pick (slot_in y) (option_map slot_in o)) (option_map slot_in o) ≡ option_map slot_in (else_of o (cond b (Some y) None))
    taken false None = refl
    taken false (Some h) = refl
    taken true None = refl
    taken true (Some h) = ap (λ (t : Bool). cond t (Some (slot_in h)) (Some (slot_in y))) (lt-ltb pick y.uid p.0)

    kept : (b : Bool) (o : Option Held) → else_of (else_of o (cond b (Some y) None)) (find is_free ys) ≡ else_of o (cond b (Some y) (find is_free ys))
    kept b (Some h) = refl
    kept true None = refl
    kept false None = refl

else_none : (o : Option Held) → else_of o None ≡ o
else_none None = refl
else_none (Some h) = refl

-- the pick is the first on the walk
first_picked : (pick : ℕ) (hs : List Held) → AreRising hs → option_map slot_in (find is_free (walk (place_for pick hs) hs)) ≡ picked pick (slots_in hs)
first_picked pick hs r =
    let place : ℕ = place_for pick hs in
    let front : List Held = take place hs in
    let back : List Held = drop place hs in
    ap (option_map slot_in) (first-append (reverse front) back)
    ∙ sym (onto_back pick back (find is_free (reverse front)) (back_past pick hs r))
    ∙ ap (λ (o : Option Slot). pick_onto pick o back) (sym (onto_front pick front None (front_upto pick hs) ∙ ap (option_map slot_in) (else_none (find is_free (reverse front)))))
    ∙ sym (onto-append pick None front back)
    ∙ ap (pick_onto pick None) (take-append-drop place hs)
    ∙ onto_picked pick hs r

-- ---- the loop

place_within : (uid : ℕ) (hs : List Held) → place_for uid hs ≤ length hs
place_within uid hs = prefix_len-le-length (is_upto uid) hs

-- what is left of the walk decides
abbrev pub IsWalked : ℕ → List Held → ℕ → Type 0
IsWalked pick hs step = find is_free (drop step (walk (place_for pick hs) hs)) ≡ find is_free (walk (place_for pick hs) hs)

searches : Searches (find is_free) is_free Some
searches = record { step = λ x xs. refl }

-- what stands on the walk at a step
step_is : (pick : ℕ) (hs : List Held) (step at : ℕ) (h : Held) → at ≡ place_at (place_for pick hs) step → h ≡ get_or hs at h → h ≡ get_or (walk (place_for pick hs) hs) step h
step_is pick hs step at h is here = here ∙ ap (λ (n : ℕ). get_or hs n h) is ∙ sym (walk_at (place_for pick hs) step hs h (place_within pick hs))

pub walk_goes_on : (pick : ℕ) (hs : List Held) (step at : ℕ) (h : Held) → step < length hs → at ≡ place_at (place_for pick hs) step → h ≡ get_or hs at h → h.free ≡ false → IsWalked pick hs step → IsWalked pick hs (step + 1)
walk_goes_on pick hs step at h lt is here leased so =
    skips (find is_free) is_free Some searches (walk (place_for pick hs) hs) step h (omega (arith, walk_long (place_for pick hs) hs (place_within pick hs), lt)) (step_is pick hs step at h is here) leased so

pub walk_stops : (pick : ℕ) (hs : List Held) (step at : ℕ) (h : Held) → AreRising hs → step < length hs → at < length hs → at ≡ place_at (place_for pick hs) step → h ≡ get_or hs at h → h.free ≡ true → IsWalked pick hs step → Some at ≡ picked_place pick hs
walk_stops pick hs step at h r lt within is here free so =
    let found : Some h ≡ find is_free (walk (place_for pick hs) hs) = stops (find is_free) is_free Some searches (walk (place_for pick hs) hs) step h (omega (arith, walk_long (place_for pick hs) hs (place_within pick hs), lt)) (step_is pick hs step at h is here) free so in
    let one : picked pick (slots_in hs) ≡ Some (slot_in h) = sym (ap (option_map slot_in) found ∙ first_picked pick hs r) in
    let place : lesser_count h.uid hs ≡ at = ap (λ (x : Held). lesser_count x.uid hs) here ∙ lesser_at hs at h r within in
    ap (λ (n : ℕ). Some n) (sym place) ∙ sym (ap (option_map (λ s. lesser_count s.uid hs)) one)

pub walk_ends : (pick : ℕ) (hs : List Held) (step : ℕ) → AreRising hs → length hs ≤ step → IsWalked pick hs step → None ≡ picked_place pick hs
walk_ends pick hs step r le so =
    let none : None ≡ find is_free (walk (place_for pick hs) hs) = ends (find is_free) (walk (place_for pick hs) hs) step (omega (arith, walk_long (place_for pick hs) hs (place_within pick hs), le)) so in
    ap (option_map (λ s. lesser_count s.uid hs)) (ap (option_map slot_in) none ∙ first_picked pick hs r)

-- What adding a task, and what a claim, means for the two lists.
use Rattle.std.proofs.Common.{◌≡◌, ℕ, zero, suc, ◌+◌, ◌<◌, ◌≤◌, Bool, true, false, cond, not, ◌||◌, ltb, leb, eqb, List, [], ◌∷◌, ◌++◌, length, get_or, set, take, drop, map, Option, Some, None, Result, Ok, Err, refl, sym, ap, subst, ◌∙◌, arith, inl, inr}
use Rattle.std.specs.List.{filter, insert}
use Rattle.std.specs.Option.{option_map, is_some, IsSome}
use Rattle.std.specs.Result.{IfOk, OnOk, OnErr}
use Rattle.std.specs.declared.alloc.AllocError.{AllocError}
use Rattle.std.proofs.lemmas.Bool.{lt-ltb, le-ltb, le-leb, lt-leb, ltb-true, ltb-false, eq-eqb, ne_eqb, cases_lt}
use Rattle.std.proofs.lemmas.List.Sums.{sum_by-set, sum_by-insert}
use Rattle.fb_bytes.specs.Options.{IsIn, best_of}
use Rattle.task_bucket.specs.declared.held.Held.{Held}
use Rattle.task_bucket.specs.Lists.{Lease, Slot, Lists, slot_with, lease_with, any_of, has_uid, put_slot, put_lease, added, added_asleep}
use Rattle.task_bucket.specs.Claims.{lease_of, due, not_due, returned_to, returned, has_greater_uid, is_at_or_below, or_least, chosen, picked, claimed, with_chosen, leased_out, after_claim}
use Rattle.task_bucket.specs.inner.Held.{slot_in, lease_in, slots_in, leases_in, lists_in, free_count, ArePast, AreRising, place_for, lesser_count, slot_at, picked_place, put_held, woken, asleep, leased, put_into}
use Rattle.std.proofs.lemmas.List.{append-nil, take_all}
use Rattle.fb_bytes.proofs.Mapped.{drop-all}
use Rattle.task_bucket.proofs.Picks.{picked_in}
use Rattle.task_bucket.proofs.Views.{lists_same, past_less, past_in, slots_front, leases_front, rising_map, rising_set, count_cons, count_slots, no_slots, none_counted}

-- ---- adding

insert_put : (one : Held) (hs : List Held) → insert hs (place_for one.uid hs) one ≡ put_held one hs
insert_put one [] = refl
insert_put one (h ∷ hs) = go (ltb one.uid h.uid) refl (insert_put one hs)
  where
    go : (b : Bool) → ltb one.uid h.uid ≡ b → insert hs (place_for one.uid hs) one ≡ put_held one hs → insert (h ∷ hs) (cond (leb h.uid one.uid) (1 + place_for one.uid hs) 0) one ≡ cond b (one ∷ h ∷ hs) (h ∷ put_held one hs)
    go true e ih = ap (λ (b : Bool). insert (h ∷ hs) (cond b (1 + place_for one.uid hs) 0) one) (lt-leb h.uid one.uid (ltb-true one.uid h.uid e))
    go false e ih =
        let next : 1 + place_for one.uid hs ≡ suc (place_for one.uid hs) = omega arith in
        ap (λ (b : Bool). insert (h ∷ hs) (cond b (1 + place_for one.uid hs) 0) one) (le-leb h.uid one.uid (ltb-false one.uid h.uid e))
        ∙ ap (λ (n : ℕ). insert (h ∷ hs) n one) next ∙ ap (λ (x : List Held). h ∷ x) ih

-- none of these has the uid
AreOther : ℕ → List Held → Type 0
AreOther uid [] = Unit {0}
AreOther uid (h ∷ hs) = (h.uid ≡ uid → ⊥) × AreOther uid hs

or_parts : (a b : Bool) → (a || b) ≡ false → (a ≡ false) × (b ≡ false)
or_parts true b e = absurd cc
or_parts false b e = (refl, e)

differs : (a b : ℕ) → eqb a b ≡ false → a ≡ b → ⊥
differs a b e same = let t : true ≡ false = sym (eq-eqb a b same) ∙ e in cc

are_other : (uid : ℕ) (hs : List Held) → any_of (slot_with uid) (slots_in hs) ≡ false → any_of (lease_with uid) (leases_in hs) ≡ false → AreOther uid hs
unfolding AreOther
are_other uid [] e f = tt
are_other uid (h ∷ hs) e f = go h.free e f (are_other uid hs)
  where
    go : (b : Bool) → any_of (slot_with uid) (cond b (slot_in h ∷ slots_in hs) (slots_in hs)) ≡ false → any_of (lease_with uid) (cond b (leases_in hs) (lease_in h.until h ∷ leases_in hs)) ≡ false → (any_of (slot_with uid) (slots_in hs) ≡ false → any_of (lease_with uid) (leases_in hs) ≡ false → AreOther uid hs) → (h.uid ≡ uid → ⊥) × AreOther uid hs
    go true e f ih = let p = or_parts (eqb h.uid uid) (any_of (slot_with uid) (slots_in hs)) e in (differs h.uid uid p.0, ih p.1 f)
    go false e f ih = let p = or_parts (eqb h.uid uid) (any_of (lease_with uid) (leases_in hs)) f in (differs h.uid uid p.0, ih e p.1)

past_put : (u : ℕ) (one : Held) (hs : List Held) → u < one.uid → ArePast u hs → ArePast u (put_held one hs)
past_put u one [] lt p = (lt, tt)
past_put u one (h ∷ hs) lt p = go (ltb one.uid h.uid) (past_put u one hs lt p.1)
  where
    go : (b : Bool) → ArePast u (put_held one hs) → ArePast u (cond b (one ∷ h ∷ hs) (h ∷ put_held one hs))
    go true ih = (lt, p)
    go false ih = (p.0, ih)

rising_put_other : (one : Held) (hs : List Held) → AreRising hs → AreOther one.uid hs → AreRising (put_held one hs)
unfolding AreOther
rising_put_other one [] r o = (tt, tt)
rising_put_other one (h ∷ hs) r o = go (ltb one.uid h.uid) refl (rising_put_other one hs r.1 o.1)
  where
    go : (b : Bool) → ltb one.uid h.uid ≡ b → AreRising (put_held one hs) → AreRising (cond b (one ∷ h ∷ hs) (h ∷ put_held one hs))
    go true is ih = let lt = ltb-true _ _ is in ((lt, past_less one.uid h.uid hs lt r.0), r)
    go false is ih =
        let le = ltb-false _ _ is in
        let lt : h.uid < one.uid = elim (cases_lt h.uid one.uid) [
          | inl lt ↦ lt
          | inr ge ↦ absurd (o.0 (omega arith))
        ] in
        (past_put h.uid one hs lt r.0, ih)

rising_put : (one : Held) (hs : List Held) → AreRising hs → has_uid one.uid (lists_in hs) ≡ false → AreRising (put_held one hs)
rising_put one hs r fresh = let p = or_parts _ _ fresh in rising_put_other one hs r (are_other one.uid hs p.0 p.1)

slots_put : (one : Held) (hs : List Held) → AreRising hs → slots_in (put_held one hs) ≡ cond one.free (put_slot (slot_in one) (slots_in hs)) (slots_in hs)
slots_put one [] r = refl
slots_put one (h ∷ hs) r = go (ltb one.uid h.uid) refl (slots_put one hs r.1)
  where
    first : (v : Bool) → one.uid < h.uid → cond v (slot_in one ∷ slots_in (h ∷ hs)) (slots_in (h ∷ hs)) ≡ cond v (put_slot (slot_in one) (slots_in (h ∷ hs))) (slots_in (h ∷ hs))
    first true lt = sym (slots_front (slot_in one) (h ∷ hs) (lt, past_less one.uid h.uid hs lt r.0))
    first false lt = refl

    later : (v w : Bool) → h.uid ≤ one.uid → cond w (slot_in h ∷ cond v (put_slot (slot_in one) (slots_in hs)) (slots_in hs)) (cond v (put_slot (slot_in one) (slots_in hs)) (slots_in hs)) ≡ cond v (put_slot (slot_in one) (cond w (slot_in h ∷ slots_in hs) (slots_in hs))) (cond w (slot_in h ∷ slots_in hs) (slots_in hs))
    later true true le = sym (ap (λ (b : Bool). cond b (slot_in one ∷ slot_in h ∷ slots_in hs) (slot_in h ∷ put_slot (slot_in one) (slots_in hs))) (le-ltb one.uid h.uid le))
    later true false le = refl
    later false true le = refl
    later false false le = refl

    go : (b : Bool) → ltb one.uid h.uid ≡ b → slots_in (put_held one hs) ≡ cond one.free (put_slot (slot_in one) (slots_in hs)) (slots_in hs) → slots_in (cond b (one ∷ h ∷ hs) (h ∷ put_held one hs)) ≡ cond one.free (put_slot (slot_in one) (slots_in (h ∷ hs))) (slots_in (h ∷ hs))
    go true is ih = first one.free (ltb-true _ _ is)
    go false is ih = ap (λ (ss : List Slot). cond h.free (slot_in h ∷ ss) ss) ih ∙ later one.free h.free (ltb-false _ _ is)

leases_put : (one : Held) (hs : List Held) → AreRising hs → leases_in (put_held one hs) ≡ cond one.free (leases_in hs) (put_lease (lease_in one.until one) (leases_in hs))
leases_put one [] r = refl
leases_put one (h ∷ hs) r = go (ltb one.uid h.uid) refl (leases_put one hs r.1)
  where
    first : (v : Bool) → one.uid < h.uid → cond v (leases_in (h ∷ hs)) (lease_in one.until one ∷ leases_in (h ∷ hs)) ≡ cond v (leases_in (h ∷ hs)) (put_lease (lease_in one.until one) (leases_in (h ∷ hs)))
    first true lt = refl
    first false lt = sym (leases_front (lease_in one.until one) (h ∷ hs) (lt, past_less one.uid h.uid hs lt r.0))

    later : (v w : Bool) → h.uid ≤ one.uid → cond w (cond v (leases_in hs) (put_lease (lease_in one.until one) (leases_in hs))) (lease_in h.until h ∷ cond v (leases_in hs) (put_lease (lease_in one.until one) (leases_in hs))) ≡ cond v (cond w (leases_in hs) (lease_in h.until h ∷ leases_in hs)) (put_lease (lease_in one.until one) (cond w (leases_in hs) (lease_in h.until h ∷ leases_in hs)))
    later true true le = refl
    later true false le = refl
    later false true le = refl
    later false false le = sym (ap (λ (b : Bool). cond b (lease_in one.until one ∷ lease_in h.until h ∷ leases_in hs) (lease_in h.until h ∷ put_lease (lease_in one.until one) (leases_in hs))) (le-ltb one.uid h.uid le))

    go : (b : Bool) → ltb one.uid h.uid ≡ b → leases_in (put_held one hs) ≡ cond one.free (leases_in hs) (put_lease (lease_in one.until one) (leases_in hs)) → leases_in (cond b (one ∷ h ∷ hs) (h ∷ put_held one hs)) ≡ cond one.free (leases_in (h ∷ hs)) (put_lease (lease_in one.until one) (leases_in (h ∷ hs)))
    go true is ih = first one.free (ltb-true _ _ is)
    go false is ih = ap (λ (ls : List Lease). cond h.free ls (lease_in h.until h ∷ ls)) ih ∙ later one.free h.free (ltb-false _ _ is)

lists_put : (one : Held) (hs : List Held) → AreRising hs → lists_in (put_held one hs) ≡ put_into one (lists_in hs)
lists_put one hs r = lists_same _ _ _ _ (slots_put one hs r) (leases_put one hs r) ∙ go one.free
  where
    go : (v : Bool) → (let x : Lists = record { available = cond v (put_slot (slot_in one) (slots_in hs)) (slots_in hs); leased = cond v (leases_in hs) (put_lease (lease_in one.until one) (leases_in hs)) } in x) ≡ cond v (added one.uid one.task (lists_in hs)) (added_asleep one.until one.uid one.task (lists_in hs))
    go true = refl
    go false = refl

-- the list with one more task
pub record IsPut (one : Held) (hs new : List Held) : Type 0 where
  pub rising : AreRising new
  pub lists : lists_in new ≡ put_into one (lists_in hs)
  pub count : free_count new ≡ free_count hs + cond one.free 1 0

pub puts : (one : Held) (hs new : List Held) (at : ℕ) → AreRising hs → has_uid one.uid (lists_in hs) ≡ false → at ≡ place_for one.uid hs → new ≡ insert hs at one → IsPut one hs new
puts one hs new at r fresh place is =
    let made : new ≡ put_held one hs = is ∙ ap (λ (n : ℕ). insert hs n one) place ∙ insert_put one hs in
    record {
      rising = subst AreRising (sym made) (rising_put one hs r fresh);
      lists = ap lists_in made ∙ lists_put one hs r;
      count = ap free_count is ∙ sum_by-insert (λ (h : Held). cond h.free 1 0) hs at one;
    }

-- ---- what goes back

-- Where one is available, nothing goes back.
some_free : (now : ℕ) (hs : List Held) → 0 < free_count hs → returned now (lists_in hs) ≡ lists_in hs
some_free now hs some = go (slots_in hs) (sym (count_slots hs))
  where
    go : (ss : List Slot) → length ss ≡ free_count hs → returned_to now ss (leases_in hs) ≡ record { available = ss; leased = leases_in hs }
    go [] e = absurd (omega arith)
    go (s ∷ ss) e = refl

all_due : (now : ℕ) (hs : List Held) → free_count hs ≡ 0 → returned now (lists_in hs) ≡ record { available = due now (leases_in hs); leased = not_due now (leases_in hs) }
all_due now hs e = ap (λ (ss : List Slot). returned_to now ss (leases_in hs)) (no_slots hs e)

lists_woken : (now : ℕ) (hs : List Held) → free_count hs ≡ 0 → lists_in (map (woken now) hs) ≡ record { available = due now (leases_in hs); leased = not_due now (leases_in hs) }
lists_woken now hs e = lists_same _ _ _ _ (slots hs e) (leases hs e)
  where
    slots : (hs : List Held) → free_count hs ≡ 0 → slots_in (map (woken now) hs) ≡ due now (leases_in hs)
    slots [] e = refl
    slots (h ∷ hs) e = go h.free (sym (count_cons h hs) ∙ e) (slots hs)
      where
        go : (b : Bool) → cond b 1 0 + free_count hs ≡ 0 → (free_count hs ≡ 0 → slots_in (map (woken now) hs) ≡ due now (leases_in hs)) → cond (leb h.until now) (slot_in h ∷ slots_in (map (woken now) hs)) (slots_in (map (woken now) hs)) ≡ due now (cond b (leases_in hs) (lease_in h.until h ∷ leases_in hs))
        go true e ih = absurd (omega arith)
        go false e ih = ap (λ (ss : List Slot). cond (leb h.until now) (slot_in h ∷ ss) ss) (ih (omega (arith, e)))

    leases : (hs : List Held) → free_count hs ≡ 0 → leases_in (map (woken now) hs) ≡ not_due now (leases_in hs)
    leases [] e = refl
    leases (h ∷ hs) e = go h.free (sym (count_cons h hs) ∙ e) (leases hs)
      where
        test : (b : Bool) → leases_in (map (woken now) hs) ≡ not_due now (leases_in hs) → cond b (leases_in (map (woken now) hs)) (lease_in h.until h ∷ leases_in (map (woken now) hs)) ≡ cond (not b) (lease_in h.until h ∷ not_due now (leases_in hs)) (not_due now (leases_in hs))
        test true ih = ih
        test false ih = ap (λ (ls : List Lease). lease_in h.until h ∷ ls) ih

        go : (b : Bool) → cond b 1 0 + free_count hs ≡ 0 → (free_count hs ≡ 0 → leases_in (map (woken now) hs) ≡ not_due now (leases_in hs)) → cond (leb h.until now) (leases_in (map (woken now) hs)) (lease_in h.until h ∷ leases_in (map (woken now) hs)) ≡ not_due now (cond b (leases_in hs) (lease_in h.until h ∷ leases_in hs))
        go true e ih = absurd (omega arith)
        go false e ih = test (leb h.until now) (ih (omega (arith, e)))

-- the one list after what is due went back
pub record GoneBack (now : ℕ) (old new : List Held) : Type 0 where
  pub lists : lists_in new ≡ returned now (lists_in old)
  pub rising : AreRising new

pub gone_none : (now : ℕ) (hs : List Held) → AreRising hs → 0 < free_count hs → GoneBack now hs hs
gone_none now hs r some = record { lists = sym (some_free now hs some); rising = r }

pub gone_back : (now : ℕ) (old new : List Held) → AreRising old → free_count old ≡ 0 → new ≡ map (woken now) old → GoneBack now old new
gone_back now old new r e is = record {
  lists = ap lists_in is ∙ lists_woken now old e ∙ sym (all_due now old e);
  rising = subst AreRising (sym is) (rising_map (woken now) (λ h. refl) old r);
}

-- Where nothing was available, leasing all again gives the list as it was.
pub asleep_woken : (now : ℕ) (hs : List Held) → free_count hs ≡ 0 → map asleep (map (woken now) hs) ≡ hs
asleep_woken now [] e = refl
asleep_woken now (h ∷ hs) e = go h.free refl (sym (count_cons h hs) ∙ e) (asleep_woken now hs)
  where
    go : (b : Bool) → h.free ≡ b → cond b 1 0 + free_count hs ≡ 0 → (free_count hs ≡ 0 → map asleep (map (woken now) hs) ≡ hs) → map asleep (map (woken now) (h ∷ hs)) ≡ h ∷ hs
    go true is e ih = absurd (omega arith)
    go false is e ih = ap (λ (xs : List Held). asleep (woken now h) ∷ xs) (ih (omega (arith, e))) ∙ ap (λ (b : Bool). (let x : Held = record { uid = h.uid; until = h.until; free = b; task = h.task } in x) ∷ hs) (sym is)

-- Where nothing was available and nothing was due, the pass leaves the list.
pub none_woken : (now : ℕ) (hs : List Held) → free_count hs ≡ 0 → free_count (map (woken now) hs) ≡ 0 → map (woken now) hs ≡ hs
none_woken now [] e f = refl
none_woken now (h ∷ hs) e f = go h.free refl (leb h.until now) refl (sym (count_cons h hs) ∙ e) (sym (count_cons (woken now h) (map (woken now) hs)) ∙ f) (none_woken now hs)
  where
    go : (b : Bool) → h.free ≡ b → (c : Bool) → leb h.until now ≡ c → cond b 1 0 + free_count hs ≡ 0 → cond c 1 0 + free_count (map (woken now) hs) ≡ 0 → (free_count hs ≡ 0 → free_count (map (woken now) hs) ≡ 0 → map (woken now) hs ≡ hs) → map (woken now) (h ∷ hs) ≡ h ∷ hs
    go true is c due e f ih = absurd (omega arith)
    go false is true due e f ih = absurd (omega arith)
    go false is false due e f ih = ap (λ (xs : List Held). woken now h ∷ xs) (ih (omega (arith, e)) (omega (arith, f))) ∙ ap (λ (b : Bool). (let x : Held = record { uid = h.uid; until = h.until; free = b; task = h.task } in x) ∷ hs) (due ∙ sym is)

-- ---- what is leased

slot_in_slots : (hs : List Held) (place : ℕ) (s : Slot) → slot_at hs place ≡ Some s → IsIn s (slots_in hs)
slot_in_slots [] place s e = absurd cc
slot_in_slots (h ∷ hs) zero s e = go h.free e
  where
    go : (b : Bool) → cond b (Some (slot_in h)) None ≡ Some s → IsIn s (cond b (slot_in h ∷ slots_in hs) (slots_in hs))
    go true e = inl (let same : slot_in h ≡ s = cc in sym same)
    go false e = absurd cc
slot_in_slots (h ∷ hs) (suc place) s e = go h.free (slot_in_slots hs place s e)
  where
    go : (b : Bool) → IsIn s (slots_in hs) → IsIn s (cond b (slot_in h ∷ slots_in hs) (slots_in hs))
    go true i = inr i
    go false i = i

-- what stands at a place with an available task
pub record IsFreeAt (hs : List Held) (place : ℕ) (s : Slot) : Type 0 where
  pub within : place < length hs
  pub free : (d : Held) → (get_or hs place d).free ≡ true
  pub slot : (d : Held) → slot_in (get_or hs place d) ≡ s

pub free_at : (hs : List Held) (place : ℕ) (s : Slot) → slot_at hs place ≡ Some s → IsFreeAt hs place s
free_at [] place s e = absurd cc
free_at (h ∷ hs) zero s e = go h.free refl e
  where
    go : (b : Bool) → h.free ≡ b → cond b (Some (slot_in h)) None ≡ Some s → IsFreeAt (h ∷ hs) zero s
    go true is e = record { within = omega arith; free = λ d. is; slot = λ d. cc }
    go false is e = absurd cc
free_at (h ∷ hs) (suc place) s e =
    let rest = free_at hs place s e in
    record { within = omega (arith, rest.within); free = rest.free; slot = rest.slot }

pub there : (hs : List Held) (place : ℕ) → IsSome (slot_at hs place) → place < length hs
there hs place some = go (slot_at hs place) refl some
  where
    go : (o : Option Slot) → slot_at hs place ≡ o → is_some o ≡ true → place < length hs
    go None e some = absurd cc
    go (Some s) e some = (free_at hs place s e).within

slots_past : (u : ℕ) (hs : List Held) → ArePast u hs → filter (λ s. not (slot_with u s)) (slots_in hs) ≡ slots_in hs
slots_past u [] p = refl
slots_past u (h ∷ hs) p = go h.free (slots_past u hs p.1)
  where
    go : (b : Bool) → filter (λ s. not (slot_with u s)) (slots_in hs) ≡ slots_in hs → filter (λ s. not (slot_with u s)) (cond b (slot_in h ∷ slots_in hs) (slots_in hs)) ≡ cond b (slot_in h ∷ slots_in hs) (slots_in hs)
    go true ih = rw (ne_eqb h.uid u (λ e. omega (arith, p.0, e))) (ap (λ (ss : List Slot). slot_in h ∷ ss) ih)
    go false ih = ih

slots_leased : (until : ℕ) (s : Slot) (hs : List Held) (place : ℕ) (d : Held) → AreRising hs → slot_at hs place ≡ Some s → slots_in (set hs place (leased until (get_or hs place d))) ≡ filter (λ t. not (slot_with s.uid t)) (slots_in hs)
slots_leased until s [] place d r e = absurd cc
slots_leased until s (h ∷ hs) zero d r e = go h.free e
  where
    go : (b : Bool) → cond b (Some (slot_in h)) None ≡ Some s → slots_in hs ≡ filter (λ t. not (slot_with s.uid t)) (cond b (slot_in h ∷ slots_in hs) (slots_in hs))
    go true e =
        let same : slot_in h ≡ s = cc in
        let uid : h.uid ≡ s.uid = ap (λ (x : Slot). x.uid) same in
        sym (slots_past s.uid hs (subst (λ (u : ℕ). ArePast u hs) uid r.0)) ∙ sym (ap (λ (b : Bool). cond (not b) (slot_in h ∷ filter (λ t. not (slot_with s.uid t)) (slots_in hs)) (filter (λ t. not (slot_with s.uid t)) (slots_in hs))) (eq-eqb h.uid s.uid uid))
    go false e = absurd cc
slots_leased until s (h ∷ hs) (suc place) d r e = go h.free (slots_leased until s hs place d r.1 e)
  where
    past : h.uid < s.uid
    past = past_in h.uid hs s r.0 (slot_in_slots hs place s e)

    go : (b : Bool) → slots_in (set hs place (leased until (get_or hs place d))) ≡ filter (λ t. not (slot_with s.uid t)) (slots_in hs) → cond b (slot_in h ∷ slots_in (set hs place (leased until (get_or hs place d)))) (slots_in (set hs place (leased until (get_or hs place d)))) ≡ filter (λ t. not (slot_with s.uid t)) (cond b (slot_in h ∷ slots_in hs) (slots_in hs))
    go true ih = ap (λ (ss : List Slot). slot_in h ∷ ss) ih ∙ sym (ap (λ (b : Bool). cond (not b) (slot_in h ∷ filter (λ t. not (slot_with s.uid t)) (slots_in hs)) (filter (λ t. not (slot_with s.uid t)) (slots_in hs))) (ne_eqb h.uid s.uid (λ q. let lt = past in omega arith)))
    go false ih = ih

leases_leased : (until : ℕ) (s : Slot) (hs : List Held) (place : ℕ) (d : Held) → AreRising hs → slot_at hs place ≡ Some s → leases_in (set hs place (leased until (get_or hs place d))) ≡ put_lease (lease_of until s) (leases_in hs)
leases_leased until s [] place d r e = absurd cc
leases_leased until s (h ∷ hs) zero d r e = go h.free e
  where
    go : (b : Bool) → cond b (Some (slot_in h)) None ≡ Some s → lease_in until h ∷ leases_in hs ≡ put_lease (lease_of until s) (cond b (leases_in hs) (lease_in h.until h ∷ leases_in hs))
    go true e =
        let same : slot_in h ≡ s = cc in
        let past : ArePast s.uid hs = subst (λ (x : Slot). ArePast x.uid hs) same r.0 in
        ap (λ (x : Slot). lease_of until x ∷ leases_in hs) same ∙ sym (leases_front (lease_of until s) hs past)
    go false e = absurd cc
leases_leased until s (h ∷ hs) (suc place) d r e = go h.free (leases_leased until s hs place d r.1 e)
  where
    past : h.uid < s.uid
    past = past_in h.uid hs s r.0 (slot_in_slots hs place s e)

    go : (b : Bool) → leases_in (set hs place (leased until (get_or hs place d))) ≡ put_lease (lease_of until s) (leases_in hs) → cond b (leases_in (set hs place (leased until (get_or hs place d)))) (lease_in h.until h ∷ leases_in (set hs place (leased until (get_or hs place d)))) ≡ put_lease (lease_of until s) (cond b (leases_in hs) (lease_in h.until h ∷ leases_in hs))
    go true ih = ih
    go false ih = ap (λ (ls : List Lease). lease_in h.until h ∷ ls) ih ∙ sym (ap (λ (b : Bool). cond b (lease_of until s ∷ lease_in h.until h ∷ leases_in hs) (lease_in h.until h ∷ put_lease (lease_of until s) (leases_in hs))) (le-ltb s.uid h.uid (let lt = past in omega arith)))

-- what leasing the available task at a place answers, and the list that it leaves
pub record LeasesOut (until : ℕ) (hs new : List Held) (o : Option Slot) (r : Result Lease AllocError) : Type 0 where
  pub rising : AreRising new
  pub lease : IfOk r (λ lease. option_map (lease_of until) o ≡ Some lease)
  pub lists : OnOk r (lists_in new ≡ with_chosen until o (lists_in hs) (lists_in hs))
  pub count : OnOk r (free_count new + 1 ≡ free_count hs)

pub leases_out : (until : ℕ) (hs : List Held) (place : ℕ) (x d : Held) (r : Result Lease AllocError) → AreRising hs → IsSome (slot_at hs place) → IfOk r (λ lease. lease ≡ lease_in until (get_or hs place d)) → OnOk r (x ≡ leased until (get_or hs place d)) → OnErr r (x ≡ get_or hs place d) → LeasesOut until hs (set hs place x) (slot_at hs place) r
leases_out until hs place x d (Err e) r some lease ok err = record {
  rising = rising_set hs place x d (ap (λ (h : Held). h.uid) err) r;
  lease = tt;
  lists = tt;
  count = tt;
}
leases_out until hs place x d (Ok lease) r some is ok err = subst (λ (y : Held). LeasesOut until hs (set hs place y) (slot_at hs place) (Ok lease)) (sym ok) (go (slot_at hs place) refl some)
  where
    go : (o : Option Slot) → slot_at hs place ≡ o → is_some o ≡ true → LeasesOut until hs (set hs place (leased until (get_or hs place d))) o (Ok lease)
    go None e some = absurd cc
    go (Some s) e some =
        let at = free_at hs place s e in
        let counts = sum_by-set (λ (h : Held). cond h.free 1 0) hs place (leased until (get_or hs place d)) d at.within in
        let one : cond {A = ℕ} (get_or hs place d).free 1 0 ≡ 1 = ap (λ (b : Bool). cond b 1 0) (at.free d) in
        record {
          rising = rising_set hs place (leased until (get_or hs place d)) d refl r;
          lease = ap (λ (t : Slot). Some (lease_of until t)) (sym (at.slot d)) ∙ ap (λ (l : Lease). Some l) (sym is);
          lists = lists_same _ _ _ _ (slots_leased until s hs place d r e) (leases_leased until s hs place d r e);
          count = omega (arith, counts, one);
        }

-- ---- the claim

-- the place of the pick has the pick
slot_placed : (s : Slot) (hs : List Held) → AreRising hs → IsIn s (slots_in hs) → slot_at hs (lesser_count s.uid hs) ≡ Some s
slot_placed s [] r i = absurd i
slot_placed s (h ∷ hs) r i = go h.free refl i (slot_placed s hs r.1)
  where
    later : IsIn s (slots_in hs) → slot_at hs (lesser_count s.uid hs) ≡ Some s → slot_at (h ∷ hs) (lesser_count s.uid (h ∷ hs)) ≡ Some s
    later i ih =
        let next : 1 + lesser_count s.uid hs ≡ suc (lesser_count s.uid hs) = omega arith in
        ap (λ (b : Bool). slot_at (h ∷ hs) (cond b (1 + lesser_count s.uid hs) 0)) (lt-ltb h.uid s.uid (past_in h.uid hs s r.0 i)) ∙ ap (slot_at (h ∷ hs)) next ∙ ih

    go : (b : Bool) → h.free ≡ b → IsIn s (cond b (slot_in h ∷ slots_in hs) (slots_in hs)) → (IsIn s (slots_in hs) → slot_at hs (lesser_count s.uid hs) ≡ Some s) → slot_at (h ∷ hs) (lesser_count s.uid (h ∷ hs)) ≡ Some s
    go true is (inl e) ih =
        let uid : s.uid ≡ h.uid = ap (λ (x : Slot). x.uid) e in
        ap (λ (b : Bool). slot_at (h ∷ hs) (cond b (1 + lesser_count s.uid hs) 0)) (le-ltb h.uid s.uid (omega arith)) ∙ ap (λ (b : Bool). cond b (Some (slot_in h)) None) is ∙ ap (λ (x : Slot). Some x) (sym e)
    go true is (inr i) ih = later i (ih i)
    go false is i ih = later i (ih i)

-- what stands at the place of the pick
pub record IsPicked (pick : ℕ) (hs : List Held) (place : ℕ) : Type 0 where
  pub slot : slot_at hs place ≡ picked pick (slots_in hs)
  pub some : IsSome (slot_at hs place)

pub place_picked : (pick : ℕ) (hs : List Held) (place : ℕ) → AreRising hs → Some place ≡ picked_place pick hs → IsPicked pick hs place
place_picked pick hs place r e = go (picked pick (slots_in hs)) (picked_in pick (slots_in hs)) refl e
  where
    go : (o : Option Slot) → ((s : Slot) → o ≡ Some s → IsIn s (slots_in hs)) → picked pick (slots_in hs) ≡ o → Some place ≡ option_map (λ s. lesser_count s.uid hs) o → IsPicked pick hs place
    go None f is e = absurd cc
    go (Some s) f is e =
        let at : place ≡ lesser_count s.uid hs = cc in
        let there : slot_at hs place ≡ Some s = ap (slot_at hs) at ∙ slot_placed s hs r (f s refl) in
        record { slot = there ∙ sym is; some = ap is_some there }

pub none_picked : (pick : ℕ) (hs : List Held) → None ≡ picked_place pick hs → picked pick (slots_in hs) ≡ None
none_picked pick hs e = go (picked pick (slots_in hs)) refl e
  where
    go : (o : Option Slot) → picked pick (slots_in hs) ≡ o → None ≡ option_map (λ s. lesser_count s.uid hs) o → picked pick (slots_in hs) ≡ None
    go None is e = is
    go (Some s) is e = absurd cc

picks_some : (pick : ℕ) (ss : List Slot) → picked pick ss ≡ None → ss ≡ []
picks_some pick [] e = refl
picks_some pick (s ∷ ss) e = go (best_of (is_at_or_below pick) has_greater_uid (s ∷ ss)) e
  where
    go : (o : Option Slot) → or_least o (s ∷ ss) ≡ None → s ∷ ss ≡ []
    go None e = absurd cc
    go (Some x) e = absurd cc

-- Nothing is picked only where nothing is available.
pub none_left : (pick : ℕ) (hs : List Held) → None ≡ picked_place pick hs → free_count hs ≡ 0
none_left pick hs e = none_counted hs (picks_some pick (slots_in hs) (none_picked pick hs e))

-- what a claim answers and leaves
pub record IsClaim (now length pick : ℕ) (old new : List Held) (found : Option Lease) : Type 0 where
  pub answer : found ≡ claimed now length pick (lists_in old)
  pub lists : lists_in new ≡ after_claim now length pick (lists_in old)

chosen_is : (now pick : ℕ) (old back : List Held) → GoneBack now old back → chosen now pick (lists_in old) ≡ picked pick (slots_in back)
chosen_is now pick old back g = ap (λ (l : Lists). picked pick l.available) (sym g.lists)

pub claims : (now length pick : ℕ) (old back new : List Held) (place : ℕ) (lease : Lease) → GoneBack now old back → IsPicked pick back place → option_map (lease_of (now + length)) (slot_at back place) ≡ Some lease → lists_in new ≡ with_chosen (now + length) (slot_at back place) (lists_in back) (lists_in back) → IsClaim now length pick old new (Some lease)
claims now length pick old back new place lease g p answer lists = go (slot_at back place) refl answer lists
  where
    go : (o : Option Slot) → slot_at back place ≡ o → option_map (lease_of (now + length)) o ≡ Some lease → lists_in new ≡ with_chosen (now + length) o (lists_in back) (lists_in back) → IsClaim now length pick old new (Some lease)
    go None is e f = absurd cc
    go (Some s) is e f =
        let one : chosen now pick (lists_in old) ≡ Some s = chosen_is now pick old back g ∙ sym p.slot ∙ is in
        record {
          answer = sym e ∙ sym (ap (option_map (lease_of (now + length))) one);
          lists = f ∙ ap (leased_out (now + length) s) g.lists ∙ sym (ap (λ (o : Option Slot). with_chosen (now + length) o (lists_in old) (returned now (lists_in old))) one);
        }

pub claims_none : (now length pick : ℕ) (old back : List Held) → GoneBack now old back → None ≡ picked_place pick back → IsClaim now length pick old old None
claims_none now length pick old back g none =
    let no : chosen now pick (lists_in old) ≡ None = chosen_is now pick old back g ∙ none_picked pick back none in
    record {
      answer = sym (ap (option_map (lease_of (now + length))) no);
      lists = sym (ap (λ (o : Option Slot). with_chosen (now + length) o (lists_in old) (returned now (lists_in old))) no);
    }

-- a list that was written whole, as a vector has it
pub whole : (n : ℕ) (new xs : List Held) → n ≡ length xs → length new ≡ length xs → take n (new ++ drop (length new) xs) ≡ new
whole n new xs e f =
    ap (λ (ys : List Held). take n (new ++ ys)) (drop-all xs (length new) (omega arith)) ∙ ap (take n) (append-nil new) ∙ take_all n new (omega arith)

-- What a change of the one list means for the two.
use Rattle.std.proofs.Common.{◌≡◌, ℕ, zero, suc, ◌+◌, ◌<◌, Bool, true, false, cond, not, ◌&&◌, ◌||◌, eqb, List, [], ◌∷◌, length, get_or, set, map, Option, Some, None, refl, sym, ap, subst, ◌∙◌, arith, inl, inr}
use Rattle.std.specs.List.{filter}
use Rattle.std.specs.Option.{option_map, option_copied, is_some}
use denote.Bor.{Bor}
use Rattle.std.proofs.lemmas.Bool.{lt-ltb, eqb-true}
use Rattle.std.proofs.lemmas.List.Sums.{sum_by-cons}
use Rattle.fb_bytes.specs.Options.{IsIn}
use Rattle.task_bucket.specs.declared.held.Held.{Held}
use Rattle.task_bucket.specs.Lists.{Lease, Slot, Lists, slot_with, lease_with, any_of, put_slot, put_lease, without_uid, without_job, is_lease, is_leased}
use Rattle.task_bucket.specs.Leases.{extended_in, retimed_if, retimed_in, finished_in}
use Rattle.task_bucket.specs.inner.Held.{slot_in, lease_in, slots_in, leases_in, lists_in, free_count, ArePast, AreRising, held_is, retimed_held, first_held}

both : List Slot → List Lease → Lists
both slots leases = record { available = slots; leased = leases }

pub lists_same : (a b : List Slot) (l m : List Lease) → a ≡ b → l ≡ m → (let x : Lists = record { available = a; leased = l } in x) ≡ record { available = b; leased = m }
lists_same a b l m e f = λ i. record { available = e i; leased = f i }

-- ---- order

pub past_less : (u v : ℕ) (hs : List Held) → u < v → ArePast v hs → ArePast u hs
past_less u v [] lt p = tt
past_less u v (h ∷ hs) lt p = (omega (arith, p.0), past_less u v hs lt p.1)

pub past_in : (u : ℕ) (hs : List Held) (s : Slot) → ArePast u hs → IsIn s (slots_in hs) → u < s.uid
past_in u [] s p i = absurd i
past_in u (h ∷ hs) s p i = go h.free i (past_in u hs s p.1)
  where
    go : (b : Bool) → IsIn s (cond b (slot_in h ∷ slots_in hs) (slots_in hs)) → (IsIn s (slots_in hs) → u < s.uid) → u < s.uid
    go true (inl e) ih = subst (λ (x : Slot). u < x.uid) (sym e) p.0
    go true (inr i) ih = ih i
    go false i ih = ih i

pub slots_front : (s : Slot) (hs : List Held) → ArePast s.uid hs → put_slot s (slots_in hs) ≡ s ∷ slots_in hs
slots_front s [] p = refl
slots_front s (h ∷ hs) p = go h.free (slots_front s hs p.1)
  where
    go : (b : Bool) → put_slot s (slots_in hs) ≡ s ∷ slots_in hs → put_slot s (cond b (slot_in h ∷ slots_in hs) (slots_in hs)) ≡ s ∷ cond b (slot_in h ∷ slots_in hs) (slots_in hs)
    go true ih = rw (lt-ltb s.uid h.uid p.0) refl
    go false ih = ih

pub leases_front : (l : Lease) (hs : List Held) → ArePast l.uid hs → put_lease l (leases_in hs) ≡ l ∷ leases_in hs
leases_front l [] p = refl
leases_front l (h ∷ hs) p = go h.free (leases_front l hs p.1)
  where
    go : (b : Bool) → put_lease l (leases_in hs) ≡ l ∷ leases_in hs → put_lease l (cond b (leases_in hs) (lease_in h.until h ∷ leases_in hs)) ≡ l ∷ cond b (leases_in hs) (lease_in h.until h ∷ leases_in hs)
    go true ih = ih
    go false ih = rw (lt-ltb l.uid h.uid p.0) refl

-- ---- changes that keep each uid

pub rising_map : (f : Held → Held) → ((h : Held) → (f h).uid ≡ h.uid) → (hs : List Held) → AreRising hs → AreRising (map f hs)
rising_map f same [] r = tt
rising_map f same (h ∷ hs) r = (subst (λ (u : ℕ). ArePast u (map f hs)) (sym (same h)) (past_map h.uid hs r.0), rising_map f same hs r.1)
  where
    past_map : (u : ℕ) (hs : List Held) → ArePast u hs → ArePast u (map f hs)
    past_map u [] p = tt
    past_map u (h ∷ hs) p = (subst (λ (v : ℕ). u < v) (sym (same h)) p.0, past_map u hs p.1)

past_set : (u : ℕ) (hs : List Held) (i : ℕ) (x d : Held) → x.uid ≡ (get_or hs i d).uid → ArePast u hs → ArePast u (set hs i x)
past_set u [] i x d e p = tt
past_set u (h ∷ hs) zero x d e p = (subst (λ (v : ℕ). u < v) (sym e) p.0, p.1)
past_set u (h ∷ hs) (suc i) x d e p = (p.0, past_set u hs i x d e p.1)

pub rising_set : (hs : List Held) (i : ℕ) (x d : Held) → x.uid ≡ (get_or hs i d).uid → AreRising hs → AreRising (set hs i x)
rising_set [] i x d e r = tt
rising_set (h ∷ hs) zero x d e r = (subst (λ (u : ℕ). ArePast u hs) (sym e) r.0, r.1)
rising_set (h ∷ hs) (suc i) x d e r = (past_set h.uid hs i x d e r.0, rising_set hs i x d e r.1)

past_filter : (t : Held → Bool) (u : ℕ) (hs : List Held) → ArePast u hs → ArePast u (filter t hs)
past_filter t u [] p = tt
past_filter t u (h ∷ hs) p = go (t h) (past_filter t u hs p.1)
  where
    go : (b : Bool) → ArePast u (filter t hs) → ArePast u (cond b (h ∷ filter t hs) (filter t hs))
    go true ih = (p.0, ih)
    go false ih = ih

pub rising_filter : (t : Held → Bool) (hs : List Held) → AreRising hs → AreRising (filter t hs)
rising_filter t [] r = tt
rising_filter t (h ∷ hs) r = go (t h) (rising_filter t hs r.1)
  where
    go : (b : Bool) → AreRising (filter t hs) → AreRising (cond b (h ∷ filter t hs) (filter t hs))
    go true ih = (past_filter t h.uid hs r.0, ih)
    go false ih = ih

-- ---- how many are available

pub count_cons : (h : Held) (hs : List Held) → free_count (h ∷ hs) ≡ cond h.free 1 0 + free_count hs
count_cons h hs = sum_by-cons (λ (x : Held). cond x.free 1 0) h hs

pub count_slots : (hs : List Held) → free_count hs ≡ length (slots_in hs)
count_slots [] = refl
count_slots (h ∷ hs) = count_cons h hs ∙ go h.free (count_slots hs)
  where
    go : (b : Bool) → free_count hs ≡ length (slots_in hs) → cond b 1 0 + free_count hs ≡ length (cond b (slot_in h ∷ slots_in hs) (slots_in hs))
    go true ih = omega (arith, ih)
    go false ih = omega (arith, ih)

-- Where the available tasks stay, so does their number.
pub same_count : (old new : List Held) → slots_in new ≡ slots_in old → free_count new ≡ free_count old
same_count old new e = count_slots new ∙ ap length e ∙ sym (count_slots old)

pub no_slots : (hs : List Held) → free_count hs ≡ 0 → slots_in hs ≡ []
no_slots hs e = go (slots_in hs) (sym (count_slots hs) ∙ e)
  where
    go : (ss : List Slot) → length ss ≡ 0 → ss ≡ []
    go [] e = refl
    go (s ∷ ss) e = absurd (omega arith)

pub none_counted : (hs : List Held) → slots_in hs ≡ [] → free_count hs ≡ 0
none_counted hs e = count_slots hs ∙ ap length e

-- ---- what is taken out

-- Where a test on slots and one on leases say what one on the tasks says, taking out is the same.
pub filter_slots : (t : Held → Bool) (ts : Slot → Bool) → ((h : Held) → h.free ≡ true → t h ≡ ts (slot_in h)) → (hs : List Held) → slots_in (filter t hs) ≡ filter ts (slots_in hs)
filter_slots t ts says [] = refl
filter_slots t ts says (h ∷ hs) = go h.free refl (filter_slots t ts says hs)
  where
    kept : (b v : Bool) → h.free ≡ v → slots_in (cond b (h ∷ filter t hs) (filter t hs)) ≡ cond b (cond v (slot_in h ∷ slots_in (filter t hs)) (slots_in (filter t hs))) (slots_in (filter t hs))
    kept true v e = ap (λ (w : Bool). cond w (slot_in h ∷ slots_in (filter t hs)) (slots_in (filter t hs))) e
    kept false v e = refl

    all : (b : Bool) (x : List Slot) → cond b x x ≡ x
    all true x = refl
    all false x = refl

    go : (v : Bool) → h.free ≡ v → slots_in (filter t hs) ≡ filter ts (slots_in hs) → slots_in (filter t (h ∷ hs)) ≡ filter ts (cond h.free (slot_in h ∷ slots_in hs) (slots_in hs))
    go true e ih = kept (t h) true e ∙ ap (λ (ss : List Slot). cond (t h) (slot_in h ∷ ss) ss) ih ∙ ap (λ (b : Bool). cond b (slot_in h ∷ filter ts (slots_in hs)) (filter ts (slots_in hs))) (says h e) ∙ sym (ap (λ (w : Bool). filter ts (cond w (slot_in h ∷ slots_in hs) (slots_in hs))) e)
    go false e ih = kept (t h) false e ∙ all (t h) (slots_in (filter t hs)) ∙ ih ∙ sym (ap (λ (w : Bool). filter ts (cond w (slot_in h ∷ slots_in hs) (slots_in hs))) e)

pub filter_leases : (t : Held → Bool) (ts : Lease → Bool) → ((h : Held) → h.free ≡ false → t h ≡ ts (lease_in h.until h)) → (hs : List Held) → leases_in (filter t hs) ≡ filter ts (leases_in hs)
filter_leases t ts says [] = refl
filter_leases t ts says (h ∷ hs) = go h.free refl (filter_leases t ts says hs)
  where
    kept : (b v : Bool) → h.free ≡ v → leases_in (cond b (h ∷ filter t hs) (filter t hs)) ≡ cond b (cond v (leases_in (filter t hs)) (lease_in h.until h ∷ leases_in (filter t hs))) (leases_in (filter t hs))
    kept true v e = ap (λ (w : Bool). cond w (leases_in (filter t hs)) (lease_in h.until h ∷ leases_in (filter t hs))) e
    kept false v e = refl

    all : (b : Bool) (x : List Lease) → cond b x x ≡ x
    all true x = refl
    all false x = refl

    go : (v : Bool) → h.free ≡ v → leases_in (filter t hs) ≡ filter ts (leases_in hs) → leases_in (filter t (h ∷ hs)) ≡ filter ts (cond h.free (leases_in hs) (lease_in h.until h ∷ leases_in hs))
    go true e ih = kept (t h) true e ∙ all (t h) (leases_in (filter t hs)) ∙ ih ∙ sym (ap (λ (w : Bool). filter ts (cond w (leases_in hs) (lease_in h.until h ∷ leases_in hs))) e)
    go false e ih = kept (t h) false e ∙ ap (λ (ls : List Lease). cond (t h) (lease_in h.until h ∷ ls) ls) ih ∙ ap (λ (b : Bool). cond b (lease_in h.until h ∷ filter ts (leases_in hs)) (filter ts (leases_in hs))) (says h e) ∙ sym (ap (λ (w : Bool). filter ts (cond w (leases_in hs) (lease_in h.until h ∷ leases_in hs))) e)

keeps_all : (ts : Slot → Bool) (slots : List Slot) → ((s : Slot) → ts s ≡ true) → filter ts slots ≡ slots
keeps_all ts [] h = refl
keeps_all ts (s ∷ ss) h = rw (h s) (ap (λ (x : List Slot). s ∷ x) (keeps_all ts ss h))

pub lists_without_uid : (uid : ℕ) (hs : List Held) → lists_in (filter (λ h. not (eqb h.uid uid)) hs) ≡ without_uid uid (lists_in hs)
lists_without_uid uid hs = lists_same _ _ _ _
    (filter_slots (λ h. not (eqb h.uid uid)) (λ s. not (slot_with uid s)) (λ h e. refl) hs)
    (filter_leases (λ h. not (eqb h.uid uid)) (λ l. not (lease_with uid l)) (λ h e. refl) hs)

pub lists_without_job : (job : ℕ) (hs : List Held) → lists_in (filter (λ h. not (eqb h.task.job job)) hs) ≡ without_job job (lists_in hs)
lists_without_job job hs = lists_same _ _ _ _
    (filter_slots (λ h. not (eqb h.task.job job)) (λ s. not (eqb s.task.job job)) (λ h e. refl) hs)
    (filter_leases (λ h. not (eqb h.task.job job)) (λ l. not (eqb l.task.job job)) (λ h e. refl) hs)

pub lists_finished : (until uid : ℕ) (hs : List Held) → lists_in (filter (λ h. not (held_is until uid h)) hs) ≡ finished_in until uid (lists_in hs)
lists_finished until uid hs = lists_same _ _ _ _
    (filter_slots (λ h. not (held_is until uid h)) (λ s. true) (λ h e. ap (λ (v : Bool). not (not v && eqb h.until until && eqb h.uid uid)) e) hs ∙ keeps_all (λ s. true) (slots_in hs) (λ s. refl))
    (filter_leases (λ h. not (held_is until uid h)) (λ l. not (is_lease until uid l)) (λ h e. ap (λ (v : Bool). not (not v && eqb h.until until && eqb h.uid uid)) e) hs)

-- ---- another until

pub lists_retimed : (until uid new : ℕ) (hs : List Held) → lists_in (map (retimed_held until uid new) hs) ≡ retimed_in until uid new (lists_in hs)
lists_retimed until uid new hs = lists_same _ _ _ _ (slots hs) (leases hs)
  where
    slots : (hs : List Held) → slots_in (map (retimed_held until uid new) hs) ≡ slots_in hs
    slots [] = refl
    slots (h ∷ hs) = ap (λ (ss : List Slot). cond h.free (slot_in h ∷ ss) ss) (slots hs)

    leases : (hs : List Held) → leases_in (map (retimed_held until uid new) hs) ≡ map (retimed_if until uid new) (leases_in hs)
    leases [] = refl
    leases (h ∷ hs) = go h.free (leases hs)
      where
        go : (b : Bool) → leases_in (map (retimed_held until uid new) hs) ≡ map (retimed_if until uid new) (leases_in hs)
            → cond b (leases_in (map (retimed_held until uid new) hs)) (record { until = cond (not b && eqb h.until until && eqb h.uid uid) new h.until; uid = h.uid; task = h.task } ∷ leases_in (map (retimed_held until uid new) hs))
            ≡ map (retimed_if until uid new) (cond b (leases_in hs) (lease_in h.until h ∷ leases_in hs))
        go true ih = ih
        go false ih = ap (λ (ls : List Lease). retimed_if until uid new (lease_in h.until h) ∷ ls) ih

-- ---- the lease that is found

pub found_is : (until uid : ℕ) (hs : List Held) → is_leased until uid (lists_in hs) ≡ is_some (first_held until uid hs)
found_is until uid [] = refl
found_is until uid (h ∷ hs) = go h.free (found_is until uid hs)
  where
    go : (b : Bool) → any_of (is_lease until uid) (leases_in hs) ≡ is_some (first_held until uid hs) → any_of (is_lease until uid) (cond b (leases_in hs) (lease_in h.until h ∷ leases_in hs)) ≡ is_some (cond (not b && eqb h.until until && eqb h.uid uid) (Some h) (first_held until uid hs))
    go true ih = ih
    go false ih = test (eqb h.until until && eqb h.uid uid)
      where
        test : (b : Bool) → (b || any_of (is_lease until uid) (leases_in hs)) ≡ is_some (cond b (Some h) (first_held until uid hs))
        test true = refl
        test false = ih

pub extended_is : (until uid new : ℕ) (hs : List Held) → extended_in until uid new (leases_in hs) ≡ option_map (λ h. lease_in new h) (first_held until uid hs)
extended_is until uid new [] = refl
extended_is until uid new (h ∷ hs) = go h.free (extended_is until uid new hs)
  where
    go : (b : Bool) → extended_in until uid new (leases_in hs) ≡ option_map (λ h. lease_in new h) (first_held until uid hs) → extended_in until uid new (cond b (leases_in hs) (lease_in h.until h ∷ leases_in hs)) ≡ option_map (λ h. lease_in new h) (cond (not b && eqb h.until until && eqb h.uid uid) (Some h) (first_held until uid hs))
    go true ih = ih
    go false ih = test (eqb h.until until && eqb h.uid uid)
      where
        test : (b : Bool) → cond b (Some (lease_in new h)) (extended_in until uid new (leases_in hs)) ≡ option_map (λ h. lease_in new h) (cond b (Some h) (first_held until uid hs))
        test true = refl
        test false = ih

-- the lease found has this uid
pub found_uid : (until uid : ℕ) (hs : List Held) (h : Held) → first_held until uid hs ≡ Some h → h.uid ≡ uid
found_uid until uid [] h e = absurd cc
found_uid until uid (x ∷ hs) h e = go (not x.free && eqb x.until until) (eqb x.uid uid) refl (found_uid until uid hs h) e
  where
    go : (a b : Bool) → eqb x.uid uid ≡ b → (first_held until uid hs ≡ Some h → h.uid ≡ uid) → cond (a && b) (Some x) (first_held until uid hs) ≡ Some h → h.uid ≡ uid
    go true true is ih e = let same : x ≡ h = cc in ap (λ (y : Held). y.uid) (sym same) ∙ eqb-true _ _ is
    go true false is ih e = ih e
    go false b is ih e = ih e

-- the lease that extending answers, and that there is none
pub extended_found : (until uid new : ℕ) (hs : List Held) (h : Held) → Some h ≡ first_held until uid hs → extended_in until uid new (leases_in hs) ≡ Some (record { until = new; uid = uid; task = h.task })
extended_found until uid new hs h e =
    extended_is until uid new hs ∙ ap (option_map (λ h. lease_in new h)) (sym e) ∙ ap (λ (u : ℕ). Some (record { until = new; uid = u; task = h.task })) (found_uid until uid hs h (sym e))

pub found_yes : (until uid : ℕ) (hs : List Held) (h : Held) → Some h ≡ first_held until uid hs → is_leased until uid (lists_in hs) ≡ true
found_yes until uid hs h e = found_is until uid hs ∙ ap is_some (sym e)

pub found_no : (until uid : ℕ) (hs : List Held) → None ≡ first_held until uid hs → is_leased until uid (lists_in hs) ≡ false
found_no until uid hs e = found_is until uid hs ∙ ap is_some (sym e)

pub copied_some : {A : Type 0} (o : Option (Bor A)) → is_some o ≡ is_some (option_copied o)
copied_some None = refl
copied_some (Some x) = refl

-- A task that comes under a fresh uid, and goes again.
use Rattle.std.proofs.Common.{◌≡◌, ℕ, ◌+◌, Bool, true, false, not, ◌||◌, cond, List, [], ◌∷◌, Option, Some, None, refl, ap, ◌∙◌, arith, nat_lt, ◌==◌}
use Rattle.std.specs.List.{filter}
use Rattle.std.proofs.lemmas.Bool.{eq-eqb, ne_eqb, or_parts}
use Rattle.mutations.proofs.Basics.{by_test}
use Rattle.task_kinds.specs.Tasks.{SeenTask}
use Rattle.task_bucket.specs.declared.Lease.{Lease}
use Rattle.task_bucket.specs.Lists.{Slot, Lists, any_of, slot_with, lease_with, has_uid, put_slot, put_lease, without_uid}
use Rattle.task_bucket.proofs.Totals.{any_none}
use Rattle.task_kinds.specs.Works.{OfBackup, task_for}
use Rattle.backup_core.specs.Added.{IsFresh, added_one, added_all}
use Rattle.backup_core.specs.Tasks.{Adding}

or_swap : (a b c : Bool) → (a || (b || c)) ≡ (b || (a || c))
or_swap true true c = refl
or_swap true false c = refl
or_swap false true c = refl
or_swap false false c = refl

-- ---- a uid among one more

slot_any : (u : ℕ) (slot : Slot) (ss : List Slot) → any_of (slot_with u) (put_slot slot ss) ≡ (slot_with u slot || any_of (slot_with u) ss)
slot_any u slot [] = refl
slot_any u slot (s ∷ ss) = by_test (nat_lt slot.uid s.uid) (λ xs. any_of (slot_with u) xs ≡ (slot_with u slot || (slot_with u s || any_of (slot_with u) ss))) (slot ∷ s ∷ ss) (s ∷ put_slot slot ss) (λ e. refl) (λ e. ap (λ b. slot_with u s || b) (slot_any u slot ss) ∙ or_swap (slot_with u s) (slot_with u slot) (any_of (slot_with u) ss))

lease_any : (u : ℕ) (lease : Lease) (ls : List Lease) → any_of (lease_with u) (put_lease lease ls) ≡ (lease_with u lease || any_of (lease_with u) ls)
lease_any u lease [] = refl
lease_any u lease (l ∷ ls) = by_test (nat_lt lease.uid l.uid) (λ xs. any_of (lease_with u) xs ≡ (lease_with u lease || (lease_with u l || any_of (lease_with u) ls))) (lease ∷ l ∷ ls) (l ∷ put_lease lease ls) (λ e. refl) (λ e. ap (λ b. lease_with u l || b) (lease_any u lease ls) ∙ or_swap (lease_with u l) (lease_with u lease) (any_of (lease_with u) ls))

or_first : (a b c : Bool) → ((a || b) || c) ≡ (a || (b || c))
or_first true b c = refl
or_first false b c = refl

-- the uids are those before and the new one
pub added_has : (u uid : ℕ) (until : Option ℕ) (task : SeenTask) (lists : Lists) → has_uid u (added_one uid until task lists) ≡ ((uid == u) || has_uid u lists)
added_has u uid None task lists =
    ap (λ b. b || any_of (lease_with u) lists.leased) (slot_any u (record { uid = uid; task = task }) lists.available)
    ∙ or_first (uid == u) (any_of (slot_with u) lists.available) (any_of (lease_with u) lists.leased)
added_has u uid (Some until) task lists =
    ap (λ b. any_of (slot_with u) lists.available || b) (lease_any u (record { until = until; uid = uid; task = task }) lists.leased)
    ∙ or_swap (any_of (slot_with u) lists.available) (uid == u) (any_of (lease_with u) lists.leased)

pub fresh_added : (next : ℕ) (until : Option ℕ) (task : SeenTask) (lists : Lists) → IsFresh next lists → IsFresh (next + 1) (added_one next until task lists)
fresh_added next until task lists h u le =
    added_has u next until task lists
    ∙ ap (λ b. b || has_uid u lists) (ne_eqb next u (λ e. omega arith))
    ∙ h u (omega arith)

pub added_there : (uid : ℕ) (until : Option ℕ) (task : SeenTask) (lists : Lists) → has_uid uid (added_one uid until task lists) ≡ true
added_there uid until task lists = added_has uid uid until task lists ∙ ap (λ b. b || has_uid uid lists) (eq-eqb uid uid refl)

-- ---- it goes again

slot_out : (slot : Slot) (ss : List Slot) → any_of (slot_with slot.uid) ss ≡ false → filter (λ s. not (slot_with slot.uid s)) (put_slot slot ss) ≡ ss
slot_out slot [] e = ap (λ b. cond (not b) (slot ∷ []) []) (eq-eqb slot.uid slot.uid refl)
slot_out slot (s ∷ ss) e =
    let parts = or_parts (slot_with slot.uid s) (any_of (slot_with slot.uid) ss) e in
    by_test (nat_lt slot.uid s.uid) (λ xs. filter (λ x. not (slot_with slot.uid x)) xs ≡ s ∷ ss) (slot ∷ s ∷ ss) (s ∷ put_slot slot ss)
    (λ l. ap (λ b. cond (not b) (slot ∷ filter (λ x. not (slot_with slot.uid x)) (s ∷ ss)) (filter (λ x. not (slot_with slot.uid x)) (s ∷ ss))) (eq-eqb slot.uid slot.uid refl) ∙ any_none (slot_with slot.uid) (s ∷ ss) e)
    (λ l. ap (λ b. cond (not b) (s ∷ filter (λ x. not (slot_with slot.uid x)) (put_slot slot ss)) (filter (λ x. not (slot_with slot.uid x)) (put_slot slot ss))) parts.0 ∙ ap (λ (ys : List Slot). s ∷ ys) (slot_out slot ss parts.1))

lease_out : (lease : Lease) (ls : List Lease) → any_of (lease_with lease.uid) ls ≡ false → filter (λ l. not (lease_with lease.uid l)) (put_lease lease ls) ≡ ls
lease_out lease [] e = ap (λ b. cond (not b) (lease ∷ []) []) (eq-eqb lease.uid lease.uid refl)
lease_out lease (l ∷ ls) e =
    let parts = or_parts (lease_with lease.uid l) (any_of (lease_with lease.uid) ls) e in
    by_test (nat_lt lease.uid l.uid) (λ xs. filter (λ x. not (lease_with lease.uid x)) xs ≡ l ∷ ls) (lease ∷ l ∷ ls) (l ∷ put_lease lease ls)
    (λ t. ap (λ b. cond (not b) (lease ∷ filter (λ x. not (lease_with lease.uid x)) (l ∷ ls)) (filter (λ x. not (lease_with lease.uid x)) (l ∷ ls))) (eq-eqb lease.uid lease.uid refl) ∙ any_none (lease_with lease.uid) (l ∷ ls) e)
    (λ t. ap (λ b. cond (not b) (l ∷ filter (λ x. not (lease_with lease.uid x)) (put_lease lease ls)) (filter (λ x. not (lease_with lease.uid x)) (put_lease lease ls))) parts.0 ∙ ap (λ (ys : List Lease). l ∷ ys) (lease_out lease ls parts.1))

abbrev lists_of : List Slot → List Lease → Lists
lists_of available leased = record { available = available; leased = leased }

pub added_out : (uid : ℕ) (until : Option ℕ) (task : SeenTask) (lists : Lists) → has_uid uid lists ≡ false → without_uid uid (added_one uid until task lists) ≡ lists
added_out uid None task lists e =
    let parts = or_parts (any_of (slot_with uid) lists.available) (any_of (lease_with uid) lists.leased) e in
    ap (λ (a : List Slot). lists_of a (filter (λ l. not (lease_with uid l)) lists.leased)) (slot_out (record { uid = uid; task = task }) lists.available parts.0)
    ∙ ap (lists_of lists.available) (any_none (lease_with uid) lists.leased parts.1)
added_out uid (Some until) task lists e =
    let parts = or_parts (any_of (slot_with uid) lists.available) (any_of (lease_with uid) lists.leased) e in
    ap (lists_of (filter (λ s. not (slot_with uid s)) lists.available)) (lease_out (record { until = until; uid = uid; task = task }) lists.leased parts.1)
    ∙ ap (λ (a : List Slot). lists_of a lists.leased) (any_none (slot_with uid) lists.available parts.0)

-- ---- two that were added

module _ (job uid : ℕ) (x y : Adding) (lists : Lists) where
  abbrev first : Lists
  first = added_one uid x.until (task_for job 0 0 (OfBackup x.work)) lists

  pub second_there : has_uid (uid + 1) (added_all job 0 0 uid (x ∷ y ∷ []) lists) ≡ true
  second_there = added_there (uid + 1) y.until (task_for job 0 (0 + 1) (OfBackup y.work)) first

  second_out : IsFresh uid lists → without_uid (uid + 1) (added_all job 0 0 uid (x ∷ y ∷ []) lists) ≡ first
  second_out h = added_out (uid + 1) y.until (task_for job 0 (0 + 1) (OfBackup y.work)) first (fresh_added uid x.until (task_for job 0 0 (OfBackup x.work)) lists h (uid + 1) (omega arith))

  pub first_there : IsFresh uid lists → has_uid uid (without_uid (uid + 1) (added_all job 0 0 uid (x ∷ y ∷ []) lists)) ≡ true
  first_there h = ap (has_uid uid) (second_out h) ∙ added_there uid x.until (task_for job 0 0 (OfBackup x.work)) lists

  pub both_out : IsFresh uid lists → without_uid uid (without_uid (uid + 1) (added_all job 0 0 uid (x ∷ y ∷ []) lists)) ≡ lists
  both_out h = ap (without_uid uid) (second_out h) ∙ added_out uid x.until (task_for job 0 0 (OfBackup x.work)) lists (h uid (omega arith))

-- What each call of a bucket leaves of the sums over its tasks.
use Rattle.std.proofs.Common.{◌≡◌, ℕ, ◌+◌, ◌≤◌, Bool, true, false, cond, not, ◌||◌, ltb, leb, eqb, List, [], ◌∷◌, map, Option, Some, None, refl, sym, ap, subst, ◌∙◌, arith, inl, inr}
use Rattle.std.specs.List.{find}
use Rattle.std.specs.Option.{option_map, option_or, is_some}
use Rattle.std.proofs.lemmas.Bool.{and_parts, eqb-true, eq-eqb, ne_eqb, le-leb, leb-true, cases_lt}
use Rattle.fb_bytes.specs.Options.{IsIn}
use Rattle.task_kinds.specs.Tasks.{SeenTask}
use Rattle.task_kinds.specs.Works.{Work, number_in, number_of, work_of}
use Rattle.task_bucket.specs.Lists.{Lease, Slot, Lists, slot_with, lease_with, any_of, has_uid, put_slot, put_lease, added, added_asleep, without_uid, without_job, is_lease, is_leased}
use Rattle.task_bucket.specs.Claims.{slot_of, lease_of, due, not_due, returned_to, returned, chosen, claimed, leased_out, with_chosen, after_claim}
use Rattle.task_bucket.specs.Leases.{retimed, extended_in, extended, retimed_if, after_extend, finished_in, after_finish}
use Rattle.task_bucket.specs.Sums.{sum_of, slot_counts, lease_counts, weigh, of_job, load, of_uid, is_uid, HasUidsOnce, lease_task, task_at}
use Rattle.task_bucket.specs.Laws.{KeepsUidsOnce, SumsLaw}
use Rattle.task_bucket.proofs.Picks.{picked_in}
use Rattle.task_bucket.proofs.Views.{lists_same}
use Rattle.task_bucket.proofs.Totals.{passing, one_for, sum_less, sum_plus, sum_split, none_count, found_counts, any_counted, any_found, in_counts, in_found, any_none, none_any, Implies, same_out, not_one, none_found, found_passes, found_one, out_counts, filter_less, apart_out}

-- ---- adding

put_slot_counts : (f : ℕ → SeenTask → ℕ) (slot : Slot) (ss : List Slot) → sum_of (slot_counts f) (put_slot slot ss) ≡ slot_counts f slot + sum_of (slot_counts f) ss
put_slot_counts f slot [] = refl
put_slot_counts f slot (s ∷ ss) = go (ltb slot.uid s.uid) (put_slot_counts f slot ss)
  where
    go : (b : Bool) → sum_of (slot_counts f) (put_slot slot ss) ≡ slot_counts f slot + sum_of (slot_counts f) ss → sum_of (slot_counts f) (cond b (slot ∷ s ∷ ss) (s ∷ put_slot slot ss)) ≡ slot_counts f slot + (slot_counts f s + sum_of (slot_counts f) ss)
    go true ih = refl
    go false ih = omega arith

put_lease_counts : (f : ℕ → SeenTask → ℕ) (lease : Lease) (ls : List Lease) → sum_of (lease_counts f) (put_lease lease ls) ≡ lease_counts f lease + sum_of (lease_counts f) ls
put_lease_counts f lease [] = refl
put_lease_counts f lease (l ∷ ls) = go (ltb lease.uid l.uid) (put_lease_counts f lease ls)
  where
    go : (b : Bool) → sum_of (lease_counts f) (put_lease lease ls) ≡ lease_counts f lease + sum_of (lease_counts f) ls → sum_of (lease_counts f) (cond b (lease ∷ l ∷ ls) (l ∷ put_lease lease ls)) ≡ lease_counts f lease + (lease_counts f l + sum_of (lease_counts f) ls)
    go true ih = refl
    go false ih = omega arith

add_weighs : (f : ℕ → SeenTask → ℕ) (uid : ℕ) (task : SeenTask) (lists : Lists) → weigh f (added uid task lists) ≡ f uid task + weigh f lists
add_weighs f uid task lists = let h = put_slot_counts f (record { uid = uid; task = task }) lists.available in omega arith

add_asleep_weighs : (f : ℕ → SeenTask → ℕ) (until uid : ℕ) (task : SeenTask) (lists : Lists) → weigh f (added_asleep until uid task lists) ≡ f uid task + weigh f lists
add_asleep_weighs f until uid task lists = let h = put_lease_counts f (record { until = until; uid = uid; task = task }) lists.leased in omega arith

-- ---- claiming

due_counts : (f : ℕ → SeenTask → ℕ) (now : ℕ) (ls : List Lease) → sum_of (slot_counts f) (due now ls) + sum_of (lease_counts f) (not_due now ls) ≡ sum_of (lease_counts f) ls
due_counts f now [] = refl
due_counts f now (l ∷ ls) = go (leb l.until now) (due_counts f now ls)
  where
    go : (b : Bool) → sum_of (slot_counts f) (due now ls) + sum_of (lease_counts f) (not_due now ls) ≡ sum_of (lease_counts f) ls → sum_of (slot_counts f) (cond b (slot_of l ∷ due now ls) (due now ls)) + sum_of (lease_counts f) (cond (not b) (l ∷ not_due now ls) (not_due now ls)) ≡ lease_counts f l + sum_of (lease_counts f) ls
    go true ih = omega arith
    go false ih = omega arith

returned_to_weighs : (f : ℕ → SeenTask → ℕ) (now : ℕ) (slots : List Slot) (leased : List Lease) → weigh f (returned_to now slots leased) ≡ sum_of (slot_counts f) slots + sum_of (lease_counts f) leased
returned_to_weighs f now [] leased = let h = due_counts f now leased in omega arith
returned_to_weighs f now (s ∷ ss) leased = refl

pub returned_weighs : (f : ℕ → SeenTask → ℕ) (now : ℕ) (lists : Lists) → weigh f (returned now lists) ≡ weigh f lists
returned_weighs f now lists = returned_to_weighs f now lists.available lists.leased

-- sums that are no greater keep that each uid stands once at most
once_less : (old new : Lists) → ((uid : ℕ) → weigh (is_uid uid) new ≤ weigh (is_uid uid) old) → HasUidsOnce old → HasUidsOnce new
once_less old new le once uid = let a = le uid in let b = once uid in omega arith

once_same : (old new : Lists) → ((uid : ℕ) → weigh (is_uid uid) new ≡ weigh (is_uid uid) old) → HasUidsOnce old → HasUidsOnce new
once_same old new is once uid = let a = is uid in let b = once uid in omega arith

slots_once : (lists : Lists) → HasUidsOnce lists → (uid : ℕ) → sum_of (one_for (slot_with uid)) lists.available ≤ 1
slots_once lists once uid = let h = once uid in omega arith

pub leases_once : (lists : Lists) → HasUidsOnce lists → (uid : ℕ) → sum_of (one_for (lease_with uid)) lists.leased ≤ 1
leases_once lists once uid = let h = once uid in omega arith

leased_out_weighs : (f : ℕ → SeenTask → ℕ) (until : ℕ) (slot : Slot) (lists : Lists) → HasUidsOnce lists → IsIn slot lists.available → weigh f (leased_out until slot lists) ≡ weigh f lists
leased_out_weighs f until slot lists once i =
    let one = slots_once lists once slot.uid in
    let found = in_found (slot_with slot.uid) slot lists.available (eq-eqb slot.uid slot.uid refl) one i in
    let own : sum_of (passing (slot_with slot.uid) (slot_counts f)) lists.available ≡ f slot.uid slot.task = found_counts (slot_with slot.uid) (slot_counts f) lists.available slot one found in
    let split = sum_split (slot_with slot.uid) (slot_counts f) lists.available in
    let put = put_lease_counts f (lease_of until slot) lists.leased in
    omega arith

with_chosen_weighs : (f : ℕ → SeenTask → ℕ) (until : ℕ) (o : Option Slot) (old new : Lists) → ((slot : Slot) → o ≡ Some slot → IsIn slot new.available) → HasUidsOnce new → weigh f new ≡ weigh f old → weigh f (with_chosen until o old new) ≡ weigh f old
with_chosen_weighs f until None old new i once same = refl
with_chosen_weighs f until (Some slot) old new i once same = leased_out_weighs f until slot new once (i slot refl) ∙ same

pub returned_once : (now : ℕ) (lists : Lists) → HasUidsOnce lists → HasUidsOnce (returned now lists)
returned_once now lists once = once_same lists (returned now lists) (λ uid. returned_weighs (is_uid uid) now lists) once

claim_weighs : (f : ℕ → SeenTask → ℕ) (now length pick : ℕ) (lists : Lists) → HasUidsOnce lists → weigh f (after_claim now length pick lists) ≡ weigh f lists
claim_weighs f now length pick lists once =
    with_chosen_weighs f (now + length) (chosen now pick lists) lists (returned now lists) (picked_in pick (returned now lists).available) (returned_once now lists once) (returned_weighs f now lists)

-- ---- extending

retimed_counts : (f : ℕ → SeenTask → ℕ) (until uid new : ℕ) (ls : List Lease) → sum_of (lease_counts f) (map (retimed_if until uid new) ls) ≡ sum_of (lease_counts f) ls
retimed_counts f until uid new [] = refl
retimed_counts f until uid new (l ∷ ls) = ap (λ (n : ℕ). lease_counts f l + n) (retimed_counts f until uid new ls)

extend_weighs : (f : ℕ → SeenTask → ℕ) (lease : Lease) (new : ℕ) (lists : Lists) → weigh f (after_extend lease new lists) ≡ weigh f lists
extend_weighs f lease new lists = ap (λ (n : ℕ). sum_of (slot_counts f) lists.available + n) (retimed_counts f lease.until lease.uid new lists.leased)

-- ---- removing and finishing

remove_weighs : (f : ℕ → SeenTask → ℕ) (uid : ℕ) (lists : Lists) → weigh (of_uid uid f) lists + weigh f (without_uid uid lists) ≡ weigh f lists
remove_weighs f uid lists =
    let a = sum_split (slot_with uid) (slot_counts f) lists.available in
    let b = sum_split (lease_with uid) (lease_counts f) lists.leased in
    omega arith

lease_implies : (until uid : ℕ) → Implies (is_lease until uid) (lease_with uid)
lease_implies until uid l e = (and_parts _ _ e).1

-- a lease that is held is one of its uid
held_one : (until uid : ℕ) (lists : Lists) → is_leased until uid lists ≡ true → 1 ≤ sum_of (one_for (lease_with uid)) lists.leased
held_one until uid lists e = go lists.leased e
  where
    go : (ls : List Lease) → any_of (is_lease until uid) ls ≡ true → 1 ≤ sum_of (one_for (lease_with uid)) ls
    go [] e = absurd cc
    go (l ∷ ls) e = at (is_lease until uid l) refl e (go ls)
      where
        at : (b : Bool) → is_lease until uid l ≡ b → (b || any_of (is_lease until uid) ls) ≡ true → (any_of (is_lease until uid) ls ≡ true → 1 ≤ sum_of (one_for (lease_with uid)) ls) → 1 ≤ one_for (lease_with uid) l + sum_of (one_for (lease_with uid)) ls
        at true is e ih = let one : one_for (lease_with uid) l ≡ 1 = ap (λ (z : Bool). cond z 1 0) (lease_implies until uid l is) in omega arith
        at false is e ih = let h = ih e in omega arith

-- Where each uid stands once at most, the finish of a held lease takes out what has its uid.
finish_removes : (until uid : ℕ) (lists : Lists) → HasUidsOnce lists → is_leased until uid lists ≡ true → finished_in until uid lists ≡ without_uid uid lists
finish_removes until uid lists once e =
    let one = held_one until uid lists e in
    let both = once uid in
    let none : sum_of (one_for (slot_with uid)) lists.available ≡ 0 = omega arith in
    lists_same _ _ _ _
    (sym (any_none (slot_with uid) lists.available (none_any (slot_with uid) lists.available none)))
    (same_out (is_lease until uid) (lease_with uid) (lease_implies until uid) lists.leased e (leases_once lists once uid))

finish_weighs : (f : ℕ → SeenTask → ℕ) (lease : Lease) (lists : Lists) → HasUidsOnce lists → is_leased lease.until lease.uid lists ≡ true → weigh (of_uid lease.uid f) lists + weigh f (after_finish lease lists) ≡ weigh f lists
finish_weighs f lease lists once e =
    ap (λ (new : Lists). weigh (of_uid lease.uid f) lists + weigh f new) (finish_removes lease.until lease.uid lists once e) ∙ remove_weighs f lease.uid lists

finish_leaves : (lease : Lease) (lists : Lists) → is_leased lease.until lease.uid lists ≡ false → after_finish lease lists ≡ lists
finish_leaves lease lists e = lists_same _ _ _ _ refl (any_none (is_lease lease.until lease.uid) lists.leased e)

-- ---- dropping a job

drop_zero : (job : ℕ) (lists : Lists) (f : Work → ℕ) → load job (without_job job lists) f ≡ 0
drop_zero job lists f =
    let a : sum_of (slot_counts (of_job job f)) (without_job job lists).available ≡ 0 = out_counts (λ s. eqb s.task.job job) (λ s. number_of f s.task) lists.available in
    let b : sum_of (lease_counts (of_job job f)) (without_job job lists).leased ≡ 0 = out_counts (λ l. eqb l.task.job job) (λ l. number_of f l.task) lists.leased in
    omega arith

drop_others : (job other : ℕ) (lists : Lists) (f : Work → ℕ) → (other ≡ job → ⊥) → load other (without_job job lists) f ≡ load other lists f
drop_others job other lists f ne =
    let a : sum_of (slot_counts (of_job other f)) (without_job job lists).available ≡ sum_of (slot_counts (of_job other f)) lists.available = apart_out (λ s. eqb s.task.job job) (λ s. eqb s.task.job other) (λ s. number_of f s.task) (λ s e. apart s.task.job e) lists.available in
    let b : sum_of (lease_counts (of_job other f)) (without_job job lists).leased ≡ sum_of (lease_counts (of_job other f)) lists.leased = apart_out (λ l. eqb l.task.job job) (λ l. eqb l.task.job other) (λ l. number_of f l.task) (λ l e. apart l.task.job e) lists.leased in
    omega arith
  where
    apart : (n : ℕ) → eqb n job ≡ true → eqb n other ≡ false
    apart n e = ne_eqb n other (λ is. ne (sym is ∙ eqb-true n job e))

drop_weighs_less : (f : ℕ → SeenTask → ℕ) (job : ℕ) (lists : Lists) → weigh f (without_job job lists) ≤ weigh f lists
drop_weighs_less f job lists =
    let a = filter_less (λ s. eqb s.task.job job) (slot_counts f) lists.available in
    let b = filter_less (λ l. eqb l.task.job job) (lease_counts f) lists.leased in
    omega arith

-- ---- numbers and loads

weigh_less : (f g : ℕ → SeenTask → ℕ) (lists : Lists) → ((uid : ℕ) (task : SeenTask) → f uid task ≤ g uid task) → weigh f lists ≤ weigh g lists
weigh_less f g lists le =
    let a = sum_less (slot_counts f) (slot_counts g) (λ s. le s.uid s.task) lists.available in
    let b = sum_less (lease_counts f) (lease_counts g) (λ l. le l.uid l.task) lists.leased in
    omega arith

weigh_plus : (f g both : ℕ → SeenTask → ℕ) (lists : Lists) → ((uid : ℕ) (task : SeenTask) → both uid task ≡ f uid task + g uid task) → weigh both lists ≡ weigh f lists + weigh g lists
weigh_plus f g both lists is =
    let a = sum_plus (slot_counts both) (slot_counts f) (slot_counts g) (λ s. is s.uid s.task) lists.available in
    let b = sum_plus (lease_counts both) (lease_counts f) (lease_counts g) (λ l. is l.uid l.task) lists.leased in
    omega arith

job_plus : (job : ℕ) (f g : Work → ℕ) (uid : ℕ) (task : SeenTask) → of_job job (λ work. f work + g work) uid task ≡ of_job job f uid task + of_job job g uid task
job_plus job f g uid task = go (eqb task.job job) (work_of task)
  where
    go : (b : Bool) (o : Option Work) → cond b (number_in (λ work. f work + g work) o) 0 ≡ cond b (number_in f o) 0 + cond b (number_in g o) 0
    go true None = refl
    go true (Some work) = refl
    go false o = refl

load_plus : (job : ℕ) (lists : Lists) (f g : Work → ℕ) → load job lists (λ work. f work + g work) ≡ load job lists f + load job lists g
load_plus job lists f g = weigh_plus (of_job job f) (of_job job g) (of_job job (λ work. f work + g work)) lists (job_plus job f g)

job_less : (job : ℕ) (f g : Work → ℕ) → ((work : Work) → f work ≤ g work) → (uid : ℕ) (task : SeenTask) → of_job job f uid task ≤ of_job job g uid task
job_less job f g le uid task = go (eqb task.job job) (work_of task)
  where
    go : (b : Bool) (o : Option Work) → cond b (number_in f o) 0 ≤ cond b (number_in g o) 0
    go true None = omega arith
    go true (Some work) = le work
    go false o = omega arith

load_less : (job : ℕ) (lists : Lists) (f g : Work → ℕ) → ((work : Work) → f work ≤ g work) → load job lists f ≤ load job lists g
load_less job lists f g le = weigh_less (of_job job f) (of_job job g) lists (job_less job f g le)

-- ---- uids

uid_counted : (uid : ℕ) (lists : Lists) → has_uid uid lists ≡ leb 1 (weigh (is_uid uid) lists)
uid_counted uid lists =
    ap (λ (b : Bool). b || any_of (lease_with uid) lists.leased) (any_counted (slot_with uid) lists.available)
    ∙ ap (λ (b : Bool). leb 1 (sum_of (one_for (slot_with uid)) lists.available) || b) (any_counted (lease_with uid) lists.leased)
    ∙ joined (sum_of (one_for (slot_with uid)) lists.available) (sum_of (one_for (lease_with uid)) lists.leased)
  where
    joined : (m n : ℕ) → (leb 1 m || leb 1 n) ≡ leb 1 (m + n)
    joined m n = elim (cases_lt m 1) [
      | inl lt ↦ let zero : m ≡ 0 = omega arith in subst (λ (k : ℕ). (leb 1 k || leb 1 n) ≡ leb 1 (k + n)) (sym zero) (ap (leb 1) (let e : n ≡ 0 + n = omega arith in e))
      | inr le ↦ ap (λ (b : Bool). b || leb 1 n) (le-leb 1 m le) ∙ sym (le-leb 1 (m + n) (omega arith))
    ]

uid_found : (uid : ℕ) (lists : Lists) → has_uid uid lists ≡ is_some (task_at uid lists)
uid_found uid lists =
    ap (λ (b : Bool). b || any_of (lease_with uid) lists.leased) (any_found (slot_with uid) lists.available)
    ∙ ap (λ (b : Bool). is_some (find (slot_with uid) lists.available) || b) (any_found (lease_with uid) lists.leased)
    ∙ joined (find (slot_with uid) lists.available) (find (lease_with uid) lists.leased)
  where
    joined : (o : Option Slot) (p : Option Lease) → (is_some o || is_some p) ≡ is_some (option_or (option_map (λ s. s.task) o) (option_map (λ l. l.task) p))
    joined None None = refl
    joined None (Some l) = refl
    joined (Some s) p = refl

held_stands : (until uid : ℕ) (lists : Lists) → is_leased until uid lists ≡ true → has_uid uid lists ≡ true
held_stands until uid lists e = let one = held_one until uid lists e in uid_counted uid lists ∙ le-leb 1 (weigh (is_uid uid) lists) (omega arith)

fresh_counts : (f : ℕ → SeenTask → ℕ) (uid : ℕ) (lists : Lists) → has_uid uid lists ≡ false → weigh (of_uid uid f) lists ≡ 0
fresh_counts f uid lists fresh =
    let zero = not_one _ (sym (uid_counted uid lists) ∙ fresh) in
    let a = none_count (slot_with uid) (slot_counts f) lists.available (omega arith) in
    let b = none_count (lease_with uid) (lease_counts f) lists.leased (omega arith) in
    omega arith

-- an adding of a fresh uid
added_once : (lists new : Lists) (uid : ℕ) (task : SeenTask) → ((u : ℕ) → weigh (is_uid u) new ≡ is_uid u uid task + weigh (is_uid u) lists) → has_uid uid lists ≡ false → HasUidsOnce lists → HasUidsOnce new
added_once lists new uid task adds fresh once u = go (eqb uid u) refl (adds u) (once u)
  where
    zero : weigh (is_uid uid) lists ≡ 0
    zero = not_one _ (sym (uid_counted uid lists) ∙ fresh)

    go : (b : Bool) → eqb uid u ≡ b → weigh (is_uid u) new ≡ cond b 1 0 + weigh (is_uid u) lists → weigh (is_uid u) lists ≤ 1 → weigh (is_uid u) new ≤ 1
    go true is e le = let none = subst (λ (v : ℕ). weigh (is_uid v) lists ≡ 0) (eqb-true uid u is) zero in omega arith
    go false is e le = omega arith

pub finish_less : (lease : Lease) (lists : Lists) (uid : ℕ) → weigh (is_uid uid) (after_finish lease lists) ≤ weigh (is_uid uid) lists
finish_less lease lists uid = let a = filter_less (is_lease lease.until lease.uid) (lease_counts (is_uid uid)) lists.leased in omega arith

pub remove_less : (uid : ℕ) (lists : Lists) (u : ℕ) → weigh (is_uid u) (without_uid uid lists) ≤ weigh (is_uid u) lists
remove_less uid lists u = let h = remove_weighs (is_uid u) uid lists in omega arith

keeps_once : (lists : Lists) → HasUidsOnce lists → KeepsUidsOnce lists
keeps_once lists once = record {
  add = λ uid task fresh. added_once lists (added uid task lists) uid task (λ u. add_weighs (is_uid u) uid task lists) fresh once;
  add_asleep = λ until uid task fresh. added_once lists (added_asleep until uid task lists) uid task (λ u. add_asleep_weighs (is_uid u) until uid task lists) fresh once;
  claim = λ now length pick. once_same lists (after_claim now length pick lists) (λ u. claim_weighs (is_uid u) now length pick lists once) once;
  extend = λ lease new. once_same lists (after_extend lease new lists) (λ u. extend_weighs (is_uid u) lease new lists) once;
  finish = λ lease. once_less lists (after_finish lease lists) (finish_less lease lists) once;
  drop_job = λ job. once_less lists (without_job job lists) (λ u. drop_weighs_less (is_uid u) job lists) once;
  remove = λ uid. once_less lists (without_uid uid lists) (remove_less uid lists) once;
}

-- ---- the task of a uid

-- what is found first is that task, and the tasks with its uid count what it does
task_counts : (f : ℕ → SeenTask → ℕ) (uid : ℕ) (task : SeenTask) (lists : Lists) → HasUidsOnce lists → task_at uid lists ≡ Some task → weigh (of_uid uid f) lists ≡ f uid task
task_counts f uid task lists once e = slots (find (slot_with uid) lists.available) refl e
  where
    counts : (u : ℕ) (t : SeenTask) → eqb u uid ≡ true → t ≡ task → f u t ≡ f uid task
    counts u t is same = ap (λ (n : ℕ). f n t) (eqb-true u uid is) ∙ ap (f uid) same

    leases : (p : Option Lease) → find (lease_with uid) lists.leased ≡ p → option_map (λ l. l.task) p ≡ Some task → sum_of (one_for (slot_with uid)) lists.available ≡ 0 → weigh (of_uid uid f) lists ≡ f uid task
    leases None is e none = absurd cc
    leases (Some l) is e none =
        let same : l.task ≡ task = cc in
        let a = none_count (slot_with uid) (slot_counts f) lists.available none in
        let b = found_counts (lease_with uid) (lease_counts f) lists.leased l (leases_once lists once uid) is in
        let d = counts l.uid l.task (found_passes (lease_with uid) lists.leased l is) same in
        omega arith

    slots : (o : Option Slot) → find (slot_with uid) lists.available ≡ o → option_or (option_map (λ s. s.task) o) (lease_task uid lists.leased) ≡ Some task → weigh (of_uid uid f) lists ≡ f uid task
    slots None is e = leases (find (lease_with uid) lists.leased) refl e (not_one _ (sym (any_counted (slot_with uid) lists.available) ∙ any_found (slot_with uid) lists.available ∙ ap is_some is))
    slots (Some s) is e =
        let same : s.task ≡ task = cc in
        let one = found_one (slot_with uid) lists.available s is in
        let both = once uid in
        let none : sum_of (one_for (lease_with uid)) lists.leased ≡ 0 = omega arith in
        let a = found_counts (slot_with uid) (slot_counts f) lists.available s (slots_once lists once uid) is in
        let b = none_count (lease_with uid) (lease_counts f) lists.leased none in
        let d = counts s.uid s.task (found_passes (slot_with uid) lists.available s is) same in
        omega arith

slot_stands : (slot : Slot) (lists : Lists) → HasUidsOnce lists → IsIn slot lists.available → task_at slot.uid lists ≡ Some slot.task
slot_stands slot lists once i =
    ap (λ (o : Option Slot). option_or (option_map (λ s. s.task) o) (lease_task slot.uid lists.leased))
    (in_found (slot_with slot.uid) slot lists.available (eq-eqb slot.uid slot.uid refl) (slots_once lists once slot.uid) i)

lease_stands : (lease : Lease) (lists : Lists) → HasUidsOnce lists → IsIn lease lists.leased → task_at lease.uid lists ≡ Some lease.task
lease_stands lease lists once i =
    let own = eq-eqb lease.uid lease.uid refl in
    let one = in_counts (lease_with lease.uid) lease lists.leased own i in
    let both = once lease.uid in
    let none : sum_of (one_for (slot_with lease.uid)) lists.available ≡ 0 = omega arith in
    ap (λ (o : Option Slot). option_or (option_map (λ s. s.task) o) (lease_task lease.uid lists.leased)) (none_found (slot_with lease.uid) lists.available none)
    ∙ ap (option_map (λ l. l.task)) (in_found (lease_with lease.uid) lease lists.leased own (leases_once lists once lease.uid) i)

-- a task that went back was leased, and its time was over
abbrev pub WasLeased : ℕ → Slot → List Lease → Type 0
WasLeased now slot ls = (l : Lease) × IsIn l ls × (slot_of l ≡ slot) × (l.until ≤ now)

pub due_in : (now : ℕ) (slot : Slot) (ls : List Lease) → IsIn slot (due now ls) → WasLeased now slot ls
due_in now slot [] i = absurd i
due_in now slot (l ∷ ls) i = go (leb l.until now) refl (due_in now slot ls) i
  where
    more : WasLeased now slot ls → WasLeased now slot (l ∷ ls)
    more h = (h.0, inr h.1, h.2, h.3)

    go : (b : Bool) → leb l.until now ≡ b → (IsIn slot (due now ls) → WasLeased now slot ls) → IsIn slot (cond b (slot_of l ∷ due now ls) (due now ls)) → WasLeased now slot (l ∷ ls)
    go true is ih (inl e) = (l, inl refl, sym e, leb-true l.until now is)
    go true is ih (inr j) = more (ih j)
    go false is ih j = more (ih j)

back_stands : (now : ℕ) (slot : Slot) (lists : Lists) (slots : List Slot) → lists.available ≡ slots → HasUidsOnce lists → IsIn slot (returned_to now slots lists.leased).available → task_at slot.uid lists ≡ Some slot.task
back_stands now slot lists [] e once i =
    let h = due_in now slot lists.leased i in
    subst (λ (s : Slot). task_at s.uid lists ≡ Some s.task) h.2 (lease_stands h.0 lists once h.1)
back_stands now slot lists (s ∷ ss) e once i = slot_stands slot lists once (subst (IsIn slot) (sym e) i)

claimed_stands : (now length pick : ℕ) (lease : Lease) (lists : Lists) → HasUidsOnce lists → claimed now length pick lists ≡ Some lease → task_at lease.uid lists ≡ Some lease.task
claimed_stands now length pick lease lists once e = go (chosen now pick lists) refl e
  where
    go : (o : Option Slot) → chosen now pick lists ≡ o → option_map (lease_of (now + length)) o ≡ Some lease → task_at lease.uid lists ≡ Some lease.task
    go None is e = absurd cc
    go (Some slot) is e =
        let same : lease_of (now + length) slot ≡ lease = cc in
        subst (λ (l : Lease). task_at l.uid lists ≡ Some l.task) same (back_stands now slot lists lists.available refl once (picked_in pick (returned now lists).available slot is))

-- an extended lease stood in the list
abbrev pub Stood : ℕ → ℕ → ℕ → Lease → List Lease → Type 0
Stood until uid next new ls = (l : Lease) × IsIn l ls × (is_lease until uid l ≡ true) × (retimed next l ≡ new)

pub extended_stood : (until uid next : ℕ) (new : Lease) (ls : List Lease) → extended_in until uid next ls ≡ Some new → Stood until uid next new ls
extended_stood until uid next new [] e = absurd cc
extended_stood until uid next new (l ∷ ls) e = go (is_lease until uid l) refl e (extended_stood until uid next new ls)
  where
    go : (b : Bool) → is_lease until uid l ≡ b → cond b (Some (retimed next l)) (extended_in until uid next ls) ≡ Some new → (extended_in until uid next ls ≡ Some new → Stood until uid next new ls) → Stood until uid next new (l ∷ ls)
    go true is e ih = let same : retimed next l ≡ new = cc in (l, inl refl, is, same)
    go false is e ih = let h = ih e in (h.0, inr h.1, h.2, h.3)

extended_stands : (lease new : Lease) (next : ℕ) (lists : Lists) → HasUidsOnce lists → extended lease next lists ≡ Some new → task_at lease.uid lists ≡ Some new.task
extended_stands lease new next lists once e =
    let h = extended_stood lease.until lease.uid next new lists.leased e in
    ap (λ (uid : ℕ). task_at uid lists) (sym (eqb-true h.0.uid lease.uid (and_parts _ _ h.2).1)) ∙ lease_stands h.0 lists once h.1 ∙ ap (λ (l : Lease). Some l.task) h.3

pub all_laws : SumsLaw
all_laws = record {
  add = add_weighs;
  add_asleep = add_asleep_weighs;
  claim = claim_weighs;
  extend = extend_weighs;
  finish = finish_weighs;
  finish_none = finish_leaves;
  drop_job = drop_zero;
  drop_other = drop_others;
  drop_less = drop_weighs_less;
  remove = remove_weighs;
  empty = λ uid. omega arith;
  once = keeps_once;
  tasks = λ lists once. record {
    at = λ f uid task. task_counts f uid task lists once;
    available = λ slot. slot_stands slot lists once;
    leased = λ lease. lease_stands lease lists once;
    claimed = λ now length pick lease. claimed_stands now length pick lease lists once;
    extended = λ lease new next. extended_stands lease new next lists once;
  };
  counted = uid_counted;
  found = uid_found;
  held = held_stands;
  fresh = fresh_counts;
  less = weigh_less;
  sum = λ f g lists. weigh_plus f g (λ uid task. f uid task + g uid task) lists (λ uid task. refl);
  load_less = load_less;
  load_sum = load_plus;
}

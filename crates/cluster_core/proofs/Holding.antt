-- What is kept of the tasks, and of what agents remember of them.
use Rattle.std.specs.Prelude.{◌≡◌, ℕ, zero, suc, ◌+◌, ◌≤◌, List, [], ◌∷◌, ◌++◌, replicate, Option, Some, None, ◌⊎◌, slice_get, slice_set, refl}
use Rattle.std.proofs.Common.{ap, sym, ◌∙◌, subst, inl, inr, arith}
use Rattle.std.proofs.lemmas.Bool.Decides.{nat_tests}
use Rattle.std.proofs.lemmas.List.{map-set, length-set, length-replicate}
use Rattle.task_kinds.specs.Tasks.{SeenTask}
use Rattle.task_kinds.specs.Works.{Work, OfBackup, OfRestore, OfDr, work_of}
use Rattle.task_bucket.specs.declared.Lease.{Lease}
use Rattle.task_bucket.specs.Lists.{Lists, nothing}
use Rattle.task_bucket.specs.Claims.{claimed, after_claim}
use Rattle.task_bucket.specs.Leases.{extended, after_extend}
use Rattle.task_bucket.specs.Holders.{holder_at, HoldersFacts}
use Rattle.task_bucket.specs.Sums.{of_uid, task_at}
use Rattle.backup_core.specs.Backups.{BackupJob}
use Rattle.backup_core.specs.declared.Mode.{Mode}
use Rattle.backup_core.specs.declared.Mode.TheVariants as modes
use Rattle.cluster_core.specs.declared.job.Job.TheVariants as types
use Rattle.cluster_core.specs.Agents.{Memory, new_memory, lease_in, holders_of, memory_at}
use Rattle.cluster_core.specs.Backups.{Backup}
use Rattle.cluster_core.specs.Jobs.{Job}
use Rattle.cluster_core.specs.Sound.{job_at, backup_misfit, misfit, misfits, AgentsSound}
use Rattle.cluster_core.proofs.Lists.{get_set_same, get_set_other, same_or_other}
use Rattle.cluster_core.proofs.Known.{Known}

-- ---- what agents remember, by their numbers

-- after a change each agent remembers what it did, or what it was given
memory_set : (agents : List (Option Memory)) (agent : ℕ) (memory : Option Memory) (number : ℕ) (m : Memory) → memory_at (slice_set agents agent memory) number ≡ Some m → (memory ≡ Some m) ⊎ (memory_at agents number ≡ Some m)
memory_set [] zero memory number m h = inr h
memory_set [] (suc a) memory number m h = inr h
memory_set (x ∷ xs) zero memory zero m h = inl h
memory_set (x ∷ xs) zero memory (suc n) m h = inr h
memory_set (x ∷ xs) (suc a) memory zero m h = inr h
memory_set (x ∷ xs) (suc a) memory (suc n) m h = memory_set xs a memory n m h

pub lease_held : (agents : List (Option Memory)) (agent : ℕ) (memory : Memory) → memory_at agents agent ≡ Some memory → holder_at (holders_of agents) agent ≡ Some memory.lease
lease_held [] zero memory h = cc
lease_held [] (suc a) memory h = cc
lease_held (x ∷ xs) zero memory h = ap lease_in h
lease_held (x ∷ xs) (suc a) memory h = lease_held xs a memory h

holders_set : (agents : List (Option Memory)) (agent : ℕ) (memory : Option Memory) → holders_of (slice_set agents agent memory) ≡ slice_set (holders_of agents) agent (lease_in memory)
holders_set agents agent memory = map-set lease_in agents agent memory

-- nothing is remembered at the start
none_held : (count agent : ℕ) → holder_at (holders_of (replicate count None)) agent ≡ None
none_held zero zero = refl
none_held zero (suc a) = refl
none_held (suc n) zero = refl
none_held (suc n) (suc a) = none_held n a

none_remembered : (count agent : ℕ) (memory : Memory) → memory_at (replicate count None) agent ≡ Some memory → ⊥
none_remembered zero zero memory h = cc
none_remembered zero (suc a) memory h = cc
none_remembered (suc n) zero memory h = cc
none_remembered (suc n) (suc a) memory h = none_remembered n a memory h

-- ---- tasks of jobs

mode_most : (mode : Mode) (work : Option Work) → backup_misfit mode work ≤ 1
mode_most modes.Hand work = omega arith
mode_most modes.Once None = omega arith
mode_most modes.Once (Some (OfBackup work)) = omega arith
mode_most modes.Once (Some (OfRestore work)) = omega arith
mode_most modes.Once (Some (OfDr work)) = omega arith
mode_most modes.Continuous None = omega arith
mode_most modes.Continuous (Some (OfBackup work)) = omega arith
mode_most modes.Continuous (Some (OfRestore work)) = omega arith
mode_most modes.Continuous (Some (OfDr work)) = omega arith

misfit_most : (job : Option Job) (work : Option Work) → misfit job work ≤ 1
misfit_most None work = omega arith
misfit_most (Some (types.Backup backup)) work = mode_most backup.job.terms.mode work

same_most : (n : ℕ) → n ≤ n
same_most n = omega arith

-- no task is one of its job less where other jobs stand for these
abbrev pub FitsStill : List Job → List Job → Type 0
FitsStill old new = (uid : ℕ) (task : SeenTask) → misfits new uid task ≤ misfits old uid task

job_more : (jobs : List Job) (new : Job) (number : ℕ) (work : Option Work) → misfit (job_at (jobs ++ new ∷ []) number) work ≤ misfit (job_at jobs number) work
job_more jobs new zero work = omega arith
job_more [] new (suc n) work = misfit_most (job_at (new ∷ []) (suc n)) work
job_more (x ∷ xs) new (suc zero) work = same_most (misfit (Some x) work)
job_more (x ∷ xs) new (suc (suc n)) work = job_more xs new (suc n) work

-- one job more
pub fits_more : (jobs : List Job) (new : Job) → FitsStill jobs (jobs ++ new ∷ [])
fits_more jobs new uid task = job_more jobs new task.job (work_of task)

job_set : (jobs : List Job) (place : ℕ) (old new : Job) (number : ℕ) (work : Option Work) → slice_get jobs place ≡ Some old → misfit (Some new) work ≡ misfit (Some old) work → misfit (job_at (slice_set jobs place new) number) work ≡ misfit (job_at jobs number) work
job_set jobs place old new zero work at e = refl
job_set jobs place old new (suc n) work at e =
    elim (same_or_other place n) [
      | inl i ↦ ap (λ (o : Option Job). misfit o work) (subst (λ (m : ℕ). slice_get (slice_set jobs place new) m ≡ Some new) i (get_set_same jobs place old new at)) ∙ e ∙ ap (λ (o : Option Job). misfit o work) (sym (subst (λ (m : ℕ). slice_get jobs m ≡ Some old) i at))
      | inr d ↦ ap (λ (o : Option Job). misfit o work) (get_set_other jobs place n new d)
    ]

-- a backup goes on
pub fits_set : (jobs : List Job) (place : ℕ) (old : Backup) (new : BackupJob) → slice_get jobs place ≡ Some (types.Backup old) → new.terms ≡ old.job.terms → FitsStill jobs (slice_set jobs place (types.Backup (record old { job = new })))
fits_set jobs place old new at t uid task =
    let e = job_set jobs place (types.Backup old) (types.Backup (record old { job = new })) task.job (work_of task) at (ap (λ terms. backup_misfit terms.mode (work_of task)) t) in
    omega arith

-- ---- what is kept

pub agents_opening : (k : Known) (last : ℕ) → AgentsSound last 0 1 nothing (replicate (suc last) None) []
agents_opening k last = record {
  numbered = length-replicate (suc last) None;
  uids = omega arith;
  holders = k.holders.empty 0 1 (holders_of (replicate (suc last) None)) (none_held (suc last));
  fits = refl;
  each = λ agent memory e. absurd (none_remembered (suc last) agent memory e);
}

-- time goes on
pub agents_later : (k : Known) (last time later next : ℕ) (bucket : Lists) (agents : List (Option Memory)) (jobs : List Job) → time ≤ later → AgentsSound last time next bucket agents jobs → AgentsSound last later next bucket agents jobs
agents_later k last time later next bucket agents jobs le h = record {
  numbered = h.numbered;
  uids = h.uids;
  holders = (k.holders.keeps time next bucket (holders_of agents) h.holders).later later le;
  fits = h.fits;
  each = h.each;
}

-- jobs go on, or come
pub agents_among : (k : Known) (last time next : ℕ) (bucket : Lists) (agents : List (Option Memory)) (old new : List Job) → FitsStill old new → AgentsSound last time next bucket agents old → AgentsSound last time next bucket agents new
agents_among k last time next bucket agents old new less h = record {
  numbered = h.numbered;
  uids = h.uids;
  holders = h.holders;
  fits = let l = k.sums.less (misfits new) (misfits old) bucket less in let z = h.fits in omega arith;
  each = λ agent memory e. let l = less memory.lease.uid memory.lease.task in let z = h.each agent memory e in omega arith;
}

-- a task in the bucket counts no more than all do
of_uid_less : (f : ℕ → SeenTask → ℕ) (u uid : ℕ) (task : SeenTask) → of_uid u f uid task ≤ f uid task
of_uid_less f u uid task = grind (arith, nat_tests)

fits_at : (k : Known) (jobs : List Job) (bucket : Lists) (uid : ℕ) (task : SeenTask) (last time next : ℕ) (agents : List (Option Memory)) → AgentsSound last time next bucket agents jobs → task_at uid bucket ≡ Some task → misfits jobs uid task ≡ 0
fits_at k jobs bucket uid task last time next agents h at =
    let is = (k.sums.tasks bucket h.holders.once).at (misfits jobs) uid task at in
    let l = k.sums.less (of_uid uid (misfits jobs)) (misfits jobs) bucket (of_uid_less (misfits jobs) uid) in
    let z = h.fits in
    omega arith

-- one agent remembers another thing
each_set : (jobs : List Job) (agents : List (Option Memory)) (agent : ℕ) (memory : Option Memory) → ((m : Memory) → memory ≡ Some m → misfits jobs m.lease.uid m.lease.task ≡ 0) → ((number : ℕ) (m : Memory) → memory_at agents number ≡ Some m → misfits jobs m.lease.uid m.lease.task ≡ 0) → (number : ℕ) (m : Memory) → memory_at (slice_set agents agent memory) number ≡ Some m → misfits jobs m.lease.uid m.lease.task ≡ 0
each_set jobs agents agent memory here there number m e = elim (memory_set agents agent memory number m e) [ inl h ↦ here m h | inr h ↦ there number m h ]

some_is : {X : Type 0} (a b : X) → Some a ≡ Some b → a ≡ b
some_is a b e = cc

held_after : (time next : ℕ) (bucket : Lists) (agents : List (Option Memory)) (agent : ℕ) (memory : Option Memory) → HoldersFacts time next bucket (slice_set (holders_of agents) agent (lease_in memory)) → HoldersFacts time next bucket (holders_of (slice_set agents agent memory))
held_after time next bucket agents agent memory h = subst (HoldersFacts time next bucket) (sym (holders_set agents agent memory)) h

-- an agent claims
pub agents_claim : (k : Known) (last time next length' : ℕ) (bucket : Lists) (agents : List (Option Memory)) (jobs : List Job) (agent pick : ℕ) (lease : Lease) → 1 ≤ length' → claimed time length' pick bucket ≡ Some lease → AgentsSound last time next bucket agents jobs → AgentsSound last time next (after_claim time length' pick bucket) (slice_set agents agent (Some (new_memory lease))) jobs
agents_claim k last time next length' bucket agents jobs agent pick lease pos is h = record {
  numbered = length-set agents agent (Some (new_memory lease)) ∙ h.numbered;
  uids = h.uids;
  holders = held_after time next (after_claim time length' pick bucket) agents agent (Some (new_memory lease)) ((k.holders.keeps time next bucket (holders_of agents) h.holders).claim agent length' pick lease pos is);
  fits = k.sums.claim (misfits jobs) time length' pick bucket h.holders.once ∙ h.fits;
  each = each_set jobs agents agent (Some (new_memory lease)) (λ m e. subst (λ (x : Memory). misfits jobs x.lease.uid x.lease.task ≡ 0) (some_is (new_memory lease) m e) (fits_at k jobs bucket lease.uid lease.task last time next agents h ((k.sums.tasks bucket h.holders.once).claimed time length' pick lease is))) h.each;
}

-- an agent extends its lease
pub agents_extend : (k : Known) (last time next length' : ℕ) (bucket : Lists) (agents : List (Option Memory)) (jobs : List Job) (agent : ℕ) (memory : Memory) (new : Lease) → 1 ≤ length' → memory_at agents agent ≡ Some memory → extended memory.lease (time + length') bucket ≡ Some new → AgentsSound last time next bucket agents jobs → AgentsSound last time next (after_extend memory.lease (time + length') bucket) (slice_set agents agent (Some (record memory { lease = new }))) jobs
agents_extend k last time next length' bucket agents jobs agent memory new pos at is h = record {
  numbered = length-set agents agent (Some (record memory { lease = new })) ∙ h.numbered;
  uids = h.uids;
  holders = held_after time next (after_extend memory.lease (time + length') bucket) agents agent (Some (record memory { lease = new })) ((k.holders.keeps time next bucket (holders_of agents) h.holders).extend agent length' memory.lease new pos (lease_held agents agent memory at) is);
  fits = k.sums.extend (misfits jobs) memory.lease (time + length') bucket ∙ h.fits;
  each = each_set jobs agents agent (Some (record memory { lease = new })) (λ m e. subst (λ (x : Memory). misfits jobs x.lease.uid x.lease.task ≡ 0) (some_is (record memory { lease = new }) m e) (fits_at k jobs bucket memory.lease.uid new.task last time next agents h ((k.sums.tasks bucket h.holders.once).extended memory.lease new (time + length') is))) h.each;
}

-- an agent forgets
pub agents_forget : (k : Known) (last time next : ℕ) (bucket : Lists) (agents : List (Option Memory)) (jobs : List Job) (agent : ℕ) → AgentsSound last time next bucket agents jobs → AgentsSound last time next bucket (slice_set agents agent None) jobs
agents_forget k last time next bucket agents jobs agent h = record {
  numbered = length-set agents agent None ∙ h.numbered;
  uids = h.uids;
  holders = held_after time next bucket agents agent None ((k.holders.keeps time next bucket (holders_of agents) h.holders).forget agent);
  fits = h.fits;
  each = each_set jobs agents agent None (λ m e. cc) h.each;
}

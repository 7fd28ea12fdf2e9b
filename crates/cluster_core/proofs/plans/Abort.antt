-- A plan that gives a job up is carried out.
use Rattle.std.specs.Prelude.{◌≡◌, ℕ, zero, suc, ◌+◌, Bool, true, false, List, [], ◌∷◌, Option, Some, None, Ok, slice_get, slice_set, if◌then◌else◌, refl}
use Rattle.std.proofs.Common.{ap, sym, ◌∙◌, arith, subst}
use Rattle.fb_outside.specs.declared.File.{File}
use Rattle.versioned_kv.specs.declared.Versions.{Versions}
use Rattle.workload_text.specs.declared.Side.{Side}
use Rattle.workload_text.specs.declared.Side.TheVariants.{Src, Dst}
use Rattle.workload_text.specs.declared.Workload.{Workload}
use Rattle.database.specs.declared.JobLog.{JobLog}
use Rattle.database.specs.Logs.{without_log}
use Rattle.database.specs.Commits.{Database}
use Rattle.mutations.specs.declared.Entry.{Entry}
use Rattle.client_core.specs.Clients.{ClientState}
use Rattle.cluster_core.specs.declared.event.Answer.TheVariants as answers
use Rattle.cluster_core.specs.declared.event.Event.TheVariants as events
use Rattle.cluster_core.specs.declared.plan.Plan.TheVariants as plans
use Rattle.cluster_core.specs.declared.job.Job.TheVariants as types
use Rattle.cluster_core.specs.Jobs.{Job, terms_of, is_on, log_on, with_front, logs_of}
use Rattle.backup_core.specs.Backups.{unless_ended, aborted_job}
use Rattle.backup_core.specs.Backups.{log_of as log_of_backup}
use Rattle.cluster_core.specs.Sound.{AreNumbered}
use Rattle.cluster_core.proofs.Numbering.{next_numbered, log_for, log_number, all_higher, dropped, kept_in_front}
use Rattle.cluster_core.specs.State.{State}
use Rattle.cluster_core.specs.Moves.{Fine, moved, Silent}
use Rattle.cluster_core.specs.commands.Abort.{with_abort}
use Rattle.cluster_core.specs.Step.{step}
use Rattle.cluster_core.specs.inner.Plans.{aborts, IsPlan}
use Rattle.cluster_core.specs.inner.World.{Desk, state_of, IsWorld, logs_less}
use Rattle.cluster_core.proofs.plans.Put.{sound_step}

-- an aborted job logs no longer
aborted_off : (side : Side) (job : Job) → log_on side (with_abort job) ≡ None
aborted_off side (types.Backup backup) = go (is_on side backup.side)
  where
    go : (b : Bool) → (if b then unless_ended true (log_for (record backup { job = aborted_job backup.job })) else None) ≡ None
    go true = refl
    go false = refl

off_side : (side : Side) (job : Job) → is_on side (terms_of job).side ≡ false → log_on side job ≡ None
off_side side (types.Backup backup) o = ap (λ (b : Bool). if b then log_of_backup backup.job else None) o

abort_logs : (side : Side) (number : ℕ) (jobs : List Job) (place : ℕ) (job : Job) → AreNumbered number jobs → slice_get jobs place ≡ Some job → logs_of side (slice_set jobs place (with_abort job)) ≡ without_log (number + place) (logs_of side jobs)
abort_logs side number [] zero job n at = cc
abort_logs side number [] (suc place) job n at = cc
abort_logs side number (x ∷ xs) zero job n at =
    ap (λ (o : Option JobLog). with_front o (logs_of side xs)) (aborted_off side job)
    ∙ sym (dropped (number + zero) (log_on side x) (logs_of side xs) (λ log e. log_number side x log e ∙ n zero x refl) (all_higher side (number + zero) (number + 1) xs (next_numbered number x xs n) (omega arith)))
abort_logs side number (x ∷ xs) (suc place) job n at =
    ap (with_front (log_on side x)) (abort_logs side (number + 1) xs place job (next_numbered number x xs n) at ∙ ap (λ (m : ℕ). without_log m (logs_of side xs)) (let e : number + 1 + place ≡ number + suc place = omega arith in e))
    ∙ sym (kept_in_front (log_on side x) (number + suc place) (logs_of side xs) (λ log e d. let a = log_number side x log e in let b = n zero x refl in omega arith))

-- nor does it change the other side's logs
other_logs : (side : Side) (jobs : List Job) (place : ℕ) (job : Job) → slice_get jobs place ≡ Some job → is_on side (terms_of job).side ≡ false → logs_of side (slice_set jobs place (with_abort job)) ≡ logs_of side jobs
other_logs side [] place job at o = refl
other_logs side (x ∷ xs) zero job at o =
    let same : x ≡ job = cc in
    ap (λ (l : Option JobLog). with_front l (logs_of side xs)) (aborted_off side job ∙ sym (ap (log_on side) same ∙ off_side side job o))
other_logs side (x ∷ xs) (suc place) job at o = ap (with_front (log_on side x)) (other_logs side xs place job at o)

pub abort_done : (p : Workload) (w : State) (place next : ℕ) (job : Job) → IsPlan p w (plans.Abort place) → slice_get w.jobs place ≡ Some job → next ≡ w.place + 1 → step p w events.Command (Fine Silent) ≡ moved (Ok answers.Done) (record w { jobs = slice_set w.jobs place (with_abort job); place = next })
abort_done p w place next job plan at e =
    plan (Fine Silent) ∙ ap (aborts w place) at
    ∙ ap (λ (n : ℕ). moved (Ok answers.Done) (record w { jobs = slice_set w.jobs place (with_abort job); place = n })) (sym e)

abort_side : (p : Workload) (side : Side) (src dst : Database) (v : Versions) (clients : List ClientState) (desk : Desk) (files : Option (List File)) (place : ℕ) (job : Job) → IsWorld p src dst v (state_of clients src dst v desk files) → IsPlan p (state_of clients src dst v desk files) (plans.Abort place) → slice_get desk.jobs place ≡ Some job → side ≡ (terms_of job).side → IsWorld p (logs_less side Src (place + 1) src) (logs_less side Dst (place + 1) dst) v (state_of clients (logs_less side Src (place + 1) src) (logs_less side Dst (place + 1) dst) v (record desk { jobs = slice_set desk.jobs place (with_abort job); place = desk.place + 1 }) files)
abort_side p Src src dst v clients desk files place job h plan at s = record {
  src_block = h.src_block;
  dst_block = h.dst_block;
  pace = h.pace;
  src_oldest = h.src_oldest;
  dst_oldest = h.dst_oldest;
  src_logs = ap (without_log (place + 1)) h.src_logs ∙ sym (abort_logs Src 1 desk.jobs place job h.sound.jobs.numbered at ∙ ap (λ (n : ℕ). without_log n (logs_of Src desk.jobs)) (let e : 1 + place ≡ place + 1 = omega arith in e));
  dst_logs = h.dst_logs ∙ sym (other_logs Dst desk.jobs place job at (ap (is_on Dst) (sym s)));
  sound = sound_step p (state_of clients src dst v desk files) (Fine Silent) _ h.sound (abort_done p (state_of clients src dst v desk files) place (desk.place + 1) job plan at refl);
}
abort_side p Dst src dst v clients desk files place job h plan at s = record {
  src_block = h.src_block;
  dst_block = h.dst_block;
  pace = h.pace;
  src_oldest = h.src_oldest;
  dst_oldest = h.dst_oldest;
  src_logs = h.src_logs ∙ sym (other_logs Src desk.jobs place job at (ap (is_on Src) (sym s)));
  dst_logs = ap (without_log (place + 1)) h.dst_logs ∙ sym (abort_logs Dst 1 desk.jobs place job h.sound.jobs.numbered at ∙ ap (λ (n : ℕ). without_log n (logs_of Dst desk.jobs)) (let e : 1 + place ≡ place + 1 = omega arith in e));
  sound = sound_step p (state_of clients src dst v desk files) (Fine Silent) _ h.sound (abort_done p (state_of clients src dst v desk files) place (desk.place + 1) job plan at refl);
}

pub abort_world : (p : Workload) (side : Side) (src dst src' dst' : Database) (v : Versions) (clients : List ClientState) (desk : Desk) (files : Option (List File)) (place next : ℕ) (job : Job) → src' ≡ logs_less side Src (place + 1) src → dst' ≡ logs_less side Dst (place + 1) dst → next ≡ desk.place + 1 → IsWorld p src dst v (state_of clients src dst v desk files) → IsPlan p (state_of clients src dst v desk files) (plans.Abort place) → slice_get desk.jobs place ≡ Some job → side ≡ (terms_of job).side → IsWorld p src' dst' v (state_of clients src' dst' v (record desk { jobs = slice_set desk.jobs place (with_abort job); place = next }) files)
abort_world p side src dst src' dst' v clients desk files place next job a b n h plan at s =
    let P : Database → Database → ℕ → Type 0 = λ x y m. IsWorld p x y v (state_of clients x y v (record desk { jobs = slice_set desk.jobs place (with_abort job); place = m }) files) in
    subst (λ (m : ℕ). P src' dst' m) (sym n) (subst (λ (x : Database). P x dst' (desk.place + 1)) (sym a) (subst (λ (y : Database). P (logs_less side Src (place + 1) src) y (desk.place + 1)) (sym b)
    (abort_side p side src dst v clients desk files place job h plan at s)))

-- and its step leaves the state of these parts
pub abort_state : (p : Workload) (side : Side) (src dst src' dst' : Database) (v : Versions) (clients : List ClientState) (desk : Desk) (files : Option (List File)) (place next : ℕ) (job : Job) → src' ≡ logs_less side Src (place + 1) src → dst' ≡ logs_less side Dst (place + 1) dst → next ≡ desk.place + 1 → IsPlan p (state_of clients src dst v desk files) (plans.Abort place) → slice_get desk.jobs place ≡ Some job → step p (state_of clients src dst v desk files) events.Command (Fine Silent) ≡ moved (Ok answers.Done) (state_of clients src' dst' v (record desk { jobs = slice_set desk.jobs place (with_abort job); place = next }) files)
abort_state p side src dst src' dst' v clients desk files place next job a b n plan at =
    abort_done p (state_of clients src dst v desk files) place next job plan at n
    ∙ ap (λ (h : List Entry). moved (Ok answers.Done) (record (state_of clients src dst v (record desk { jobs = slice_set desk.jobs place (with_abort job); place = next }) files) { src = h })) (sym (ap (λ (x : Database). x.history) a ∙ less_history side Src (place + 1) src))
    ∙ ap (λ (h : List Entry). moved (Ok answers.Done) (record (state_of clients src' dst v (record desk { jobs = slice_set desk.jobs place (with_abort job); place = next }) files) { dst = h })) (sym (ap (λ (x : Database). x.history) b ∙ less_history side Dst (place + 1) dst))
  where
    less_history : (side other : Side) (job : ℕ) (db : Database) → (logs_less side other job db).history ≡ db.history
    less_history Src Src job db = refl
    less_history Src Dst job db = refl
    less_history Dst Src job db = refl
    less_history Dst Dst job db = refl

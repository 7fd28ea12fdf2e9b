-- Clients stay sound while time goes on and jobs come.
use Rattle.std.specs.Prelude.{◌≡◌, ℕ, zero, suc, ◌≤◌, List, [], ◌∷◌, ◌++◌, Some, slice_get, slice_set, if◌then◌else◌}
use Rattle.std.proofs.Common.{ap, sym, ◌∙◌, subst, append_assoc}
use Rattle.fb_bytes.specs.declared.KeyRange.{KeyRange}
use Rattle.mutations.specs.declared.Entry.{Entry}
use Rattle.workload_text.specs.declared.ClientScript.{ClientScript}
use Rattle.workload_text.specs.declared.Settings.{Settings}
use Rattle.workload_text.specs.declared.Side.{Side}
use Rattle.backup_core.specs.Backups.{Terms, BackupJob}
use Rattle.client_core.specs.Clients.{ClientState}
use Rattle.client_core.specs.Sound.{IsSoundClient}
use Rattle.client_core.proofs.Relied.{wait_law}
use Rattle.cluster_core.specs.declared.job.Job.TheVariants as types
use Rattle.cluster_core.specs.Backups.{Backup}
use Rattle.cluster_core.specs.Jobs.{Job, is_on, range_on, ranges_on}
use Rattle.cluster_core.specs.State.{on_side}
use Rattle.cluster_core.specs.Sound.{IsClientSound, AreClientsSound, ground_of}
use Rattle.client_core.proofs.Lists.{append_nil}

-- the ranges of a side's jobs, and some more
abbrev pub HaveMore : List Job → List Job → Type 0
HaveMore old new = (side : Side) → (more : List (List KeyRange)) × (ranges_on side new ≡ ranges_on side old ++ more)

pub no_more : (old new : List Job) → ((side : Side) → ranges_on side new ≡ ranges_on side old) → HaveMore old new
no_more old new e = λ side. ([], e side ∙ sym (append_nil (ranges_on side old)))

ranges_snoc : (side : Side) (jobs : List Job) (job : Job) → ranges_on side (jobs ++ job ∷ []) ≡ ranges_on side jobs ++ range_on side job
ranges_snoc side [] job = append_nil (range_on side job)
ranges_snoc side (x ∷ xs) job = ap (λ (rs : List (List KeyRange)). range_on side x ++ rs) (ranges_snoc side xs job) ∙ sym (append_assoc (range_on side x) (ranges_on side xs) (range_on side job))

-- one job more
pub job_more : (jobs : List Job) (job : Job) → HaveMore jobs (jobs ++ job ∷ [])
job_more jobs job = λ side. (range_on side job, ranges_snoc side jobs job)

same_range : (side : Side) (old : Backup) (new : BackupJob) → new.terms ≡ old.job.terms → range_on side (types.Backup (record old { job = new })) ≡ range_on side (types.Backup old)
same_range side old new t = ap (λ (ranges : List KeyRange). if is_on side old.side then ranges ∷ [] else []) (ap (λ (terms : Terms). terms.ranges) t)

ranges_set : (side : Side) (jobs : List Job) (place : ℕ) (old : Backup) (new : BackupJob) → slice_get jobs place ≡ Some (types.Backup old) → new.terms ≡ old.job.terms → ranges_on side (slice_set jobs place (types.Backup (record old { job = new }))) ≡ ranges_on side jobs
ranges_set side [] zero old new at t = cc
ranges_set side [] (suc n) old new at t = cc
ranges_set side (x ∷ xs) zero old new at t =
    let same : x ≡ types.Backup old = cc in
    ap (λ (rs : List (List KeyRange)). rs ++ ranges_on side xs) (same_range side old new t ∙ ap (range_on side) (sym same))
ranges_set side (x ∷ xs) (suc n) old new at t = ap (λ (rs : List (List KeyRange)). range_on side x ++ rs) (ranges_set side xs n old new at t)

-- a job goes on
pub job_goes_on : (jobs : List Job) (place : ℕ) (old : Backup) (new : BackupJob) → slice_get jobs place ≡ Some (types.Backup old) → new.terms ≡ old.job.terms → HaveMore jobs (slice_set jobs place (types.Backup (record old { job = new })))
job_goes_on jobs place old new at t = no_more jobs (slice_set jobs place (types.Backup (record old { job = new }))) (λ side. ranges_set side jobs place old new at t)

pub client_waits : (s : Settings) (time later : ℕ) (old new : List Job) (src dst : List Entry) (number : ℕ) (client : ClientState) → time ≤ later → HaveMore old new → IsClientSound s time old src dst number client → IsClientSound s later new src dst number client
client_waits s time later old new src dst number client le more k =
    let m = more client.script.side in
    record {
      sound = subst (λ (rs : List (List KeyRange)). IsSoundClient (record { block = s.block; pace = s.pace; tries = s.tries; logged = rs; history = on_side client.script.side src dst }) later number client) (sym m.1)
          (wait_law (ground_of s client.script.side old src dst) time later number m.0 client le k.sound);
      apart = k.apart;
    }

pub clients_wait : (s : Settings) (scripts : List ClientScript) (time later : ℕ) (old new : List Job) (src dst : List Entry) (clients : List ClientState) → time ≤ later → HaveMore old new → AreClientsSound s scripts time old src dst clients → AreClientsSound s scripts later new src dst clients
clients_wait s scripts time later old new src dst clients le more h = record {
  scripts_are = h.scripts_are;
  each = λ number client at. client_waits s time later old new src dst number client le more (h.each number client at);
}

-- What each step keeps of a backup.
use Rattle.std.specs.Prelude.{◌≡◌, ◌≢◌, ℕ, ◌+◌, ◌≤◌, min, true, false, List, []}
use Rattle.std.specs.List.{AllByRecursion}
use Rattle.fb_bytes.specs.Bytes.{Bytes}
use Rattle.fb_bytes.specs.declared.KeyRange.{KeyRange}
use Rattle.fb_bytes.specs.Keys.{in_ranges, AreSeparate}
use Rattle.task_kinds.specs.declared.JobState.TheVariants.{Submitted, RunningDifferential}
use Rattle.task_kinds.specs.States.{has_ended}
use Rattle.snapshot_plan.specs.declared.JobSettings.{JobSettings}
use Rattle.snapshot_plan.specs.declared.Noted.{Noted}
use Rattle.snapshot_plan.specs.Listing.{noted_names, AreDistinct, HaveRangeNames}
use Rattle.snapshot_plan.specs.Noted.{pieces_of}
use Rattle.snapshot_plan.specs.Pieces.{ArePieces}
use Rattle.container_view.specs.Folder.{Folder}
use Rattle.container_view.specs.Law.{Source, IsHonest}
use Rattle.backup_core.specs.declared.mode.Mode.{Mode}
use Rattle.backup_core.specs.declared.mode.Mode.TheVariants.{Hand, Once, Continuous}
use Rattle.backup_core.specs.Backups.{BackupJob}
use Rattle.backup_core.specs.Counts.{one_if, count_holding, starts, dispatches, ranges, manifests}
use Rattle.backup_core.specs.Counts.{log_dispatches, logs, erases, finishes, any, holding}
use Rattle.backup_core.specs.Counts.{improper, strays}
use Rattle.backup_core.specs.Manifests.{NotedThere, AreInside}
use Rattle.backup_core.specs.Rows.{is_ending}
use Rattle.backup_core.specs.Tasks.{Load}

-- What the facts on a backup read: the newest version, and the sums over its tasks.
pub record View : Type 0 where
  pub now : ℕ
  pub load : Load

-- what the plan of a snapshot owes: pieces in key order that together hold exactly the ranges' keys
pub record IsPlan (ranges plan : List KeyRange) : Type 0 where
  pub pieces : ArePieces plan
  pub same : (key : Bytes) → in_ranges plan key ≡ in_ranges ranges key

-- settings that tasks can go by
pub record AreSettings (settings : JobSettings) : Type 0 where
  pub shard : 1 ≤ settings.shard
  pub span : 1 ≤ settings.span
  pub rest : 1 ≤ settings.rest

-- ---- the log of a backup that goes on

-- Its log files reach from the versions that are kept to those that may be, and so does each open
-- log task. It logs exactly once its start task is closed.
pub record LogFacts (job : BackupJob) (view : View) : Type 0 where
  pub begun : job.begin ≤ job.erased
  pub erased : job.erased ≤ job.next
  pub next : job.next ≤ view.now + 1
  pub strays : view.load (strays job.erased job.next) ≡ 0
  pub logs : view.load starts ≡ 0 → job.started ≡ true
  pub waits : 1 ≤ view.load starts → job.started ≡ false

-- ---- the two lines of a backup's tasks

-- many count as one
abbrev pub some_of : ℕ → ℕ
some_of n = min 1 n

-- Each line has exactly one token: an open task, or all open pieces, or all open log tasks; the
-- line of the snapshots ends once the snapshot is done.
pub record LineFacts (job : BackupJob) (view : View) : Type 0 where
  pub settings : AreSettings job.terms.settings
  pub snapshots : view.load starts + view.load dispatches + some_of (view.load ranges)
      + view.load manifests + one_if job.done ≡ 1
  pub logs : view.load starts + view.load log_dispatches + some_of (view.load logs)
      + view.load erases + view.load finishes ≡ 1
  pub submitted : job.state ≡ Submitted → 1 ≤ view.load starts
  -- it finishes only where it is to end and its snapshot is done
  pub finishing : 1 ≤ view.load finishes → (job.done ≡ true) × (is_ending job ≡ true)
  pub differential : job.state ≡ RunningDifferential
      → (job.done ≡ true) × (is_ending job ≡ false)
  -- each open piece has a key
  pub proper : view.load improper ≡ 0
  -- once a dispatch is closed each key of the ranges is in exactly one piece, open or noted, and no
  -- other key is in one
  pub tiles : view.load starts + view.load dispatches ≡ 0
      → (key : Bytes)
      → view.load (holding key) + count_holding (pieces_of job.noted) key
      ≡ one_if (in_ranges job.terms.ranges key)

-- A hand job has no task, and logs from its begin on.
pub record HandFacts (job : BackupJob) (view : View) : Type 0 where
  pub none : view.load any ≡ 0
  pub started : job.started ≡ true

abbrev pub WorkFacts : Mode → BackupJob → View → Type 0
WorkFacts Hand job view = HandFacts job view
WorkFacts Once job view = LineFacts job view
WorkFacts Continuous job view = LineFacts job view

-- of a backup that goes on
pub record OpenFacts (job : BackupJob) (view : View) : Type 0 where
  pub log : LogFacts job view
  pub work : WorkFacts job.terms.mode job view

-- ---- all together

-- The noted pieces are in order, and in the ranges. Each has a file of its own, whose version isn't
-- past the newest one.
pub record NotedFacts (ranges : List KeyRange) (now : ℕ) (noted : List Noted) : Type 0 where
  pub pieces : ArePieces (pieces_of noted)
  pub inside : AreInside ranges noted
  pub past : AllByRecursion (λ n. n.file.version ≤ now) noted
  pub names : HaveRangeNames noted
  pub distinct : AreDistinct (noted_names noted)

pub record JobFacts (job : BackupJob) (view : View) : Type 0 where
  pub separate : AreSeparate job.terms.ranges
  pub some : job.terms.ranges ≢ []
  pub noted : NotedFacts job.terms.ranges view.now job.noted
  pub snapshot : job.snapshot ≤ view.now
  pub goes_on : has_ended job.state ≡ false → OpenFacts job view
  -- a job that has ended has no task
  pub ended : has_ended job.state ≡ true → view.load any ≡ 0

-- ---- its files

-- The file of a noted piece is there where its version isn't below the unreliable end.
abbrev pub IsThere : Folder → Noted → Type 0
IsThere folder n = folder.unreliable ≤ n.file.version → NotedThere folder.ranges n

-- what is kept of the files in a backup's container
pub record FileFacts (job : BackupJob) (source : Source) (folder : Folder) : Type 0 where
  pub ranges : source.ranges ≡ job.terms.ranges
  pub honest : IsHonest source folder
  pub there : AllByRecursion (IsThere folder) job.noted

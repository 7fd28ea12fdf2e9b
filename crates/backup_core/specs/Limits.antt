-- Pieces of which files can be made: their ends are within the limit on keys.
use Rattle.std.specs.Prelude.{◌≡◌, ℕ, ◌<◌, ◌^◌, ◌&&◌, not, Bool, true, List, length, Option, nat_le, nat_lt}
use Rattle.std.specs.List.{AllByRecursion}
use Rattle.fb_bytes.specs.declared.KeyRange.{KeyRange}
use Rattle.block_frame.specs.Profiles.{key_limit_of}
use Rattle.mutations.specs.declared.Entry.{Entry}
use Rattle.task_kinds.specs.Works.{BackupWork, BackupStart, BackupDispatch, BackupRange}
use Rattle.task_kinds.specs.Works.{BackupManifest, BackupLogs, BackupLog, BackupErase}
use Rattle.task_kinds.specs.Works.{BackupFinish}
use Rattle.snapshot_plan.specs.declared.Done.{Done}
use Rattle.snapshot_plan.specs.Plans.{pieces}
use Rattle.database.specs.Dumps.{pairs_at, AreWithin}
use Rattle.backup_core.specs.Backups.{BackupJob}
use Rattle.backup_core.specs.Counts.{one_if}
use Rattle.backup_core.specs.Facts.{View}
use Rattle.backup_core.specs.Laws.{Closes}
use Rattle.backup_core.specs.Rows.{Scene, Row}
use Rattle.backup_core.specs.Taken.{WorkFits}
use Rattle.backup_core.specs.Tasks.{HasTask}

abbrev pub is_short : ℕ → KeyRange → Bool
is_short block range =
    nat_le (length range.begin) (key_limit_of block)
    && nat_le (length range.end) (key_limit_of block)

-- the ends of each range are within the limit
abbrev pub AreShort : ℕ → List KeyRange → Type 0
AreShort block ranges = AllByRecursion (λ range. is_short block range ≡ true) ranges

-- a piece with a longer end, or of a snapshot whose number fits no name
abbrev pub unfit : ℕ → BackupWork → ℕ
unfit block BackupStart = 0
unfit block BackupDispatch = 0
unfit block (BackupRange snapshot piece) =
    one_if (not (nat_lt snapshot (2 ^ 63) && is_short block piece))
unfit block (BackupManifest snapshot) = 0
unfit block BackupLogs = 0
unfit block (BackupLog begin end) = 0
unfit block BackupErase = 0
unfit block BackupFinish = 0

-- what is kept of a backup's pieces in a database with blocks of a size
pub record LimitFacts (block : ℕ) (job : BackupJob) (view : View) : Type 0 where
  pub ranges : AreShort block job.terms.ranges
  pub tasks : view.load (unfit block) ≡ 0

pub record LimitLaw : Type 0 where
  -- so a file can be made of each open piece
  pub fits : (block : ℕ) (job : BackupJob) (view : View) (work : BackupWork)
      → LimitFacts block job view → HasTask view.load work → WorkFits block work
  -- each close leaves that, where its plan has such pieces
  pub row : (block : ℕ) (old : View) (scene : Scene) (work : BackupWork) (file : Option Done)
      (job : BackupJob) (row : Row) (new : View) → Closes old scene work file job row new
      → scene.now < 2 ^ 63 → AreShort block scene.pieces → LimitFacts block job old
      → LimitFacts block row.job new
  -- and so it has, by the keys that are there
  pub plan : (block shard now : ℕ) (history : List Entry) (range : KeyRange)
      (ranges : List KeyRange) → AreWithin block history → AreShort block ranges
      → AreShort block (pieces shard (pairs_at block history now range) ranges)

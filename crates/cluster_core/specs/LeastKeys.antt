-- The keys that the refusals of a dump and of a seal name.
use Rattle.std.specs.Prelude.{◌≡◌, false, Some}
use Rattle.fb_bytes.specs.Bytes.{Bytes}
use Rattle.fb_bytes.specs.declared.KeyRange.{KeyRange}
use Rattle.snapshot_plan.specs.Laws.{IsOutside, IsInside, IsHeld, IsApart, IsUntiled, IsTiled}
use Rattle.workload_text.specs.declared.Command.TheVariants.{Dump, Seal}
use Rattle.workload_text.specs.declared.Workload.{Workload}
use Rattle.cluster_core.specs.declared.refusal.Refusal.TheVariants.{OutsideRanges, Overlap, Untiled}
use Rattle.task_kinds.specs.States.{has_ended}
use Rattle.backup_core.specs.Backups.{map_of}
use Rattle.cluster_core.specs.declared.job.Job.TheVariants as types
use Rattle.cluster_core.specs.Backups.{FoundBackup}
use Rattle.cluster_core.specs.Jobs.{newest}
use Rattle.cluster_core.specs.State.{State}
use Rattle.cluster_core.specs.Moves.{Luck, Moved}
use Rattle.cluster_core.specs.commands.Shared.{refuses}
use Rattle.cluster_core.specs.commands.Dump.{dump_put}
use Rattle.cluster_core.specs.commands.Seal.{seal_put}
use Rattle.cluster_core.specs.Operator.{command_gives}
use Rattle.cluster_core.specs.Sound.{Sound}

-- A dump is refused for the least key of its piece outside the job's ranges, else for the least
-- that is held.
pub record DumpsBy (found : FoundBackup) (piece : KeyRange) (w : State) (gives put : Moved)
    : Type 0 where
  pub outside : (key : Bytes) → IsOutside (map_of found.backup.job) piece key
      → gives ≡ refuses (OutsideRanges key) w
  pub held : (key : Bytes) → IsInside (map_of found.backup.job) piece
      → IsHeld (map_of found.backup.job) piece key
      → gives ≡ refuses (Overlap key) w
  pub free : IsInside (map_of found.backup.job) piece → IsApart (map_of found.backup.job) piece
      → gives ≡ put

-- A seal is refused for the least key of the job's ranges that no noted piece holds.
pub record SealsBy (found : FoundBackup) (w : State) (gives put : Moved) : Type 0 where
  pub untiled : (key : Bytes) → IsUntiled (map_of found.backup.job) key
      → gives ≡ refuses (Untiled key) w
  pub tiled : IsTiled (map_of found.backup.job) → gives ≡ put

-- In a sound state the newest job with a tag, where it hasn't ended, dumps and seals by the least
-- keys alone.
abbrev pub LeastKeyLaw : Type 0
LeastKeyLaw =
    (p : Workload) (w : State) (luck : Luck) (tag : Bytes) (piece : KeyRange) (found : FoundBackup)
    → Sound p w
    → newest tag w.jobs
    ≡ Some (record { place = found.place; job = types.Backup found.backup })
    → has_ended found.backup.job.state ≡ false
    → DumpsBy found piece w (command_gives p.settings w luck (Dump tag piece))
    (dump_put p.settings w found piece luck)
    × SealsBy found w (command_gives p.settings w luck (Seal tag)) (seal_put w found luck)

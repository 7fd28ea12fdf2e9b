-- The command dump: a piece of a job's ranges is put as a range file.
use Rattle.std.specs.Prelude.{length, Option, Some}
use Rattle.std.specs.Prelude.{None}
use Rattle.fb_bytes.specs.Bytes.{Bytes}
use Rattle.fb_bytes.specs.declared.KeyRange.{KeyRange}
use Rattle.range_files.specs.Writing.{range_text}
use Rattle.container_view.specs.Files.{whole_name}
use Rattle.snapshot_plan.specs.Noted.{pieces_of}
use Rattle.snapshot_plan.specs.Pieces.{outside, overlap}
use Rattle.snapshot_plan.specs.declared.Done as plans
use Rattle.database.specs.Dumps.{pairs_at}
use Rattle.backup_core.specs.Backups.{range_name, text_of, dumped}
use Rattle.workload_text.specs.declared.Side.{Side}
use Rattle.workload_text.specs.declared.Settings.{Settings}
use Rattle.cluster_core.specs.declared.refusal.Refusal.TheVariants.{OutsideRanges}
use Rattle.cluster_core.specs.declared.refusal.Refusal.TheVariants.{Overlap}
use Rattle.cluster_core.specs.declared.job.Job.TheVariants as types
use Rattle.cluster_core.specs.Backups.{Backup, FoundBackup}
use Rattle.cluster_core.specs.State as machine
use Rattle.cluster_core.specs.State.{history_on, with_job}
use Rattle.cluster_core.specs.Moves.{Luck, Moved}
use Rattle.cluster_core.specs.commands.Shared.{refuses, putting}

-- the range file of a piece of a side's database, as it is now
abbrev pub piece_bytes : Settings → machine.State → Side → KeyRange → Bytes
piece_bytes settings state side piece =
    range_text settings.block piece.begin piece.end
    (pairs_at settings.block (history_on side state) state.time piece)

abbrev pub dump_bytes : Settings → machine.State → Backup → KeyRange → Bytes
dump_bytes settings state backup piece = piece_bytes settings state backup.side piece

abbrev pub dump_name : Settings → machine.State → Backup → Bytes
dump_name settings state backup =
    text_of (range_name backup.job state.time state.tickets settings.block)

-- what a manifest will say of the range file of a piece
abbrev pub dump_done : Settings → machine.State → Backup → KeyRange → plans.Done
dump_done settings state backup piece =
    record {
      name = dump_name settings state backup;
      version = state.time;
      bytes = length (dump_bytes settings state backup piece);
    }

-- the backup once the piece was dumped
abbrev pub with_dump : Settings → machine.State → Backup → KeyRange → Backup
with_dump settings state backup piece =
    record backup {
      job = dumped backup.job piece state.time (dump_done settings state backup piece);
    }

abbrev pub dump_put : Settings → machine.State → FoundBackup → KeyRange → Luck → Moved
dump_put settings state found piece luck =
    putting state (whole_name found.backup.container (dump_name settings state found.backup))
    (dump_bytes settings state found.backup piece)
    (with_job found.place (types.Backup (with_dump settings state found.backup piece)) state) luck

-- a key outside the job's ranges is named first, then one that a noted piece holds
abbrev pub dump_tested : Settings → machine.State → FoundBackup → KeyRange → Luck → Option Bytes
    → Option Bytes → Moved
dump_tested settings state found piece luck (Some key) held = refuses (OutsideRanges key) state
dump_tested settings state found piece luck None (Some key) = refuses (Overlap key) state
dump_tested settings state found piece luck None None = dump_put settings state found piece luck

abbrev pub dump_piece : Settings → machine.State → KeyRange → Luck → FoundBackup → Moved
dump_piece settings state piece luck found =
    dump_tested settings state found piece luck (outside found.backup.job.terms.ranges piece)
    (overlap (pieces_of found.backup.job.noted) piece)

-- The command cut: what a backup logged since the last one is put as a log file.
use Rattle.std.specs.Prelude.{◌+◌}
use Rattle.std.specs.Prelude.{nat_lt, if◌then◌else◌}
use Rattle.fb_bytes.specs.Bytes.{Bytes}
use Rattle.mutations.specs.Histories.{logged}
use Rattle.log_files.specs.Writing.{log_text}
use Rattle.container_view.specs.Files.{whole_name}
use Rattle.backup_core.specs.Backups.{log_name, text_of}
use Rattle.backup_core.specs.Backups.{cut_to}
use Rattle.workload_text.specs.declared.Settings.{Settings}
use Rattle.cluster_core.specs.declared.refusal.Refusal.TheVariants.{NothingNew}
use Rattle.cluster_core.specs.declared.job.Job.TheVariants as types
use Rattle.cluster_core.specs.Backups.{Backup, FoundBackup}
use Rattle.cluster_core.specs.State as machine
use Rattle.cluster_core.specs.State.{history_on, with_job}
use Rattle.cluster_core.specs.Moves.{Luck, Moved}
use Rattle.cluster_core.specs.commands.Shared.{refuses, putting}

abbrev pub cut_bytes : Settings → machine.State → Backup → Bytes
cut_bytes settings state backup =
    log_text settings.block
    (logged (history_on backup.side state) backup.job.terms.ranges backup.job.next
    (state.time + 1))

abbrev pub cut_name : Settings → machine.State → Backup → Bytes
cut_name settings state backup =
    text_of (log_name backup.job state.time state.tickets settings.block)

abbrev pub with_cut : machine.State → Backup → Backup
with_cut state backup = record backup { job = cut_to backup.job state.time }

abbrev pub cut_put : Settings → machine.State → Luck → FoundBackup → Moved
cut_put settings state luck found =
    putting state (whole_name found.backup.container (cut_name settings state found.backup))
    (cut_bytes settings state found.backup)
    (with_job found.place (types.Backup (with_cut state found.backup)) state) luck

-- the log from the last cut to the newest version, which may not be cut yet
abbrev pub cut_log : Settings → machine.State → Luck → FoundBackup → Moved
cut_log settings state luck found =
    if nat_lt state.time found.backup.job.next then refuses (NothingNew state.time) state
    else cut_put settings state luck found

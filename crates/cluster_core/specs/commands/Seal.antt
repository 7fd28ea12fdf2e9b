-- The command seal: the manifest of a job's pieces is put.
use Rattle.std.specs.Prelude.{ℕ, Option, Some}
use Rattle.std.specs.Prelude.{None, Err, nat_lt, if◌then◌else◌}
use Rattle.fb_bytes.specs.Bytes.{Bytes}
use Rattle.manifests.specs.Grammar.{manifest_text}
use Rattle.container_view.specs.Files.{whole_name}
use Rattle.snapshot_plan.specs.Noted.{gap, manifest_of, most_bytes}
use Rattle.backup_core.specs.Backups.{manifest_name, text_of}
use Rattle.backup_core.specs.Backups.{map_of, sealed}
use Rattle.cluster_core.specs.declared.event.StepFault.TheVariants.{NoMemory}
use Rattle.cluster_core.specs.declared.refusal.Refusal.TheVariants.{Untiled}
use Rattle.cluster_core.specs.declared.job.Job.TheVariants as types
use Rattle.cluster_core.specs.Backups.{Backup, FoundBackup}
use Rattle.cluster_core.specs.State as machine
use Rattle.cluster_core.specs.State.{with_job}
use Rattle.cluster_core.specs.Moves.{Luck, Moved, moved}
use Rattle.cluster_core.specs.commands.Shared.{refuses, putting}

abbrev pub seal_name : machine.State → Backup → Bytes
seal_name state backup = text_of (manifest_name backup.job state.tickets)

abbrev pub with_seal : Backup → Backup
with_seal backup = record backup { job = sealed backup.job }

-- the bytes of all files of a job's snapshot
abbrev pub snapshot_bytes : Backup → ℕ
snapshot_bytes backup = (manifest_of backup.job.noted).bytes

abbrev pub seal_fitting : machine.State → FoundBackup → Luck → Moved
seal_fitting state found luck =
    putting state (whole_name found.backup.container (seal_name state found.backup))
    (manifest_text (manifest_of found.backup.job.noted))
    (with_job found.place (types.Backup (with_seal found.backup)) state) luck

-- more bytes than a name has room for are want of memory
abbrev pub seal_put : machine.State → FoundBackup → Luck → Moved
seal_put state found luck =
    if nat_lt most_bytes (snapshot_bytes found.backup) then moved (Err NoMemory) state
    else seal_fitting state found luck

abbrev pub seal_tested : machine.State → FoundBackup → Luck → Option Bytes → Moved
seal_tested state found luck (Some key) = refuses (Untiled key) state
seal_tested state found luck None = seal_put state found luck

-- the manifest of the pieces that were dumped, which have to tile the ranges
abbrev pub seal_job : machine.State → Luck → FoundBackup → Moved
seal_job state luck found = seal_tested state found luck (gap (map_of found.backup.job))

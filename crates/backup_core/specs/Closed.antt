-- What the closes of tasks change beside their backup.
use Rattle.std.specs.Prelude.{ℕ}
use Rattle.database.specs.declared.JobLog.{JobLog}
use Rattle.database.specs.declared.SystemFault.{SystemFault}
use Rattle.database.specs.declared.SystemFault.TheVariants as system
use Rattle.backup_core.specs.declared.fault.CloseFault.{CloseFault}
use Rattle.backup_core.specs.declared.fault.CloseFault.TheVariants as faults
use Rattle.backup_core.specs.Backups.{BackupJob}

-- what a fault of the database is to a close
abbrev pub close_fault : SystemFault → CloseFault
close_fault (system.VersionsSpent version) = faults.VersionsSpent version
close_fault (system.LogTooLarge bytes) = faults.LogTooLarge bytes
close_fault system.NoMemory = faults.NoMemory

-- the log of a job that begins at a version
abbrev pub log_at : ℕ → BackupJob → JobLog
log_at version job =
    record {
      job = job.terms.number;
      ranges = job.terms.ranges;
      begin = version;
      erased = version;
    }

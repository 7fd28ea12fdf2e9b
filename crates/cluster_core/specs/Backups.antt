-- What contracts see of a backup among the jobs.
use Rattle.std.specs.Prelude.{ℕ}
use Rattle.fb_bytes.specs.Bytes.{Bytes}
use Rattle.workload_text.specs.declared.Side.{Side}
use Rattle.backup_core.specs.Backups.{BackupJob}

-- a backup: its tag, the database that it reads, the container that it writes to, and what its
-- crate keeps
pub record Backup : Type 0 where
  pub tag : Bytes
  pub side : Side
  pub container : Bytes
  pub job : BackupJob

-- a backup and its place among the jobs, from 0
pub record FoundBackup : Type 0 where
  pub place : ℕ
  pub backup : Backup

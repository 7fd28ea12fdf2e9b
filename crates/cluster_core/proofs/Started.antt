-- Which containers jobs started.
use Rattle.std.specs.Prelude.{◌≡◌, Some, refl}
use Rattle.backup_core.specs.declared.Mode.{Mode}
use Rattle.backup_core.specs.declared.Mode.TheVariants as modes
use Rattle.cluster_core.specs.declared.job.Job.TheVariants as types
use Rattle.cluster_core.specs.Backups.{Backup}
use Rattle.cluster_core.specs.Jobs.{kind_of, terms_of, started_as, started}

-- a backup started its container, whatever its mode
pub started_backup : (backup : Backup) → started (terms_of (types.Backup backup)) ≡ Some backup.container
started_backup backup = go backup.job.terms.mode
  where
    go : (mode : Mode) → started_as (kind_of mode) (Some backup.container) ≡ Some backup.container
    go modes.Hand = refl
    go modes.Once = refl
    go modes.Continuous = refl

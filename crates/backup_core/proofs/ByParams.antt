-- A manifest task that is open finds no gap.
use Rattle.std.proofs.Common.{◌≡◌, ℕ, Some, None, sym, ap, ◌∙◌, subst}
use Rattle.task_kinds.specs.declared.Kind.{Kind}
use Rattle.task_kinds.specs.declared.Kind.TheVariants as kinds
use Rattle.task_kinds.specs.declared.Params.TheVariants.{Snapshot}
use Rattle.task_kinds.specs.Tasks.{SeenTask}
use Rattle.task_kinds.specs.Works.{BackupWork, BackupManifest, OfBackup, work_with}
use Rattle.snapshot_plan.specs.Noted.{gap}
use Rattle.database.specs.Commits.{Database}
use Rattle.backup_core.specs.Backups.{BackupJob, map_of}
use Rattle.backup_core.specs.Tasks.{HasTask}
use Rattle.backup_core.specs.Taken.{CanTake}
use Rattle.backup_core.proofs.Takes.{no_gap}

snapshot_work : (kind : Kind) (snapshot : ℕ) (work : BackupWork) → work_with kind (Snapshot snapshot) ≡ Some (OfBackup work) → work ≡ BackupManifest snapshot
snapshot_work kinds.BackupManifest snapshot work e = cc
snapshot_work _ snapshot work e = absurd cc

pub manifest_tiled : (db : Database) (now : ℕ) (job : BackupJob) (task : SeenTask) (h : CanTake db now job task) (snapshot : ℕ) → task.params ≡ Snapshot snapshot → gap (map_of job) ≡ None
manifest_tiled db now job task h snapshot p =
    let work : h.is_open.work ≡ BackupManifest snapshot = snapshot_work task.kind snapshot h.is_open.work (sym (ap (work_with task.kind) p) ∙ h.is_open.of_job.work_is) in
    no_gap job (record { now = now; load = h.is_open.load }) h.is_open.facts h.is_open.sums snapshot (subst (HasTask h.is_open.load) work h.is_open.has)

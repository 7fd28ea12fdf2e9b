use Rattle.std.proofs.Common.{sym, ◌∙◌}
use Rattle.backup_core.proofs.ByParams.{manifest_tiled}
use Rattle.backup_core.proofs.backup.BackupJob.take.Goals as goal

pub take_manifest-requires : goal.take_manifest-requires
take_manifest-requires c = manifest_tiled c.args.db.now c.args.versions.now.now c.args.self.now c.args.task.now c.requires _ (sym c.params.ensures ∙ c.in-Snapshot.is)

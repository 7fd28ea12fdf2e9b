use Rattle.std.proofs.Common.{◌≤◌, ap, sym, ◌∙◌, subst}
use Rattle.fb_bytes.specs.Bytes.{Bytes}
use Rattle.snapshot_plan.specs.Noted.{gap, manifest_of, most_bytes}
use Rattle.manifests.specs.declared.Manifest.{Manifest}
use Rattle.backup_core.specs.Backups.{BackupJob, map_of}
use Rattle.cluster_core.specs.commands.Shared.{refuses}
use Rattle.cluster_core.specs.declared.refusal.Refusal.TheVariants.{Untiled}
use Rattle.cluster_core.proofs.commands.Seal.{seal_refused, seal_planned, seal_safe}
use Rattle.cluster_core.proofs.world.World.plan_seal.Goals as goal

pub returns-in-Ok-clause-plan : goal.returns-in-Ok-clause-plan
returns-in-Ok-clause-plan g c job at =
    seal_planned c.args.self.now.workload.settings c.args.self.now.state c.args.place c.backup_at-backup.result.now job c.in_ok-filing-in-Ok.filing
    c.backup_at-backup.ensures
    (ap (λ (j : BackupJob). gap (map_of j)) (sym c.job.ensures) ∙ c.in-Ok.ensures.ok.0) (subst (λ (m : Manifest). m.bytes ≤ most_bytes) (c.in-Ok.ensures.ok.1 ∙ ap (λ (j : BackupJob). manifest_of j.noted) c.job.ensures) c.in-Ok.ensures.fits) c.in_ok-filing-in-Ok.ensures.file at

pub returns-in-Ok-clause-safe : goal.returns-in-Ok-clause-safe
returns-in-Ok-clause-safe g c =
    seal_safe c.args.self.now.state c.args.place c.backup_at-backup.result.now c.in_ok-filing-in-Ok.filing
    c.backup_at-backup.ensures c.in_ok-filing-in-Ok.ensures.file c.in_ok-filing-in-Ok.ensures.drawn

pub returns-in-Err-Untiled-clause-plan : goal.returns-in-Err-Untiled-clause-plan
returns-in-Err-Untiled-clause-plan g c job at luck =
    seal_refused c.args.self.now.workload.settings c.args.self.now.state c.args.place c.backup_at-backup.result.now job c.job.result.now c.in-Err-Untiled.field-0 c.in-Err-Untiled.key
    c.backup_at-backup.ensures c.job.ensures c.in-Err-Untiled.ensures.err c.in-Err-Untiled.field-0-is at luck
    ∙ ap (λ (key : Bytes). refuses (Untiled key) c.args.self.now.state) (sym c.in-Err-Untiled.key-is)

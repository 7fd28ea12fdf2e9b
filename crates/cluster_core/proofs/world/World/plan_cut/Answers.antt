use Rattle.std.proofs.Common.{◌≤◌, ap, sym, ◌∙◌, subst}
use Rattle.database.specs.Commits.{most_version}
use Rattle.task_kinds.specs.States.{has_ended}
use Rattle.backup_core.specs.Backups.{BackupJob}
use Rattle.cluster_core.specs.declared.job.Job.TheVariants as types
use Rattle.cluster_core.specs.Jobs.{Job, state_of_job}
use Rattle.cluster_core.specs.World.{Seen}
use Rattle.cluster_core.proofs.commands.Jobs.{some_is}
use Rattle.cluster_core.proofs.commands.Cut.{cut_refused, cut_planned, cut_safe}
use Rattle.cluster_core.proofs.world.World.plan_cut.Goals as goal

pub returns-then-version-next-clause-plan : goal.returns-then-version-next-clause-plan
returns-then-version-next-clause-plan g c job at =
    cut_refused c.args.self.now.workload.settings c.args.self.now.state c.args.place c.backup_at-backup.result.now job c.self.inside.versions.now c.next.result
    c.backup_at-backup.ensures
    (c.next.ensures ∙ ap (λ (j : BackupJob). j.next) c.job.ensures) c.if-version-next.true (ap (λ (seen : Seen). seen.state.time) c.self.view_is) at

pub cut-requires-clause-running : goal.cut-requires-clause-running
cut-requires-clause-running g c κs within =
    ap (λ (job : Job). has_ended (state_of_job job)) (some_is (types.Backup c.backup_at-backup.result.now) c.requires.at.0 (sym c.backup_at-backup.ensures ∙ c.requires.at.1)) ∙ c.requires.at.2

pub returns-clause-plan : goal.returns-clause-plan
returns-clause-plan g c job at =
    cut_planned c.args.self.now.workload.settings c.args.self.now.state c.args.place c.backup_at-backup.result.now job c.self.inside.versions.now c.next.result c.in_ok-filing.filing
    c.backup_at-backup.ensures
    (c.next.ensures ∙ ap (λ (j : BackupJob). j.next) c.job.ensures) c.if-version-next.false (ap (λ (seen : Seen). seen.state.time) c.self.view_is) c.in_ok-filing.ensures.file at

pub returns-clause-safe : goal.returns-clause-safe
returns-clause-safe g c =
    cut_safe c.args.self.now.workload.settings c.args.self.now.state c.args.place c.backup_at-backup.result.now c.in_ok-filing.filing
    c.backup_at-backup.ensures c.in_ok-filing.ensures.file c.in_ok-filing.ensures.drawn (subst (λ (seen : Seen). seen.state.time ≤ most_version) c.self.view_is c.self.invariant.sound.clock.bound)

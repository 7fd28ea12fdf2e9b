use Rattle.cluster_core.proofs.commands.Dump.{dump_planned, dump_safe}
use Rattle.cluster_core.proofs.world.World.plan_dump.Goals as goal

pub returns-in-Ok-clause-plan : goal.returns-in-Ok-clause-plan
returns-in-Ok-clause-plan g c = dump_planned c.args.self.now.workload.settings c.args.self.now.state c.args.place c.backup_at-backup.result.now c.job.result.now c.args.piece.now c.in_ok-filing-in-Ok.filing c.backup_at-backup.ensures c.job.ensures c.in-Ok.ensures.ok c.in_ok-filing-in-Ok.ensures.file

pub returns-in-Ok-clause-safe : goal.returns-in-Ok-clause-safe
returns-in-Ok-clause-safe g c = dump_safe c.args.self.now.workload.settings c.args.self.now.state c.args.place c.backup_at-backup.result.now c.args.piece.now c.in_ok-filing-in-Ok.filing c.backup_at-backup.ensures c.requires.piece.forward c.in_ok-filing-in-Ok.ensures.file c.in_ok-filing-in-Ok.ensures.drawn

use Rattle.cluster_core.proofs.commands.Jobs.{running_at}
use Rattle.cluster_core.proofs.world.World.running.Goals as goal

pub returns : goal.returns
returns g c = running_at c.args.tag.now c.args.self.now.state c.in-Some.place c.in-Some.job.now c.state-state.result c.has_ended.result c.in-Some.ensures c.state-state.ensures c.has_ended.ensures c.if-has_ended.false

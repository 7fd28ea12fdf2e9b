use Rattle.std.proofs.Common.{subst}
use Rattle.cluster_core.specs.inner.World.{IsListed}
use Rattle.std.proofs.Common.{ap, ◌∙◌}
use Rattle.cluster_core.specs.commands.Shared.{gone_on}
use Rattle.cluster_core.proofs.plans.Start.{open_refused}
use Rattle.cluster_core.proofs.plans.Start.{open_failed}
use Rattle.cluster_core.proofs.world.World.open_listed.Goals as goal

pub returns-in-Ok-Some-clause-step : goal.returns-in-Ok-Some-clause-step
returns-in-Ok-Some-clause-step g c = open_refused c.args.self.now.workload c.args.side c.args.tag c.args.container c.args.ranges c.args.self.now.state c.go_on.new.self.state c.in-Ok-Some.name c.requires.plan (subst (IsListed c.args.self.now.state c.args.container) c.in-Ok-Some.field-0-is c.in-Ok-Some.ensures.listed) (c.go_on.ensures.state ∙ ap gone_on c.least_name.ensures.state)

pub returns-in-Err-clause-step : goal.returns-in-Err-clause-step
returns-in-Err-clause-step g c = open_failed c.args.self.now.workload c.args.side c.args.tag c.args.container c.args.ranges c.args.self.now.state c.least_name.new.self.state c.in-Err.fault c.requires.plan c.least_name.ensures.state c.in-Err.ensures.fault

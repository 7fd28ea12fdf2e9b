use Rattle.std.proofs.Common.{subst}
use Rattle.cluster_core.specs.inner.Plans.{IsPlan, IsSafe}
use Rattle.cluster_core.proofs.plans.Operator.{refuse_room, tell_room, pause_room, put_room, abort_room, open_room}
use Rattle.cluster_core.proofs.world.World.operate.Goals as goal

pub go_on-requires-after_bounds : goal.go_on-requires-after_bounds
go_on-requires-after_bounds g c κs within = refuse_room c.args.self.now.workload c.args.self.now.state c.in-Refuse.refusal (subst (IsPlan c.args.self.now.workload c.args.self.now.state) c.in-Refuse.is c.in_ok-plan.ensures.plan)

pub go_on-requires-in-Tell-after_bounds : goal.go_on-requires-in-Tell-after_bounds
go_on-requires-in-Tell-after_bounds g c κs within = tell_room c.args.self.now.workload c.args.self.now.state c.in-Tell.state (subst (IsPlan c.args.self.now.workload c.args.self.now.state) c.in-Tell.is c.in_ok-plan.ensures.plan)

pub pause-requires-after_bounds : goal.pause-requires-after_bounds
pause-requires-after_bounds g c κs within = pause_room c.args.self.now.workload c.args.self.now.state c.in-Pause.paused (subst (IsPlan c.args.self.now.workload c.args.self.now.state) c.in-Pause.is c.in_ok-plan.ensures.plan)

pub put-requires-clause-room : goal.put-requires-clause-room
put-requires-clause-room g c κs within = put_room c.args.self.now.workload c.args.self.now.state c.in-Put.filing (subst (IsPlan c.args.self.now.workload c.args.self.now.state) c.in-Put.is c.in_ok-plan.ensures.plan) (subst (IsSafe c.args.self.now.state) c.in-Put.is c.in_ok-plan.ensures.safe)

pub abort-requires-clause-room : goal.abort-requires-clause-room
abort-requires-clause-room g c κs within = abort_room c.args.self.now.workload c.args.self.now.state c.in-Abort.place (subst (IsPlan c.args.self.now.workload c.args.self.now.state) c.in-Abort.is c.in_ok-plan.ensures.plan) (subst (IsSafe c.args.self.now.state) c.in-Abort.is c.in_ok-plan.ensures.safe)

pub open_listed-requires-clause-room : goal.open_listed-requires-clause-room
open_listed-requires-clause-room g c κs within = open_room c.args.self.now.workload c.args.self.now.state c.in-Open.tag c.in-Open.side c.in-Open.container c.in-Open.ranges (subst (IsPlan c.args.self.now.workload c.args.self.now.state) c.in-Open.is c.in_ok-plan.ensures.plan)

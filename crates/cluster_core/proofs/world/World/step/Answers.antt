use Rattle.std.proofs.Common.{Ok}
use Rattle.cluster_core.specs.declared.event.Event.TheVariants as events
use Rattle.cluster_core.specs.Moves.{Fine, Silent}
use Rattle.cluster_core.proofs.plans.Operator.{made, commit_made, agent_made}
use Rattle.cluster_core.proofs.Footprints.{step_touches}
use Rattle.cluster_core.proofs.world.World.step.Goals as goal
use Rattle.cluster_core.proofs.world.World.step.Goals.{in-Begin, in-Commit, in-Tick, in-Claim, in-Extend, in-Die, in-Command}

pub returns-clause-step : goal.returns-clause-step
returns-clause-step g c = elim c.match-event.branch [
  | in-Begin w ↦ made c.args.self.now.workload c.args.self.now.state c.args.event.now (events.Begin w.in-Begin.client) c.match-event.answer (Ok w.begin.result) c.match-event.self w.begin.new.self w.in-Begin.is w.answer-is w.self-is (record { luck = Fine Silent; gives = w.begin.ensures.step })
  | in-Commit w ↦ made c.args.self.now.workload c.args.self.now.state c.args.event.now (events.Commit w.in-Commit.client) c.match-event.answer w.commit-answer.result c.match-event.self w.commit-answer.new.self w.in-Commit.is w.answer-is w.self-is (commit_made c.args.self.now.workload c.args.self.now.state w.in-Commit.client w.commit-answer.result w.commit-answer.new.self.state w.commit-answer.ensures.step)
  | in-Tick w ↦ made c.args.self.now.workload c.args.self.now.state c.args.event.now (events.Tick w.in-Tick.n) c.match-event.answer w.tick-answer.result c.match-event.self w.tick-answer.new.self w.in-Tick.is w.answer-is w.self-is (record { luck = Fine Silent; gives = w.tick-answer.ensures.step })
  | in-Claim w ↦ made c.args.self.now.workload c.args.self.now.state c.args.event.now (events.Claim w.in-Claim.agent w.in-Claim.pick) c.match-event.answer w.claim-answer.result c.match-event.self w.claim-answer.new.self w.in-Claim.is w.answer-is w.self-is (agent_made c.args.self.now.workload c.args.self.now.state (events.Claim w.in-Claim.agent w.in-Claim.pick) w.claim-answer.result w.claim-answer.new.self.state w.claim-answer.ensures.step)
  | in-Extend w ↦ made c.args.self.now.workload c.args.self.now.state c.args.event.now (events.Extend w.in-Extend.agent) c.match-event.answer w.extend-answer.result c.match-event.self w.extend-answer.new.self w.in-Extend.is w.answer-is w.self-is (agent_made c.args.self.now.workload c.args.self.now.state (events.Extend w.in-Extend.agent) w.extend-answer.result w.extend-answer.new.self.state w.extend-answer.ensures.step)
  | in-Die w ↦ made c.args.self.now.workload c.args.self.now.state c.args.event.now (events.Die w.in-Die.agent) c.match-event.answer (Ok w.die.result) c.match-event.self w.die.new.self w.in-Die.is w.answer-is w.self-is (record { luck = Fine Silent; gives = w.die.ensures.step })
  | in-Command w ↦ made c.args.self.now.workload c.args.self.now.state c.args.event.now events.Command c.match-event.answer w.operate-answer.result c.match-event.self w.operate-answer.new.self w.in-Command.is w.answer-is w.self-is (record { luck = w.operate-answer.ensures.step.0; gives = w.operate-answer.ensures.step.1 })
]

pub returns-clause-footprint : goal.returns-clause-footprint
returns-clause-footprint g c = step_touches _ _ _ _ _ (returns-clause-step g c)

use Rattle.std.proofs.Common.{◌∙◌, sym, arith}
use Rattle.cluster_core.proofs.Draining.{one_made, made_refused}
use Rattle.cluster_core.proofs.world.World.drain.Goals as goal

pub loop-made-preserved : goal.loop-made-preserved
loop-made-preserved g c = record {
  made = one_made c.args.self.now.workload c.loop-made.self.workload c.args.self.now.state c.loop-made.self.state c.step.new.self.state c.loop-made.made c.step.result c.err.result c.loop-made.invariant.workload c.loop-made.invariant.made (sym c.ended.ensures ∙ c.if-ended.false) c.step.ensures.step c.err.ensures.value c.in-None.is;
  few = omega arith;
  workload = c.step.ensures.workload ∙ c.loop-made.invariant.workload;
  calls = let a = c.step.ensures.calls in let b = c.loop-made.invariant.calls in omega arith;
  faults = let a = c.step.ensures.faults.later in let b = c.loop-made.invariant.faults in omega arith;
  sound = c.step.ensures.sound;
}

pub returns-in-Some-clause-drain : goal.returns-in-Some-clause-drain
returns-in-Some-clause-drain g c = made_refused c.args.self.now.workload c.loop-made.self.workload c.args.most c.loop-made.made c.args.self.now.state c.loop-made.self.state c.step.new.self.state c.step.result c.err.result c.in-Some.fault c.loop-made.invariant.workload c.loop-made.invariant.made (omega arith) (sym c.ended.ensures ∙ c.if-ended.false) c.step.ensures.step c.err.ensures.value c.in-Some.is

use Rattle.std.proofs.Common.{◌≡◌, ◌+◌, ◌≤◌}
use Rattle.cluster_core.specs.Sound.{Sound}
use Rattle.cluster_core.proofs.Draining.{Made}
use Rattle.cluster_core.proofs.world.World.drain.Given as goal

-- so many turns were made, and none was refused
abbrev pub invariant-loop-made : goal.invariant-loop-made
invariant-loop-made g l = record {
  made : Made l.fn.self.workload l.fn.self.state l.self.state l.made;
  few : l.made ≤ l.most;
  workload : l.self.workload ≡ l.fn.self.workload;
  calls : l.self.calls ≤ l.fn.self.calls + l.made;
  faults : l.fn.self.faults ≤ l.self.faults;
  sound : Sound l.self.workload l.self.state;
}

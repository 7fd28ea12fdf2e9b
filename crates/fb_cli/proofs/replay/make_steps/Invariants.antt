use Rattle.std.proofs.Common.{◌≡◌, take}
use Rattle.fb_cli.specs.Causes.{RoseInEach}
use Rattle.fb_cli.specs.Runs.{Tells, schedule_of}
use Rattle.fb_cli.proofs.replay.make_steps.Given as goal

-- the run so far, over the lines so far
abbrev pub invariant-loop-line : goal.invariant-loop-line
invariant-loop-line g l = record {
  run : Tells l.fn.world.workload l.fn.world.state l.lines l.world.state;
  lines : schedule_of l.lines ≡ take l.line-index l.schedule;
  causes : RoseInEach l.lines l.fn.world.faults l.world.faults;
  workload : l.world.workload ≡ l.fn.world.workload;
}

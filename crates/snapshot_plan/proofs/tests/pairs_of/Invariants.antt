use Rattle.fb_bytes.specs.Pairs.{AreRising}
use Rattle.snapshot_plan.proofs.tests.pairs_of.Given as goal

abbrev pub invariant-each : goal.invariant-each
invariant-each l = AreRising l.pairs.items

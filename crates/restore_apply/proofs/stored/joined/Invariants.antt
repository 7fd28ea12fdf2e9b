use Rattle.std.proofs.Common.{◌≡◌, ◌++◌, drop}
use Rattle.restore_apply.specs.inner.Stored.{stored, EachIsRising}
use Rattle.restore_apply.proofs.stored.joined.Given as goal

abbrev pub invariant-loop-at : goal.invariant-loop-at
invariant-loop-at l = record {
  same : l.pairs.items ++ stored l.files (drop l.at-index l.order) ≡ stored l.files l.order;
  rising : EachIsRising l.files (drop l.at-index l.order) → EachIsRising l.files l.order;
}

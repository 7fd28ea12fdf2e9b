use Rattle.std.proofs.Common.{◌≡◌}
use Rattle.mutations.specs.Effects.{range_of}
use Rattle.versioned_kv.specs.inner.Edits.{cleared_upto}
use Rattle.versioned_kv.specs.inner.Queued.{Notes, AreNoted}
use Rattle.versioned_kv.proofs.table.edits.Table+Chain.clear.Given as goal

abbrev pub invariant-loop-place : goal.invariant-loop-place
invariant-loop-place g l = record {
  cleared : l.self ≡ cleared_upto l.place (range_of l.begin l.end) l.version l.initial.self;
  notes : Notes l.version l.initial.queue l.queue;
  noted : AreNoted l.version l.initial.self l.initial.queue → AreNoted l.version l.self l.queue;
}

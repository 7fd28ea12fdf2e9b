use Rattle.std.proofs.Common.{◌≡◌}
use Rattle.mutations.specs.Effects.{range_of}
use Rattle.fb_bytes.proofs.Mapped.{mapped}
use Rattle.versioned_kv.specs.inner.Chunks.{joined}
use Rattle.versioned_kv.specs.inner.Edits.{all_cleared}
use Rattle.versioned_kv.specs.inner.Queued.{Notes, AreNoted}
use Rattle.versioned_kv.proofs.chunks.clear.Given as goal

abbrev pub invariant-loop-place : goal.invariant-loop-place
invariant-loop-place g l = record {
  cleared : l.chunks.items ≡ mapped (all_cleared (range_of l.begin l.end) l.version) l.place l.initial.chunks.items;
  notes : Notes l.version l.initial.queue l.queue;
  noted : AreNoted l.version (joined l.initial.chunks.items) l.initial.queue → AreNoted l.version (joined l.chunks.items) l.queue;
}

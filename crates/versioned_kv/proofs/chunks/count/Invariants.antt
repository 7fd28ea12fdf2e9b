use Rattle.std.proofs.Common.{◌≡◌, ◌-◌, ◌^◌, min, length, take}
use Rattle.versioned_kv.specs.inner.Chunks.{joined}
use Rattle.versioned_kv.proofs.chunks.count.Given as goal

abbrev pub invariant-loop-chunk : goal.invariant-loop-chunk
invariant-loop-chunk l = l.keys ≡ min (length (joined (take l.chunk-index l.chunks))) (2 ^ 64 - 1)

use Rattle.std.proofs.Common.{◌≡◌, length, refl, arith}
use Rattle.versioned_kv.proofs.Places.{read_at}
use Rattle.versioned_kv.proofs.Joined.{count_next}
use Rattle.versioned_kv.proofs.chunks.count.Goals as goal

pub loop-chunk-preserved : goal.loop-chunk-preserved
loop-chunk-preserved c =
    let chunks = c.args.chunks.now in
    let here = read_at chunks chunks c.loop-chunk.chunk-index c.chunk-item.result refl c.loop-chunk-test.true c.chunk-item.is in
    let more = count_next c.loop-chunk.chunk-index chunks c.chunk-item.result here in
    let some : c.len.result ≡ length c.chunk-item.result = c.len.ensures in
    omega (arith, c.loop-chunk.invariant, c.saturating_add-keys.ensures)

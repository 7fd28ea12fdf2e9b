use Rattle.std.proofs.Common.{refl}
use Rattle.versioned_kv.proofs.Places.{read_at}
use Rattle.versioned_kv.proofs.Queues.{part_noted}
use Rattle.versioned_kv.proofs.chunks.clear_in.Goals as goal

pub returns-clause-noted : goal.returns-clause-noted
returns-clause-noted g c =
    let chunks = c.args.chunks.now.items in
    let chunk = c.index_mut-chunk.result.now in
    let here = read_at chunks chunks c.args.place chunk refl c.requires.place c.index_mut-chunk.ensures.value in
    part_noted c.args.version c.args.place chunks chunk c.clear.new.self c.args.queue.now c.clear.new.queue c.requires.place here c.clear.ensures.notes c.clear.ensures.noted

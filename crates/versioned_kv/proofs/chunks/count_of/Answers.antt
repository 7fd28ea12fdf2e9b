use Rattle.std.proofs.Common.{◌<◌, length, refl, ap, ◌∙◌, rules}
use Rattle.versioned_kv.proofs.Places.{read_at}
use Rattle.versioned_kv.proofs.Joined.{chains_at, rows_belong}
use Rattle.versioned_kv.proofs.chunks.count_of.Goals as goal

pub rows-requires : goal.rows-requires
rows-requires g c =
    let some : 0 < length c.args.chunks.now = search rules in
    let within = c.chunk_of-place.ensures.within some in
    let here = read_at c.args.chunks.now c.args.chunks.now c.chunk_of-place.result c.index-chunks-place.result refl within c.index-chunks-place.is in
    chains_at c.chunk_of-place.result c.args.chunks.now c.index-chunks-place.result c.requires.chains here

pub returns-in-Some : goal.returns-in-Some
returns-in-Some g c =
    let some : 0 < length c.args.chunks.now = search rules in
    let within = c.chunk_of-place.ensures.within some in
    let here = read_at c.args.chunks.now c.args.chunks.now c.chunk_of-place.result c.index-chunks-place.result refl within c.index-chunks-place.is in
    c.len.ensures ∙ ap length (c.in-Some.ensures.rows ∙ rows_belong c.args.key.now c.chunk_of-place.result c.args.chunks.now c.index-chunks-place.result c.chunk_of-place.ensures.belongs here)

pub returns-in-None : goal.returns-in-None
returns-in-None g c =
    let some : 0 < length c.args.chunks.now = search rules in
    let within = c.chunk_of-place.ensures.within some in
    let here = read_at c.args.chunks.now c.args.chunks.now c.chunk_of-place.result c.index-chunks-place.result refl within c.index-chunks-place.is in
    ap length (c.in-None.ensures.rows ∙ rows_belong c.args.key.now c.chunk_of-place.result c.args.chunks.now c.index-chunks-place.result c.chunk_of-place.ensures.belongs here)

use Rattle.std.proofs.Common.{◌<◌, List, None, length, refl, ap, ◌∙◌, rules}
use Rattle.versioned_kv.specs.Chains.{Row, value_in}
use Rattle.versioned_kv.proofs.Places.{read_at}
use Rattle.versioned_kv.proofs.Joined.{chains_at, rows_belong, read_bound}
use Rattle.versioned_kv.proofs.chunks.value.Goals as goal

pub value-requires : goal.value-requires
value-requires g c =
    let some : 0 < length c.args.chunks.now = search rules in
    let within = c.chunk_of-place.ensures.within some in
    let here = read_at c.args.chunks.now c.args.chunks.now c.chunk_of-place.result c.index-chunks-place.result refl within c.index-chunks-place.is in
    chains_at c.chunk_of-place.result c.args.chunks.now c.index-chunks-place.result c.requires.chains here

pub returns-clause-value : goal.returns-clause-value
returns-clause-value g c =
    let some : 0 < length c.args.chunks.now = search rules in
    let within = c.chunk_of-place.ensures.within some in
    let here = read_at c.args.chunks.now c.args.chunks.now c.chunk_of-place.result c.index-chunks-place.result refl within c.index-chunks-place.is in
    c.value.ensures.value ∙ ap (λ (rs : List Row). value_in rs c.args.version None) (rows_belong c.args.key.now c.chunk_of-place.result c.args.chunks.now c.index-chunks-place.result c.chunk_of-place.ensures.belongs here)

pub returns-clause-steps : goal.returns-clause-steps
returns-clause-steps g c =
    let some : 0 < length c.args.chunks.now = search rules in
    let within = c.chunk_of-place.ensures.within some in
    let here = read_at c.args.chunks.now c.args.chunks.now c.chunk_of-place.result c.index-chunks-place.result refl within c.index-chunks-place.is in
    read_bound c.chunk_of-place.result c.args.chunks.now c.index-chunks-place.result c.args.key.now c.args.steps.now c.chunk_of-place.new.steps c.value.new.steps c.requires.filled c.chunk_of-place.ensures.belongs here c.chunk_of-place.ensures.steps c.value.ensures.steps

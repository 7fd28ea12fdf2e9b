use Rattle.std.proofs.Common.{◌≡◌, ◌<◌, length, ap, ◌∙◌, subst, rules, arith}
use Rattle.versioned_kv.specs.inner.Chunks.{joined, BelongsTo}
use Rattle.versioned_kv.specs.inner.Edits.{changed_at}
use Rattle.versioned_kv.specs.Forgotten.{forgotten}
use Rattle.versioned_kv.proofs.Places.{some_at}
use Rattle.versioned_kv.proofs.Joined.{chains_at}
use Rattle.versioned_kv.proofs.Changes.{others_filled, change_belongs}
use Rattle.versioned_kv.proofs.chunks.forget.Goals as goal

pub forget_in-requires-clause-chains : goal.forget_in-requires-clause-chains
forget_in-requires-clause-chains g c = λ chunk h. chains_at c.chunk_of-place.result c.args.chunks.now.items chunk c.requires.chains h

pub drop_empty-requires-clause-place : goal.drop_empty-requires-clause-place
drop_empty-requires-clause-place g c =
    let chunks = c.args.chunks.now.items in
    let some : 0 < length c.deref.result.now = search rules in
    let same : length c.deref.result.now ≡ length chunks = ap length c.deref.ensures.value in
    let found = c.chunk_of-place.ensures.within some in
    let within : c.chunk_of-place.result < length chunks = omega arith in
    let at = some_at chunks c.chunk_of-place.result within in
    (others_filled c.chunk_of-place.result chunks c.forget_in.new.chunks.items (changed_at (forgotten c.args.oldest) c.args.key.now at.0) within c.requires.filled (c.forget_in.ensures at.0 at.1)).0

pub drop_empty-requires-clause-before : goal.drop_empty-requires-clause-before
drop_empty-requires-clause-before g c =
    let chunks = c.args.chunks.now.items in
    let some : 0 < length c.deref.result.now = search rules in
    let same : length c.deref.result.now ≡ length chunks = ap length c.deref.ensures.value in
    let found = c.chunk_of-place.ensures.within some in
    let within : c.chunk_of-place.result < length chunks = omega arith in
    let at = some_at chunks c.chunk_of-place.result within in
    (others_filled c.chunk_of-place.result chunks c.forget_in.new.chunks.items (changed_at (forgotten c.args.oldest) c.args.key.now at.0) within c.requires.filled (c.forget_in.ensures at.0 at.1)).1

pub drop_empty-requires-clause-behind : goal.drop_empty-requires-clause-behind
drop_empty-requires-clause-behind g c =
    let chunks = c.args.chunks.now.items in
    let some : 0 < length c.deref.result.now = search rules in
    let same : length c.deref.result.now ≡ length chunks = ap length c.deref.ensures.value in
    let found = c.chunk_of-place.ensures.within some in
    let within : c.chunk_of-place.result < length chunks = omega arith in
    let at = some_at chunks c.chunk_of-place.result within in
    (others_filled c.chunk_of-place.result chunks c.forget_in.new.chunks.items (changed_at (forgotten c.args.oldest) c.args.key.now at.0) within c.requires.filled (c.forget_in.ensures at.0 at.1)).2

pub returns-clause-forgotten : goal.returns-clause-forgotten
returns-clause-forgotten g c =
    let chunks = c.args.chunks.now.items in
    let some : 0 < length c.deref.result.now = search rules in
    let same : length c.deref.result.now ≡ length chunks = ap length c.deref.ensures.value in
    let found = c.chunk_of-place.ensures.within some in
    let within : c.chunk_of-place.result < length chunks = omega arith in
    let at = some_at chunks c.chunk_of-place.result within in
    let belongs : BelongsTo c.args.key.now c.chunk_of-place.result chunks = subst (BelongsTo c.args.key.now c.chunk_of-place.result) c.deref.ensures.value c.chunk_of-place.ensures.belongs in
    c.drop_empty.ensures.same ∙ ap joined (c.forget_in.ensures at.0 at.1) ∙ change_belongs (forgotten c.args.oldest) c.args.key.now c.chunk_of-place.result chunks at.0 within belongs at.1

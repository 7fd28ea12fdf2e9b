use Rattle.std.proofs.Common.{List, refl, sym, ap, ◌∙◌, subst}
use Rattle.std.specs.List.{slice_set}
use Rattle.versioned_kv.specs.Chains.{Chain}
use Rattle.versioned_kv.specs.inner.Chunks.{joined, AreFilled}
use Rattle.versioned_kv.proofs.Places.{on_ok, read_at, set_same}
use Rattle.versioned_kv.proofs.Puts.{either}
use Rattle.versioned_kv.proofs.Joined.{chains_at, upto_at, put_belongs, put_filled}
use Rattle.versioned_kv.proofs.chunks.put_in.Goals as goal

pub put-requires-clause-chains : goal.put-requires-clause-chains
put-requires-clause-chains g c =
    let chunks = c.args.chunks.now.items in
    chains_at c.args.place chunks c.index_mut-chunk.result.now c.requires.chains (read_at chunks chunks c.args.place c.index_mut-chunk.result.now refl c.requires.place c.index_mut-chunk.ensures.value)

pub put-requires-clause-upto : goal.put-requires-clause-upto
put-requires-clause-upto g c =
    let chunks = c.args.chunks.now.items in
    upto_at c.args.row.version c.args.place chunks c.index_mut-chunk.result.now c.requires.upto (read_at chunks chunks c.args.place c.index_mut-chunk.result.now refl c.requires.place c.index_mut-chunk.ensures.value)

pub returns-clause-filled : goal.returns-clause-filled
returns-clause-filled g c =
    let chunks = c.args.chunks.now.items in
    let chunk = c.index_mut-chunk.result.now in
    let here = read_at chunks chunks c.args.place chunk refl c.requires.place c.index_mut-chunk.ensures.value in
    either c.put.result (AreFilled (slice_set chunks c.args.place c.put.new.self))
    (λ e. subst (λ (x : List Chain). AreFilled (slice_set chunks c.args.place x)) (sym e) (put_filled c.args.key.now c.args.row c.args.place chunks chunk c.requires.filled))
    (λ e. subst AreFilled (sym (ap (slice_set chunks c.args.place) e ∙ set_same c.args.place chunks chunk here)) c.requires.filled)
    c.put.ensures.ok c.put.ensures.err

pub returns-clause-ok : goal.returns-clause-ok
returns-clause-ok g c =
    let chunks = c.args.chunks.now.items in
    let chunk = c.index_mut-chunk.result.now in
    let here = read_at chunks chunks c.args.place chunk refl c.requires.place c.index_mut-chunk.ensures.value in
    on_ok c.put.result
    (λ e. ap (λ (x : List Chain). joined (slice_set chunks c.args.place x)) e ∙ put_belongs c.args.key.now c.args.row c.args.place chunks chunk c.requires.place c.requires.belongs here)
    c.put.ensures.ok

use Rattle.std.proofs.Common.{List, sym, ap, ◌∙◌}
use Rattle.std.specs.List.{slice_set, insert}
use Rattle.versioned_kv.specs.Chains.{Row, Chain}
use Rattle.versioned_kv.proofs.Places.{on_ok, on_err, set_same, chain_at}
use Rattle.versioned_kv.proofs.Puts.{set_here, insert_here}
use Rattle.versioned_kv.proofs.Cuts.{chain_rows}
use Rattle.versioned_kv.proofs.table.edits.Table+Chain.put.Goals as goal

pub put-requires-clause-rising : goal.put-requires-clause-rising
put-requires-clause-rising g c =
    let here = chain_at c.args.key.now c.args.self.now c.place_of-place.result c.at_mut-chain.result.now c.at_mut-chain.ensures.entry (sym c.is_at.ensures ∙ c.if-is_at.true) in
    (chain_rows c.args.row.version c.place_of-place.result c.args.self.now c.at_mut-chain.result.now c.requires.chains c.requires.upto c.at_mut-chain.ensures.entry).0

pub put-requires-clause-upto : goal.put-requires-clause-upto
put-requires-clause-upto g c =
    let here = chain_at c.args.key.now c.args.self.now c.place_of-place.result c.at_mut-chain.result.now c.at_mut-chain.ensures.entry (sym c.is_at.ensures ∙ c.if-is_at.true) in
    (chain_rows c.args.row.version c.place_of-place.result c.args.self.now c.at_mut-chain.result.now c.requires.chains c.requires.upto c.at_mut-chain.ensures.entry).1

pub returns-then-is_at-clause-ok : goal.returns-then-is_at-clause-ok
returns-then-is_at-clause-ok g c =
    let chain = c.at_mut-chain.result.now in
    let place = c.place_of-place.result in
    let here = chain_at c.args.key.now c.args.self.now place chain c.at_mut-chain.ensures.entry (sym c.is_at.ensures ∙ c.if-is_at.true) in
    on_ok c.put.result
    (λ e. ap (λ (rows : List Row). slice_set c.args.self.now place (record { key = chain.key; rows = rows })) e
    ∙ set_here c.args.key.now c.args.row c.args.self.now place chain c.place_of-place.ensures.place c.at_mut-chain.ensures.entry here)
    c.put.ensures.ok

pub returns-clause-ok : goal.returns-clause-ok
returns-clause-ok g c =
    let place = c.place_of-place.result in
    on_ok c.insert.result
    (λ e. e ∙ ap (λ (chain : Chain). insert c.args.self.now place chain) c.in_ok-chain.ensures
    ∙ insert_here c.args.key.now c.args.row c.args.self.now place c.place_of-place.ensures.place (sym c.is_at.ensures ∙ c.if-is_at.false))
    c.insert.ensures.ok

pub returns-then-is_at-clause-err : goal.returns-then-is_at-clause-err
returns-then-is_at-clause-err g c =
    let chain = c.at_mut-chain.result.now in
    on_err c.put.result (λ e. ap (λ (rows : List Row). slice_set c.args.self.now c.place_of-place.result (record { key = chain.key; rows = rows })) e ∙ set_same c.place_of-place.result c.args.self.now chain c.at_mut-chain.ensures.entry) c.put.ensures.err

use Rattle.std.proofs.Common.{◌≡◌, ap, ◌∙◌}
use Rattle.std.specs.List.{slice_set}
use Rattle.versioned_kv.specs.Chains.{Chain}
use Rattle.versioned_kv.specs.inner.Edits.{clear_chain}
use Rattle.versioned_kv.proofs.Places.{on_ok, on_err, set_same}
use Rattle.versioned_kv.proofs.Cuts.{chain_rows}
use Rattle.versioned_kv.proofs.Queues.{set_noted}
use Rattle.versioned_kv.proofs.table.edits.Table+Chain.clear_at.Goals as goal

pub clear-requires-clause-rising : goal.clear-requires-clause-rising
clear-requires-clause-rising g c =
    let here = c.at_mut-chain.ensures.entry in
    (chain_rows c.args.version c.args.place c.args.self.now c.at_mut-chain.result.now c.requires.chains c.requires.upto here).0

pub returns-clause-ok : goal.returns-clause-ok
returns-clause-ok g c =
    let here = c.at_mut-chain.ensures.entry in
    on_ok c.clear.result
    (λ e chain g. let same : c.at_mut-chain.result.now ≡ chain = cc (here, g) in
    ap (λ (x : Chain). slice_set c.args.self.now c.args.place x) (e ∙ ap (clear_chain c.args.version) same))
    c.clear.ensures.ok

pub returns-clause-err : goal.returns-clause-err
returns-clause-err g c = on_err c.clear.result (λ e. ap (slice_set c.args.self.now c.args.place) e ∙ set_same c.args.place c.args.self.now c.at_mut-chain.result.now c.at_mut-chain.ensures.entry) c.clear.ensures.err

pub returns-clause-noted : goal.returns-clause-noted
returns-clause-noted g c = set_noted c.args.version c.args.place c.args.self.now c.at_mut-chain.result.now c.clear.new.self c.args.queue.now c.clear.new.queue c.at_mut-chain.ensures.entry c.clear.ensures.notes c.clear.ensures.noted

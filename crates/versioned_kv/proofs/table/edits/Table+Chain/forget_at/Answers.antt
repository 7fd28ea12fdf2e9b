use Rattle.std.proofs.Common.{◌≡◌, ◌<◌, List, length, sym, ap, ◌∙◌, arith}
use Rattle.std.specs.List.{slice_set}
use Rattle.versioned_kv.specs.Chains.{Row, Chain}
use Rattle.versioned_kv.specs.Forgotten.{forgotten}
use Rattle.versioned_kv.proofs.Cuts.{cut_gone, cut_stays}
use Rattle.versioned_kv.proofs.table.edits.Table+Chain.forget_at.Goals as goal

pub returns-then-is_empty : goal.returns-then-is_empty
returns-then-is_empty g c = λ chain h.
    let place = c.args.place in
    let here = c.at_mut-chain.ensures.entry in
    let same : c.at_mut-chain.result.now ≡ chain = cc (here, h) in
    let left : c.forget.new.self ≡ forgotten c.args.oldest chain.rows = c.forget.ensures ∙ ap (λ (x : Chain). forgotten c.args.oldest x.rows) same in
    let none : length (forgotten c.args.oldest chain.rows) ≡ 0 = ap length (sym left) ∙ sym c.len-is_empty.ensures ∙ c.if-is_empty.true in
    c.remove.ensures
    ∙ cut_gone place c.args.self.now (record { key = c.at_mut-chain.result.now.key; rows = c.forget.new.self }) chain.key (forgotten c.args.oldest chain.rows) none

pub returns-else-is_empty : goal.returns-else-is_empty
returns-else-is_empty g c = λ chain h.
    let place = c.args.place in
    let here = c.at_mut-chain.ensures.entry in
    let same : c.at_mut-chain.result.now ≡ chain = cc (here, h) in
    let left : c.forget.new.self ≡ forgotten c.args.oldest chain.rows = c.forget.ensures ∙ ap (λ (x : Chain). forgotten c.args.oldest x.rows) same in
    let count : length (forgotten c.args.oldest chain.rows) ≡ c.len-is_empty.result = ap length (sym left) ∙ sym c.len-is_empty.ensures in
    let some : 0 < length (forgotten c.args.oldest chain.rows) = omega arith in
    ap (λ (x : Chain). slice_set c.args.self.now place (record { key = x.key; rows = c.forget.new.self })) same
    ∙ ap (λ (rows : List Row). slice_set c.args.self.now place (record { key = chain.key; rows = rows })) left
    ∙ cut_stays place c.args.self.now chain.key (forgotten c.args.oldest chain.rows) c.requires.place some

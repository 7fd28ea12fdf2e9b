use Rattle.std.proofs.Common.{◌≡◌, true, false, arith}
use Rattle.fb_bytes.specs.Bytes.{is_same}
use Rattle.versioned_kv.proofs.Values.{absent_past, absent_other, rows_here, rows_rise}
use Rattle.versioned_kv.proofs.table.looks.Table+Chain.rows.Goals as goal

pub returns-then-place-len-clause-rows : goal.returns-then-place-len-clause-rows
returns-then-place-len-clause-rows g c = absent_past c.args.key.now c.args.self.now c.place_of-place.result c.requires c.place_of-place.ensures.place (omega arith)

pub returns-then-place-len-clause-rising : goal.returns-then-place-len-clause-rising
returns-then-place-len-clause-rising g c = rows_rise c.args.key.now c.args.self.now c.requires

pub returns-then-not-is_same-clause-rows : goal.returns-then-not-is_same-clause-rows
returns-then-not-is_same-clause-rows g c =
    let other : is_same c.at-chain.result.now.key c.args.key.now ≡ false = cc in
    absent_other c.args.key.now c.args.self.now c.place_of-place.result c.at-chain.result.now c.requires c.place_of-place.ensures.place c.at-chain.ensures.entry other

pub returns-then-not-is_same-clause-rising : goal.returns-then-not-is_same-clause-rising
returns-then-not-is_same-clause-rising g c = rows_rise c.args.key.now c.args.self.now c.requires

pub returns-clause-rows : goal.returns-clause-rows
returns-clause-rows g c =
    let same : is_same c.at-chain.result.now.key c.args.key.now ≡ true = cc in
    rows_here c.args.key.now c.args.self.now c.place_of-place.result c.at-chain.result.now c.requires c.place_of-place.ensures.place c.at-chain.ensures.entry same

pub returns-clause-rising : goal.returns-clause-rising
returns-clause-rising g c = rows_rise c.args.key.now c.args.self.now c.requires

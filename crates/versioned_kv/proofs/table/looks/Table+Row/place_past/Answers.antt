use Rattle.std.proofs.Common.{◌+◌, ◌-◌, ◌/◌, ◌≤◌, length, sym, subst, arith}
use Rattle.std.proofs.lemmas.Bool.{lt-leb}
use Rattle.versioned_kv.specs.Chains.{is_row_upto, rows_upto}
use Rattle.versioned_kv.proofs.Search.{Halves, front_upto, fails_past, row_within, halved}
use Rattle.versioned_kv.proofs.table.looks.Table+Row.place_past.Goals as goal

pub loop-low-init : goal.loop-low-init
loop-low-init g c =
    let upto = front_upto (is_row_upto c.args.version) c.args.self.now in
    record { ordered = omega arith; within = omega arith; from = omega arith; upto = omega arith; halves = λ d h. (d, omega arith, omega arith) }

pub loop-low-preserved-then-row-version : goal.loop-low-preserved-then-row-version
loop-low-preserved-then-row-version g c =
    let middle = c.loop-low.low + (c.loop-low.high - c.loop-low.low) / 2 in
    let place = rows_upto c.args.version c.args.self.now in
    let within : middle + 1 ≤ place = row_within c.args.version c.args.self.now middle c.at-row.result.now c.requires c.at-row.ensures.entry c.if-row-version.true in
    record {
      ordered = omega arith;
      within = c.loop-low.invariant.within;
      from = within;
      upto = c.loop-low.invariant.upto;
      halves = subst (Halves (length c.args.self.now) (c.loop-low.high - (middle + 1)) c.args.steps.now) (sym c.at-row.ensures.steps) (halved (length c.args.self.now) (c.loop-low.high - c.loop-low.low) (c.loop-low.high - (middle + 1)) c.args.steps.now c.loop-low.steps (omega arith) (omega arith) c.loop-low.invariant.halves);
    }

pub loop-low-preserved : goal.loop-low-preserved
loop-low-preserved g c =
    let middle = c.loop-low.low + (c.loop-low.high - c.loop-low.low) / 2 in
    let place = rows_upto c.args.version c.args.self.now in
    let past : place ≤ middle = fails_past (is_row_upto c.args.version) c.args.self.now middle c.at-row.result.now c.at-row.ensures.entry (lt-leb c.at-row.result.now.version c.args.version c.if-row-version.false) in
    record {
      ordered = omega arith;
      within = omega arith;
      from = c.loop-low.invariant.from;
      upto = past;
      halves = subst (Halves (length c.args.self.now) (middle - c.loop-low.low) c.args.steps.now) (sym c.at-row.ensures.steps) (halved (length c.args.self.now) (c.loop-low.high - c.loop-low.low) (middle - c.loop-low.low) c.args.steps.now c.loop-low.steps (omega arith) (omega arith) c.loop-low.invariant.halves);
    }

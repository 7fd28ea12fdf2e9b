use Rattle.std.proofs.Common.{◌≡◌, ◌+◌, ◌-◌, ◌/◌, ◌≤◌, true, false, length, sym, subst, arith}
use Rattle.fb_bytes.specs.Bytes.{is_below}
use Rattle.versioned_kv.specs.inner.Chains.{has_key_below, keys_below}
use Rattle.versioned_kv.proofs.Search.{Halves, front_upto, fails_past, key_within, halved}
use Rattle.versioned_kv.proofs.table.looks.Table+Chain.place_of.Goals as goal

pub loop-low-init : goal.loop-low-init
loop-low-init g c =
    let upto = front_upto (has_key_below c.args.key.now) c.args.self.now in
    record { ordered = omega arith; within = omega arith; from = omega arith; upto = omega arith; halves = λ d h. (d, omega arith, omega arith) }

pub loop-low-preserved-then-is_below : goal.loop-low-preserved-then-is_below
loop-low-preserved-then-is_below g c =
    let middle = c.loop-low.low + (c.loop-low.high - c.loop-low.low) / 2 in
    let place = keys_below c.args.key.now c.args.self.now in
    let t : is_below c.at-chain.result.now.key c.args.key.now ≡ true = cc in
    let within : middle + 1 ≤ place = key_within c.args.key.now c.args.self.now middle c.at-chain.result.now c.requires c.at-chain.ensures.entry t in
    record {
      ordered = omega arith;
      within = c.loop-low.invariant.within;
      from = within;
      upto = c.loop-low.invariant.upto;
      halves = subst (Halves (length c.args.self.now) (c.loop-low.high - (middle + 1)) c.args.steps.now) (sym c.at-chain.ensures.steps) (halved (length c.args.self.now) (c.loop-low.high - c.loop-low.low) (c.loop-low.high - (middle + 1)) c.args.steps.now c.loop-low.steps (omega arith) (omega arith) c.loop-low.invariant.halves);
    }

pub loop-low-preserved : goal.loop-low-preserved
loop-low-preserved g c =
    let middle = c.loop-low.low + (c.loop-low.high - c.loop-low.low) / 2 in
    let place = keys_below c.args.key.now c.args.self.now in
    let t : is_below c.at-chain.result.now.key c.args.key.now ≡ false = cc in
    let past : place ≤ middle = fails_past (has_key_below c.args.key.now) c.args.self.now middle c.at-chain.result.now c.at-chain.ensures.entry t in
    record {
      ordered = omega arith;
      within = omega arith;
      from = c.loop-low.invariant.from;
      upto = past;
      halves = subst (Halves (length c.args.self.now) (middle - c.loop-low.low) c.args.steps.now) (sym c.at-chain.ensures.steps) (halved (length c.args.self.now) (c.loop-low.high - c.loop-low.low) (middle - c.loop-low.low) c.args.steps.now c.loop-low.steps (omega arith) (omega arith) c.loop-low.invariant.halves);
    }

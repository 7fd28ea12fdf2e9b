use Rattle.std.proofs.Common.{◌≡◌, suc, refl, ◌+◌, ◌-◌, ◌/◌, true, false, length, Some, take, sym, subst, arith}
use Rattle.std.specs.List.{slice_get}
use Rattle.fb_bytes.specs.Bytes.{is_below}
use Rattle.versioned_kv.specs.inner.Chunks.{joined, AreKeysBelow, BelongsTo}
use Rattle.versioned_kv.proofs.Search.{Halves, halved}
use Rattle.versioned_kv.proofs.Places.{read_at}
use Rattle.versioned_kv.proofs.Joined.{below_upto, past_from, past_later}
use Rattle.versioned_kv.proofs.chunks.chunk_of.Goals as goal

pub loop-low-preserved-then-is_below : goal.loop-low-preserved-then-is_below
loop-low-preserved-then-is_below g c =
    let middle = c.loop-low.low + (c.loop-low.high - c.loop-low.low) / 2 in
    let chunks = c.args.chunks.now in
    let chunk = c.index-chunks-middle.result in
    let here : slice_get chunks middle ≡ Some chunk = read_at chunks chunks middle chunk refl (omega arith) c.index-chunks-middle.is in
    let t : is_below c.args.key.now c.at-first.result.now.key ≡ true = cc in
    record {
      ordered = omega arith;
      within = omega arith;
      before = c.loop-low.invariant.before;
      behind = past_from c.args.key.now middle chunks chunk c.at-first.result.now c.requires.chains here c.at-first.ensures.entry t;
      halves = subst (Halves (length chunks) (middle - c.loop-low.low) c.args.steps.now) (sym c.at-first.ensures.steps) (halved (length chunks) (c.loop-low.high - c.loop-low.low) (middle - c.loop-low.low) c.args.steps.now c.loop-low.steps (omega arith) (omega arith) c.loop-low.invariant.halves);
    }

pub loop-low-preserved : goal.loop-low-preserved
loop-low-preserved g c =
    let middle = c.loop-low.low + (c.loop-low.high - c.loop-low.low) / 2 in
    let chunks = c.args.chunks.now in
    let chunk = c.index-chunks-middle.result in
    let here : slice_get chunks middle ≡ Some chunk = read_at chunks chunks middle chunk refl (omega arith) c.index-chunks-middle.is in
    let t : is_below c.args.key.now c.at-first.result.now.key ≡ false = cc in
    let back : middle ≡ middle + 1 - 1 = omega arith in
    record {
      ordered = omega arith;
      within = c.loop-low.invariant.within;
      before = subst (λ i. AreKeysBelow c.args.key.now (joined (take i chunks))) back (below_upto c.args.key.now middle chunks chunk c.at-first.result.now c.requires.chains here c.at-first.ensures.entry t);
      behind = c.loop-low.invariant.behind;
      halves = subst (Halves (length chunks) (c.loop-low.high - (middle + 1)) c.args.steps.now) (sym c.at-first.ensures.steps) (halved (length chunks) (c.loop-low.high - c.loop-low.low) (c.loop-low.high - (middle + 1)) c.args.steps.now c.loop-low.steps (omega arith) (omega arith) c.loop-low.invariant.halves);
    }

pub returns-clause-belongs : goal.returns-clause-belongs
returns-clause-belongs g c =
    let place : c.loop-low.low - 1 ≡ c.saturating_sub.result = omega (arith, c.saturating_sub.ensures) in
    subst (λ i. BelongsTo c.args.key.now i c.args.chunks.now) place (record {
      before = c.loop-low.invariant.before;
      behind = past_later c.args.key.now c.loop-low.high (suc (c.loop-low.low - 1)) c.args.chunks.now (omega arith) c.loop-low.invariant.behind;
    })

use Rattle.std.proofs.Common.{◌≡◌, ◌<◌, length, refl, sym, ap, subst, rules, arith}
use Rattle.mutations.specs.Effects.{range_of}
use Rattle.versioned_kv.specs.inner.Chunks.{joined, AreFilled, BelongsTo}
use Rattle.versioned_kv.specs.inner.Edits.{all_cleared}
use Rattle.versioned_kv.proofs.Places.{some_at}
use Rattle.versioned_kv.proofs.Joined.{chains_at, upto_at}
use Rattle.versioned_kv.proofs.Everywhere.{here_yet, next_done, within_now, first_cleared, last_cleared, part_cleared, part_filled, mapped_filled, all_part}
use Rattle.versioned_kv.proofs.Queues.{notes_none, notes_more}
use Rattle.versioned_kv.proofs.chunks.clear.Goals as goal

pub loop-place-init : goal.loop-place-init
loop-place-init g c =
    let belongs : BelongsTo c.args.begin.now c.chunk_of-first.result c.args.chunks.now.items = subst (BelongsTo c.args.begin.now c.chunk_of-first.result) c.deref.ensures.value c.chunk_of-first.ensures.belongs in
    record {
      cleared = first_cleared (range_of c.args.begin.now c.args.end.now) c.args.version c.chunk_of-first.result c.args.chunks.now.items belongs.before;
      notes = notes_none c.args.version c.args.queue.now;
      noted = λ h. h;
    }

pub clear_in-requires-clause-place : goal.clear_in-requires-clause-place
clear_in-requires-clause-place g c =
    let some : 0 < length c.deref-2.result.now = search rules in
    let same : length c.deref-2.result.now ≡ length c.args.chunks.now.items = ap length c.deref-2.ensures.value in
    let last = c.chunk_of-last.ensures.within some in
    within_now (all_cleared (range_of c.args.begin.now c.args.end.now) c.args.version) c.loop-place.place c.args.chunks.now.items c.loop-place.chunks.items c.loop-place.invariant.cleared (omega arith)

pub clear_in-requires-clause-chains : goal.clear_in-requires-clause-chains
clear_in-requires-clause-chains g c = λ chunk h.
    let f = all_cleared (range_of c.args.begin.now c.args.end.now) c.args.version in
    let here = here_yet f c.loop-place.place c.args.chunks.now.items c.loop-place.chunks.items chunk c.loop-place.invariant.cleared h in
    (chains_at c.loop-place.place c.args.chunks.now.items chunk c.requires.chains here, upto_at c.args.version c.loop-place.place c.args.chunks.now.items chunk c.requires.upto here)

pub returns-in_err-clear_in-clause-filled : goal.returns-in_err-clear_in-clause-filled
returns-in_err-clear_in-clause-filled g c =
    let some : 0 < length c.deref-2.result.now = search rules in
    let same : length c.deref-2.result.now ≡ length c.args.chunks.now.items = ap length c.deref-2.ensures.value in
    let last = c.chunk_of-last.ensures.within some in
    let f = all_cleared (range_of c.args.begin.now c.args.end.now) c.args.version in
    let at = some_at c.loop-place.chunks.items c.loop-place.place (within_now f c.loop-place.place c.args.chunks.now.items c.loop-place.chunks.items c.loop-place.invariant.cleared (omega arith)) in
    let left = c.in_err-clear_in.ensures.part at.0 at.1 in
    part_filled (range_of c.args.begin.now c.args.end.now) c.args.version c.loop-place.place c.args.chunks.now.items c.loop-place.chunks.items c.clear_in.new.chunks.items at.0 left.0 c.loop-place.invariant.cleared at.1 left.1 left.2 c.requires.filled

pub returns-in_err-clear_in-clause-part : goal.returns-in_err-clear_in-clause-part
returns-in_err-clear_in-clause-part g c =
    let some : 0 < length c.deref-2.result.now = search rules in
    let same : length c.deref-2.result.now ≡ length c.args.chunks.now.items = ap length c.deref-2.ensures.value in
    let last = c.chunk_of-last.ensures.within some in
    let f = all_cleared (range_of c.args.begin.now c.args.end.now) c.args.version in
    let at = some_at c.loop-place.chunks.items c.loop-place.place (within_now f c.loop-place.place c.args.chunks.now.items c.loop-place.chunks.items c.loop-place.invariant.cleared (omega arith)) in
    let left = c.in_err-clear_in.ensures.part at.0 at.1 in
    part_cleared (range_of c.args.begin.now c.args.end.now) c.args.version c.loop-place.place c.args.chunks.now.items c.loop-place.chunks.items c.clear_in.new.chunks.items at.0 left.0 c.loop-place.invariant.cleared at.1 left.1 left.2

pub loop-place-preserved : goal.loop-place-preserved
loop-place-preserved g c =
    let some : 0 < length c.deref-2.result.now = search rules in
    let same : length c.deref-2.result.now ≡ length c.args.chunks.now.items = ap length c.deref-2.ensures.value in
    let last = c.chunk_of-last.ensures.within some in
    let f = all_cleared (range_of c.args.begin.now c.args.end.now) c.args.version in
    let at = some_at c.loop-place.chunks.items c.loop-place.place (within_now f c.loop-place.place c.args.chunks.now.items c.loop-place.chunks.items c.loop-place.invariant.cleared (omega arith)) in
    record {
      cleared = next_done f c.loop-place.place c.args.chunks.now.items c.loop-place.chunks.items c.clear_in.new.chunks.items at.0 (f at.0) c.loop-place.invariant.cleared at.1 refl (c.in_ok-clear_in.ensures.ok at.0 at.1);
      notes = notes_more c.args.version c.args.queue.now c.loop-place.queue c.clear_in.new.queue c.loop-place.invariant.notes c.clear_in.ensures.notes;
      noted = λ h. c.clear_in.ensures.noted (c.loop-place.invariant.noted h);
    }

pub returns-in_err-clear_in-clause-notes : goal.returns-in_err-clear_in-clause-notes
returns-in_err-clear_in-clause-notes g c = notes_more c.args.version c.args.queue.now c.loop-place.queue c.clear_in.new.queue c.loop-place.invariant.notes c.clear_in.ensures.notes

pub returns-in_err-clear_in-clause-noted : goal.returns-in_err-clear_in-clause-noted
returns-in_err-clear_in-clause-noted g c = λ h. c.clear_in.ensures.noted (c.loop-place.invariant.noted h)

pub returns-clause-notes : goal.returns-clause-notes
returns-clause-notes g c = c.loop-place.invariant.notes

pub returns-clause-noted : goal.returns-clause-noted
returns-clause-noted g c = c.loop-place.invariant.noted

pub returns-clause-filled : goal.returns-clause-filled
returns-clause-filled g c = subst AreFilled (sym c.loop-place.invariant.cleared) (mapped_filled (range_of c.args.begin.now c.args.end.now) c.args.version c.loop-place.place c.args.chunks.now.items c.requires.filled)

pub returns-clause-part : goal.returns-clause-part
returns-clause-part g c =
    let range = range_of c.args.begin.now c.args.end.now in
    let belongs : BelongsTo c.args.end.now c.chunk_of-last.result c.args.chunks.now.items = subst (BelongsTo c.args.end.now c.chunk_of-last.result) c.deref-2.ensures.value c.chunk_of-last.ensures.belongs in
    all_part range c.args.version (joined c.args.chunks.now.items) (joined c.loop-place.chunks.items) (last_cleared range c.args.version c.loop-place.place c.chunk_of-last.result c.args.chunks.now.items c.loop-place.chunks.items c.loop-place.invariant.cleared belongs (omega arith))

pub returns-clause-ok : goal.returns-clause-ok
returns-clause-ok g c =
    let belongs : BelongsTo c.args.end.now c.chunk_of-last.result c.args.chunks.now.items = subst (BelongsTo c.args.end.now c.chunk_of-last.result) c.deref-2.ensures.value c.chunk_of-last.ensures.belongs in
    last_cleared (range_of c.args.begin.now c.args.end.now) c.args.version c.loop-place.place c.chunk_of-last.result c.args.chunks.now.items c.loop-place.chunks.items c.loop-place.invariant.cleared belongs (omega arith)

use Rattle.std.proofs.Common.{length, None, Some, refl, sym}
use Rattle.std.proofs.lemmas.List.{append-nil}
use Rattle.std.proofs.lemmas.Option.{slice_get_read}
use Rattle.restore_apply.proofs.Rising.{get_past, join_next, rise_next}
use Rattle.restore_apply.proofs.stored.joined.Goals as goal

pub loop-at-preserved-in_default : goal.loop-at-preserved-in_default
loop-at-preserved-in_default c =
    let none = get_past c.args.files.now c.at-item.result.place c.in_default.ensures.lookup.3 in
    record {
      same = join_next c.args.files.now c.args.order.now c.loop-at.at-index c.at-item.result None c.loop-at.pairs.items c.loop-at.pairs.items _ c.loop-at-test.true c.at-item.is none (sym (append-nil c.loop-at.pairs.items)) c.loop-at.invariant.same;
      rising = rise_next c.args.files.now c.args.order.now c.loop-at.at-index c.at-item.result None c.loop-at-test.true c.at-item.is none tt c.loop-at.invariant.rising;
    }

pub loop-at-preserved : goal.loop-at-preserved
loop-at-preserved c =
    let file = c.in-Some.file.now in
    let some = slice_get_read c.args.files.now (length c.args.files.now) c.at-item.result.place file refl c.in-Some.ensures.lookup.3.0 c.in-Some.ensures.lookup.1 in
    record {
      same = join_next c.args.files.now c.args.order.now c.loop-at.at-index c.at-item.result (Some file) c.loop-at.pairs.items c.add.new.pairs.items _ c.loop-at-test.true c.at-item.is some c.in_ok-add.ensures.pairs c.loop-at.invariant.same;
      rising = rise_next c.args.files.now c.args.order.now c.loop-at.at-index c.at-item.result (Some file) c.loop-at-test.true c.at-item.is some c.add.ensures.rising c.loop-at.invariant.rising;
    }

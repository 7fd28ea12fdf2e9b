use Rattle.std.proofs.Common.{drop, subst}
use Rattle.task_futures.specs.inner.Changes.{AreSpared, IsNextPlace}
use Rattle.task_futures.proofs.Nearing.{due_on, due_all}
use Rattle.task_futures.proofs.due.due_in.Goals as goal

pub loop-place-preserved : goal.loop-place-preserved
loop-place-preserved c =
    let next = subst (λ ps. IsNextPlace ps c.loop-place.first c.args.futures.now c.in-Some.place) c.deref.ensures.value c.in-Some.ensures in
    due_on c.args.part c.args.futures.now c.loop-place.first c.in-Some.place c.loop-place.pending.items c.fall.new.pending.items c.loop-place.due c.fall.new.due c.index-futures-place.result c.requires.passed_on next c.index-futures-place.is c.in_ok-fall.ensures.pending c.in_ok-fall.ensures.due c.loop-place.invariant

pub returns : goal.returns
returns c =
    due_all c.args.part c.args.futures.now c.loop-place.first c.loop-place.pending.items c.loop-place.due c.requires.passed_on
    (subst (λ ps. AreSpared ps (drop c.loop-place.first c.args.futures.now)) c.deref.ensures.value c.in_default.ensures) c.loop-place.invariant

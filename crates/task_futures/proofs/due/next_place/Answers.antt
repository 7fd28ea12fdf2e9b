use Rattle.std.proofs.Common.{ap, sym, ◌∙◌, arith}
use Rattle.task_futures.specs.inner.Changes.{nearest}
use Rattle.task_futures.proofs.Nearing.{next_none, next_some, next_past}
use Rattle.task_futures.proofs.due.next_place.Goals as goal

pub returns-in_default : goal.returns-in_default
returns-in_default c =
    let bound = c.number-bound.ensures ∙ ap (λ f. f.number) c.index-futures-first.is in
    next_none c.args.pending.now c.args.first c.args.futures.now c.index-futures-first.result c.requires (omega (arith, c.if-first-futures.false)) (ap (λ n. nearest n c.args.pending.now) (sym bound) ∙ sym c.in_default.ensures)

pub returns-then-place-futures : goal.returns-then-place-futures
returns-then-place-futures c =
    let bound = c.number-bound.ensures ∙ ap (λ f. f.number) c.index-futures-first.is in
    next_some c.args.pending.now c.args.first c.args.futures.now c.index-futures-first.result c.in-Some.number c.place_of-place.result c.requires (omega (arith, c.if-first-futures.false)) (ap (λ n. nearest n c.args.pending.now) (sym bound) ∙ sym c.in-Some.ensures) c.place_of-place.ensures.place c.if-place-futures.true

pub returns-else-place-futures : goal.returns-else-place-futures
returns-else-place-futures c =
    let bound = c.number-bound.ensures ∙ ap (λ f. f.number) c.index-futures-first.is in
    next_past c.args.pending.now c.args.first c.args.futures.now c.index-futures-first.result c.in-Some.number c.place_of-place.result c.requires (omega (arith, c.if-first-futures.false)) (ap (λ n. nearest n c.args.pending.now) (sym bound) ∙ sym c.in-Some.ensures) c.place_of-place.ensures.place (omega (arith, c.if-place-futures.false))

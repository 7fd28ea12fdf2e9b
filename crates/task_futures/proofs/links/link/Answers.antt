use Rattle.std.proofs.Common.{◌≡◌, Bool, get_or, ◌∙◌, arith}
use Rattle.task_futures.specs.Futures.{is_open}
use Rattle.task_futures.specs.inner.Changes.{is_open_one}
use Rattle.task_futures.proofs.Joining.{link_there, link_none, none_open, open_there}
use Rattle.task_futures.proofs.Linking.{ok_then, answer_then}
use Rattle.task_futures.proofs.links.link.Goals as goal

pub returns-then-place-futures-clause-answer : goal.returns-then-place-futures-clause-answer
returns-then-place-futures-clause-answer c =
    let fs = c.args.futures.now in
    let old = get_or fs c.place_of-place.result c.index-futures-place.result in
    answer_then c.link.result (λ (b : Bool). b ≡ is_open_one c.args.number old) (λ (b : Bool). b ≡ is_open c.args.number fs)
    (λ b e. e ∙ open_there c.args.number fs c.place_of-place.result c.index-futures-place.result c.requires c.place_of-place.ensures.place c.if-place-futures.true) c.link.ensures.answer

pub returns-then-place-futures-clause-ok : goal.returns-then-place-futures-clause-ok
returns-then-place-futures-clause-ok c = ok_then c.link.result _ _ (λ e. link_there c.args.number c.args.link c.args.futures.now c.place_of-place.result _ c.link.new.self c.requires c.place_of-place.ensures.place c.if-place-futures.true e) c.link.ensures.ok

pub returns-else-place-futures-clause-answer : goal.returns-else-place-futures-clause-answer
returns-else-place-futures-clause-answer c = none_open c.args.number c.args.futures.now (omega (arith, c.if-place-futures.false, c.place_of-place.ensures.place))

pub returns-else-place-futures-clause-ok : goal.returns-else-place-futures-clause-ok
returns-else-place-futures-clause-ok c = link_none c.args.number c.args.link c.args.futures.now (omega (arith, c.if-place-futures.false, c.place_of-place.ensures.place))

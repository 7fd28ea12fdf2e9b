use Rattle.std.proofs.Common.{ap, ◌∙◌, sym}
use Rattle.task_kinds.specs.Tuples.{params_at}
use Rattle.task_kinds.proofs.Taken.{is_task}
use Rattle.task_kinds.proofs.tuples.rest_of.Goals as goal

pub invariant_of-result : goal.invariant_of-result
invariant_of-result c =
    is_task c.args.kind c.args.elements.now c.in-Some.job c.in-Some.rest.now c.in-Some-2.params c.in-Some.ensures (ap (λ shape. params_at shape c.in-Some.rest.now) (sym c.shape.ensures) ∙ sym c.in_ok-params.ensures ∙ c.in-Some-2.is)

use Rattle.std.proofs.Common.{◌∙◌, ap, sym}
use Rattle.container_view.specs.View.{stripped}
use Rattle.container_view.proofs.Stripped.{stripped_inside}
use Rattle.container_view.proofs.view.list_names.Goals as goal

pub returns-clause-names : goal.returns-clause-names
returns-clause-names g c files told = c.in_ok-names-2.ensures ∙ ap (stripped c.args.container.now) (c.in_ok-names.ensures.names files told) ∙ stripped_inside c.args.container.now files

pub returns-then-is_empty-clause-none : goal.returns-then-is_empty-clause-none
returns-then-is_empty-clause-none g c is files told =
    sym (c.in_ok-names-2.ensures ∙ ap (stripped c.args.container.now) (c.in_ok-names.ensures.names files told) ∙ stripped_inside c.args.container.now files)
    ∙ c.is_empty.ensures.0 c.if-is_empty.true

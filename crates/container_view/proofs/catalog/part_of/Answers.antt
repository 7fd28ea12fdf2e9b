use Rattle.std.proofs.Common.{◌∙◌, ap, Some, None}
use Rattle.container_view.specs.inner.Parts.{first_part}
use Rattle.container_view.proofs.Parts.{part_is}
use Rattle.container_view.proofs.catalog.part_of.Goals as goal

pub returns-in-Some : goal.returns-in-Some
returns-in-Some c = part_is c.as_str.result.now (Some (c.in-Some.part, c.in-Some.field-0-1)) c.in-Some.ensures.cases ∙ ap first_part c.as_str.ensures

pub returns-in-None : goal.returns-in-None
returns-in-None c = part_is c.as_str.result.now None c.in-None.ensures.cases ∙ ap first_part c.as_str.ensures

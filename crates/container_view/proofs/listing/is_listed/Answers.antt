use Rattle.std.proofs.Common.{◌∙◌}
use Rattle.container_view.proofs.Search.{searched_names}
use Rattle.container_view.proofs.listing.is_listed.Goals as goal

pub returns : goal.returns
returns c = c.is_ok.ensures.value ∙ searched_names c.args.name.now c.args.listed.now c.binary_search.result c.binary_search.ensures.bound c.binary_search.ensures.position c.requires

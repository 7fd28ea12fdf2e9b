use Rattle.container_view.proofs.Search.{same_named}
use Rattle.container_view.proofs.listing.in_order.Goals as goal

pub returns-clause-same : goal.returns-clause-same
returns-clause-same c = same_named c.in_ok-list.list.items c.sort.new.self.items c.args.names.now c.sort.ensures.permutation c.in_ok-list.ensures

use Rattle.std.proofs.Common.{subst}
use Rattle.log_keys.specs.Logs.{AreOrdered}
use Rattle.log_keys.proofs.Groups.{log_ordered}
use Rattle.log_keys.proofs.logs.LogKeys.in_order.Goals as goal

pub returns : goal.returns
returns c = subst AreOrdered c.self.view_is (log_ordered c.self.inside.rows.items c.self.invariant)

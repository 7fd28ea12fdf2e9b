use Rattle.std.proofs.Common.{ap, sym, subst, ◌∙◌}
use Rattle.log_keys.specs.Logs.{stands}
use Rattle.log_keys.specs.inner.Table.{AreRising, has_part}
use Rattle.log_keys.proofs.Groups.{stands_is}
use Rattle.log_keys.proofs.logs.LogKeys.stands.Goals as goal

pub has_part-requires : goal.has_part-requires
has_part-requires c = subst AreRising (sym c.deref.ensures.value) c.self.invariant.rise

pub returns : goal.returns
returns c = c.has_part.ensures ∙ ap (has_part c.args.job c.args.version) c.deref.ensures.value ∙ stands_is c.args.job c.args.version c.self.inside.rows.items c.self.invariant ∙ ap (stands c.args.job c.args.version) c.self.view_is

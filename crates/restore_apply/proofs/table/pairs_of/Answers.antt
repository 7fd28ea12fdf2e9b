use Rattle.std.proofs.Common.{sym, ◌∙◌, ap, subst}
use Rattle.fb_bytes.specs.Pairs.{value_of, AreRising}
use Rattle.restore_apply.proofs.Tables.{paired_rising, paired_value, paired_all}
use Rattle.restore_apply.proofs.table.pairs_of.Goals as goal

pub from_vec-requires : goal.from_vec-requires
from_vec-requires c = subst AreRising (sym (paired_all c.loop-key.pairs.items c.loop-key.key-iterator c.args.table.entries c.in-None.ensures.steps.0 c.loop-key.invariant)) (paired_rising c.args.table.entries c.len.ensures.ordered)

pub returns : goal.returns
returns c = λ key. ap (λ pairs. value_of pairs key) (c.from_vec.ensures ∙ paired_all c.loop-key.pairs.items c.loop-key.key-iterator c.args.table.entries c.in-None.ensures.steps.0 c.loop-key.invariant) ∙ paired_value c.args.table.entries key

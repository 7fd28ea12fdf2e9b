use Rattle.std.proofs.Common.{◌-◌, take, sym, ap, ◌∙◌}
use Rattle.versioned_kv.proofs.Lists.{cut_over, cut_after}
use Rattle.versioned_kv.proofs.table.edits.Table+Row.cut.Goals as goal

pub returns-then-ends_at : goal.returns-then-ends_at
returns-then-ends_at g c = c.truncate.ensures ∙ ap (λ n. take (n - 1) c.args.self.now) c.len-rest.ensures ∙ cut_over c.args.version c.args.self.now c.requires.rising c.requires.upto (sym c.ends_at.ensures.last ∙ c.if-ends_at.true)

pub returns-else-ends_at : goal.returns-else-ends_at
returns-else-ends_at g c = cut_after c.args.version c.args.self.now c.requires.rising c.requires.upto (sym c.ends_at.ensures.last ∙ c.if-ends_at.false)

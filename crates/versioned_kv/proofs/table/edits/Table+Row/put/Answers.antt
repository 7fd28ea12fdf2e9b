use Rattle.std.proofs.Common.{◌-◌, sym, ap, ◌∙◌}
use Rattle.std.specs.List.{slice_set}
use Rattle.versioned_kv.proofs.Places.{on_ok}
use Rattle.versioned_kv.proofs.Lists.{put_over, put_after}
use Rattle.versioned_kv.proofs.table.edits.Table+Row.put.Goals as goal

pub returns-then-ends_at-clause-ok : goal.returns-then-ends_at-clause-ok
returns-then-ends_at-clause-ok g c = c.set.ensures ∙ ap (λ n. slice_set c.args.self.now (n - 1) c.args.row) c.len-last.ensures ∙ put_over c.args.row c.args.self.now c.requires.rising c.requires.upto (sym c.ends_at.ensures.last ∙ c.if-ends_at.true)

pub returns-clause-ok : goal.returns-clause-ok
returns-clause-ok g c = on_ok c.push.result (λ e. e ∙ put_after c.args.row c.args.self.now c.requires.rising c.requires.upto (sym c.ends_at.ensures.last ∙ c.if-ends_at.false)) c.push.ensures.ok

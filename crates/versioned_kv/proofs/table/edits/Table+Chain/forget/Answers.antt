use Rattle.std.proofs.Common.{sym, ◌∙◌}
use Rattle.versioned_kv.specs.Forgotten.{forgotten}
use Rattle.versioned_kv.proofs.Forgets.{rising_at}
use Rattle.versioned_kv.proofs.Changes.{change_from, change_none}
use Rattle.versioned_kv.proofs.table.edits.Table+Chain.forget.Goals as goal

pub forget_at-requires-clause-rising : goal.forget_at-requires-clause-rising
forget_at-requires-clause-rising g c = λ chain h. rising_at c.place_of-place.result c.args.self.now chain c.requires h

pub returns-then-is_at : goal.returns-then-is_at
returns-then-is_at g c = change_from (forgotten c.args.oldest) c.args.key.now c.args.self.now c.forget_at.new.self c.place_of-place.result c.requires (sym c.is_at.ensures ∙ c.if-is_at.true) c.forget_at.ensures

pub returns-else-is_at : goal.returns-else-is_at
returns-else-is_at g c = change_none (forgotten c.args.oldest) c.args.key.now c.args.self.now c.place_of-place.result c.requires c.place_of-place.ensures.place (sym c.is_at.ensures ∙ c.if-is_at.false)

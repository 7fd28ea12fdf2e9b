use Rattle.std.proofs.Common.{sym, ◌∙◌}
use Rattle.versioned_kv.specs.Edits.{without_rows}
use Rattle.versioned_kv.proofs.Cuts.{chain_rows}
use Rattle.versioned_kv.proofs.Changes.{change_from, change_none}
use Rattle.versioned_kv.proofs.table.edits.Table+Chain.cut.Goals as goal

pub cut_at-requires-clause-rows : goal.cut_at-requires-clause-rows
cut_at-requires-clause-rows g c = λ chain h. chain_rows c.args.version c.place_of-place.result c.args.self.now chain c.requires.chains c.requires.upto h

pub returns-then-is_at : goal.returns-then-is_at
returns-then-is_at g c = change_from (without_rows c.args.version) c.args.key.now c.args.self.now c.cut_at.new.self c.place_of-place.result c.requires.chains (sym c.is_at.ensures ∙ c.if-is_at.true) c.cut_at.ensures

pub returns-else-is_at : goal.returns-else-is_at
returns-else-is_at g c = change_none (without_rows c.args.version) c.args.key.now c.args.self.now c.place_of-place.result c.requires.chains c.place_of-place.ensures.place (sym c.is_at.ensures ∙ c.if-is_at.false)

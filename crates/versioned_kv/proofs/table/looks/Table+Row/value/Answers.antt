use Rattle.std.proofs.Common.{◌∙◌, sym, arith}
use Rattle.versioned_kv.proofs.Values.{no_value, value_here}
use Rattle.versioned_kv.proofs.table.looks.Table+Row.value.Goals as goal

pub returns-then-place-eq0-clause-value : goal.returns-then-place-eq0-clause-value
returns-then-place-eq0-clause-value g c = sym (no_value c.args.version c.args.self.now c.requires (sym c.place_past-place.ensures.place ∙ c.if-place-eq0.true))

pub returns-clause-value : goal.returns-clause-value
returns-clause-value g c = c.as_ref.ensures.value ∙ value_here c.args.version c.args.self.now c.place_past-place.result c.at-row.result.now c.requires c.place_past-place.ensures.place (omega arith) c.at-row.ensures.entry

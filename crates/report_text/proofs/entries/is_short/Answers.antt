use Rattle.std.proofs.Common.{◌∙◌, sym, rules}
use Rattle.report_text.proofs.Plain.{printed_plain}
use Rattle.report_text.proofs.entries.is_short.Goals as goal

pub returns-clause-printed : goal.returns-clause-printed
returns-clause-printed c = λ plain. printed_plain c.args.bytes.now (search rules) (sym c.are_plain.ensures ∙ plain)

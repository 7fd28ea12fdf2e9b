use Rattle.std.proofs.Common.{ap, sym, ◌∙◌}
use Rattle.std.specs.Option.{option_copied}
use Rattle.fb_cli.proofs.Turns.{some_last}
use Rattle.fb_cli.proofs.fault.last_fault.Goals as goal

pub returns-in-Some : goal.returns-in-Some
returns-in-Some c = c.fault_of.ensures ∙ some_last c.args.lines.now c.in-Some.line.now (sym c.last.ensures.value ∙ ap option_copied c.in-Some.is)

use Rattle.std.proofs.Common.{sym, ap, ◌∙◌}
use Rattle.std.specs.Option.{is_some}
use Rattle.task_bucket.proofs.Views.{found_is, copied_some}
use Rattle.task_bucket.proofs.held.is_leased.Goals as goal

pub returns : goal.returns
returns c = c.is_some.ensures ∙ copied_some c.find.result ∙ ap is_some c.find.ensures ∙ sym (found_is c.args.until c.args.uid c.args.held.now)

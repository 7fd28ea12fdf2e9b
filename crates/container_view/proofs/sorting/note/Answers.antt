use Rattle.std.proofs.Common.{◌∙◌, ap, sym, Some}
use Rattle.container_view.specs.Bounds.{wider}
use Rattle.container_view.specs.Description.{log_span}
use Rattle.container_view.specs.inner.Listed.{logs_of}
use Rattle.container_view.proofs.Spans.{span_more}
use Rattle.container_view.proofs.sorting.note.Goals as goal

pub returns-in_ok-push-in-Log-clause-span : goal.returns-in_ok-push-in-Log-clause-span
returns-in_ok-push-in-Log-clause-span c h = c.wider-parsed.ensures ∙ ap (λ s. wider s (Some (record { least = c.in-Log.begin; greatest = c.in-Log.end }))) h ∙ sym (span_more c.args.parsed.now.logs.items (record { name = c.args.name; begin = c.in-Log.begin; end = c.in-Log.end })) ∙ ap (λ xs. log_span (logs_of xs)) (sym c.in_ok-push-in-Log.ensures.items)

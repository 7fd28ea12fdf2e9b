use Rattle.std.proofs.Common.{◌∙◌, ap, sym, inr, ok_or, Err}
use Rattle.container_view.specs.Files.{whole_name}
use Rattle.container_view.specs.declared.view.ViewFault.TheVariants as faults
use Rattle.container_view.proofs.Stripped.{by_whole}
use Rattle.container_view.proofs.restoring.get_file.Goals as goal

pub returns-in-Some-clause-ok : goal.returns-in-Some-clause-ok
returns-in-Some-clause-ok g c files told =
    by_whole c.args.container.now c.args.name.now c.in_ok-whole.whole files (c.in_ok-whole.ensures ∙ ap (whole_name c.args.container.now) c.as_str.ensures)
    ∙ sym (c.in_ok-bytes.ensures.bytes files told)
    ∙ c.in-Some.is

pub returns-clause-err : goal.returns-clause-err
returns-clause-err g c files told =
    inr (inr (
    ap (λ o. ok_or o (faults.Missing c.args.name.now))
    (by_whole c.args.container.now c.args.name.now c.in_ok-whole.whole files (c.in_ok-whole.ensures ∙ ap (whole_name c.args.container.now) c.as_str.ensures)
    ∙ sym (c.in_ok-bytes.ensures.bytes files told)
    ∙ c.in-None.is)
    ∙ ap (λ name. Err (faults.Missing name)) (sym c.in_ok-name-in-None.ensures)
    ))

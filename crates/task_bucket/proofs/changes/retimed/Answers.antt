use Rattle.std.proofs.Common.{◌≡◌, Some, subst, sym, ap, ◌∙◌, refl}
use Rattle.task_bucket.specs.declared.lease.LeaseFault.TheVariants.{NoMemory}
use Rattle.std.proofs.lemmas.Result.{err_from_is_err_and}
use Rattle.task_bucket.specs.inner.Held.{AreRising, lists_in, retimed_held}
use Rattle.task_bucket.proofs.Views.{rising_map, lists_retimed, extended_found, found_yes, found_no}
use Rattle.task_bucket.proofs.changes.retimed.Goals as goal

pub returns-in_default-clause-interrupted : goal.returns-in_default-clause-interrupted
returns-in_default-clause-interrupted c = (λ e. found_no c.args.until c.args.uid c.args.held.now c.in_default.ensures, λ e. refl)

pub returns-in_err-task-clause-interrupted : goal.returns-in_err-task-clause-interrupted
returns-in_err-task-clause-interrupted c =
    let p = err_from_is_err_and c.from_residual.result c.from_residual.ensures.1 in
    let found = found_yes c.args.until c.args.uid c.args.held.now c.in-Some.one.now c.in-Some.ensures in
    (λ e. absurd (let a = p.1 in let b : p.0 ≡ NoMemory = p.2 in cc), λ e. absurd cc)

pub returns-clause-rising : goal.returns-clause-rising
returns-clause-rising c = subst AreRising (sym c.retime.ensures) (rising_map (retimed_held c.args.until c.args.uid c.args.new) (λ h. refl) c.args.held.now c.requires)

pub returns-clause-interrupted : goal.returns-clause-interrupted
returns-clause-interrupted c =
    let found = found_yes c.args.until c.args.uid c.args.held.now c.in-Some.one.now c.in-Some.ensures in
    (λ e. absurd cc, λ e. absurd cc)

pub returns-clause-answer : goal.returns-clause-answer
returns-clause-answer c =
    extended_found c.args.until c.args.uid c.args.new c.args.held.now c.in-Some.one.now c.in-Some.ensures ∙ ap (λ task. Some (record { until = c.args.new; uid = c.args.uid; task = task })) (sym c.in_ok-task.ensures)

pub returns-clause-ok : goal.returns-clause-ok
returns-clause-ok c = ap lists_in c.retime.ensures ∙ lists_retimed c.args.until c.args.uid c.args.new c.args.held.now

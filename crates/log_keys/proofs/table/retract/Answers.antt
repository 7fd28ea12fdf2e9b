use Rattle.std.proofs.Common.{◌<◌, length, sym, ap, ◌∙◌, subst, arith}
use Rattle.log_keys.specs.inner.Table.{AreRising}
use Rattle.log_keys.proofs.Retracts.{past, retracts_on, retracts_less, retracts_all, rising_filter}
use Rattle.log_keys.proofs.table.retract.Goals as goal

pub place_past-done-requires : goal.place_past-done-requires
place_past-done-requires c = subst AreRising (sym (c.deref.ensures.value ∙ c.retract_of.ensures)) (rising_filter _ c.jobs.rows.items c.jobs.invariant.rising)

pub jobs-smaller : goal.jobs-smaller
jobs-smaller c =
    let inside : c.jobs.done < length c.jobs.rows.items = omega (arith, c.jobs-test.true, c.len.ensures, c.jobs.rows.ok.0) in
    let there = c.place_past-done.ensures.place ∙ ap (past c.job-job.result) c.deref.ensures.value in
    retracts_less c.args.version c.args.rows.now.items c.jobs.done c.job-job.result c.place_past-done.result c.jobs.rows.items c.retract_of.new.rows.items c.index.result.now inside (c.job-job.ensures ∙ ap (λ r. r.key.job) c.index.ensures) c.retract_of.ensures there c.jobs.invariant

pub jobs-preserved : goal.jobs-preserved
jobs-preserved c =
    let inside : c.jobs.done < length c.jobs.rows.items = omega (arith, c.jobs-test.true, c.len.ensures, c.jobs.rows.ok.0) in
    let there = c.place_past-done.ensures.place ∙ ap (past c.job-job.result) c.deref.ensures.value in
    retracts_on c.args.version c.args.rows.now.items c.jobs.done c.job-job.result c.place_past-done.result c.jobs.rows.items c.retract_of.new.rows.items c.index.result.now inside (c.job-job.ensures ∙ ap (λ r. r.key.job) c.index.ensures) c.retract_of.ensures there c.jobs.invariant

pub returns : goal.returns
returns c = retracts_all c.args.version c.args.rows.now.items c.jobs.done c.jobs.rows.items (omega (arith, c.jobs-test.false, c.len.ensures, c.jobs.rows.ok.0)) c.jobs.invariant

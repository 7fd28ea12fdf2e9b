use Rattle.std.proofs.Common.{◌+◌, length, ap, subst, arith, sym, ◌∙◌}
use Rattle.std.proofs.lemmas.Result.{err_from_is_err_and}
use Rattle.log_files.specs.declared.fault.LogFault.TheVariants.{NoMemory}
use Rattle.fb_bytes.proofs.Results.{fails_on}
use Rattle.log_files.specs.Reading.{records_at}
use Rattle.log_files.specs.inner.Seen.{records_from}
use Rattle.log_files.proofs.Records.{RowsSoFar, records_last, rows_begin, rows_end, rows_more, rows_no_key, rows_no_value}
use Rattle.log_files.proofs.record.records_at.Goals as goal

pub rows-init : goal.rows-init
rows-init c = record { within = omega arith; so_far = rw c.new-records.ensures.items (rows_begin c.args.end c.args.bytes.now) }

pub returns-in_err-key-clause-err : goal.returns-in_err-key-clause-err
returns-in_err-key-clause-err c =
    let p = err_from_is_err_and c.from_residual.result c.from_residual.ensures.1 in
    rw (p.1, p.2) (fails_on NoMemory c.in_err-key.field-0.0 _ _ (λ e. rows_no_key (records_from c.rows.records.items) c.args.end c.rows.rest.now c.in_err-key.field-0.0 _ c.rows.invariant.so_far (sym c.is_over.ensures ∙ c.rows-test.true) e) c.in_err-key.ensures.err)

pub returns-in_err-value-clause-err : goal.returns-in_err-value-clause-err
returns-in_err-value-clause-err c =
    let p = err_from_is_err_and c.from_residual-in_err-value.result c.from_residual-in_err-value.ensures.1 in
    rw (p.1, p.2) (fails_on NoMemory c.in_err-value.field-0.0 _ _ (λ e. rows_no_value (records_from c.rows.records.items) c.args.end c.rows.rest.now c.in_ok-key.key.now c.in_ok-key.after.now c.in_err-value.field-0.0 _ c.rows.invariant.so_far (sym c.is_over.ensures ∙ c.rows-test.true) c.in_ok-key.ensures.ok e) c.in_err-value.ensures.err)

pub rows-preserved : goal.rows-preserved
rows-preserved c = record {
  within = omega (arith, c.in_ok-key.ensures.shorter, c.in_ok-value.ensures.shorter);
  so_far = subst (λ rows. RowsSoFar rows c.args.end c.in_ok-value.after.now (records_at (length c.args.bytes.now + 1) c.args.end c.args.bytes.now)) (sym (ap records_from c.in_ok-push.ensures.items ∙ records_last c.rows.records.items _)) (rows_more (records_from c.rows.records.items) c.args.end c.rows.rest.now c.in_ok-key.key.now c.in_ok-key.after.now c.in_ok-value.value.now c.in_ok-value.after.now _ c.rows.invariant.so_far (sym c.is_over.ensures ∙ c.rows-test.true) c.in_ok-key.ensures.ok c.in_ok-value.ensures.ok);
}

pub returns-clause-ok : goal.returns-clause-ok
returns-clause-ok c = rows_end (records_from c.rows.records.items) c.args.end c.rows.rest.now _ c.rows.invariant.so_far (sym c.is_over.ensures ∙ c.rows-test.false)

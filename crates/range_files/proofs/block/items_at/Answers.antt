use Rattle.std.proofs.Common.{arith, sym, ◌∙◌}
use Rattle.std.proofs.lemmas.Result.{err_from_is_err_and}
use Rattle.range_files.specs.declared.fault.BlockFault.TheVariants.{NoMemory}
use Rattle.fb_bytes.proofs.Results.{fails_on}
use Rattle.range_files.proofs.Steps.{string_or_size}
use Rattle.range_files.proofs.Items.{items_begin, items_alone, items_last, items_more, items_no_key, items_no_value}
use Rattle.range_files.proofs.block.items_at.Goals as goal

pub loop-pairs-init : goal.loop-pairs-init
loop-pairs-init c = record { within = omega arith; so_far = rw c.new-pairs.ensures.items (items_begin c.args.end c.args.bytes.now) }

pub returns-in_err-key-clause-err : goal.returns-in_err-key-clause-err
returns-in_err-key-clause-err c =
    let p = err_from_is_err_and c.from_residual.result c.from_residual.ensures.1 in
    rw (p.1, p.2) (fails_on NoMemory c.in_err-key.field-0.0 _ _ (λ e. items_no_key c.loop-pairs.pairs.items c.args.end c.loop-pairs.rest.now c.in_err-key.field-0.0 _ c.loop-pairs.invariant.so_far e) c.in_err-key.ensures.err)

pub returns-then-is_over-clause-ok : goal.returns-then-is_over-clause-ok
returns-then-is_over-clause-ok c = items_alone c.loop-pairs.pairs.items c.args.end c.loop-pairs.rest.now c.in_ok-key.key c.in_ok-key.after.now _ c.loop-pairs.invariant.so_far c.in_ok-key.ensures.ok (sym c.is_over.ensures ∙ c.if-is_over.true)

pub string_or-requires-in-loop-pairs : goal.string_or-requires-in-loop-pairs
string_or-requires-in-loop-pairs c = let a = string_or_size c.args.end c.loop-pairs.rest.now (c.in_ok-key.key, c.in_ok-key.after.now) c.in_ok-key.ensures.ok in omega arith

pub returns-in_err-value-clause-err : goal.returns-in_err-value-clause-err
returns-in_err-value-clause-err c =
    let p = err_from_is_err_and c.from_residual-in_err-value.result c.from_residual-in_err-value.ensures.1 in
    rw (p.1, p.2) (fails_on NoMemory c.in_err-value.field-0.0 _ _ (λ e. items_no_value c.loop-pairs.pairs.items c.args.end c.loop-pairs.rest.now c.in_ok-key.key c.in_ok-key.after.now c.in_err-value.field-0.0 _ c.loop-pairs.invariant.so_far c.in_ok-key.ensures.ok (sym c.is_over.ensures ∙ c.if-is_over.false) e) c.in_err-value.ensures.err)

pub returns-then-is_over-2-clause-ok : goal.returns-then-is_over-2-clause-ok
returns-then-is_over-2-clause-ok c =
    rw c.in_ok-push.ensures.items (items_last c.loop-pairs.pairs.items c.args.end c.loop-pairs.rest.now c.in_ok-key.key c.in_ok-key.after.now c.in_ok-value.value c.in_ok-value.after.now _ c.loop-pairs.invariant.so_far c.in_ok-key.ensures.ok (sym c.is_over.ensures ∙ c.if-is_over.false) c.in_ok-value.ensures.ok (sym c.is_over-in-loop-pairs.ensures ∙ c.if-is_over-2.true))

pub loop-pairs-smaller : goal.loop-pairs-smaller
loop-pairs-smaller c =
    let a = string_or_size c.args.end c.loop-pairs.rest.now (c.in_ok-key.key, c.in_ok-key.after.now) c.in_ok-key.ensures.ok in
    let b = string_or_size c.args.end c.in_ok-key.after.now (c.in_ok-value.value, c.in_ok-value.after.now) c.in_ok-value.ensures.ok in
    omega arith

pub loop-pairs-preserved : goal.loop-pairs-preserved
loop-pairs-preserved c =
    let a = string_or_size c.args.end c.loop-pairs.rest.now (c.in_ok-key.key, c.in_ok-key.after.now) c.in_ok-key.ensures.ok in
    let b = string_or_size c.args.end c.in_ok-key.after.now (c.in_ok-value.value, c.in_ok-value.after.now) c.in_ok-value.ensures.ok in
    record {
      within = omega arith;
      so_far = rw c.in_ok-push.ensures.items (items_more c.loop-pairs.pairs.items c.args.end c.loop-pairs.rest.now c.in_ok-key.key c.in_ok-key.after.now c.in_ok-value.value c.in_ok-value.after.now _ c.loop-pairs.invariant.so_far c.in_ok-key.ensures.ok (sym c.is_over.ensures ∙ c.if-is_over.false) c.in_ok-value.ensures.ok (sym c.is_over-in-loop-pairs.ensures ∙ c.if-is_over-2.false));
    }

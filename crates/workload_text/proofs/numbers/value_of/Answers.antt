use Rattle.std.proofs.Common.{arith, refl}
use Rattle.file_names.proofs.Numbers.{is_digit}
use Rattle.workload_text.proofs.Decimals.{too_great}
use Rattle.workload_text.proofs.numbers.value_of.Goals as goal

pub overflow_sub-digit : goal.overflow_sub-digit
overflow_sub-digit c = (is_digit c.args.digits.now c.loop-digit.digit-index c.requires c.loop-digit-test.true).0

pub returns-then-value-digit : goal.returns-then-value-digit
returns-then-value-digit c =
    let digit = is_digit c.args.digits.now c.loop-digit.digit-index c.requires c.loop-digit-test.true in
    too_great c.args.digits.now c.loop-digit.digit-index c.loop-digit.value _ _ c.loop-digit-test.true refl c.loop-digit.invariant.same (omega arith)

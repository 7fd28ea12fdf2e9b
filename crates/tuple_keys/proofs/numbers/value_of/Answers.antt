use Rattle.std.proofs.Common.{◌<◌, ◌^◌, arith, sym, get_or}
use Rattle.tuple_keys.proofs.Loops.{turned-step, turned-below, digit-below}
use Rattle.tuple_keys.proofs.numbers.value_of.Goals as goal

pub overflow_mul-value : goal.overflow_mul-value
overflow_mul-value c =
    let below = turned-below c.args.negative c.args.digits.now c.loop-byte.byte-index (λ i. omega (arith, c.type_inv.digits i)) c.loop-byte-test.true c.requires in
    let small : c.loop-byte.value < 2 ^ 56 = rw c.loop-byte.invariant below in
    omega arith

pub overflow_add-value : goal.overflow_add-value
overflow_add-value c =
    let below = turned-below c.args.negative c.args.digits.now c.loop-byte.byte-index (λ i. omega (arith, c.type_inv.digits i)) c.loop-byte-test.true c.requires in
    let small : c.loop-byte.value < 2 ^ 56 = rw c.loop-byte.invariant below in
    let digit = digit-below c.args.negative (get_or c.args.digits.now c.loop-byte.byte-index 0) (omega (arith, c.type_inv.digits c.loop-byte.byte-index)) in
    let one : c.from.result < 256 = rw (c.from.ensures, c.digit_of.ensures) digit in
    omega arith

pub loop-byte-preserved : goal.loop-byte-preserved
loop-byte-preserved c =
    let step = turned-step c.args.negative c.args.digits.now c.loop-byte.byte-index c.loop-byte-test.true in
    rw (c.from.ensures, c.digit_of.ensures, c.loop-byte.invariant) (sym step)

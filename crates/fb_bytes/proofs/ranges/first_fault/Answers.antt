use Rattle.std.proofs.Common.{sym, ◌<◌, length, arith}
use Rattle.std.proofs.lemmas.Bool.Decides.{nat_tests}
use Rattle.fb_bytes.proofs.Places.{backwards_fault, past_user_fault, no_fault}
use Rattle.fb_bytes.proofs.ranges.first_fault.Goals as goal

pub returns-in-Some : goal.returns-in-Some
returns-in-Some c =
    let some : 0 < length c.args.list.now = grind (arith, nat_tests) in
    sym (backwards_fault c.args.list.now c.in-Some.index some c.if-count-gt-MOST_RANGES.false (sym c.in-Some.ensures))

pub returns-in-Some-first_past_user : goal.returns-in-Some-first_past_user
returns-in-Some-first_past_user c =
    let some : 0 < length c.args.list.now = grind (arith, nat_tests) in
    sym (past_user_fault c.args.list.now c.in-Some-first_past_user.index some c.if-count-gt-MOST_RANGES.false (sym c.in_default.ensures) (sym c.in-Some-first_past_user.ensures))

pub returns : goal.returns
returns c =
    let some : 0 < length c.args.list.now = grind (arith, nat_tests) in
    sym (no_fault c.args.list.now some c.if-count-gt-MOST_RANGES.false (sym c.in_default.ensures) (sym c.in_default-first_past_user.ensures))

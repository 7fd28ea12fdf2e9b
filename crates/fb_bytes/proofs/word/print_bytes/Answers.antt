use Rattle.std.proofs.Common.{rules, sym, ◌∙◌, arith}
use Rattle.fb_bytes.proofs.Printing.{one_more_letter, printed_is_word, whole_printed}
use Rattle.fb_bytes.proofs.word.print_bytes.Goals as goal

pub loop-byte-preserved : goal.loop-byte-preserved
loop-byte-preserved c =
    rw (c.in_ok-push_letter.ensures, c.loop-byte.invariant)
    (sym (one_more_letter c.args.bytes.now c.loop-byte.byte-index c.loop-byte-test.true))

pub returns-clause-printed : goal.returns-clause-printed
returns-clause-printed c =
    c.from_string.ensures ∙ c.loop-byte.invariant ∙ whole_printed c.args.bytes.now c.loop-byte.byte-index c.loop-byte-test.false (search rules)

pub returns-clause-word : goal.returns-clause-word
returns-clause-word c = rw (returns-clause-printed c) (printed_is_word c.args.bytes.now (λ i. omega (arith, c.type_inv.bytes i)))

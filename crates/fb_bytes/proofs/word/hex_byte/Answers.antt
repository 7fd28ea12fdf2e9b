use Rattle.std.proofs.Common.{sym, ◌∙◌}
use Rattle.fb_bytes.proofs.Printing.{hex_answers}
use Rattle.fb_bytes.proofs.word.hex_byte.Goals as goal

pub returns-in_err-ok : goal.returns-in_err-ok
returns-in_err-ok c =
    let answers = hex_answers c.args.high c.args.low c.decode_to_slice.result c.decode_to_slice.new.out c.decode_to_slice.ensures.value in
    c.from_residual.ensures ∙ sym (answers.0 c.in_err-ok.ensures.value)

pub returns : goal.returns
returns c =
    let answers = hex_answers c.args.high c.args.low c.decode_to_slice.result c.decode_to_slice.new.out c.decode_to_slice.ensures.value in
    answers.1 c.in_ok-ok.field-0 c.in_ok-ok.ensures.value

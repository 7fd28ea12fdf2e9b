use Rattle.std.proofs.Common.{ap, sym, ◌++◌, ◌∙◌, rules}
use Rattle.fb_bytes.specs.Bytes.{Bytes}
use Rattle.fb_bytes.proofs.Letters.{printed_plain}
use Rattle.fb_bytes.proofs.word.put_printed.Goals as goal

pub returns-then-are_plain : goal.returns-then-are_plain
returns-then-are_plain c =
    c.in_ok-extend_from_slice.ensures.ok
    ∙ ap (λ (word : Bytes). c.args.out.now ++ word) (sym (printed_plain c.args.bytes.now (search rules) (sym c.are_plain.ensures ∙ c.if-are_plain.true)))

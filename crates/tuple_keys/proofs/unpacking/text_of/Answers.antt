use Rattle.std.proofs.Common.{◌≡◌, ap, ◌∙◌, sym, inr, Ok}
use Rattle.std.proofs.lemmas.Str.{IsUtf8-string_bytes}
use Rattle.tuple_keys.proofs.Parts.{text_yes, text_no}
use Rattle.tuple_keys.proofs.unpacking.text_of.Goals as goal

pub returns-in-Ok : goal.returns-in-Ok
returns-in-Ok c =
    let e : c.in-Ok.text.bytes ≡ c.args.bytes = c.in-Ok.ensures.ok in
    rw (← e) (text_yes c.args.at c.in-Ok.text.bytes.items (IsUtf8-string_bytes c.in-Ok.text) ∙ ap Ok (sym c.from_string.ensures))

pub returns : goal.returns
returns c = inr (text_no c.args.at c.args.bytes.items (λ u. let e = c.in-Err.ensures.succeeds u in absurd cc))

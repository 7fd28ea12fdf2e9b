use Rattle.std.proofs.Common.{◌≡◌, ◌-◌, true, false, cond, Option, None, is_some, sym, ap, ◌∙◌, arith}
use Rattle.fb_bytes.specs.Bytes.{Bytes}
use Rattle.versioned_kv.specs.Chains.{rows_upto, value_in}
use Rattle.versioned_kv.proofs.Values.{value_here}
use Rattle.versioned_kv.proofs.table.edits.Table+Row.fallen.Goals as goal

pub returns-then-is_some-clause-count : goal.returns-then-is_some-clause-count
returns-then-is_some-clause-count g c =
    let rows = c.args.self.now in
    let upto = rows_upto c.args.oldest rows in
    let value = value_here c.args.oldest rows c.place_past-upto.result c.at-last.result.now c.requires c.place_past-upto.ensures.place (omega arith) c.at-last.ensures.entry in
    let some : is_some (value_in rows c.args.oldest None) ≡ true = ap (λ (o : Option Bytes). is_some o) (sym value) ∙ sym c.is_some.ensures ∙ c.if-is_some.true in
    ap (λ n. n - 1) c.place_past-upto.ensures.place ∙ sym (ap (λ b. cond b (upto - 1) upto) some)

pub returns-clause-count : goal.returns-clause-count
returns-clause-count g c =
    let rows = c.args.self.now in
    let upto = rows_upto c.args.oldest rows in
    let value = value_here c.args.oldest rows c.place_past-upto.result c.at-last.result.now c.requires c.place_past-upto.ensures.place (omega arith) c.at-last.ensures.entry in
    let none : is_some (value_in rows c.args.oldest None) ≡ false = ap (λ (o : Option Bytes). is_some o) (sym value) ∙ sym c.is_some.ensures ∙ c.if-is_some.false in
    c.place_past-upto.ensures.place ∙ sym (ap (λ b. cond b (upto - 1) upto) none)

use Rattle.std.proofs.Common.{rules, ◌≡◌, ℕ, true, false, length-drop, inr, ap, sym, ◌∙◌, arith, Ok}
use Rattle.std.proofs.lemmas.List.{take_rest}
use Rattle.fb_bytes.specs.Bytes.{is_same}
use Rattle.fb_bytes.specs.Words.{empty_word}
use Rattle.fb_bytes.proofs.Letters.{read_plain, read_started, read_goes_on, read_stops, read_ends, read_empty}
use Rattle.fb_bytes.proofs.word.read_letters.Goals as goal

pub letters-init : goal.letters-init
letters-init c = record {
  within = omega arith;
  same = read_started c.args.word.now c.new-bytes.result.items c.new-bytes.ensures.items;
}

pub letters-preserved : goal.letters-preserved
letters-preserved c =
    let letter = rw take_rest at c.in-Some.ensures.letter in
    let within = rw take_rest at c.in-Some.ensures.within in
    record {
      within = omega (arith, length-drop {A = ℕ});
      same =
          read_goes_on c.args.word.now c.letters.bytes.items c.push.new.self.items c.letters.at c.in-Some.byte c.in-Some.more
          c.letters.invariant.same (sym letter) c.in_ok-push.ensures.items;
    }

pub returns-then-is_same-clause-ok : goal.returns-then-is_same-clause-ok
returns-then-is_same-clause-ok c =
    let s : is_same c.args.word.now empty_word ≡ true = sym c.is_same.ensures ∙ c.if-is_same.true in
    read_empty c.args.word.now s ∙ ap Ok (sym c.new.ensures)

pub returns-in_default-clause-err : goal.returns-in_default-clause-err
returns-in_default-clause-err c =
    let s : is_same c.args.word.now empty_word ≡ false = sym c.is_same.ensures ∙ c.if-is_same.false in
    let letter = rw take_rest at c.in_default.ensures.letter in
    inr (read_stops c.args.word.now c.letters.bytes.items c.letters.at (search rules) s c.letters-test.true c.letters.invariant.same (sym letter))

pub returns-clause-ok : goal.returns-clause-ok
returns-clause-ok c =
    let s : is_same c.args.word.now empty_word ≡ false = sym c.is_same.ensures ∙ c.if-is_same.false in
    read_ends c.args.word.now c.letters.bytes.items c.letters.at (search rules) s c.letters-test.false c.letters.invariant.same
    ∙ ap Ok (sym (c.in_ok-from_slice-2.ensures ∙ c.deref.ensures.value))

pub returns-then-are_plain-clause-ok : goal.returns-then-are_plain-clause-ok
returns-then-are_plain-clause-ok c =
    let s : is_same c.args.word.now empty_word ≡ false = sym c.is_same.ensures ∙ c.if-is_same.false in
    read_plain c.args.word.now s (sym c.are_plain.ensures ∙ c.if-are_plain.true) (search rules) ∙ ap Ok (sym c.in_ok-from_slice.ensures)

use Rattle.std.proofs.Common.{ℕ, ◌++◌, ap, ◌∙◌, Some, arith, length-append, length-take}
use Rattle.fb_outside.proofs.Fronts.{goes_on, still_ends, at_end, drop-empty}
use Rattle.fb_outside.proofs.reading.read_all.Goals as goal

pub returns-then-n-eq0-clause-whole : goal.returns-then-n-eq0-clause-whole
returns-then-n-eq0-clause-whole g c bytes told =
    let kept = c.reads.invariant.told bytes told in
    let moved = c.in_ok-n.ensures.moved kept.0 kept.1 in
    let none = moved.0.none c.if-n-eq0.true in (
      c.from_vec.ensures ∙ at_end bytes c.reads.bytes.items kept.0 kept.2 none,
      moved.1 ∙ ap Some (drop-empty c.in_ok-n.n kept.0 c.if-n-eq0.true none),
    )

pub returns-then-n-eq0-clause-rest : goal.returns-then-n-eq0-clause-rest
returns-then-n-eq0-clause-rest g c bytes told =
    let kept = c.reads.invariant.told bytes told in
    let moved = c.in_ok-n.ensures.moved kept.0 kept.1 in
    (_, moved.1, still_ends c.in_ok-n.n bytes c.reads.bytes.items kept.0 kept.2)

pub returns-then-n-limit-clause-rest : goal.returns-then-n-limit-clause-rest
returns-then-n-limit-clause-rest g c bytes told =
    let kept = c.reads.invariant.told bytes told in
    let moved = c.in_ok-n.ensures.moved kept.0 kept.1 in
    (_, moved.1, still_ends c.in_ok-n.n bytes c.reads.bytes.items kept.0 kept.2)

pub reads-preserved : goal.reads-preserved
reads-preserved g c = record {
  told = λ bytes told.
      let kept = c.reads.invariant.told bytes told in
      let moved = c.in_ok-n.ensures.moved kept.0 kept.1 in
      let grown = c.in_ok-extend_from_slice.ensures.items ∙ ap (λ p. c.reads.bytes.items ++ p) moved.0.front in
      (_, moved.1, rw grown (goes_on c.in_ok-n.n bytes c.reads.bytes.items kept.0 kept.2));
  short =
      rw c.in_ok-extend_from_slice.ensures.items (omega (arith, length-append {A = ℕ}, length-take {A = ℕ}));
  later = omega arith;
}

pub returns-in_err-extend_from_slice-clause-rest :
    goal.returns-in_err-extend_from_slice-clause-rest
returns-in_err-extend_from_slice-clause-rest g c bytes told =
    let kept = c.reads.invariant.told bytes told in
    let moved = c.in_ok-n.ensures.moved kept.0 kept.1 in
    (_, moved.1, still_ends c.in_ok-n.n bytes c.reads.bytes.items kept.0 kept.2)

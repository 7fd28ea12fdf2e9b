use Rattle.std.proofs.Common.{◌≡◌, true, length, sym, ◌∙◌}
use Rattle.fb_bytes.specs.Bytes.{is_below}
use Rattle.mutations.specs.Effects.{range_of}
use Rattle.mutations.specs.Clipping.{cleared}
use Rattle.mutations.specs.Spelling.{mutations_spelling}
use Rattle.mutations.proofs.Lengths.{length_cleared}
use Rattle.mutations.proofs.counting.cut_len.Goals as goal

pub returns-then-is_below : goal.returns-then-is_below
returns-then-is_below c =
    let below : is_below c.later-begin.result.now c.earlier-end.result.now ≡ true = cc (c.as_slice.ensures.same, c.as_slice-2.ensures.same) in
    c.parts_len.ensures.sum
    ∙ sym (length_cleared c.later-begin.result.now c.earlier-end.result.now below)
    ∙ (λ i. length (mutations_spelling (cleared (range_of (c.later-begin.ensures i) (c.earlier-end.ensures i)))))

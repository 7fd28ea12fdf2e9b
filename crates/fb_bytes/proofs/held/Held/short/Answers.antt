use Rattle.std.proofs.Common.{◌≡◌, ℕ, ◌+◌, List, ◌++◌, length, take, ap, ◌∙◌}
use Rattle.std.proofs.Math.Seq.{take-append_seam, take-append-add}
use Rattle.fb_bytes.proofs.held.Held.short.Goals as goal

-- two strings that were written one behind the other
written : (front back rest more : List ℕ) → take (length front + length back) (take (length front) (front ++ rest) ++ (back ++ more)) ≡ front ++ back
written front back rest more =
    ap (λ xs. take (length front + length back) (xs ++ (back ++ more))) (take-append_seam front rest)
    ∙ take-append-add front (back ++ more) (length back) ∙ ap (λ xs. front ++ xs) (take-append_seam back more)

written_as : (front back f b rest more : List ℕ) → f ≡ front → b ≡ back → take (length front + length back) (take (length front) (f ++ rest) ++ (b ++ more)) ≡ front ++ back
written_as front back f b rest more p q =
    ap (λ xs. take (length front + length back) (take (length front) (xs ++ rest) ++ (b ++ more))) p
    ∙ ap (λ xs. take (length front + length back) (take (length front) (front ++ rest) ++ (xs ++ more))) q
    ∙ written front back rest more

pub returns-clause-bytes : goal.returns-clause-bytes
returns-clause-bytes c = written_as c.args.front.now c.args.back.now c.copy_from_slice.new.self c.copy_from_slice-2.new.self _ _ c.copy_from_slice.ensures.after c.copy_from_slice-2.ensures.after

-- The reads of a try.
use Rattle.std.proofs.Common.{◌≡◌, Bool, true, ◌==◌, List, [], ◌∷◌, ◌++◌, length, refl, sym, ap, ◌∙◌, arith, append-nil}
use Rattle.std.proofs.lemmas.Bool.{eqb-true}
use Rattle.fb_bytes.specs.Bytes.{Bytes}
use Rattle.mutations.specs.declared.TxOp.{TxOp}
use Rattle.mutations.specs.declared.TxOp.TheVariants.{Get, SnapshotGet, Scan, Write}
use Rattle.database.specs.declared.Found.{Found}
use Rattle.report_text.specs.Outcomes.{reads_lines}

none_found : (ops : List TxOp) → reads_lines ops [] ≡ []
none_found [] = refl
none_found (Write mutation ∷ ops) = none_found ops
none_found (Get key ∷ ops) = refl
none_found (SnapshotGet key ∷ ops) = refl
none_found (Scan range limit ∷ ops) = refl

is_nothing : (found : List Found) → length found ≡ 0 → found ≡ []
is_nothing [] e = refl
is_nothing (first ∷ others) e = absurd (omega arith)

-- a try that found nothing has no such lines
pub nothing_found : (out : Bytes) (ops : List TxOp) (found : List Found) (empty : Bool) → empty ≡ (length found == 0) → empty ≡ true → out ≡ out ++ reads_lines ops found
nothing_found out ops found empty e h =
    let none : found ≡ [] = is_nothing found (eqb-true (length found) 0 (sym e ∙ h)) in
    sym (append-nil out) ∙ ap (λ (lines : Bytes). out ++ lines) (sym (ap (reads_lines ops) none ∙ none_found ops))

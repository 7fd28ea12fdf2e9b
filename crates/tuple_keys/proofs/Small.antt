-- Tuples keep their integers small.
use Rattle.std.proofs.Common.{◌≡◌, ℕ, zero, suc, ◌<◌, List, [], ◌∷◌, ◌++◌, length, get_or, subst, sym, arith}
use Rattle.tuple_keys.specs.declared.element.Element.{Element}
use Rattle.tuple_keys.specs.Elements.{IsSmall, AreSmall}

pub AreSmall-push : (es : List Element) (e : Element) → AreSmall es → IsSmall e → AreSmall (es ++ e ∷ [])
AreSmall-push [] e small one = (one, tt)
AreSmall-push (d ∷ es) e small one = (small.0, AreSmall-push es e small.1 one)

pub AreSmall-at : (es : List Element) (i : ℕ) (e : Element) → AreSmall es → i < length es → e ≡ get_or es i e → IsSmall e
AreSmall-at [] i e small lt is = absurd (omega arith)
AreSmall-at (d ∷ es) zero e small lt is = subst IsSmall (sym is) small.0
AreSmall-at (d ∷ es) (suc i) e small lt is = AreSmall-at es i e small.1 (omega arith) is

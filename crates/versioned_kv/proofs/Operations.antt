-- An operation on the value of its key.
use Rattle.std.proofs.Common.{◌≡◌, ℕ, Bool, true, false, cond, Option, refl, sym, ap, ◌∙◌}
use Rattle.fb_bytes.specs.Bytes.{Bytes, is_same}
use Rattle.fb_bytes.proofs.Order.{same_eq}
use Rattle.atomic_ops.specs.declared.op.Op.{Op}
use Rattle.atomic_ops.specs.Operation.{operation}
use Rattle.mutations.specs.Effects.{effect}
use Rattle.mutations.specs.declared.mutation.Mutation.TheVariants.{Atomic}

pub operation_there : (limit : ℕ) (op : Op) (key k : Bytes) (param p : Bytes) (at : Bytes) (values : Bytes → Option Bytes) (left : Option Bytes) → key ≡ k → param ≡ p → left ≡ operation op (values key) param limit → cond (is_same key at) left (values at) ≡ effect limit (Atomic op k p) at (values at)
operation_there limit op key k param p at values left e f told = go (is_same key at) refl
  where
    go : (b : Bool) → is_same key at ≡ b → cond (is_same key at) left (values at) ≡ effect limit (Atomic op k p) at (values at)
    go true s =
        let t : is_same k at ≡ true = ap (λ z. is_same z at) (sym e) ∙ s in
        rw (s, t) (told ∙ ap (λ z. operation op (values z) param limit) (same_eq key at s) ∙ ap (λ z. operation op (values at) z limit) f)
    go false s =
        let t : is_same k at ≡ false = ap (λ z. is_same z at) (sym e) ∙ s in
        rw (s, t) refl

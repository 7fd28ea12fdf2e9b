-- A table that is made of entries in order has their values.
use Rattle.std.proofs.Common.{◌≡◌, Bool, true, false, cond, List, [], ◌∷◌, Option, Some, None, refl, sym, ap, ◌∙◌, nat_cmp}
use Rattle.std.specs.Cmp.Lexicographic.{slice_cmp}
use Rattle.std.specs.Ordering.{eq_by_cmp}
use Rattle.std.specs.Map.{update, update_all}
use Rattle.fb_bytes.specs.Bytes.{Bytes, is_same}
use Rattle.fb_bytes.specs.Pairs.{value_of, AreRising}
use Rattle.fb_bytes.proofs.Order.{same_eq}
use Rattle.restore_apply.specs.inner.Tables.{paired}
use Rattle.restore_apply.proofs.Tables.{eq_same}
use Rattle.restore_apply.proofs.Rising.{first_of, first_none, rising_all, value_past}

entered : (f : Bytes → Option Bytes) (es : List (Bytes × Bytes)) (key : Bytes) → AreRising (paired es) → update_all (eq_by_cmp (slice_cmp nat_cmp)) f es key ≡ first_of (value_of (paired es) key) (f key)
entered f [] key h = refl
entered f (e ∷ es) key h =
    entered (update (eq_by_cmp (slice_cmp nat_cmp)) f e.0 (Some e.1)) es key h.1
    ∙ ap (λ b. first_of (value_of (paired es) key) (cond b (Some e.1) (f key))) (eq_same e.0 key)
    ∙ go (is_same e.0 key) refl
  where
    go : (b : Bool) → is_same e.0 key ≡ b → first_of (value_of (paired es) key) (cond b (Some e.1) (f key)) ≡ first_of (cond b (Some e.1) (value_of (paired es) key)) (f key)
    go true s = ap (λ v. first_of v (Some e.1)) (ap (value_of (paired es)) (sym (same_eq e.0 key s)) ∙ value_past e.0 (paired es) (rising_all (record { key = e.0; value = e.1 }) (paired es) h))
    go false s = refl

pub loaded_value : (es : List (Bytes × Bytes)) (key : Bytes) → AreRising (paired es) → update_all (eq_by_cmp (slice_cmp nat_cmp)) (λ _. None) es key ≡ value_of (paired es) key
loaded_value es key h = entered (λ _. None) es key h ∙ first_none (value_of (paired es) key)

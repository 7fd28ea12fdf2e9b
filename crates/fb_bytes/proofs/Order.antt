-- The laws of byte order: it is total, transitive and strict, and two strings that are the same are equal.
use Rattle.std.proofs.Common.{◌≡◌, Bool, true, false, refl, sym, ap, ◌∙◌, Ordering, Less, Equal, Greater, is_lt, nat_cmp, true≢false}
use Rattle.std.specs.Ordering.{ordering_reverse}
use Rattle.std.specs.Cmp.Lexicographic.{slice_cmp, bytes_decides}
use Rattle.std.proofs.lemmas.Cmp.{nat_list_cmp_total, alike_right, tied_itself}
use Rattle.std.proofs.lemmas.Map.Lookups.{exact_bytes}
use Rattle.fb_bytes.specs.Bytes.{Bytes, is_below, is_same}

pub not_both : {P : Type 0} {b : Bool} → b ≡ true → b ≡ false → P
not_both t f = absurd (true≢false (sym t ∙ f))

below_less : (x y : Bytes) → is_below x y ≡ true → slice_cmp nat_cmp x y ≡ Less
unfolding is_below
below_less x y h = go (slice_cmp nat_cmp x y) h
  where
    go : (o : Ordering) → is_lt o ≡ true → o ≡ Less
    go Less e = refl
    go Equal e = not_both e refl
    go Greater e = not_both e refl

less_below : (x y : Bytes) → slice_cmp nat_cmp x y ≡ Less → is_below x y ≡ true
unfolding is_below
less_below x y h = ap is_lt h

pub below_trans : (x y z : Bytes) → is_below x y ≡ true → is_below y z ≡ true → is_below x z ≡ true
below_trans x y z h g = less_below x z (nat_list_cmp_total.trans x y z (below_less x y h) (below_less y z g))

-- z is no more than y
pub below_up : (x y z : Bytes) → is_below x z ≡ true → is_below y z ≡ false → is_below x y ≡ true
unfolding is_below
below_up x y z h g = go (slice_cmp nat_cmp y z) refl
  where
    go : (o : Ordering) → slice_cmp nat_cmp y z ≡ o → is_below x y ≡ true
    go Less e = not_both (ap is_lt e) g
    go Equal e = ap is_lt (alike_right nat_list_cmp_total y z x e ∙ below_less x z h)
    go Greater e = less_below x y (nat_list_cmp_total.trans x z y (below_less x z h) (nat_list_cmp_total.antisymm z y ∙ ap ordering_reverse e))

-- x is no more than y
pub below_down : (x y z : Bytes) → is_below y x ≡ false → is_below y z ≡ true → is_below x z ≡ true
below_down x y z h g = go (is_below x z) refl
  where
    go : (b : Bool) → is_below x z ≡ b → is_below x z ≡ true
    go true e = e
    go false e = not_both (below_up y x z g e) h

pub below_itself : (x : Bytes) → is_below x x ≡ false
unfolding is_below
below_itself x = ap is_lt (tied_itself nat_list_cmp_total x)

pub below_not_back : (x y : Bytes) → is_below x y ≡ true → is_below y x ≡ false
below_not_back x y h = go (is_below y x) refl
  where
    go : (b : Bool) → is_below y x ≡ b → is_below y x ≡ false
    go true e = not_both (below_trans x y x h e) (below_itself x)
    go false e = e

pub same_eq : (x y : Bytes) → is_same x y ≡ true → x ≡ y
unfolding is_same
same_eq x y h = (bytes_decides x y).0 h

pub same_itself : (x : Bytes) → is_same x x ≡ true
unfolding is_same
same_itself x = (bytes_decides x x).1 refl

pub same_both : (x y : Bytes) → x ≡ y → is_same x y ≡ true
unfolding is_same
same_both x y h = (bytes_decides x y).1 h

-- two strings of which neither is below the other are equal
pub neither_below : (x y : Bytes) → is_below x y ≡ false → is_below y x ≡ false → x ≡ y
unfolding is_below
neither_below x y h g = go (slice_cmp nat_cmp x y) refl
  where
    go : (o : Ordering) → slice_cmp nat_cmp x y ≡ o → x ≡ y
    go Less e = not_both (ap is_lt e) h
    go Equal e = exact_bytes x y e
    go Greater e = not_both (ap is_lt (nat_list_cmp_total.antisymm y x ∙ ap ordering_reverse e)) g

pub below_not_same : (x y : Bytes) → is_below x y ≡ true → is_same x y ≡ false
below_not_same x y h = go (is_same x y) refl
  where
    go : (b : Bool) → is_same x y ≡ b → is_same x y ≡ false
    go true e = not_both (ap (λ z. is_below x z) (same_eq x y e) ∙ h) (below_itself x)
    go false e = e

-- The intersection of two ranges.
use Rattle.std.proofs.Common.{◌≡◌, Bool, true, false, not, ◌&&◌, refl, ap, ◌∙◌}
use Rattle.fb_bytes.specs.declared.KeyRange.{KeyRange}
use Rattle.fb_bytes.specs.Bytes.{Bytes, is_below}
use Rattle.fb_bytes.specs.Keys.{holds, is_backwards}
use Rattle.mutations.specs.Effects.{later, earlier, common}
use Rattle.fb_bytes.proofs.Order.{below_trans, below_up, below_itself}
use Rattle.mutations.proofs.Basics.{by_test, not_both, and_swap, not_true}

pub later_below : (a b k : Bytes) → not (is_below k (later a b)) ≡ (not (is_below k a) && not (is_below k b))
later_below a b k = by_test (is_below a b) (λ z. not (is_below k z) ≡ (not (is_below k a) && not (is_below k b))) b a (λ h. is_b h (is_below k b) (is_below k a) refl refl) (λ h. is_a h (is_below k b) (is_below k a) refl refl)
  where
    is_b : is_below a b ≡ true → (s t : Bool) → is_below k b ≡ s → is_below k a ≡ t → not s ≡ (not t && not s)
    is_b h s false p q = refl
    is_b h true true p q = refl
    is_b h false true p q = not_both (below_trans k a b q h) p

    is_a : is_below a b ≡ false → (s t : Bool) → is_below k b ≡ s → is_below k a ≡ t → not t ≡ (not t && not s)
    is_a h s true p q = refl
    is_a h false false p q = refl
    is_a h true false p q = not_both (below_up k a b p h) q

pub below_earlier : (a b k : Bytes) → is_below k (earlier a b) ≡ (is_below k a && is_below k b)
below_earlier a b k = by_test (is_below b a) (λ z. is_below k z ≡ (is_below k a && is_below k b)) b a (λ h. is_b h (is_below k b) (is_below k a) refl refl) (λ h. is_a h (is_below k b) (is_below k a) refl refl)
  where
    is_b : is_below b a ≡ true → (s t : Bool) → is_below k b ≡ s → is_below k a ≡ t → s ≡ (t && s)
    is_b h s true p q = refl
    is_b h false false p q = refl
    is_b h true false p q = not_both (below_trans k b a p h) q

    is_a : is_below b a ≡ false → (s t : Bool) → is_below k b ≡ s → is_below k a ≡ t → t ≡ (t && s)
    is_a h s false p q = refl
    is_a h true true p q = refl
    is_a h false true p q = not_both (below_up k b a q h) p

pub holds_common : (a b : KeyRange) (key : Bytes) → holds (common a b) key ≡ (holds a key && holds b key)
holds_common a b key = (λ i. later_below a.begin b.begin key i && below_earlier a.end b.end key i) ∙ and_swap (not (is_below key a.begin)) (not (is_below key b.begin)) (is_below key a.end) (is_below key b.end)

-- a range whose begin isn't below its end holds nothing
pub holds_backwards : (r : KeyRange) (key : Bytes) → is_backwards r ≡ true → holds r key ≡ false
holds_backwards r key h = go (is_below key r.end) (is_below key r.begin) refl refl
  where
    go : (s t : Bool) → is_below key r.end ≡ s → is_below key r.begin ≡ t → (not t && s) ≡ false
    go s true p q = refl
    go false false p q = refl
    go true false p q = not_both (below_up key r.begin r.end p (not_true _ h)) q

-- another range holds its begin
pub holds_begin : (r : KeyRange) → is_backwards r ≡ false → holds r r.begin ≡ true
holds_begin r h = go (is_below r.begin r.end) (is_below r.begin r.begin) (below_itself r.begin) h
  where
    go : (s t : Bool) → t ≡ false → not s ≡ false → (not t && s) ≡ true
    go true t p q = ap (λ z. not z && true) p
    go false t p q = not_both refl q

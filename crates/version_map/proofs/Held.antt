-- Tests, and which keys a cut range holds.
use Rattle.std.proofs.Common.{◌≡◌, Bool, true, false, not, ◌&&◌, cond, refl, ap, ◌∙◌}
use Rattle.fb_bytes.specs.Bytes.{Bytes, is_below}
use Rattle.fb_bytes.specs.declared.KeyRange.{KeyRange}
use Rattle.fb_bytes.specs.Keys.{holds, is_backwards}
use Rattle.fb_bytes.proofs.Order.{not_both, below_trans, below_up}
use Rattle.version_map.specs.Pieces.{keys_before, keys_from}

-- what both cases of a test have
pub by_test : {X : Type 0} (b : Bool) (P : X → Type 0) (x y : X) → (b ≡ true → P x) → (b ≡ false → P y) → P (cond b x y)
by_test true P x y f g = f refl
by_test false P x y f g = g refl

pub not_true : (b : Bool) → not b ≡ true → b ≡ false
not_true true h = not_both h refl
not_true false h = refl

pub not_false : (b : Bool) → not b ≡ false → b ≡ true
not_false true h = refl
not_false false h = not_both refl h

pub and_left : (a b : Bool) → (a && b) ≡ true → a ≡ true
and_left true b h = refl
and_left false b h = h

pub and_right : (a b : Bool) → (a && b) ≡ true → b ≡ true
and_right true b h = h
and_right false b h = not_both h refl

-- a key below another isn't above a bound that the other isn't above
below_end : (k a key : Bytes) → is_below key (cond (is_below k a) k a) ≡ (is_below key a && is_below key k)
below_end k a key = by_test (is_below k a) (λ z. is_below key z ≡ (is_below key a && is_below key k)) k a (λ h. is_k h (is_below key k) (is_below key a) refl refl) (λ h. is_a h (is_below key k) (is_below key a) refl refl)
  where
    is_k : is_below k a ≡ true → (s t : Bool) → is_below key k ≡ s → is_below key a ≡ t → s ≡ (t && s)
    is_k h s true p q = refl
    is_k h false false p q = refl
    is_k h true false p q = not_both (below_trans key k a p h) q

    is_a : is_below k a ≡ false → (s t : Bool) → is_below key k ≡ s → is_below key a ≡ t → t ≡ (t && s)
    is_a h s false p q = refl
    is_a h true true p q = refl
    is_a h false true p q = not_both (below_up key k a q h) p

below_begin : (a k key : Bytes) → is_below key (cond (is_below a k) k a) ≡ (not (not (is_below key a) && not (is_below key k)))
below_begin a k key = by_test (is_below a k) (λ z. is_below key z ≡ not (not (is_below key a) && not (is_below key k))) k a (λ h. is_k h (is_below key k) (is_below key a) refl refl) (λ h. is_a h (is_below key k) (is_below key a) refl refl)
  where
    is_k : is_below a k ≡ true → (s t : Bool) → is_below key k ≡ s → is_below key a ≡ t → s ≡ not (not t && not s)
    is_k h true true p q = refl
    is_k h true false p q = refl
    is_k h false false p q = refl
    is_k h false true p q = not_both (below_trans key a k q h) p

    is_a : is_below a k ≡ false → (s t : Bool) → is_below key k ≡ s → is_below key a ≡ t → t ≡ not (not t && not s)
    is_a h s true p q = refl
    is_a h false false p q = refl
    is_a h true false p q = not_both (below_up key a k p h) q

and_regroup : (p q r : Bool) → (p && (q && r)) ≡ ((p && q) && r)
and_regroup true q r = refl
and_regroup false q r = refl

-- the keys before a key are those of the range that are below it
pub holds_before : (k : Bytes) (range : KeyRange) (key : Bytes) → holds (keys_before k range) key ≡ (holds range key && is_below key k)
holds_before k range key = ap (λ b. not (is_below key range.begin) && b) (below_end k range.end key) ∙ and_regroup (not (is_below key range.begin)) (is_below key range.end) (is_below key k)

-- the keys from a key on are those of the range that aren't below it
pub holds_from : (k : Bytes) (range : KeyRange) (key : Bytes) → holds (keys_from k range) key ≡ (holds range key && not (is_below key k))
holds_from k range key = ap (λ b. not b && is_below key range.end) (below_begin range.begin k key) ∙ go (is_below key range.begin) (is_below key k) (is_below key range.end)
  where
    go : (a b e : Bool) → (not (not (not a && not b)) && e) ≡ ((not a && e) && not b)
    go true b e = refl
    go false true true = refl
    go false true false = refl
    go false false true = refl
    go false false false = refl

-- a range whose begin isn't below its end holds nothing
pub holds_backwards : (r : KeyRange) (key : Bytes) → is_backwards r ≡ true → holds r key ≡ false
holds_backwards r key h = go (is_below key r.end) (is_below key r.begin) refl refl
  where
    go : (s t : Bool) → is_below key r.end ≡ s → is_below key r.begin ≡ t → (not t && s) ≡ false
    go s true p q = refl
    go false false p q = refl
    go true false p q = not_both (below_up key r.begin r.end p (not_true _ h)) q

-- of a range that holds a key the begin isn't above it, and the end is
pub held_begin : (r : KeyRange) (key : Bytes) → holds r key ≡ true → is_below key r.begin ≡ false
held_begin r key h = not_true _ (and_left _ _ h)

pub held_end : (r : KeyRange) (key : Bytes) → holds r key ≡ true → is_below key r.end ≡ true
held_end r key h = and_right _ _ h

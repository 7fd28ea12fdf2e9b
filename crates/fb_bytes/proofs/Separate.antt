-- Ranges in order are determined by their keys.
use Rattle.std.proofs.Common.{◌≡◌, Bool, true, false, not, ◌&&◌, ◌||◌, List, [], ◌∷◌, refl, sym, ap, ◌∙◌, subst}
use Rattle.fb_bytes.specs.Bytes.{Bytes, is_below}
use Rattle.fb_bytes.specs.Keys.{KeyRange, holds, in_ranges, is_backwards, AreSeparate}
use Rattle.fb_bytes.proofs.Order.{below_down, below_itself, below_not_back, neither_below, not_both}
use Rattle.fb_bytes.proofs.Unions.{not_back, past_next}

-- the two lists have the same keys
abbrev Alike : List KeyRange → List KeyRange → Type 0
Alike a b = (key : Bytes) → in_ranges a key ≡ in_ranges b key

holds_begin : (x : KeyRange) → is_backwards x ≡ false → holds x x.begin ≡ true
holds_begin x h = rw (below_itself x.begin, not_back x h) refl

-- no range before its begin, and none past its end up to the next begin
before_all : (key : Bytes) (x : KeyRange) (xs : List KeyRange) → is_below key x.begin ≡ true → AreSeparate (x ∷ xs) → in_ranges (x ∷ xs) key ≡ false
before_all key x [] h s = rw h refl
before_all key x (y ∷ xs) h s = rw h (before_all key y xs (past_next key x (y ∷ xs) h s) s.2)

-- a key of the first range or before it is in no later range
pub before_rest : (key : Bytes) (x : KeyRange) (xs : List KeyRange) → is_below x.end key ≡ false → AreSeparate (x ∷ xs) → in_ranges xs key ≡ false
before_rest key x [] h s = refl
before_rest key x (y ∷ xs) h s = before_all key y xs (below_down key x.end y.begin h s.1) s.2

-- a list has the begin of its first range
has_begin : (x : KeyRange) (xs : List KeyRange) → AreSeparate (x ∷ xs) → in_ranges (x ∷ xs) x.begin ≡ true
has_begin x xs s = ap (λ b. b || in_ranges xs x.begin) (holds_begin x s.0)

-- the first begin of one isn't below that of the other
begin_not_below : (x y : KeyRange) (xs ys : List KeyRange) → AreSeparate (x ∷ xs) → AreSeparate (y ∷ ys) → Alike (x ∷ xs) (y ∷ ys) → is_below x.begin y.begin ≡ false
begin_not_below x y xs ys s t e = go (is_below x.begin y.begin) refl
  where
    go : (b : Bool) → is_below x.begin y.begin ≡ b → is_below x.begin y.begin ≡ false
    go true p = not_both (sym (e x.begin) ∙ has_begin x xs s) (before_all x.begin y ys p t)
    go false p = p

-- the first end of one isn't below that of the other, where the begins are the same
end_not_below : (x y : KeyRange) (xs ys : List KeyRange) → AreSeparate (x ∷ xs) → AreSeparate (y ∷ ys) → x.begin ≡ y.begin → Alike (x ∷ xs) (y ∷ ys) → is_below x.end y.end ≡ false
end_not_below x y xs ys s t b e = go (is_below x.end y.end) refl
  where
    held : is_below x.end y.end ≡ true → in_ranges (y ∷ ys) x.end ≡ true
    held p =
        let past : is_below x.end y.begin ≡ false = ap (λ k. is_below x.end k) (sym b) ∙ below_not_back x.begin x.end (not_back x s.0) in
        rw (past, p) refl

    missing : in_ranges (x ∷ xs) x.end ≡ false
    missing = rw (below_not_back x.begin x.end (not_back x s.0), below_itself x.end) (before_rest x.end x xs (below_itself x.end) s)

    go : (b : Bool) → is_below x.end y.end ≡ b → is_below x.end y.end ≡ false
    go true p = not_both (e x.end ∙ held p) missing
    go false p = p

same_range : (x y : KeyRange) → x.begin ≡ y.begin → x.end ≡ y.end → x ≡ y
same_range x y b e = λ i. record { begin = b i; end = e i }

or_false : (a b : Bool) → a ≡ false → (a || b) ≡ b
or_false true b h = not_both refl h
or_false false b h = refl

and_false : (b : Bool) → (b && false) ≡ false
and_false true = refl
and_false false = refl

-- the rest of the two lists is alike too
rest_alike : (x : KeyRange) (xs ys : List KeyRange) → AreSeparate (x ∷ xs) → AreSeparate (x ∷ ys) → Alike (x ∷ xs) (x ∷ ys) → Alike xs ys
rest_alike x xs ys s t e key = go (is_below key x.end) refl
  where
    go : (b : Bool) → is_below key x.end ≡ b → in_ranges xs key ≡ in_ranges ys key
    go true p =
        let n = below_not_back key x.end p in
        before_rest key x xs n s ∙ sym (before_rest key x ys n t)
    go false p =
        let out : holds x key ≡ false = rw p (and_false (not (is_below key x.begin))) in
        sym (or_false (holds x key) (in_ranges xs key) out) ∙ e key ∙ or_false (holds x key) (in_ranges ys key) out

after_first : (x y : KeyRange) (xs ys : List KeyRange) → y ≡ x → AreSeparate (x ∷ xs) → AreSeparate (y ∷ ys) → Alike (x ∷ xs) (y ∷ ys) → Alike xs ys
after_first x y xs ys r s t e =
    rest_alike x xs ys s (subst (λ z. AreSeparate (z ∷ ys)) r t) (subst (λ z. Alike (x ∷ xs) (z ∷ ys)) r e)

pub same_list : (a b : List KeyRange) → AreSeparate a → AreSeparate b → Alike a b → a ≡ b
same_list [] [] s t e = refl
same_list [] (y ∷ ys) s t e = not_both (e y.begin ∙ has_begin y ys t) refl
same_list (x ∷ xs) [] s t e = not_both (sym (e x.begin) ∙ has_begin x xs s) refl
same_list (x ∷ xs) (y ∷ ys) s t e =
    let back = λ (key : Bytes). sym (e key) in
    let begins = neither_below x.begin y.begin (begin_not_below x y xs ys s t e) (begin_not_below y x ys xs t s back) in
    let ends = neither_below x.end y.end (end_not_below x y xs ys s t begins e) (end_not_below y x ys xs t s (sym begins) back) in
    let first = same_range x y begins ends in
    let rest = same_list xs ys s.2 t.2 (after_first x y xs ys (sym first) s t e) in
    λ i. first i ∷ rest i

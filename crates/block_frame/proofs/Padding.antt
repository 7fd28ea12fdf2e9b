-- What fills a block up.
use Rattle.std.proofs.Common.{◌≡◌, ℕ, zero, suc, ◌+◌, ◌≤◌, Bool, true, false, not, cond, eqb, ltb, [], ◌∷◌, length, replicate, Some, None, refl, ap, ◌∙◌, arith}
use Rattle.std.specs.List.{AllByRecursion, prefix_len}
use Rattle.std.proofs.lemmas.Bool.{eqb-true, eq-eqb, ltb-false, le-ltb, cond-true, cond-false}
use Rattle.fb_bytes.specs.Bytes.{Bytes}
use Rattle.block_frame.specs.Text.{IsPadding, is_over, unpadded_at}

full_prefix : (q : ℕ → Bool) (xs : Bytes) → length xs ≤ prefix_len q xs → AllByRecursion (λ x. q x ≡ true) xs
full_prefix q [] h = tt
full_prefix q (x ∷ xs) h = go (q x) refl h (full_prefix q xs)
  where
    go : (b : Bool) → q x ≡ b → length (x ∷ xs) ≤ cond b (1 + prefix_len q xs) 0 → (length xs ≤ prefix_len q xs → AllByRecursion (λ y. q y ≡ true) xs) → (q x ≡ true) × AllByRecursion (λ y. q y ≡ true) xs
    go true e g more = (e, more (omega arith))
    go false e g more = absurd (omega arith)

padding_each : (xs : Bytes) → AllByRecursion (λ x. not (not (eqb x 255)) ≡ true) xs → IsPadding xs
padding_each [] h = tt
padding_each (x ∷ xs) h = (eqb-true x 255 (twice (eqb x 255) h.0), padding_each xs h.1)
  where
    twice : (b : Bool) → not (not b) ≡ true → b ≡ true
    twice true e = refl
    twice false e = absurd cc

prefix_padding : (xs : Bytes) → IsPadding xs → prefix_len (λ x. not (not (eqb x 255))) xs ≡ length xs
prefix_padding [] h = refl
prefix_padding (x ∷ xs) h =
    let same : not (not (eqb x 255)) ≡ true = ap (λ (b : Bool). not (not b)) (eq-eqb x 255 h.0) in
    cond-true (not (not (eqb x 255))) (1 + prefix_len (λ y. not (not (eqb y 255))) xs) 0 same ∙ omega (arith, prefix_padding xs h.1)

cond_none : (b : Bool) (n : ℕ) → cond b (Some n) None ≡ None → b ≡ false
cond_none true n e = absurd cc
cond_none false n e = refl

-- where no other byte is found, all is padding
pub padding_found : (rest : Bytes) → unpadded_at rest ≡ None → IsPadding rest
padding_found rest e =
    let n = prefix_len (λ x. not (not (eqb x 255))) rest in
    padding_each rest (full_prefix (λ x. not (not (eqb x 255))) rest (ltb-false _ _ (cond_none (ltb n (length rest)) n e)))

-- and no other byte is found in padding
pub padding_again : (rest : Bytes) → IsPadding rest → unpadded_at rest ≡ None
padding_again rest h =
    let n = prefix_len (λ x. not (not (eqb x 255))) rest in
    cond-false (ltb n (length rest)) (Some n) None (le-ltb _ _ (omega (arith, prefix_padding rest h)))

pub padding_over : (rest : Bytes) → IsPadding rest → is_over rest ≡ true
padding_over [] h = refl
padding_over (x ∷ xs) h = eq-eqb x 255 h.0

pub padding_is : (n : ℕ) → IsPadding (replicate n 255)
padding_is zero = tt
padding_is (suc n) = (refl, padding_is n)

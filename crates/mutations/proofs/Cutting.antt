-- A batch is cut to pieces from the front on.
use Rattle.std.proofs.Common.{◌≡◌, ℕ, zero, suc, ◌+◌, ◌*◌, ◌<◌, ◌≤◌, Bool, true, false, cond, leb, List, [], ◌∷◌, ◌++◌, length, take, drop, refl, ap, ◌∙◌, arith}
use Rattle.std.specs.List.{AllByRecursion, flat_map}
use Rattle.std.proofs.lemmas.Bool.{le-leb, lt-leb, leb-true, leb-false, cond-true, cond-false}
use Rattle.std.proofs.lemmas.List.{append-nil, length-drop, length-take, take-append-drop}
use Rattle.std.proofs.Math.Nat.{mul-suc}
use Rattle.fb_bytes.specs.Bytes.{Bytes}
use Rattle.mutations.specs.Cutting.{pieces_with, pieces_of}

-- more than enough changes nothing
same_pieces : (fuel more part : ℕ) (bytes : Bytes) → 0 < part → length bytes < fuel → length bytes < more → pieces_with fuel part bytes ≡ pieces_with more part bytes
same_pieces zero more part bytes some lt gt = absurd (omega arith)
same_pieces (suc fuel) zero part bytes some lt gt = absurd (omega arith)
same_pieces (suc fuel) (suc more) part bytes some lt gt =
    go (leb (length bytes) part) refl (λ long. (let len = length-drop part bytes in same_pieces fuel more part (drop part bytes) some (omega arith) (omega arith)))
  where
    go : (b : Bool) → leb (length bytes) part ≡ b → (part < length bytes → pieces_with fuel part (drop part bytes) ≡ pieces_with more part (drop part bytes)) → cond b (bytes ∷ []) (take part bytes ∷ pieces_with fuel part (drop part bytes)) ≡ cond b (bytes ∷ []) (take part bytes ∷ pieces_with more part (drop part bytes))
    go true e ih = refl
    go false e ih = ap (λ (ps : List Bytes). take part bytes ∷ ps) (ih (leb-false (length bytes) part e))

pub pieces_short : (part : ℕ) (bytes : Bytes) → length bytes ≤ part → pieces_of part bytes ≡ bytes ∷ []
unfolding pieces_of
pieces_short part bytes short =
    let one : length bytes + 1 ≡ suc (length bytes) = omega arith in
    ap (λ (n : ℕ). pieces_with n part bytes) one ∙ cond-true (leb (length bytes) part) _ _ (le-leb (length bytes) part short)

pub pieces_long : (part : ℕ) (bytes : Bytes) → 0 < part → part < length bytes → pieces_of part bytes ≡ take part bytes ∷ pieces_of part (drop part bytes)
unfolding pieces_of
pieces_long part bytes some long =
    let one : length bytes + 1 ≡ suc (length bytes) = omega arith in
    let len = length-drop part bytes in
    ap (λ (n : ℕ). pieces_with n part bytes) one ∙ cond-false (leb (length bytes) part) _ _ (lt-leb (length bytes) part long)
    ∙ ap (λ (ps : List Bytes). take part bytes ∷ ps) (same_pieces (length bytes) (length (drop part bytes) + 1) part (drop part bytes) some (omega arith) (omega arith))

-- what the pieces of bytes have
pub record AreCut (part : ℕ) (bytes : Bytes) (pieces : List Bytes) : Type 0 where
  pub some : 0 < length pieces
  pub none_empty : 0 < length bytes → AllByRecursion (λ piece. 0 < length piece) pieces
  pub short : AllByRecursion (λ piece. length piece ≤ part) pieces
  pub whole : flat_map (λ piece. piece) pieces ≡ bytes
  pub few : (least : ℕ) → least ≤ part → least * length pieces ≤ length bytes + least

one_piece : (part : ℕ) (bytes : Bytes) → length bytes ≤ part → AreCut part bytes (bytes ∷ [])
one_piece part bytes short = record {
  some = omega arith;
  none_empty = λ some. (some, tt);
  short = (short, tt);
  whole = append-nil bytes;
  few = λ least le. (let one : least * 1 ≡ least = omega arith in omega arith);
}

more_pieces : (part : ℕ) (bytes : Bytes) (pieces : List Bytes) → 0 < part → part < length bytes → AreCut part (drop part bytes) pieces → AreCut part bytes (take part bytes ∷ pieces)
more_pieces part bytes pieces some long cut =
    let front = length-take part bytes in
    let back = length-drop part bytes in
    record {
      some = omega arith;
      none_empty = λ any. (omega arith, cut.none_empty (omega arith));
      short = (omega arith, cut.short);
      whole = ap (λ (x : Bytes). take part bytes ++ x) cut.whole ∙ take-append-drop part bytes;
      few = λ least le. (let n = cut.few least le in let m = mul-suc least (length pieces) in omega arith);
    }

cut_with : (fuel part : ℕ) (bytes : Bytes) → 0 < part → length bytes < fuel → AreCut part bytes (pieces_with fuel part bytes)
cut_with zero part bytes some lt = absurd (omega arith)
cut_with (suc fuel) part bytes some lt =
    go (leb (length bytes) part) refl (λ long. (let len = length-drop part bytes in cut_with fuel part (drop part bytes) some (omega arith)))
  where
    go : (b : Bool) → leb (length bytes) part ≡ b → (part < length bytes → AreCut part (drop part bytes) (pieces_with fuel part (drop part bytes))) → AreCut part bytes (cond b (bytes ∷ []) (take part bytes ∷ pieces_with fuel part (drop part bytes)))
    go true e ih = one_piece part bytes (leb-true (length bytes) part e)
    go false e ih = (let long = leb-false (length bytes) part e in more_pieces part bytes (pieces_with fuel part (drop part bytes)) some long (ih long))

pub are_cut : (part : ℕ) (bytes : Bytes) → 0 < part → AreCut part bytes (pieces_of part bytes)
unfolding pieces_of
are_cut part bytes some = cut_with (length bytes + 1) part bytes some (omega arith)

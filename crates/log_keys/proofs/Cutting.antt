-- A batch is cut to parts from the front on.
use Rattle.std.proofs.Common.{◌≡◌, ℕ, ◌+◌, ◌*◌, ◌^◌, ◌<◌, ◌≤◌, List, [], ◌∷◌, ◌++◌, length, take, drop, ⊎_elim, sym, ap, ◌∙◌, append_assoc, arith}
use Rattle.std.proofs.lemmas.Bool.{cases_lt}
use Rattle.std.proofs.Math.Nat.{mul-le-mul_right}
use Rattle.fb_bytes.specs.Bytes.{Bytes}
use Rattle.mutations.specs.Cutting.{pieces_of}
use Rattle.mutations.proofs.Cutting.{pieces_short, pieces_long}
use Rattle.log_keys.specs.inner.Parts.{Row, rows_from}

abbrev pub row_at : ℕ → ℕ → ℕ → Bytes → Row
row_at job version part piece = record { key = record { job = job; version = version; part = part }; piece = piece }

-- the parts so far and those of the rest are the parts of all
abbrev pub PartsSoFar : ℕ → List Row → ℕ → ℕ → ℕ → Bytes → List Row → Type 0
PartsSoFar part rows job version number rest total = rows ++ rows_from job version number (pieces_of part rest) ≡ total

pub parts_more : (part : ℕ) (rows : List Row) (job version number : ℕ) (rest piece after : Bytes) (row : Row) (total : List Row) → 0 < part → part < length rest → row ≡ row_at job version number piece → piece ≡ take part rest → after ≡ drop part rest → PartsSoFar part rows job version number rest total → PartsSoFar part (rows ++ row ∷ []) job version (number + 1) after total
parts_more part rows job version number rest piece after row total some long r p d so =
    append_assoc rows (row ∷ []) (rows_from job version (number + 1) (pieces_of part after))
    ∙ ap (λ (x : Row). rows ++ x ∷ rows_from job version (number + 1) (pieces_of part after)) (r ∙ ap (row_at job version number) p)
    ∙ ap (λ (x : Bytes). rows ++ row_at job version number (take part rest) ∷ rows_from job version (number + 1) (pieces_of part x)) d
    ∙ ap (λ (x : List Bytes). rows ++ rows_from job version number x) (sym (pieces_long part rest some long))
    ∙ so

pub parts_end : (part : ℕ) (rows : List Row) (job version number : ℕ) (rest : Bytes) (row : Row) (total : List Row) → length rest ≤ part → row ≡ row_at job version number rest → PartsSoFar part rows job version number rest total → rows ++ row ∷ [] ≡ total
parts_end part rows job version number rest row total short r so =
    ap (λ (x : Row). rows ++ x ∷ []) r ∙ ap (λ (x : List Bytes). rows ++ rows_from job version number x) (sym (pieces_short part rest short)) ∙ so

-- ---- numbers of parts

times_next : (n part : ℕ) → (n + 1) * part ≡ n * part + part
times_next n part = grind arith

pub next_fits : (n part len : ℕ) → n * part + len ≤ 2 ^ 32 * part → part < len → n + 1 < 2 ^ 32
next_fits n part len few long = ⊎_elim (λ lt. lt) (λ ge. absurd (let m : 2 ^ 32 * part ≤ (n + 1) * part = mul-le-mul_right part ge in omega (arith, times_next n part))) (cases_lt (n + 1) (2 ^ 32))

pub next_few : (n part len after : ℕ) → n * part + len ≤ 2 ^ 32 * part → part < len → after + part ≡ len → (n + 1) * part + after ≤ 2 ^ 32 * part
next_few n part len after few long e = omega (arith, times_next n part)

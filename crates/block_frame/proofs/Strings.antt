-- What stands in front of the bytes and is read is what was written, and what was written is read again.
use Rattle.std.proofs.Common.{◌≡◌, ℕ, ◌+◌, ◌*◌, ◌^◌, ◌<◌, ◌≤◌, Bool, true, false, cond, ltb, ◌++◌, length, take, drop, Option, Some, None, refl, sym, ap, subst, ◌∙◌, append_assoc, arith, inl, inr}
use Rattle.std.specs.Int.{w32, to_be_bytes, from_be_bytes, from_le_bytes}
use Rattle.std.proofs.lemmas.Bool.{cases_lt, ltb-false, le-ltb, ne_eqb, eqb-false}
use Rattle.std.proofs.lemmas.List.{take_at, drop_at, take-append-drop, length-append, length-take, get_or-drop, get_or-take, get_or_past}
use Rattle.std.proofs.lemmas.Nat.{be_bytes_4, from_be_bytes-to_be_bytes_4, le_bytes_4, from_le_bytes-to_le_bytes_4}
use Rattle.fb_bytes.specs.Bytes.{Bytes, IsBytes}
use Rattle.fb_bytes.specs.Options.{◌>>=◌}
use Rattle.fb_bytes.proofs.Options.{bind_some}
use Rattle.block_frame.specs.Text.{header, string, split, header_at, string_at, is_over}

pub IsBytes-drop : (n : ℕ) (bytes : Bytes) → IsBytes bytes → IsBytes (drop n bytes)
IsBytes-drop n bytes h i = rw get_or-drop (h (n + i))

pub IsBytes-take : (n : ℕ) (bytes : Bytes) → IsBytes bytes → IsBytes (take n bytes)
IsBytes-take n bytes h i =
    elim (cases_lt i n) [
      | inl lt ↦ rw (get_or-take n bytes i 0 lt) (h i)
      | inr le ↦ rw (get_or_past (take n bytes) i 0 (omega (arith, length-take n bytes))) (omega arith)
    ]

-- ---- steps that may have no result

pub cut_some : {A : Type 0} (b : Bool) (x y : A) → cond b None (Some x) ≡ Some y → (b ≡ false) × (x ≡ y)
cut_some true x y e = absurd cc
cut_some false x y e = (refl, cc)

pub record IsCut (n : ℕ) (bytes front rest : Bytes) : Type 0 where
  pub parts : bytes ≡ front ++ rest
  pub len : length front ≡ n
  pub front-is : front ≡ take n bytes
  pub rest-is : rest ≡ drop n bytes

pub split_found : (n : ℕ) (bytes : Bytes) (cut : Bytes × Bytes) → split n bytes ≡ Some cut → IsCut n bytes cut.0 cut.1
split_found n bytes cut e =
    let g = cut_some (ltb (length bytes) n) (take n bytes, drop n bytes) cut e in
    let long : n ≤ length bytes = ltb-false _ _ g.0 in
    let made : IsCut n bytes (take n bytes) (drop n bytes) = record { parts = sym (take-append-drop n bytes); len = omega (arith, length-take n bytes); front-is = refl; rest-is = refl } in
    subst (λ (c : Bytes × Bytes). IsCut n bytes c.0 c.1) g.1 made

pub split_again : (n : ℕ) (front rest : Bytes) → length front ≡ n → split n (front ++ rest) ≡ Some (front, rest)
split_again n front rest len =
    let long : ltb (length (front ++ rest)) n ≡ false = le-ltb _ _ (omega (arith, length-append front rest)) in
    rw (long, take_at front rest n len, drop_at front rest n len) refl

-- ---- headers

pub header_found : (bytes : Bytes) (x : ℕ × Bytes) → IsBytes bytes → header_at bytes ≡ Some x → (bytes ≡ header x.0 ++ x.1) × IsBytes x.1 × (x.0 < 2 ^ 32)
unfolding header_at
header_found bytes x fits e =
    let a = bind_some (split 4 bytes) (λ cut. Some (from_le_bytes w32 cut.0, cut.1)) x e in
    let s = split_found 4 bytes a.0 a.1 in
    let front : IsBytes a.0.0 = subst IsBytes (sym s.front-is) (IsBytes-take 4 bytes fits) in
    let rest : IsBytes a.0.1 = subst IsBytes (sym s.rest-is) (IsBytes-drop 4 bytes fits) in
    let same : header (from_le_bytes w32 a.0.0) ≡ a.0.0 = le_bytes_4 a.0.0 _ s.len front refl in
    let made : ℕ × Bytes = (from_le_bytes w32 a.0.0, a.0.1) in
    let is : made ≡ x = cc in
    subst (λ (y : ℕ × Bytes). (bytes ≡ header y.0 ++ y.1) × IsBytes y.1 × (y.0 < 2 ^ 32)) is (s.parts ∙ ap (λ (z : Bytes). z ++ a.0.1) (sym same), rest, omega (arith, front 0, front 1, front 2, front 3))

pub header_again : (format : ℕ) (rest : Bytes) → format < 2 ^ 32 → header_at (header format ++ rest) ≡ Some (format, rest)
unfolding header_at
header_again format rest lt = ap (λ (o : Option (Bytes × Bytes)). o >>= λ cut. Some (from_le_bytes w32 cut.0, cut.1)) (split_again 4 (header format) rest refl) ∙ ap (λ (n : ℕ). Some (n, rest)) (from_le_bytes-to_le_bytes_4 format lt)

-- ---- strings

pub record IsString (bytes s rest : Bytes) : Type 0 where
  pub parts : bytes ≡ string s ++ rest
  pub len : length s < 2 ^ 32
  pub own : IsBytes s
  pub others : IsBytes rest
  pub size : 4 + length s + length rest ≡ length bytes

pub string_found : (bytes : Bytes) (x : Bytes × Bytes) → IsBytes bytes → string_at bytes ≡ Some x → IsString bytes x.0 x.1
unfolding string_at
string_found bytes x fits e =
    let a = bind_some (split 4 bytes) (λ cut. split (from_be_bytes w32 cut.0) cut.1) x e in
    let s = split_found 4 bytes a.0 a.1 in
    let n = from_be_bytes w32 a.0.0 in
    let t = split_found n a.0.1 x a.2 in
    let front : IsBytes a.0.0 = subst IsBytes (sym s.front-is) (IsBytes-take 4 bytes fits) in
    let rest : IsBytes a.0.1 = subst IsBytes (sym s.rest-is) (IsBytes-drop 4 bytes fits) in
    let same : to_be_bytes w32 (length x.0) ≡ a.0.0 = ap (to_be_bytes w32) t.len ∙ be_bytes_4 a.0.0 _ s.len front refl in
    let parts : bytes ≡ string x.0 ++ x.1 = s.parts ∙ ap (λ (z : Bytes). a.0.0 ++ z) t.parts ∙ sym (append_assoc a.0.0 x.0 x.1) ∙ ap (λ (z : Bytes). (z ++ x.0) ++ x.1) (sym same) in
    record {
      parts = parts;
      len = omega (arith, t.len, front 0, front 1, front 2, front 3);
      own = subst IsBytes (sym t.front-is) (IsBytes-take n a.0.1 rest);
      others = subst IsBytes (sym t.rest-is) (IsBytes-drop n a.0.1 rest);
      size = omega (arith, ap length s.parts, length-append a.0.0 a.0.1, s.len, ap length t.parts, length-append x.0 x.1);
    }

pub string_again : (s rest : Bytes) → length s < 2 ^ 32 → string_at (string s ++ rest) ≡ Some (s, rest)
unfolding string_at
string_again s rest lt =
    let n = to_be_bytes w32 (length s) in
    let regrouped : string s ++ rest ≡ n ++ (s ++ rest) = append_assoc n s rest in
    ap (λ (b : Bytes). split 4 b >>= λ cut. split (from_be_bytes w32 cut.0) cut.1) regrouped
    ∙ ap (λ (o : Option (Bytes × Bytes)). o >>= λ cut. split (from_be_bytes w32 cut.0) cut.1) (split_again 4 n (s ++ rest) refl)
    ∙ split_again (from_be_bytes w32 n) s rest (sym (from_be_bytes-to_be_bytes_4 (length s) lt))

-- ---- where padding begins

-- a string whose length is small enough doesn't look like padding
pub string_not_over : (s rest : Bytes) → length s < 255 * 2 ^ 24 → is_over (string s ++ rest) ≡ false
string_not_over s rest lt = ne_eqb _ 255 (λ e. omega arith)

pub not_over_short : (s rest : Bytes) → length s < 2 ^ 32 → is_over (string s ++ rest) ≡ false → length s < 255 * 2 ^ 24
not_over_short s rest lt e =
    let other = eqb-false _ 255 e in
    elim (cases_lt (length s) (255 * 2 ^ 24)) [ inl below ↦ below | inr above ↦ absurd (other (omega arith)) ]

-- a string takes its length and itself
pub string_size : (bytes : Bytes) (x : Bytes × Bytes) → string_at bytes ≡ Some x → 4 + length x.0 + length x.1 ≡ length bytes
unfolding string_at
string_size bytes x e =
    let a = bind_some (split 4 bytes) (λ cut. split (from_be_bytes w32 cut.0) cut.1) x e in
    let s = split_found 4 bytes a.0 a.1 in
    let t = split_found (from_be_bytes w32 a.0.0) a.0.1 x a.2 in
    omega (arith, ap length s.parts, length-append a.0.0 a.0.1, s.len, ap length t.parts, length-append x.0 x.1)

pub header_size : (bytes : Bytes) (x : ℕ × Bytes) → header_at bytes ≡ Some x → 4 + length x.1 ≡ length bytes
unfolding header_at
header_size bytes x e =
    let a = bind_some (split 4 bytes) (λ cut. Some (from_le_bytes w32 cut.0, cut.1)) x e in
    let s = split_found 4 bytes a.0 a.1 in
    let made : ℕ × Bytes = (from_le_bytes w32 a.0.0, a.0.1) in
    let is : made ≡ x = cc in
    subst (λ (y : ℕ × Bytes). 4 + length y.1 ≡ length bytes) is (omega (arith, ap length s.parts, length-append a.0.0 a.0.1, s.len))

pub string-length : (s : Bytes) → length (string s) ≡ 4 + length s
string-length s = omega arith

-- A part that is read is the part that was written, and what was written is read again.
use Rattle.std.proofs.Common.{◌≡◌, ℕ, ◌+◌, ◌^◌, ◌<◌, ◌≤◌, Bool, true, false, cond, ltb, ◌++◌, length, take, drop, Option, Some, None, refl, sym, ap, subst, ◌∙◌, append_assoc, arith, inl, inr}
use Rattle.std.proofs.lemmas.Bool.{cases_lt, ltb-false, le-ltb}
use Rattle.std.proofs.lemmas.List.{take_at, drop_at, take-append-drop, length-append, length-take, get_or-drop, get_or-take, get_or_past}
use Rattle.std.proofs.lemmas.Nat.{le_bytes_4, le_bytes_8, from_le_bytes-to_le_bytes_4, from_le_bytes-to_le_bytes_8}
use Rattle.fb_bytes.specs.Bytes.{Bytes, IsBytes}
use Rattle.fb_bytes.proofs.Options.{bind_some}
use Rattle.mutations.specs.Spelling.{u32_bytes, u64_bytes, parts_spelling}
use Rattle.mutations.specs.Parts.{u32_of, u64_of, split, number_at, Parts, parts_of}
use Rattle.mutations.proofs.Lengths.{length-u32_bytes}

pub IsBytes-drop : (n : ℕ) (bytes : Bytes) → IsBytes bytes → IsBytes (drop n bytes)
IsBytes-drop n bytes h i = rw get_or-drop (h (n + i))

pub IsBytes-take : (n : ℕ) (bytes : Bytes) → IsBytes bytes → IsBytes (take n bytes)
IsBytes-take n bytes h i =
    elim (cases_lt i n) [
      | inl lt ↦ rw (get_or-take n bytes i 0 lt) (h i)
      | inr le ↦ rw (get_or_past (take n bytes) i 0 (omega (arith, length-take n bytes))) (omega arith)
    ]

abbrev some : {A : Type 0} → A → Option A
some x = Some x

pub some_is : {A : Type 0} (x y : A) → some x ≡ some y → x ≡ y
some_is x y e = cc

-- what a reader took from the front
pub record Takes (bytes text rest : Bytes) : Type 0 where
  pub parts : bytes ≡ text ++ rest
  pub rest_fits : IsBytes rest

pub Takes-then : (a x b y c : Bytes) → Takes a x b → Takes b y c → Takes a (x ++ y) c
Takes-then a x b y c p q = record { parts = p.parts ∙ ap (λ (t : Bytes). x ++ t) q.parts ∙ sym (append_assoc x y c); rest_fits = q.rest_fits }

-- ---- numbers

pub u32_back : (bytes : Bytes) → length bytes ≡ 4 → IsBytes bytes → u32_bytes (u32_of bytes) ≡ bytes
unfolding u32_bytes u32_of
u32_back bytes len fits = le_bytes_4 bytes _ len fits refl

pub u64_back : (bytes : Bytes) → length bytes ≡ 8 → IsBytes bytes → u64_bytes (u64_of bytes) ≡ bytes
unfolding u64_bytes u64_of
u64_back bytes len fits = le_bytes_8 bytes _ len fits refl

pub u32_again : (n : ℕ) → n < 2 ^ 32 → u32_of (u32_bytes n) ≡ n
unfolding u32_bytes u32_of
u32_again n lt = from_le_bytes-to_le_bytes_4 n lt

pub u64_again : (n : ℕ) → n < 2 ^ 64 → u64_of (u64_bytes n) ≡ n
unfolding u64_bytes u64_of
u64_again n lt = from_le_bytes-to_le_bytes_8 n lt

pub u32_below : (bytes : Bytes) → IsBytes bytes → u32_of bytes < 2 ^ 32
unfolding u32_of
u32_below bytes fits = omega (arith, fits 0, fits 1, fits 2, fits 3)

-- ---- the first n bytes

guard_some : {A : Type 0} (b : Bool) (x y : A) → cond b None (Some x) ≡ Some y → (b ≡ false) × (x ≡ y)
guard_some true x y e = absurd cc
guard_some false x y e = (refl, cc)

pub split_takes : (n : ℕ) (bytes : Bytes) (x : Bytes × Bytes) → IsBytes bytes → split n bytes ≡ Some x → Takes bytes x.0 x.1 × (length x.0 ≡ n) × IsBytes x.0
split_takes n bytes x fits e =
    let g = guard_some (ltb (length bytes) n) (take n bytes, drop n bytes) x e in
    let long : n ≤ length bytes = ltb-false _ _ g.0 in
    let whole : Takes bytes (take n bytes) (drop n bytes) = record { parts = sym (take-append-drop n bytes); rest_fits = IsBytes-drop n bytes fits } in
    subst (λ (y : Bytes × Bytes). Takes bytes y.0 y.1 × (length y.0 ≡ n) × IsBytes y.0) g.1 (whole, omega (arith, length-take n bytes), IsBytes-take n bytes fits)

pub split_again : (n : ℕ) (text rest : Bytes) → length text ≡ n → split n (text ++ rest) ≡ Some (text, rest)
split_again n text rest len =
    let long : ltb (length (text ++ rest)) n ≡ false = le-ltb _ _ (omega (arith, length-append text rest)) in
    rw (long, take_at text rest n len, drop_at text rest n len) refl

pub number_takes : (bytes : Bytes) (x : ℕ × Bytes) → IsBytes bytes → number_at bytes ≡ Some x → Takes bytes (u32_bytes x.0) x.1 × (x.0 < 2 ^ 32)
number_takes bytes x fits e =
    let a = bind_some (split 4 bytes) (λ front. Some (u32_of front.0, front.1)) x e in
    let t = split_takes 4 bytes a.0 fits a.1 in
    let front : u32_bytes (u32_of a.0.0) ≡ a.0.0 = u32_back a.0.0 t.1 t.2 in
    let whole : Takes bytes (u32_bytes (u32_of a.0.0)) a.0.1 = subst (λ (y : Bytes). Takes bytes y a.0.1) (sym front) t.0 in
    subst (λ (y : ℕ × Bytes). Takes bytes (u32_bytes y.0) y.1 × (y.0 < 2 ^ 32)) (some_is (u32_of a.0.0, a.0.1) x a.2) (whole, u32_below a.0.0 t.2)

pub number_again : (n : ℕ) (rest : Bytes) → n < 2 ^ 32 → number_at (u32_bytes n ++ rest) ≡ Some (n, rest)
number_again n rest lt = rw (split_again 4 (u32_bytes n) rest (length-u32_bytes n), u32_again n lt) refl

-- ---- the parts of a mutation

pub parts_take : (bytes : Bytes) (p : Parts) → IsBytes bytes → parts_of bytes ≡ Some p → Takes bytes (parts_spelling p.code p.first p.second) p.rest
parts_take bytes p fits e =
    let a = bind_some (number_at bytes) _ p e in
    let b = bind_some (number_at a.0.1) _ p a.2 in
    let c = bind_some (number_at b.0.1) _ p b.2 in
    let d = bind_some (split b.0.0 c.0.1) _ p c.2 in
    let f = bind_some (split c.0.0 d.0.1) _ p d.2 in
    let ta = number_takes bytes a.0 fits a.1 in
    let tb = number_takes a.0.1 b.0 ta.0.rest_fits b.1 in
    let tc = number_takes b.0.1 c.0 tb.0.rest_fits c.1 in
    let td = split_takes b.0.0 c.0.1 d.0 tc.0.rest_fits d.1 in
    let tf = split_takes c.0.0 d.0.1 f.0 td.0.rest_fits f.1 in
    let ab = Takes-then bytes (u32_bytes a.0.0) a.0.1 (u32_bytes b.0.0) b.0.1 ta.0 tb.0 in
    let abc = Takes-then bytes (u32_bytes a.0.0 ++ u32_bytes b.0.0) b.0.1 (u32_bytes c.0.0) c.0.1 ab tc.0 in
    let abcd = Takes-then bytes (u32_bytes a.0.0 ++ u32_bytes b.0.0 ++ u32_bytes c.0.0) c.0.1 d.0.0 d.0.1 abc td.0 in
    let all = Takes-then bytes (u32_bytes a.0.0 ++ u32_bytes b.0.0 ++ u32_bytes c.0.0 ++ d.0.0) d.0.1 f.0.0 f.0.1 abcd tf.0 in
    let made : Parts = record { code = a.0.0; first = d.0.0; second = f.0.0; rest = f.0.1 } in
    let spelled : Takes bytes (parts_spelling a.0.0 d.0.0 f.0.0) f.0.1 = subst (λ (y : ℕ × ℕ). Takes bytes (u32_bytes a.0.0 ++ u32_bytes y.0 ++ u32_bytes y.1 ++ d.0.0 ++ f.0.0) f.0.1) (λ i. (sym td.1 i, sym tf.1 i)) all in
    subst (λ (y : Parts). Takes bytes (parts_spelling y.code y.first y.second) y.rest) (some_is made p f.2) spelled

pub parts_again : (code : ℕ) (first second rest : Bytes) → code < 2 ^ 32 → length first < 2 ^ 32 → length second < 2 ^ 32 → parts_of (parts_spelling code first second ++ rest) ≡ Some (record { code = code; first = first; second = second; rest = rest })
parts_again code first second rest h g k =
    let regrouped : parts_spelling code first second ++ rest ≡ u32_bytes code ++ (u32_bytes (length first) ++ (u32_bytes (length second) ++ (first ++ (second ++ rest)))) = simp append_assoc in
    ap parts_of regrouped
    ∙ rw (number_again code (u32_bytes (length first) ++ (u32_bytes (length second) ++ (first ++ (second ++ rest)))) h, number_again (length first) (u32_bytes (length second) ++ (first ++ (second ++ rest))) g, number_again (length second) (first ++ (second ++ rest)) k, split_again (length first) first (second ++ rest) refl, split_again (length second) second rest refl) refl

-- The parts of elements: what is read is spelt so, and what is spelt so is read again.
use Rattle.std.proofs.Common.{◌≡◌, ℕ, zero, suc, ◌+◌, ◌-◌, ◌^◌, ◌<◌, ◌≤◌, Bool, true, false, cond, ltb, eqb, List, [], ◌∷◌, ◌++◌, length, take, drop, Result, Ok, Err, refl, sym, ap, subst, ◌∙◌, arith, inl, inr, ℤ}
use Rattle.std.specs.Str.{is_utf8, IsUtf8}
use Rattle.std.proofs.lemmas.Str.{IsUtf8-from_is_utf8, is_utf8-from_IsUtf8}
use Rattle.std.specs.Int.RustNames.{unsigned_abs}
use Rattle.std.proofs.lemmas.Bool.{cases_lt, ltb-false, le-ltb, eqb-true}
use Rattle.std.proofs.lemmas.List.{take_at, drop_at, take-append-drop, length-append, length-take, get_or-drop, get_or-take, get_or_past}
use Rattle.fb_bytes.specs.Bytes.{IsBytes}
use Rattle.tuple_keys.specs.declared.fault.TupleFault.{TupleFault}
use Rattle.tuple_keys.specs.declared.fault.TupleFault.TheVariants.{Open, Spelling, NotText}
use Rattle.tuple_keys.specs.Spelling.{closed, digits, complement, int_spelling}
use Rattle.tuple_keys.specs.Reading.{in_front, closed_at, text_of, value, turned, minus, signed, has_zero_in_front, int_at}
use Rattle.tuple_keys.proofs.Values.{digits-value, value-short, value-longer, complement-fits, complement-length, complement-complement}

-- ---- results

abbrev pub done : {A : Type 0} → A → Result A TupleFault
done x = Ok x

pub ok_is : {A : Type 0} (x y : A) → done x ≡ done y → x ≡ y
ok_is x y e = cc

-- a test that did not fail
pub guard_ok : {A : Type 0} (b : Bool) (d : TupleFault) (r : Result A TupleFault) (y : A) → cond b (Err d) r ≡ Ok y → (b ≡ false) × (r ≡ Ok y)
guard_ok true d r y e = absurd cc
guard_ok false d r y e = (refl, e)

-- ---- parts of bytes

pub IsBytes-drop : (n : ℕ) (bytes : List ℕ) → IsBytes bytes → IsBytes (drop n bytes)
IsBytes-drop n bytes h i = rw get_or-drop (h (n + i))

pub IsBytes-take : (n : ℕ) (bytes : List ℕ) → IsBytes bytes → IsBytes (take n bytes)
IsBytes-take n bytes h i =
    elim (cases_lt i n) [
      | inl lt ↦ rw (get_or-take n bytes i 0 lt) (h i)
      | inr le ↦ rw (get_or_past (take n bytes) i 0 (omega (arith, length-take n bytes))) (omega arith)
    ]

pub IsBytes-cons : (b : ℕ) (bytes : List ℕ) → b < 256 → IsBytes bytes → IsBytes (b ∷ bytes)
IsBytes-cons b bytes lt h zero = lt
IsBytes-cons b bytes lt h (suc i) = h i

pub IsBytes-rest : (b : ℕ) (bytes : List ℕ) → IsBytes (b ∷ bytes) → IsBytes bytes
IsBytes-rest b bytes h i = h (suc i)

-- ---- escaped bytes

-- what a reader took from the front
pub record Takes (bytes text rest : List ℕ) : Type 0 where
  pub parts : bytes ≡ text ++ rest
  pub rest_fits : IsBytes rest

in_front_ok : (b : ℕ) (r : Result (List ℕ × List ℕ) TupleFault) (x : List ℕ × List ℕ) → in_front b r ≡ Ok x → (y : List ℕ × List ℕ) × (r ≡ Ok y) × ((b ∷ y.0, y.1) ≡ x)
in_front_ok b (Ok y) x e = (y, refl, ok_is (b ∷ y.0, y.1) x e)
in_front_ok b (Err d) x e = absurd cc

-- what a closed text is, and what is behind it
abbrev pub TakesClosed : List ℕ → List ℕ × List ℕ → Type 0
TakesClosed bytes x = Takes bytes (closed x.0) x.1 × IsBytes x.0

pub closed_takes : (at : ℕ) (bytes : List ℕ) (x : List ℕ × List ℕ) → IsBytes bytes → closed_at at bytes ≡ Ok x → TakesClosed bytes x
closed_takes at [] x fits e = absurd cc
closed_takes at (zero ∷ []) x fits e =
    subst (TakesClosed (0 ∷ [])) (ok_is ([], []) x e) (record { parts = refl; rest_fits = λ i. omega arith }, λ i. omega arith)
closed_takes at (zero ∷ c ∷ bytes) x fits e = go (eqb c 255) refl (closed_takes at bytes) e
  where
    go : (b : Bool) → eqb c 255 ≡ b → ((y : List ℕ × List ℕ) → IsBytes bytes → closed_at at bytes ≡ Ok y → TakesClosed bytes y) → cond b (in_front 0 (closed_at at bytes)) (Ok ([], c ∷ bytes)) ≡ Ok x → TakesClosed (0 ∷ c ∷ bytes) x
    go true is ih e =
        let p = in_front_ok 0 (closed_at at bytes) x e in
        let q = ih p.0 (IsBytes-rest c bytes (IsBytes-rest 0 (c ∷ bytes) fits)) p.1 in
        subst (TakesClosed (0 ∷ c ∷ bytes)) p.2 (record { parts = ap (λ (bs : List ℕ). 0 ∷ c ∷ bs) q.0.parts ∙ ap (λ (k : ℕ). 0 ∷ k ∷ (closed p.0.0 ++ p.0.1)) (eqb-true _ _ is); rest_fits = q.0.rest_fits }, IsBytes-cons 0 p.0.0 (omega arith) q.1)
    go false is ih e = subst (TakesClosed (0 ∷ c ∷ bytes)) (ok_is ([], c ∷ bytes) x e) (record { parts = refl; rest_fits = IsBytes-rest 0 (c ∷ bytes) fits }, λ i. omega arith)
closed_takes at (suc b ∷ bytes) x fits e =
    let p = in_front_ok (suc b) (closed_at at bytes) x e in
    let q = closed_takes at bytes p.0 (IsBytes-rest (suc b) bytes fits) p.1 in
    subst (TakesClosed (suc b ∷ bytes)) p.2 (record { parts = ap (λ (bs : List ℕ). suc b ∷ bs) q.0.parts; rest_fits = q.0.rest_fits }, IsBytes-cons (suc b) p.0.0 (fits 0) q.1)

-- the bytes begin with ff, which no element does
abbrev pub has_mark : List ℕ → Bool
has_mark [] = false
has_mark (b ∷ bytes) = eqb b 255

pub closed_again : (at : ℕ) (text rest : List ℕ) → has_mark rest ≡ false → closed_at at (closed text ++ rest) ≡ Ok (text, rest)
closed_again at [] [] h = refl
closed_again at [] (b ∷ rest) h = rw h refl
closed_again at (zero ∷ text) rest h = ap (in_front 0) (closed_again at text rest h)
closed_again at (suc b ∷ text) rest h = ap (in_front (suc b)) (closed_again at text rest h)

pub text_ok : (at : ℕ) (bytes text : List ℕ) → text_of at bytes ≡ Ok text → (is_utf8 bytes ≡ true) × (bytes ≡ text)
text_ok at bytes text e = go (is_utf8 bytes) e
  where
    go : (b : Bool) → cond b (Ok bytes) (Err (NotText at)) ≡ Ok text → (b ≡ true) × (bytes ≡ text)
    go true e = (refl, ok_is bytes text e)
    go false e = absurd cc

-- ---- integers

pub turned-fits : (negative : Bool) (bytes : List ℕ) → IsBytes bytes → IsBytes (turned negative bytes)
turned-fits true bytes fits = complement-fits bytes
turned-fits false bytes fits = fits

pub turned-length : (negative : Bool) (bytes : List ℕ) → length (turned negative bytes) ≡ length bytes
turned-length true bytes = complement-length bytes
turned-length false bytes = refl

-- what reading an integer found
pub record TakesInt (negative : Bool) (count : ℕ) (bytes : List ℕ) (n : ℤ) (rest : List ℕ) : Type 0 where
  pub code : ℕ
  pub code_is : code ≡ cond negative (20 - count) (20 + count)
  pub parts : code ∷ bytes ≡ int_spelling n ++ rest
  pub rest_fits : IsBytes rest
  pub small : unsigned_abs n < 2 ^ 64

int_found : (negative : Bool) (count : ℕ) (bytes front rest ds : List ℕ) → IsBytes bytes → count ≤ 8 → cond negative (0 < count) (Unit {0}) → bytes ≡ front ++ rest → IsBytes front → IsBytes rest → length front ≡ count → turned negative front ≡ ds → has_zero_in_front ds ≡ false
    → TakesInt negative count bytes (signed negative (value ds)) rest
int_found false count bytes front rest ds fits few some parts ff rf len is nz =
    let dfits : IsBytes ds = subst IsBytes is ff in
    let dlen : length ds ≡ count = sym (ap length is) ∙ len in
    let dv : digits (value ds) ≡ ds = digits-value ds dfits (omega arith) nz in
    record {
      code = 20 + count;
      code_is = refl;
      parts = ap (λ (bs : List ℕ). (20 + count) ∷ bs) (parts ∙ ap (λ (f : List ℕ). f ++ rest) is) ∙ ap (λ (k : ℕ). (20 + k) ∷ (ds ++ rest)) (sym dlen) ∙ sym (ap (λ (d : List ℕ). (20 + length d) ∷ (d ++ rest)) dv);
      rest_fits = rf;
      small = value-short ds dfits (omega arith);
    }
int_found true count bytes front rest ds fits few some parts ff rf len is nz =
    let dfits : IsBytes ds = subst IsBytes is (complement-fits front) in
    let dlen : length ds ≡ count = sym (ap length is) ∙ complement-length front ∙ len in
    let dv : digits (value ds) ≡ ds = digits-value ds dfits (omega arith) nz in
    let above : 0 < value ds = value-longer [] ds nz (omega arith) (λ i. omega arith) in
    let back : complement ds ≡ front = sym (ap complement is) ∙ complement-complement front ff in
    go (value ds) above dv (value-short ds dfits (omega arith)) dlen back
  where
    go : (n : ℕ) → 0 < n → digits n ≡ ds → n < 2 ^ 64 → length ds ≡ count → complement ds ≡ front → TakesInt true count bytes (minus n) rest
    go zero above dv small dlen back = absurd (omega arith)
    go (suc n) above dv small dlen back =
        record {
          code = 20 - count;
          code_is = refl;
          parts = ap (λ (bs : List ℕ). (20 - count) ∷ bs) (parts ∙ ap (λ (f : List ℕ). f ++ rest) (sym back)) ∙ ap (λ (k : ℕ). (20 - k) ∷ (complement ds ++ rest)) (sym dlen) ∙ sym (ap (λ (d : List ℕ). (20 - length d) ∷ (complement d ++ rest)) dv);
          rest_fits = rf;
          small = omega arith;
        }

pub int_takes : (at : ℕ) (negative : Bool) (count : ℕ) (bytes : List ℕ) (x : ℤ × List ℕ) → IsBytes bytes → count ≤ 8 → cond negative (0 < count) (Unit {0}) → int_at at negative count bytes ≡ Ok x → TakesInt negative count bytes x.0 x.1
int_takes at negative count bytes x fits few some e =
    let ds = turned negative (take count bytes) in
    let found : ℤ × List ℕ = (signed negative (value ds), drop count bytes) in
    let g = guard_ok (ltb (length bytes) count) (Open at) (cond (has_zero_in_front ds) (Err (Spelling at)) (Ok found)) x e in
    let h = guard_ok (has_zero_in_front ds) (Spelling at) (Ok found) x g.1 in
    let long : count ≤ length bytes = ltb-false _ _ g.0 in
    let len : length (take count bytes) ≡ count = omega (arith, length-take count bytes) in
    subst (λ (y : ℤ × List ℕ). TakesInt negative count bytes y.0 y.1) (ok_is found x h.1)
    (int_found negative count bytes (take count bytes) (drop count bytes) ds fits few some (sym (take-append-drop count bytes)) (IsBytes-take count bytes fits) (IsBytes-drop count bytes fits) len refl h.0)

pub int_again : (at : ℕ) (negative : Bool) (front rest : List ℕ) → has_zero_in_front (turned negative front) ≡ false → int_at at negative (length front) (front ++ rest) ≡ Ok (signed negative (value (turned negative front)), rest)
int_again at negative front rest nz =
    let long : ltb (length (front ++ rest)) (length front) ≡ false = le-ltb _ _ (omega (arith, length-append front rest)) in
    rw (long, take_at front rest (length front) refl, drop_at front rest (length front) refl, nz) refl

-- ---- texts

pub text_yes : (at : ℕ) (bytes : List ℕ) → IsUtf8 bytes → text_of at bytes ≡ Ok bytes
text_yes at bytes h = rw (is_utf8-from_IsUtf8 bytes h) refl

pub text_no : (at : ℕ) (bytes : List ℕ) → (IsUtf8 bytes → ⊥) → text_of at bytes ≡ Err (NotText at)
text_no at bytes h = go (is_utf8 bytes) refl
  where
    go : (b : Bool) → is_utf8 bytes ≡ b → cond b (Ok bytes) (Err (NotText at)) ≡ Err (NotText at)
    go true e = absurd (h (IsUtf8-from_is_utf8 bytes e))
    go false e = refl

-- Reading and writing one part after the other, as loops do.
use Rattle.std.specs.Prelude.{IfOk, IfErr}
use Rattle.std.proofs.Common.{◌≡◌, ℕ, zero, suc, ◌+◌, ◌-◌, ◌≤◌, ◌<◌, List, [], ◌∷◌, ◌++◌, length, Bool, true, false, cond, eqb, Option, Some, None, Result, Ok, Err, refl, sym, ap, ◌∙◌, append_assoc, arith, inl, inr, ◌⊎◌, take, get_or, ◌*◌, ◌^◌}
use Rattle.std.proofs.lemmas.List.{append-nil, map_push, take_more, length-take, length-append}
use Rattle.std.proofs.Math.Nat.{pow-le-pow_right}
use Rattle.fb_bytes.specs.Bytes.{IsBytes}
use Rattle.fb_bytes.specs.Results.{◌>>=◌, FailsBut}
use Rattle.tuple_keys.proofs.Values.{value-push, value-below}
use Rattle.tuple_keys.proofs.Parts.{ok_is, IsBytes-rest, IsBytes-take, turned-fits, turned-length}
use Rattle.tuple_keys.specs.declared.element.Element.{Element}
use Rattle.tuple_keys.specs.declared.element.Element.TheVariants.{Null, Bytes, Text, Int}
use Rattle.tuple_keys.specs.Elements.{IsSmall, IsElement, AreElements}
use Rattle.tuple_keys.specs.declared.fault.TupleFault.{TupleFault}
use Rattle.tuple_keys.specs.declared.fault.TupleFault.TheVariants.{NoMemory}
use Rattle.tuple_keys.specs.Spelling.{escaped, complement, element_spelling, spelling}
use Rattle.tuple_keys.proofs.Elements.{TakesElement, element_takes, element_long, reading_takes, reading_again}
use Rattle.tuple_keys.specs.Reading.{in_front, closed_at, value, turned, elements_at, reading}
use Rattle.tuple_keys.specs.inner.Reading.{Gives, next_of, digit_of, element_at}

pub escaped-append : (xs ys : List ℕ) → escaped (xs ++ ys) ≡ escaped xs ++ escaped ys
escaped-append [] ys = refl
escaped-append (zero ∷ xs) ys = ap (λ (bs : List ℕ). 0 ∷ 255 ∷ bs) (escaped-append xs ys)
escaped-append (suc b ∷ xs) ys = ap (λ (bs : List ℕ). suc b ∷ bs) (escaped-append xs ys)

pub escaped-more : (front xs : List ℕ) (i : ℕ) → i < length xs → (front ++ escaped (take i xs)) ++ escaped (get_or xs i 0 ∷ []) ≡ front ++ escaped (take (i + 1) xs)
escaped-more front xs i lt = append_assoc front (escaped (take i xs)) (escaped (get_or xs i 0 ∷ [])) ∙ ap (λ (bs : List ℕ). front ++ bs) (sym (escaped-append (take i xs) (get_or xs i 0 ∷ [])) ∙ ap escaped (sym (take_more xs i 0 lt)))

-- ---- the value of digits, one more at a time

pub turned-step : (negative : Bool) (digits : List ℕ) (i : ℕ) → i < length digits → value (turned negative (take (i + 1) digits)) ≡ value (turned negative (take i digits)) * 256 + digit_of negative (get_or digits i 0)
turned-step true digits i lt =
    ap (λ (bs : List ℕ). value (complement bs)) (take_more digits i 0 lt) ∙ ap value (map_push (λ k. 255 - k) (take i digits) (get_or digits i 0)) ∙ value-push (complement (take i digits)) (255 - get_or digits i 0)
turned-step false digits i lt =
    ap value (take_more digits i 0 lt) ∙ value-push (take i digits) (get_or digits i 0)

pub digit-below : (negative : Bool) (b : ℕ) → b < 256 → digit_of negative b < 256
digit-below true b lt = omega arith
digit-below false b lt = lt

-- seven bytes leave room for one more
pub turned-below : (negative : Bool) (digits : List ℕ) (i : ℕ) → IsBytes digits → i < length digits → length digits ≤ 8 → value (turned negative (take i digits)) < 2 ^ 56
turned-below negative digits i fits lt few =
    let f = IsBytes-take i digits fits in
    let below = value-below (turned negative (take i digits)) (turned-fits negative (take i digits) f) in
    let len : length (turned negative (take i digits)) ≡ i = turned-length negative (take i digits) ∙ omega (arith, length-take i digits) in
    let room : 256 ^ length (turned negative (take i digits)) ≤ 256 ^ 7 = pow-le-pow_right (omega arith) {j = 7} (omega arith) in
    omega arith

-- ---- a closed text

some_is : {A : Type 0} (x y : A) → Some x ≡ Some y → x ≡ y
some_is x y e = cc

-- what was read before, and what is still read
abbrev pub with_bytes : List ℕ → Result (List ℕ × List ℕ) TupleFault → Result (List ℕ × List ℕ) TupleFault
with_bytes front read = read >>= λ x. Ok (front ++ x.0, x.1)

regroup_bytes : (front : List ℕ) (b : ℕ) (read : Result (List ℕ × List ℕ) TupleFault) → with_bytes front (in_front b read) ≡ with_bytes (front ++ b ∷ []) read
regroup_bytes front b (Ok x) = ap (λ (bs : List ℕ). Ok (bs, x.1)) (simp append_assoc)
regroup_bytes front b (Err f) = refl

pub closed_on : (at : ℕ) (front bytes : List ℕ) (b : ℕ) (rest : List ℕ) → next_of bytes ≡ Some (b, rest) → with_bytes front (closed_at at bytes) ≡ with_bytes (front ++ b ∷ []) (closed_at at rest)
closed_on at front [] b rest e = absurd cc
closed_on at front (zero ∷ []) b rest e = absurd cc
closed_on at front (zero ∷ c ∷ bytes) b rest e = go (eqb c 255) e
  where
    go : (t : Bool) → cond {A = Option (ℕ × List ℕ)} t (Some (0, bytes)) None ≡ Some (b, rest) → with_bytes front (cond t (in_front 0 (closed_at at bytes)) (Ok ([], c ∷ bytes))) ≡ with_bytes (front ++ b ∷ []) (closed_at at rest)
    go true e = regroup_bytes front 0 (closed_at at bytes) ∙ ap (λ (x : ℕ × List ℕ). with_bytes (front ++ x.0 ∷ []) (closed_at at x.1)) (some_is (0, bytes) (b, rest) e)
    go false e = absurd cc
closed_on at front (suc c ∷ bytes) b rest e =
    regroup_bytes front (suc c) (closed_at at bytes) ∙ ap (λ (x : ℕ × List ℕ). with_bytes (front ++ x.0 ∷ []) (closed_at at x.1)) (some_is (suc c, bytes) (b, rest) e)

pub next_shorter : (bytes : List ℕ) (b : ℕ) (rest : List ℕ) → next_of bytes ≡ Some (b, rest) → length rest < length bytes
next_shorter [] b rest e = absurd cc
next_shorter (zero ∷ []) b rest e = absurd cc
next_shorter (zero ∷ c ∷ bytes) b rest e = go (eqb c 255) e
  where
    go : (t : Bool) → cond {A = Option (ℕ × List ℕ)} t (Some (0, bytes)) None ≡ Some (b, rest) → length rest < suc (suc (length bytes))
    go true e = omega (arith, ap (λ (x : ℕ × List ℕ). length x.1) (some_is (0, bytes) (b, rest) e))
    go false e = absurd cc
next_shorter (suc c ∷ bytes) b rest e = omega (arith, ap (λ (x : ℕ × List ℕ). length x.1) (some_is (suc c, bytes) (b, rest) e))

pub closed_last : (at : ℕ) (front : List ℕ) (b : ℕ) (rest : List ℕ) → next_of (b ∷ rest) ≡ None → with_bytes front (closed_at at (b ∷ rest)) ≡ Ok (front, rest)
closed_last at front zero [] e = ap (λ (bs : List ℕ). Ok (bs, [])) (append-nil front)
closed_last at front zero (c ∷ rest) e = go (eqb c 255) e
  where
    go : (t : Bool) → cond {A = Option (ℕ × List ℕ)} t (Some (0, rest)) None ≡ None → with_bytes front (cond t (in_front 0 (closed_at at rest)) (Ok ([], c ∷ rest))) ≡ Ok (front, c ∷ rest)
    go true e = absurd cc
    go false e = ap (λ (bs : List ℕ). Ok (bs, c ∷ rest)) (append-nil front)
closed_last at front (suc b) rest e = absurd cc

-- ---- a tuple

abbrev pub with_elements : List Element → Result (List Element) TupleFault → Result (List Element) TupleFault
with_elements front read = read >>= λ es. Ok (front ++ es)

regroup : (front : List Element) (e : Element) (read : Result (List Element) TupleFault) → with_elements front (read >>= λ es. Ok (e ∷ es)) ≡ with_elements (front ++ e ∷ []) read
regroup front e (Ok es) = ap Ok (simp append_assoc)
regroup front e (Err f) = refl

-- the rest of a tuple, with room for as many elements as bytes
pub record Reads (total : ℕ) (front : List Element) (rest : List ℕ) (all : Result (List Element) TupleFault) : Type 0 where
  pub most : ℕ
  pub enough : length rest ≤ most
  pub same : with_elements front (elements_at total most rest) ≡ all
  pub fits : IsBytes rest
  pub within : length rest ≤ total

with_nothing : (read : Result (List Element) TupleFault) → with_elements [] read ≡ read
with_nothing (Ok es) = refl
with_nothing (Err f) = refl

pub reads_first : (bytes : List ℕ) → IsBytes bytes → Reads (length bytes) [] bytes (reading bytes)
unfolding reading
reads_first bytes fits = record { most = length bytes; enough = omega arith; same = with_nothing (elements_at (length bytes) (length bytes) bytes); fits = fits; within = omega arith }

small_from_element : (e : Element) → IsElement e → IsSmall e
small_from_element Null h = tt
small_from_element (Bytes bytes) h = tt
small_from_element (Text text) h = tt
small_from_element (Int n) h = h

-- what one more element leaves
pub record Next (total : ℕ) (front : List Element) (rest : List ℕ) (e : Element) (behind : List ℕ) (all : Result (List Element) TupleFault) : Type 0 where
  pub reads : Reads total (front ++ e ∷ []) behind all
  pub shorter : length behind < length rest
  pub small : IsSmall e

pub reads_on : (total at : ℕ) (front : List Element) (rest : List ℕ) (e : Element) (behind : List ℕ) (all : Result (List Element) TupleFault) → at ≡ total - length rest → element_at at rest ≡ Ok (e, behind)
    → Reads total front rest all → Next total front rest e behind all
unfolding elements_at
reads_on total at front [] e behind all is h r = absurd cc
reads_on total at front (code ∷ rest) e behind all is h r = go r.most (omega (arith, r.enough)) r.same
  where
    is' : at ≡ total - (length rest + 1)
    is' = omega arith

    takes : TakesElement (code ∷ rest) e behind
    takes = element_takes at code rest (e, behind) (IsBytes-rest code rest r.fits) h

    shorter : length behind < length (code ∷ rest)
    shorter = omega (arith, ap length takes.parts, length-append (element_spelling e) behind, element_long e)

    go : (most : ℕ) → length rest + 1 ≤ most → with_elements front (elements_at total most (code ∷ rest)) ≡ all → Next total front (code ∷ rest) e behind all
    go zero enough same = absurd (omega arith)
    go (suc most) enough same = record {
      reads = record {
        most = most;
        enough = omega (arith, shorter);
        same = sym (rw (← is', h) (regroup front e (elements_at total most behind))) ∙ same;
        fits = takes.rest_fits;
        within = omega (arith, shorter, r.within);
      };
      shorter = shorter;
      small = small_from_element e takes.fits;
    }

err_on : (total at : ℕ) (front : List Element) (rest : List ℕ) (f : TupleFault) (all : Result (List Element) TupleFault) → (rest ≡ [] → ⊥) → at ≡ total - length rest → element_at at rest ≡ Err f → Reads total front rest all → all ≡ Err f
unfolding elements_at
err_on total at front [] f all long is h r = absurd (long refl)
err_on total at front (code ∷ rest) f all long is h r = go r.most (omega (arith, r.enough)) r.same
  where
    is' : at ≡ total - (length rest + 1)
    is' = omega arith

    go : (most : ℕ) → length rest + 1 ≤ most → with_elements front (elements_at total most (code ∷ rest)) ≡ all → all ≡ Err f
    go zero enough same = absurd (omega arith)
    go (suc most) enough same = sym same ∙ rw (← is', h) refl

pub reads_fail : (total at : ℕ) (front : List Element) (rest : List ℕ) (f : TupleFault) (all : Result (List Element) TupleFault) → (rest ≡ [] → ⊥) → at ≡ total - length rest → FailsBut NoMemory f (element_at at rest) → Reads total front rest all → FailsBut NoMemory f all
reads_fail total at front rest f all long is h r = elim h [ inl e ↦ inl e | inr e ↦ inr (err_on total at front rest f all long is e r) ]

pub reads_all : (total : ℕ) (front : List Element) (rest : List ℕ) (all : Result (List Element) TupleFault) → rest ≡ [] → Reads total front rest all → all ≡ Ok front
unfolding elements_at
reads_all total front [] all short r = sym r.same ∙ ap Ok (append-nil front)
reads_all total front (b ∷ rest) all short r = absurd cc

-- ---- what reading says in the two other ways

pub is_found : (bytes : List ℕ) (r : Result (List Element) TupleFault) → IsBytes bytes → Gives (λ es. es) r (reading bytes) → IfOk r (λ es. AreElements es × (bytes ≡ spelling es))
is_found bytes (Ok es) fits given = reading_takes bytes es fits given
is_found bytes (Err f) fits given = tt

pub is_only : (bytes : List ℕ) (r : Result (List Element) TupleFault) (es : List Element) → Gives (λ es. es) r (reading bytes) → AreElements es → bytes ≡ spelling es → (r ≡ Ok es) ⊎ (r ≡ Err NoMemory)
is_only bytes (Ok found) es given fits is = inl (ap Ok (ok_is found es (sym given ∙ ap reading is ∙ reading_again es fits)))
is_only bytes (Err f) es given fits is = elim given [
  | inl e ↦ inr (ap Err e)
  | inr e ↦ absurd (let wrong = sym e ∙ ap reading is ∙ reading_again es fits in cc)
]

pub is_err : (r read : Result (List Element) TupleFault) → Gives (λ es. es) r read → IfErr r (λ f. (f ≡ NoMemory) ⊎ (read ≡ Err f))
is_err (Ok es) read given = tt
is_err (Err f) read given = given

-- Pairs one after the other, as a loop reads them, and what they spell.
use Rattle.std.proofs.Common.{◌≡◌, ℕ, zero, suc, ◌+◌, ◌^◌, ◌<◌, ◌≤◌, Bool, true, false, List, [], ◌∷◌, ◌++◌, length, Option, Some, None, Result, Ok, Err, refl, sym, ap, subst, ◌∙◌, append_assoc, arith, lit≤}
use Rattle.std.proofs.lemmas.List.{append-nil, length-append}
use Rattle.fb_bytes.specs.Bytes.{Bytes, IsBytes}
use Rattle.fb_bytes.specs.declared.Pair.{Pair}
use Rattle.block_frame.specs.Text.{string, is_over}
use Rattle.block_frame.proofs.Strings.{IsString, string_not_over, not_over_short}
use Rattle.range_files.specs.declared.fault.BlockFault.{BlockFault}
use Rattle.range_files.specs.Grammar.{pair_text, pairs_text, end_text, padding_like, LengthsFit}
use Rattle.range_files.specs.Reading.{◌>>=◌, Items, with_pair, string_or, items_at}
use Rattle.fb_bytes.proofs.Results.{bind_ok, ok_is, fuel_is}
use Rattle.block_frame.proofs.Strings.{string-length}
use Rattle.range_files.proofs.Steps.{string_or_size, string_or_found, string_or_again}

abbrev pub pair_of : Bytes → Bytes → Pair
pair_of key value = record { key = key; value = value }

-- ---- one step

alone : (fuel t : ℕ) (bytes key after : Bytes) → string_or t bytes ≡ Ok (key, after) → is_over after ≡ true → items_at (suc fuel) t bytes ≡ Ok (record { pairs = []; end = Some key; rest = after })
unfolding items_at
alone fuel t bytes key after e over = rw (e, over) refl

last_pair : (fuel t : ℕ) (bytes key after value behind : Bytes) → string_or t bytes ≡ Ok (key, after) → is_over after ≡ false → string_or t after ≡ Ok (value, behind) → is_over behind ≡ true → items_at (suc fuel) t bytes ≡ Ok (record { pairs = pair_of key value ∷ []; end = None; rest = behind })
unfolding items_at
last_pair fuel t bytes key after value behind e over e' over' = rw (e, over, e', over') refl

one_more : (fuel t : ℕ) (bytes key after value behind : Bytes) → string_or t bytes ≡ Ok (key, after) → is_over after ≡ false → string_or t after ≡ Ok (value, behind) → is_over behind ≡ false → items_at (suc fuel) t bytes ≡ (items_at fuel t behind >>= λ more. Ok (with_pair key value more))
unfolding items_at
one_more fuel t bytes key after value behind e over e' over' = rw (e, over, e', over') refl

no_key : (fuel t : ℕ) (bytes : Bytes) (fault : BlockFault) → string_or t bytes ≡ Err fault → items_at (suc fuel) t bytes ≡ Err fault
unfolding items_at
no_key fuel t bytes fault e = rw e refl

no_value : (fuel t : ℕ) (bytes key after : Bytes) (fault : BlockFault) → string_or t bytes ≡ Ok (key, after) → is_over after ≡ false → string_or t after ≡ Err fault → items_at (suc fuel) t bytes ≡ Err fault
unfolding items_at
no_value fuel t bytes key after fault e over e' = rw (e, over, e') refl

-- ---- as a loop goes on

abbrev pub behind_pairs : List Pair → Result Items BlockFault → Result Items BlockFault
behind_pairs front reading = reading >>= λ items. Ok (record { pairs = front ++ items.pairs; end = items.end; rest = items.rest })

-- these pairs were read, and reading goes on with the rest
pub record ItemsSoFar (pairs : List Pair) (t : ℕ) (rest : Bytes) (total : Result Items BlockFault) : Type 0 where
  pub fuel : ℕ
  pub enough : length rest < fuel
  pub same : behind_pairs pairs (items_at fuel t rest) ≡ total

pub items_begin : (t : ℕ) (bytes : Bytes) → ItemsSoFar [] t bytes (items_at (length bytes + 1) t bytes)
items_begin t bytes = record { fuel = length bytes + 1; enough = omega arith; same = whole (items_at (length bytes + 1) t bytes) }
  where
    whole : (reading : Result Items BlockFault) → behind_pairs [] reading ≡ reading
    whole (Ok x) = refl
    whole (Err f) = refl

regroup : (front : List Pair) (key value : Bytes) (reading : Result Items BlockFault) → behind_pairs front (reading >>= λ more. Ok (with_pair key value more)) ≡ behind_pairs (front ++ pair_of key value ∷ []) reading
regroup front key value (Ok items) = ap (λ (ps : List Pair). Ok (record { pairs = ps; end = items.end; rest = items.rest })) (sym (append_assoc front (pair_of key value ∷ []) items.pairs))
regroup front key value (Err fault) = refl

pub items_alone : (pairs : List Pair) (t : ℕ) (rest key after : Bytes) (total : Result Items BlockFault) → ItemsSoFar pairs t rest total → string_or t rest ≡ Ok (key, after) → is_over after ≡ true → total ≡ Ok (record { pairs = pairs; end = Some key; rest = after })
items_alone pairs t rest key after total s e over =
    let f = fuel_is (length rest) s.fuel s.enough in
    let one : items_at s.fuel t rest ≡ Ok (record { pairs = []; end = Some key; rest = after }) = ap (λ (n : ℕ). items_at n t rest) f.1 ∙ alone f.0 t rest key after e over in
    sym s.same ∙ ap (behind_pairs pairs) one ∙ ap (λ (ps : List Pair). Ok (record { pairs = ps; end = Some key; rest = after })) (append-nil pairs)

pub items_last : (pairs : List Pair) (t : ℕ) (rest key after value behind : Bytes) (total : Result Items BlockFault) → ItemsSoFar pairs t rest total → string_or t rest ≡ Ok (key, after) → is_over after ≡ false → string_or t after ≡ Ok (value, behind) → is_over behind ≡ true → total ≡ Ok (record { pairs = pairs ++ pair_of key value ∷ []; end = None; rest = behind })
items_last pairs t rest key after value behind total s e over e' over' =
    let f = fuel_is (length rest) s.fuel s.enough in
    let one : items_at s.fuel t rest ≡ Ok (record { pairs = pair_of key value ∷ []; end = None; rest = behind }) = ap (λ (n : ℕ). items_at n t rest) f.1 ∙ last_pair f.0 t rest key after value behind e over e' over' in
    sym s.same ∙ ap (behind_pairs pairs) one

pub items_more : (pairs : List Pair) (t : ℕ) (rest key after value behind : Bytes) (total : Result Items BlockFault) → ItemsSoFar pairs t rest total → string_or t rest ≡ Ok (key, after) → is_over after ≡ false → string_or t after ≡ Ok (value, behind) → is_over behind ≡ false → ItemsSoFar (pairs ++ pair_of key value ∷ []) t behind total
items_more pairs t rest key after value behind total s e over e' over' =
    let f = fuel_is (length rest) s.fuel s.enough in
    let one : items_at s.fuel t rest ≡ (items_at f.0 t behind >>= λ more. Ok (with_pair key value more)) = ap (λ (n : ℕ). items_at n t rest) f.1 ∙ one_more f.0 t rest key after value behind e over e' over' in
    let a = string_or_size t rest (key, after) e in
    let b = string_or_size t after (value, behind) e' in
    record {
      fuel = f.0;
      enough = omega (arith, a, b, f.1, s.enough);
      same = sym (regroup pairs key value (items_at f.0 t behind)) ∙ ap (behind_pairs pairs) (sym one) ∙ s.same;
    }

pub items_no_key : (pairs : List Pair) (t : ℕ) (rest : Bytes) (fault : BlockFault) (total : Result Items BlockFault) → ItemsSoFar pairs t rest total → string_or t rest ≡ Err fault → total ≡ Err fault
items_no_key pairs t rest fault total s e =
    let f = fuel_is (length rest) s.fuel s.enough in
    let one : items_at s.fuel t rest ≡ Err fault = ap (λ (n : ℕ). items_at n t rest) f.1 ∙ no_key f.0 t rest fault e in
    sym s.same ∙ ap (behind_pairs pairs) one

pub items_no_value : (pairs : List Pair) (t : ℕ) (rest key after : Bytes) (fault : BlockFault) (total : Result Items BlockFault) → ItemsSoFar pairs t rest total → string_or t rest ≡ Ok (key, after) → is_over after ≡ false → string_or t after ≡ Err fault → total ≡ Err fault
items_no_value pairs t rest key after fault total s e over e' =
    let f = fuel_is (length rest) s.fuel s.enough in
    let one : items_at s.fuel t rest ≡ Err fault = ap (λ (n : ℕ). items_at n t rest) f.1 ∙ no_value f.0 t rest key after fault e over e' in
    sym s.same ∙ ap (behind_pairs pairs) one

-- ---- what is read is spelled so

-- there is a key behind the begin key
abbrev pub HasKey : List Pair → Option Bytes → Type 0
HasKey [] None = ⊥
HasKey [] (Some end) = Unit {0}
HasKey (pair ∷ pairs) end = Unit {0}

pub record AreItems (limit : ℕ) (bytes : Bytes) (items : Items) : Type 0 where
  pub parts : bytes ≡ pairs_text items.pairs ++ (end_text items.end ++ items.rest)
  pub lengths : LengthsFit limit items.pairs items.end
  pub has : HasKey items.pairs items.end

pub pairs-first : (pair : Pair) (pairs : List Pair) (more : Bytes) → pairs_text (pair ∷ pairs) ++ more ≡ string pair.key ++ (string pair.value ++ (pairs_text pairs ++ more))
pairs-first pair pairs more = append_assoc (pair_text pair) (pairs_text pairs) more ∙ append_assoc (string pair.key) (string pair.value) (pairs_text pairs ++ more)

-- no string in front is longer than the limit
abbrev FrontFits : ℕ → Bytes → Type 0
FrontFits limit bytes = (s r : Bytes) → length s < 2 ^ 32 → bytes ≡ string s ++ r → length s < limit

front_short : (bytes : Bytes) → is_over bytes ≡ false → FrontFits padding_like bytes
front_short bytes over s r lt e = not_over_short s r lt (ap is_over (sym e) ∙ over)

module _ (fuel t limit : ℕ) (bytes key after : Bytes) (items : Items) (ih : (more : Bytes) (its : Items) → IsBytes more → is_over more ≡ false → items_at fuel t more ≡ Ok its → AreItems padding_like more its) (k : IsString bytes key after) (fits : length key < limit) (e : string_or t bytes ≡ Ok (key, after)) (all : items_at (suc fuel) t bytes ≡ Ok items) where
  found_alone : is_over after ≡ true → AreItems limit bytes items
  found_alone over =
      let made : Items = record { pairs = []; end = Some key; rest = after } in
      let is : made ≡ items = ok_is made items (items_at (suc fuel) t bytes) (alone fuel t bytes key after e over) all in
      subst (λ (i : Items). AreItems limit bytes i) is (record { parts = k.parts; lengths = fits; has = tt })

  module _ (value behind : Bytes) (over : is_over after ≡ false) (v : IsString after value behind) (e' : string_or t after ≡ Ok (value, behind)) where
    short : length value < padding_like
    short = not_over_short value behind v.len (ap is_over (sym v.parts) ∙ over)

    spelled : bytes ≡ string key ++ (string value ++ behind)
    spelled = k.parts ∙ ap (λ (x : Bytes). string key ++ x) v.parts

    found_last : is_over behind ≡ true → AreItems limit bytes items
    found_last over' =
        let made : Items = record { pairs = pair_of key value ∷ []; end = None; rest = behind } in
        let is : made ≡ items = ok_is made items (items_at (suc fuel) t bytes) (last_pair fuel t bytes key after value behind e over e' over') all in
        subst (λ (i : Items). AreItems limit bytes i) is (record { parts = spelled ∙ sym (pairs-first (pair_of key value) [] behind); lengths = (fits, short, tt); has = tt })

    found_more : is_over behind ≡ false → AreItems limit bytes items
    found_more over' =
        let a = bind_ok (items_at fuel t behind) (λ more. Ok (with_pair key value more)) items (sym (one_more fuel t bytes key after value behind e over e' over') ∙ all) in
        let r = ih behind a.0 v.others over' a.1 in
        let is : with_pair key value a.0 ≡ items = ok_is (with_pair key value a.0) items (Ok (with_pair key value a.0)) refl a.2 in
        subst (λ (i : Items). AreItems limit bytes i) is (record {
          parts = spelled ∙ ap (λ (x : Bytes). string key ++ (string value ++ x)) r.parts ∙ sym (pairs-first (pair_of key value) a.0.pairs (end_text a.0.end ++ a.0.rest));
          lengths = (fits, short, r.lengths);
          has = tt;
        })

    found_behind : (b : Bool) → is_over behind ≡ b → AreItems limit bytes items
    found_behind true h = found_last h
    found_behind false h = found_more h

  found_value : is_over after ≡ false → (r : Result (Bytes × Bytes) BlockFault) → string_or t after ≡ r → AreItems limit bytes items
  found_value over (Err fault) h = absurd (let bad = sym (no_value fuel t bytes key after fault e over h) ∙ all in cc)
  found_value over (Ok x) h = found_behind x.0 x.1 over (string_or_found t after x k.others h) h (is_over x.1) refl

  found_after : (b : Bool) → is_over after ≡ b → AreItems limit bytes items
  found_after true h = found_alone h
  found_after false h = found_value h (string_or t after) refl

found_key : (fuel t limit : ℕ) (bytes : Bytes) (items : Items) → ((more : Bytes) (its : Items) → IsBytes more → is_over more ≡ false → items_at fuel t more ≡ Ok its → AreItems padding_like more its) → IsBytes bytes → FrontFits limit bytes → items_at (suc fuel) t bytes ≡ Ok items → (r : Result (Bytes × Bytes) BlockFault) → string_or t bytes ≡ r → AreItems limit bytes items
found_key fuel t limit bytes items ih fits front all (Err fault) h = absurd (let bad = sym (no_key fuel t bytes fault h) ∙ all in cc)
found_key fuel t limit bytes items ih fits front all (Ok x) h =
    let k = string_or_found t bytes x fits h in
    found_after fuel t limit bytes x.0 x.1 items ih k (front x.0 x.1 k.len k.parts) h all (is_over x.1) refl

none_left : (t : ℕ) (bytes : Bytes) (items : Items) → items_at zero t bytes ≡ Ok items → ⊥
unfolding items_at
none_left t bytes items e = absurd cc

pub items_found : (fuel t limit : ℕ) (bytes : Bytes) (items : Items) → IsBytes bytes → FrontFits limit bytes → items_at fuel t bytes ≡ Ok items → AreItems limit bytes items
items_found zero t limit bytes items fits front e = absurd (none_left t bytes items e)
items_found (suc fuel) t limit bytes items fits front e =
    found_key fuel t limit bytes items (λ more its f over h. items_found fuel t padding_like more its f (front_short more over) h) fits front e (string_or t bytes) refl

-- ---- what is spelled so is read

fewer : (fuel : ℕ) (pair : Pair) (pairs : List Pair) (more : Bytes) → length (pairs_text (pair ∷ pairs) ++ more) < suc fuel → length (pairs_text pairs ++ more) < fuel
fewer fuel pair pairs more lt =
    let rest = pairs_text pairs ++ more in
    omega (arith, ap length (pairs-first pair pairs more), length-append (string pair.key) (string pair.value ++ rest), length-append (string pair.value) rest, string-length pair.key, string-length pair.value)

again_more : (fuel t limit : ℕ) (pair : Pair) (pairs : List Pair) (end : Option Bytes) (padding : Bytes) → LengthsFit limit (pair ∷ pairs) end → limit ≤ 2 ^ 32 → is_over (pairs_text pairs ++ (end_text end ++ padding)) ≡ false
    → items_at fuel t (pairs_text pairs ++ (end_text end ++ padding)) ≡ Ok (record { pairs = pairs; end = end; rest = padding })
    → items_at (suc fuel) t (pairs_text (pair ∷ pairs) ++ (end_text end ++ padding)) ≡ Ok (record { pairs = pair ∷ pairs; end = end; rest = padding })
again_more fuel t limit pair pairs end padding lengths small over ih =
    let rest = pairs_text pairs ++ (end_text end ++ padding) in
    ap (items_at (suc fuel) t) (pairs-first pair pairs (end_text end ++ padding))
    ∙ one_more fuel t (string pair.key ++ (string pair.value ++ rest)) pair.key (string pair.value ++ rest) pair.value rest
    (string_or_again t pair.key (string pair.value ++ rest) (omega (arith, lengths.0))) (string_not_over pair.value rest lengths.1) (string_or_again t pair.value rest (omega (arith, lengths.1))) over
    ∙ ap (λ (r : Result Items BlockFault). r >>= λ more. Ok (with_pair pair.key pair.value more)) ih

pub items_again : (fuel t limit : ℕ) (pairs : List Pair) (end : Option Bytes) (padding : Bytes) → HasKey pairs end → LengthsFit limit pairs end → limit ≤ 2 ^ 32 → is_over padding ≡ true → length (pairs_text pairs ++ (end_text end ++ padding)) < fuel
    → items_at fuel t (pairs_text pairs ++ (end_text end ++ padding)) ≡ Ok (record { pairs = pairs; end = end; rest = padding })
items_again zero t limit pairs end padding has lengths small over lt = absurd (omega arith)
items_again (suc fuel) t limit [] None padding has lengths small over lt = absurd has
items_again (suc fuel) t limit [] (Some end) padding has lengths small over lt = alone fuel t (string end ++ padding) end padding (string_or_again t end padding (omega arith)) over
items_again (suc fuel) t limit (pair ∷ []) None padding has lengths small over lt =
    ap (items_at (suc fuel) t) (pairs-first pair [] padding)
    ∙ last_pair fuel t (string pair.key ++ (string pair.value ++ padding)) pair.key (string pair.value ++ padding) pair.value padding
    (string_or_again t pair.key (string pair.value ++ padding) (omega arith)) (string_not_over pair.value padding lengths.1) (string_or_again t pair.value padding (omega (arith, lengths.1))) over
items_again (suc fuel) t limit (pair ∷ []) (Some end) padding has lengths small over lt =
    again_more fuel t limit pair [] (Some end) padding lengths small (string_not_over end padding lengths.2) (items_again fuel t padding_like [] (Some end) padding tt lengths.2 (lit≤ tt) over (fewer fuel pair [] (string end ++ padding) lt))
items_again (suc fuel) t limit (pair ∷ next ∷ pairs) end padding has lengths small over lt =
    let rest = pairs_text (next ∷ pairs) ++ (end_text end ++ padding) in
    again_more fuel t limit pair (next ∷ pairs) end padding lengths small
    (ap is_over (pairs-first next pairs (end_text end ++ padding)) ∙ string_not_over next.key (string next.value ++ (pairs_text pairs ++ (end_text end ++ padding))) lengths.2.0)
    (items_again fuel t padding_like (next ∷ pairs) end padding tt lengths.2 (lit≤ tt) over (fewer fuel pair (next ∷ pairs) (end_text end ++ padding) lt))

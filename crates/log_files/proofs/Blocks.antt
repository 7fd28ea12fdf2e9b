-- Blocks: what is read is in the grammar, and what is in the grammar is read.
use Rattle.std.proofs.Common.{◌≡◌, ℕ, zero, suc, ◌+◌, ◌-◌, ◌^◌, ◌<◌, ◌≤◌, Bool, true, false, cond, eqb, List, [], ◌∷◌, ◌++◌, length, take, drop, map, Option, Some, None, Result, Ok, Err, refl, sym, ap, subst, ◌∙◌, append_assoc, arith, lit<, inl, inr}
use Rattle.std.specs.Prelude.{◌⊎◌}
use Rattle.std.specs.List.{AllByRecursion}
use Rattle.std.proofs.lemmas.Bool.{eqb-true, cases_lt}
use Rattle.std.proofs.lemmas.List.{append-nil, length-drop, length-append, map-append, take_all, drop_all, take_at, drop_at, take-append-drop, length-take}
use Rattle.fb_bytes.specs.Bytes.{Bytes, IsBytes}
use Rattle.block_frame.specs.Text.{header, string, header_at, string_at, is_over, IsPadding, unpadded_at}
use Rattle.block_frame.proofs.Strings.{string-length, IsBytes-take, IsBytes-drop, header_found, header_again, IsString, string_found, string_again, string_not_over, not_over_short}
use Rattle.log_files.specs.declared.fault.LogFault.{LogFault}
use Rattle.log_files.specs.declared.fault.LogFault.TheVariants as faults
use Rattle.log_files.specs.Reading.{Record, format, ◌>>=◌, found_or, string_or, record_at, records_at, padding_at, unless_padded, header_or, block_records, SoFar, taken, all_taken, blocks_from}
use Rattle.log_files.specs.Grammar.{Row, row_text, rows_text, RowFits, IsLogBlock, LogBlocks, NoBlock, NextBlock}
use Rattle.fb_bytes.proofs.Results.{bind_ok, found_or_ok, ok_is, test_ok}
use Rattle.block_frame.proofs.Padding.{padding_found, padding_again, padding_over}
use Rattle.log_files.proofs.Records.{over, one_more, no_key, no_value}
use Rattle.log_files.proofs.Loops.{none_left, step_is}

-- ---- padding

padding_go : {A : Type 0} (at : ℕ) (o : Option ℕ) (x y : A) → padding_at at o x ≡ Ok y → (o ≡ None) × (x ≡ y)
padding_go at (Some n) x y e = absurd cc
padding_go at None x y e = (refl, ok_is x y (Ok x) refl e)

padded_found : {A : Type 0} (t : ℕ) (rest : Bytes) (x y : A) → unless_padded t rest x ≡ Ok y → IsPadding rest × (x ≡ y)
unfolding unless_padded
padded_found t rest x y e =
    let g = padding_go (t - length rest) (unpadded_at rest) x y e in
    (padding_found rest g.0, g.1)

padded_again : {A : Type 0} (t : ℕ) (rest : Bytes) (x : A) → IsPadding rest → unless_padded t rest x ≡ Ok x
unfolding unless_padded
padded_again t rest x h = ap (λ (o : Option ℕ). padding_at (t - length rest) o x) (padding_again rest h)

-- ---- records

abbrev pub bare : Record → Row
bare r = record { key = r.key; value = r.value }

abbrev pub bares : List Record → List Row
bares rs = map bare rs

-- the strings of rows are bytes
abbrev pub AreBytes : List Row → Type 0
AreBytes rows = AllByRecursion (λ row. IsBytes row.key × IsBytes row.value) rows

pub record AreRows (bytes : Bytes) (x : List Record × Bytes) : Type 0 where
  pub parts : bytes ≡ rows_text (bares x.0) ++ x.1
  pub fit : AllByRecursion RowFits (bares x.0)
  pub own : AreBytes (bares x.0)

string_or_found : (t : ℕ) (bytes : Bytes) (x : Bytes × Bytes) → IsBytes bytes → string_or t bytes ≡ Ok x → IsString bytes x.0 x.1
unfolding string_or
string_or_found t bytes x fits e = string_found bytes x fits (found_or_ok (faults.Short (t - length bytes)) (string_at bytes) x e)

string_or_again : (t : ℕ) (s rest : Bytes) → length s < 2 ^ 32 → string_or t (string s ++ rest) ≡ Ok (s, rest)
unfolding string_or
string_or_again t s rest lt = ap (found_or (faults.Short (t - length (string s ++ rest)))) (string_again s rest lt)

rows-first : (row : Row) (rows : List Row) (more : Bytes) → rows_text (row ∷ rows) ++ more ≡ string row.key ++ (string row.value ++ (rows_text rows ++ more))
rows-first row rows more = append_assoc (row_text row) (rows_text rows) more ∙ append_assoc (string row.key) (string row.value) (rows_text rows ++ more)

module _ (fuel t : ℕ) (bytes : Bytes) (x : List Record × Bytes) (fits : IsBytes bytes) (all : records_at (suc fuel) t bytes ≡ Ok x) (ih : (more : Bytes) (y : List Record × Bytes) → IsBytes more → records_at fuel t more ≡ Ok y → AreRows more y) where
  found_over : is_over bytes ≡ true → AreRows bytes x
  found_over o =
      let is : ([], bytes) ≡ x = ok_is ([], bytes) x (records_at (suc fuel) t bytes) (over fuel t bytes o) all in
      subst (λ (y : List Record × Bytes). AreRows bytes y) is (record { parts = refl; fit = tt; own = tt })

  found_value : (k v : Bytes × Bytes) → is_over bytes ≡ false → string_or t bytes ≡ Ok k → string_or t k.1 ≡ Ok v → AreRows bytes x
  found_value k v o e f =
      let row = record_at (t - length bytes) k.0 v.0 in
      let a = bind_ok (records_at fuel t v.1) (λ more. Ok (row ∷ more.0, more.1)) x (sym (one_more fuel t bytes k.0 k.1 v.0 v.1 o e f) ∙ all) in
      let is : (row ∷ a.0.0, a.0.1) ≡ x = ok_is (row ∷ a.0.0, a.0.1) x (Ok (row ∷ a.0.0, a.0.1)) refl a.2 in
      let ks = string_or_found t bytes k fits e in
      let vs = string_or_found t k.1 v ks.others f in
      let r = ih v.1 a.0 vs.others a.1 in
      subst (λ (y : List Record × Bytes). AreRows bytes y) is (record {
        parts = ks.parts ∙ ap (λ (z : Bytes). string k.0 ++ z) (vs.parts ∙ ap (λ (z : Bytes). string v.0 ++ z) r.parts) ∙ sym (rows-first (bare row) (bares a.0.0) a.0.1);
        fit = (record { key = not_over_short k.0 k.1 ks.len (ap is_over (sym ks.parts) ∙ o); value = vs.len }, r.fit);
        own = ((ks.own, vs.own), r.own);
      })

  found_key : (k : Bytes × Bytes) → is_over bytes ≡ false → string_or t bytes ≡ Ok k → (r : Result (Bytes × Bytes) LogFault) → string_or t k.1 ≡ r → AreRows bytes x
  found_key k o e (Err f) h = absurd (let bad = sym (no_value fuel t bytes k.0 k.1 f o e h) ∙ all in cc)
  found_key k o e (Ok v) h = found_value k v o e h

  found_row : is_over bytes ≡ false → (r : Result (Bytes × Bytes) LogFault) → string_or t bytes ≡ r → AreRows bytes x
  found_row o (Err f) h = absurd (let bad = sym (no_key fuel t bytes f o h) ∙ all in cc)
  found_row o (Ok k) h = found_key k o h (string_or t k.1) refl

  found_any : (b : Bool) → is_over bytes ≡ b → AreRows bytes x
  found_any true o = found_over o
  found_any false o = found_row o (string_or t bytes) refl

no_fuel : (t : ℕ) (bytes : Bytes) (x : List Record × Bytes) → records_at zero t bytes ≡ Ok x → ⊥
unfolding records_at
no_fuel t bytes x e = absurd cc

records_found : (fuel t : ℕ) (bytes : Bytes) (x : List Record × Bytes) → IsBytes bytes → records_at fuel t bytes ≡ Ok x → AreRows bytes x
records_found zero t bytes x fits e = absurd (no_fuel t bytes x e)
records_found (suc fuel) t bytes x fits e = found_any fuel t bytes x fits e (λ more y f g. records_found fuel t more y f g) (is_over bytes) refl

records_again : (fuel t : ℕ) (rows : List Row) (padding : Bytes) → AllByRecursion RowFits rows → is_over padding ≡ true → length (rows_text rows ++ padding) < fuel → (found : List Record) × (bares found ≡ rows) × (records_at fuel t (rows_text rows ++ padding) ≡ Ok (found, padding))
records_again zero t rows padding fit o lt = absurd (omega arith)
records_again (suc fuel) t [] padding fit o lt = ([], refl, over fuel t padding o)
records_again (suc fuel) t (row ∷ rows) padding fit o lt =
    let more = rows_text rows ++ padding in
    let first = rows-first row rows padding in
    let fewer : length more < fuel = omega (arith, ap length first, length-append (string row.key) (string row.value ++ more), length-append (string row.value) more, string-length row.key, string-length row.value) in
    let a = records_again fuel t rows padding fit.1 o fewer in
    let bytes = string row.key ++ (string row.value ++ more) in
    let r = record_at (t - length bytes) row.key row.value in (
      r ∷ a.0,
      ap (λ (rs : List Row). row ∷ rs) a.1,
      ap (records_at (suc fuel) t) first
          ∙ one_more fuel t bytes row.key (string row.value ++ more) row.value more (string_not_over row.key (string row.value ++ more) fit.0.key) (string_or_again t row.key (string row.value ++ more) (omega (arith, fit.0.key))) (string_or_again t row.value more fit.0.value)
          ∙ ap (λ (q : Result (List Record × Bytes) LogFault). q >>= λ m. Ok (r ∷ m.0, m.1)) a.2,
    )

-- ---- one block

pub block_found : (base : ℕ) (bytes : Bytes) (rs : List Record) → IsBytes bytes → block_records base bytes ≡ Ok rs → IsLogBlock bytes (bares rs) × AreBytes (bares rs)
unfolding block_records header_or
block_found base bytes rs fits e =
    let t = base + length bytes in
    let head : ℕ × Bytes → Result Bytes LogFault = λ h. cond (eqb h.0 format) (Ok h.1) (Err (faults.Format h.0)) in
    let tail : Bytes → Result (List Record) LogFault = λ rest. records_at (length rest + 1) t rest >>= λ found. unless_padded t found.1 found.0 in
    let a = bind_ok (found_or (faults.Short base) (header_at bytes) >>= head) tail rs e in
    let h = bind_ok (found_or (faults.Short base) (header_at bytes)) head a.0 a.1 in
    let g = test_ok (eqb h.0.0 format) (Ok h.0.1) (faults.Format h.0.0) a.0 h.2 in
    let rest-is : h.0.1 ≡ a.0 = ok_is h.0.1 a.0 (Ok h.0.1) refl g.1 in
    let f = header_found bytes h.0 fits (found_or_ok (faults.Short base) (header_at bytes) h.0 h.1) in
    let r = bind_ok (records_at (length a.0 + 1) t a.0) (λ found. unless_padded t found.1 found.0) rs a.2 in
    let rows = records_found (length a.0 + 1) t a.0 r.0 (subst IsBytes rest-is f.1) r.1 in
    let p = padded_found t r.0.1 r.0.0 rs r.2 in
    let whole : bytes ≡ header format ++ (rows_text (bares r.0.0) ++ r.0.1) = f.0 ∙ ap (λ (n : ℕ). header n ++ h.0.1) (eqb-true _ _ g.0) ∙ ap (λ (z : Bytes). header format ++ z) (rest-is ∙ rows.parts) in
    subst (λ (x : List Record). IsLogBlock bytes (bares x) × AreBytes (bares x)) p.1 (record { padding = r.0.1; parts = whole; padded = p.0; fit = rows.fit }, rows.own)

block_steps : (base : ℕ) (bytes rest padding : Bytes) (rs : List Record) → header_at bytes ≡ Some (format, rest) → records_at (length rest + 1) (base + length bytes) rest ≡ Ok (rs, padding) → IsPadding padding → block_records base bytes ≡ Ok rs
unfolding block_records header_or
block_steps base bytes rest padding rs h r p = rw (h, r) (padded_again (base + length bytes) padding rs p)

pub block_again : (base : ℕ) (bytes : Bytes) (rows : List Row) → IsLogBlock bytes rows → (found : List Record) × (bares found ≡ rows) × (block_records base bytes ≡ Ok found)
block_again base bytes rows b =
    let rest = rows_text rows ++ b.padding in
    let a = records_again (length rest + 1) (base + length bytes) rows b.padding b.fit (padding_over b.padding b.padded) (omega arith) in
    (a.0, a.1, block_steps base bytes rest b.padding a.0 (ap header_at b.parts ∙ header_again format rest (lit< tt)) a.2 b.padded)

-- ---- all blocks

pub all_taken-append : (end : ℕ) (s : SoFar) (xs ys : List Record) → all_taken end s (xs ++ ys) ≡ (all_taken end s xs >>= λ m. all_taken end m ys)
all_taken-append end s [] ys = refl
all_taken-append end s (x ∷ xs) ys = go (taken end s x) (λ m. all_taken-append end m xs ys)
  where
    go : (r : Result SoFar LogFault) → ((m : SoFar) → all_taken end m (xs ++ ys) ≡ (all_taken end m xs >>= λ k. all_taken end k ys)) → (r >>= λ m. all_taken end m (xs ++ ys)) ≡ ((r >>= λ m. all_taken end m xs) >>= λ k. all_taken end k ys)
    go (Ok m) ih = ih m
    go (Err f) ih = refl

own_append : (xs ys : List Row) → AreBytes xs → AreBytes ys → AreBytes (xs ++ ys)
own_append [] ys p q = q
own_append (x ∷ xs) ys p q = (p.0, own_append xs ys p.1 q)

pub record AreBlocks (size end : ℕ) (s : SoFar) (bytes : Bytes) (after : SoFar) : Type 0 where
  pub rows : List Record
  pub blocks : LogBlocks size bytes (bares rows)
  pub own : AreBytes (bares rows)
  pub took : all_taken end s rows ≡ Ok after

some_step : (fuel size end base : ℕ) (s : SoFar) (bytes : Bytes) (after : SoFar) → 0 < size → IsBytes bytes → 0 < length bytes → blocks_from (suc fuel) size end base s bytes ≡ Ok after
    → ((m : SoFar) → blocks_from fuel size end (base + size) m (drop size bytes) ≡ Ok after → AreBlocks size end m (drop size bytes) after) → AreBlocks size end s bytes after
some_step fuel size end base s bytes after wide fits some e ih =
    let rest : SoFar → Result SoFar LogFault = λ m. blocks_from fuel size end (base + size) m (drop size bytes) in
    let a = bind_ok (block_records base (take size bytes)) (λ rows. all_taken end s rows >>= rest) after (sym (step_is fuel size end base s bytes some) ∙ e) in
    let b = bind_ok (all_taken end s a.0) rest after a.2 in
    let f = block_found base (take size bytes) a.0 (IsBytes-take size bytes fits) a.1 in
    let r = ih b.0 b.2 in
    let len = length-take size bytes in
    let last : (length (take size bytes) ≡ size) ⊎ ((length (take size bytes) ≤ size) × (drop size bytes ≡ [])) = elim (cases_lt (length bytes) size) [
      | inl less ↦ inr (omega arith, drop_all size bytes (omega arith))
      | inr more ↦ inl (omega arith)
    ] in
    record {
      rows = a.0 ++ r.rows;
      blocks = NextBlock (take size bytes) (drop size bytes) (bares a.0) (bares r.rows) (sym (take-append-drop size bytes)) (map-append bare a.0 r.rows) f.0 last r.blocks;
      own = subst AreBytes (sym (map-append bare a.0 r.rows)) (own_append (bares a.0) (bares r.rows) f.1 r.own);
      took = all_taken-append end s a.0 r.rows ∙ ap (λ (q : Result SoFar LogFault). q >>= λ m. all_taken end m r.rows) b.1 ∙ r.took;
    }

pub blocks_found : (fuel size end base : ℕ) (s : SoFar) (bytes : Bytes) (after : SoFar) → 0 < size → IsBytes bytes → length bytes ≤ fuel → blocks_from fuel size end base s bytes ≡ Ok after → AreBlocks size end s bytes after
blocks_found fuel size end base s [] after wide fits le e =
    let is : s ≡ after = ok_is s after (blocks_from fuel size end base s []) (none_left fuel size end base s [] refl) e in
    record { rows = []; blocks = NoBlock refl refl; own = tt; took = ap (λ (x : SoFar). Ok x) is }
blocks_found zero size end base s (b ∷ bs) after wide fits le e = absurd (omega arith)
blocks_found (suc fuel) size end base s (b ∷ bs) after wide fits le e =
    some_step fuel size end base s (b ∷ bs) after wide fits (omega arith) e
    (λ m g. blocks_found fuel size end (base + size) m (drop size (b ∷ bs)) after wide (IsBytes-drop size (b ∷ bs) fits) (omega (arith, length-drop size (b ∷ bs))) g)

block_size : (text : Bytes) (rows : List Row) → IsLogBlock text rows → 0 < length text
block_size text rows b = rw b.parts (omega arith)

then_rest : (end : ℕ) (q : Result SoFar LogFault) {f g : SoFar → Result SoFar LogFault} → ((m : SoFar) → f m ≡ g m) → (q >>= f) ≡ (q >>= g)
then_rest end (Ok m) h = h m
then_rest end (Err fault) h = refl

front_is : (size : ℕ) (text front rest : Bytes) → text ≡ front ++ rest → (length front ≡ size) ⊎ ((length front ≤ size) × (rest ≡ [])) → take size text ≡ front
front_is size text front rest parts (inl full) = ap (take size) parts ∙ take_at front rest size full
front_is size text front rest parts (inr short) = ap (take size) (parts ∙ ap (λ (x : Bytes). front ++ x) short.1 ∙ append-nil front) ∙ take_all size front short.0

rest_is : (size : ℕ) (text front rest : Bytes) → text ≡ front ++ rest → (length front ≡ size) ⊎ ((length front ≤ size) × (rest ≡ [])) → drop size text ≡ rest
rest_is size text front rest parts (inl full) = ap (drop size) parts ∙ drop_at front rest size full
rest_is size text front rest parts (inr short) = drop_all size text (omega (arith, ap length parts, length-append front rest, short.0, ap length short.1)) ∙ sym short.1

-- what is read of the blocks doesn't hang on what was taken before
pub record ReadAs (size : ℕ) (text : Bytes) (rows : List Row) (fuel base : ℕ) : Type 0 where
  pub found : List Record
  pub bare-is : bares found ≡ rows
  pub reads : (end : ℕ) (s : SoFar) → blocks_from fuel size end base s text ≡ all_taken end s found

pub blocks_again : {size : ℕ} {text : Bytes} {rows : List Row} → LogBlocks size text rows → 0 < size → (fuel base : ℕ) → length text ≤ fuel → ReadAs size text rows fuel base
blocks_again (NoBlock {size = size} {text = text} {rows = rows} e f) wide fuel base le = record { found = []; bare-is = sym f; reads = λ end s. none_left fuel size end base s text (ap length e) }
blocks_again (NextBlock {text = text} front rest first others parts all b last more) wide zero base le = absurd (omega (arith, ap length parts, length-append front rest, block_size front first b))
blocks_again (NextBlock {size = size} {text = text} {rows = rows} front rest first others parts all b last more) wide (suc fuel) base le =
    let some = block_size front first b in
    let whole = ap length parts in
    let both = length-append front rest in
    let front-is : take size text ≡ front = front_is size text front rest parts last in
    let rest-is : drop size text ≡ rest = rest_is size text front rest parts last in
    let a = block_again base front first b in
    let r = blocks_again more wide fuel (base + size) (omega (arith, some, whole, both)) in
    record {
      found = a.0 ++ r.found;
      bare-is = map-append bare a.0 r.found ∙ ap (λ (x : List Row). x ++ bares r.found) a.1 ∙ ap (λ (x : List Row). first ++ x) r.bare-is ∙ sym all;
      reads = λ end s. step_is fuel size end base s text (omega (arith, whole, both, some))
          ∙ ap (λ (q : Result (List Record) LogFault). q >>= λ rs. all_taken end s rs >>= λ m. blocks_from fuel size end (base + size) m (drop size text)) (ap (block_records base) front-is ∙ a.2)
          ∙ then_rest end (all_taken end s a.0) (λ m. ap (blocks_from fuel size end (base + size) m) rest-is ∙ r.reads end m) ∙ sym (all_taken-append end s a.0 r.found);
    }

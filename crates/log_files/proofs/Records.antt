-- Records one after the other, as a loop reads them.
use Rattle.std.proofs.Common.{◌≡◌, ℕ, suc, ◌+◌, ◌-◌, ◌<◌, true, false, List, [], ◌∷◌, ◌++◌, length, Result, Ok, Err, refl, sym, ap, ◌∙◌, append_assoc, arith}
use Rattle.std.proofs.lemmas.List.{append-nil}
use Rattle.fb_bytes.specs.Bytes.{Bytes}
use Rattle.block_frame.specs.Text.{string_at, is_over}
use Rattle.fb_bytes.proofs.Results.{found_or_ok, fuel_is}
use Rattle.block_frame.proofs.Strings.{string_size}
use Rattle.log_files.specs.declared.fault.LogFault.{LogFault}
use Rattle.log_files.specs.declared.fault.LogFault.TheVariants as faults
use Rattle.log_files.specs.declared.record as rows
use Rattle.log_files.specs.inner.Seen.{record_from, records_from}
use Rattle.log_files.specs.Reading.{Record, ◌>>=◌, string_or, record_at, records_at}

pub string_or_size : (t : ℕ) (bytes : Bytes) (x : Bytes × Bytes) → string_or t bytes ≡ Ok x → 4 + length x.0 + length x.1 ≡ length bytes
unfolding string_or
string_or_size t bytes x e = string_size bytes x (found_or_ok (faults.Short (t - length bytes)) (string_at bytes) x e)

abbrev Rows : Type 0
Rows = List Record × Bytes

-- ---- one step

pub over : (fuel t : ℕ) (bytes : Bytes) → is_over bytes ≡ true → records_at (suc fuel) t bytes ≡ Ok ([], bytes)
unfolding records_at
over fuel t bytes e = rw e refl

pub one_more : (fuel t : ℕ) (bytes key after value behind : Bytes) → is_over bytes ≡ false → string_or t bytes ≡ Ok (key, after) → string_or t after ≡ Ok (value, behind) → records_at (suc fuel) t bytes ≡ (records_at fuel t behind >>= λ more. Ok (record_at (t - length bytes) key value ∷ more.0, more.1))
unfolding records_at
one_more fuel t bytes key after value behind o e e' = rw (o, e, e') refl

pub no_key : (fuel t : ℕ) (bytes : Bytes) (fault : LogFault) → is_over bytes ≡ false → string_or t bytes ≡ Err fault → records_at (suc fuel) t bytes ≡ Err fault
unfolding records_at
no_key fuel t bytes fault o e = rw (o, e) refl

pub no_value : (fuel t : ℕ) (bytes key after : Bytes) (fault : LogFault) → is_over bytes ≡ false → string_or t bytes ≡ Ok (key, after) → string_or t after ≡ Err fault → records_at (suc fuel) t bytes ≡ Err fault
unfolding records_at
no_value fuel t bytes key after fault o e e' = rw (o, e, e') refl

-- ---- as a loop goes on

abbrev pub behind_rows : List Record → Result Rows LogFault → Result Rows LogFault
behind_rows front reading = reading >>= λ x. Ok (front ++ x.0, x.1)

-- these records were read, and reading goes on with the rest
pub record RowsSoFar (rows : List Record) (t : ℕ) (rest : Bytes) (total : Result Rows LogFault) : Type 0 where
  pub fuel : ℕ
  pub enough : length rest < fuel
  pub same : behind_rows rows (records_at fuel t rest) ≡ total

whole : (reading : Result Rows LogFault) → behind_rows [] reading ≡ reading
whole (Ok x) = refl
whole (Err f) = refl

pub rows_begin : (t : ℕ) (bytes : Bytes) → RowsSoFar [] t bytes (records_at (length bytes + 1) t bytes)
rows_begin t bytes = record { fuel = length bytes + 1; enough = omega arith; same = whole (records_at (length bytes + 1) t bytes) }

regroup : (front : List Record) (row : Record) (reading : Result Rows LogFault) → behind_rows front (reading >>= λ more. Ok (row ∷ more.0, more.1)) ≡ behind_rows (front ++ row ∷ []) reading
regroup front row (Ok x) = ap (λ (rs : List Record). Ok (rs, x.1)) (sym (append_assoc front (row ∷ []) x.0))
regroup front row (Err fault) = refl

pub rows_end : (rows : List Record) (t : ℕ) (rest : Bytes) (total : Result Rows LogFault) → RowsSoFar rows t rest total → is_over rest ≡ true → total ≡ Ok (rows, rest)
rows_end rows t rest total s o =
    let f = fuel_is (length rest) s.fuel s.enough in
    sym s.same ∙ ap (λ (n : ℕ). behind_rows rows (records_at n t rest)) f.1 ∙ ap (behind_rows rows) (over f.0 t rest o) ∙ ap (λ (rs : List Record). Ok (rs, rest)) (append-nil rows)

pub rows_more : (rows : List Record) (t : ℕ) (rest key after value behind : Bytes) (total : Result Rows LogFault) → RowsSoFar rows t rest total → is_over rest ≡ false → string_or t rest ≡ Ok (key, after) → string_or t after ≡ Ok (value, behind) → RowsSoFar (rows ++ record_at (t - length rest) key value ∷ []) t behind total
rows_more rows t rest key after value behind total s o e e' =
    let f = fuel_is (length rest) s.fuel s.enough in
    let a = string_or_size t rest (key, after) e in
    let b = string_or_size t after (value, behind) e' in
    record {
      fuel = f.0;
      enough = omega (arith, a, b, f.1, s.enough);
      same = sym (regroup rows (record_at (t - length rest) key value) (records_at f.0 t behind)) ∙ ap (behind_rows rows) (sym (one_more f.0 t rest key after value behind o e e'))
          ∙ ap (λ (n : ℕ). behind_rows rows (records_at n t rest)) (sym f.1) ∙ s.same;
    }

pub rows_no_key : (rows : List Record) (t : ℕ) (rest : Bytes) (fault : LogFault) (total : Result Rows LogFault) → RowsSoFar rows t rest total → is_over rest ≡ false → string_or t rest ≡ Err fault → total ≡ Err fault
rows_no_key rows t rest fault total s o e =
    let f = fuel_is (length rest) s.fuel s.enough in
    sym s.same ∙ ap (λ (n : ℕ). behind_rows rows (records_at n t rest)) f.1 ∙ ap (behind_rows rows) (no_key f.0 t rest fault o e)

pub rows_no_value : (rows : List Record) (t : ℕ) (rest key after : Bytes) (fault : LogFault) (total : Result Rows LogFault) → RowsSoFar rows t rest total → is_over rest ≡ false → string_or t rest ≡ Ok (key, after) → string_or t after ≡ Err fault → total ≡ Err fault
rows_no_value rows t rest key after fault total s o e e' =
    let f = fuel_is (length rest) s.fuel s.enough in
    sym s.same ∙ ap (λ (n : ℕ). behind_rows rows (records_at n t rest)) f.1 ∙ ap (behind_rows rows) (no_value f.0 t rest key after fault o e e')

-- one more record, wherever its bytes lie
pub records_last : (xs : List rows.Record.Record) (row : rows.Record.Record) → records_from (xs ++ row ∷ []) ≡ records_from xs ++ record_from row ∷ []
records_last [] row = refl
records_last (x ∷ xs) row = ap (λ (rs : List Record). record_from x ∷ rs) (records_last xs row)

-- The loops over the records of a block, and over the blocks.
use Rattle.std.proofs.Common.{◌≡◌, ℕ, zero, suc, ◌+◌, ◌<◌, ◌≤◌, Bool, true, false, eqb, List, [], ◌∷◌, length, get_or, take, drop, Result, Ok, Err, refl, sym, ap, ◌∙◌, arith}
use Rattle.std.proofs.lemmas.Bool.{eqb-true}
use Rattle.std.proofs.lemmas.List.{drop_more, drop_all, length-drop}
use Rattle.fb_bytes.specs.Bytes.{Bytes}
use Rattle.log_files.specs.declared.fault.LogFault.{LogFault}
use Rattle.log_files.specs.Reading.{Record, ◌>>=◌, SoFar, taken, all_taken, block_records, blocks_from}

-- ---- the records of a block

pub taken_more : (end i : ℕ) (rows : List Record) (row : Record) (before after : SoFar) (total : Result SoFar LogFault) → i < length rows → row ≡ get_or rows i row → taken end before row ≡ Ok after → all_taken end before (drop i rows) ≡ total → all_taken end after (drop (i + 1) rows) ≡ total
taken_more end i rows row before after total lt is e s =
    sym (ap (λ (r : Result SoFar LogFault). r >>= λ more. all_taken end more (drop (i + 1) rows)) e)
    ∙ ap (λ (r : Record). taken end before r >>= λ more. all_taken end more (drop (i + 1) rows)) is
    ∙ sym (ap (all_taken end before) (drop_more rows i row lt)) ∙ s

pub taken_fails : (end i : ℕ) (rows : List Record) (row : Record) (before : SoFar) (fault : LogFault) (total : Result SoFar LogFault) → i < length rows → row ≡ get_or rows i row → taken end before row ≡ Err fault → all_taken end before (drop i rows) ≡ total → total ≡ Err fault
taken_fails end i rows row before fault total lt is e s =
    sym s ∙ ap (all_taken end before) (drop_more rows i row lt)
    ∙ sym (ap (λ (r : Record). taken end before r >>= λ more. all_taken end more (drop (i + 1) rows)) is)
    ∙ ap (λ (r : Result SoFar LogFault). r >>= λ more. all_taken end more (drop (i + 1) rows)) e

pub taken_end : (end i : ℕ) (rows : List Record) (before : SoFar) (total : Result SoFar LogFault) → length rows ≤ i → all_taken end before (drop i rows) ≡ total → total ≡ Ok before
taken_end end i rows before total le s = sym s ∙ ap (all_taken end before) (drop_all i rows le)

-- ---- the blocks

pub record BlocksSoFar (size end base : ℕ) (so_far : SoFar) (rest : Bytes) (total : Result SoFar LogFault) : Type 0 where
  pub fuel : ℕ
  pub enough : length rest ≤ fuel
  pub same : blocks_from fuel size end base so_far rest ≡ total

pub blocks_begin : (size end : ℕ) (so_far : SoFar) (bytes : Bytes) → BlocksSoFar size end 0 so_far bytes (blocks_from (length bytes) size end 0 so_far bytes)
blocks_begin size end so_far bytes = record { fuel = length bytes; enough = omega arith; same = refl }

pub none_left : (fuel size end base : ℕ) (so_far : SoFar) (rest : Bytes) → length rest ≡ 0 → blocks_from fuel size end base so_far rest ≡ Ok so_far
unfolding blocks_from
none_left zero size end base so_far [] e = refl
none_left (suc fuel) size end base so_far [] e = refl
none_left fuel size end base so_far (b ∷ bs) e = absurd (omega arith)

pub step_is : (fuel size end base : ℕ) (so_far : SoFar) (rest : Bytes) → 0 < length rest → blocks_from (suc fuel) size end base so_far rest ≡ (block_records base (take size rest) >>= λ rows. all_taken end so_far rows >>= λ more. blocks_from fuel size end (base + size) more (drop size rest))
unfolding blocks_from
step_is fuel size end base so_far [] some = absurd (omega arith)
step_is fuel size end base so_far (b ∷ bs) some = refl

fuel_is : (n fuel : ℕ) → 0 < n → n ≤ fuel → (less : ℕ) × (fuel ≡ suc less)
fuel_is n zero some le = absurd (omega arith)
fuel_is n (suc less) some le = (less, refl)

pub blocks_end : (size end base : ℕ) (so_far : SoFar) (rest : Bytes) (total : Result SoFar LogFault) → length rest ≡ 0 → BlocksSoFar size end base so_far rest total → total ≡ Ok so_far
blocks_end size end base so_far rest total none s = sym s.same ∙ none_left s.fuel size end base so_far rest none

pub blocks_more : (size end base : ℕ) (before after : SoFar) (rest : Bytes) (rows : List Record) (total : Result SoFar LogFault) → 0 < size → 0 < length rest → block_records base (take size rest) ≡ Ok rows → all_taken end before rows ≡ Ok after → BlocksSoFar size end base before rest total → BlocksSoFar size end (base + size) after (drop size rest) total
blocks_more size end base before after rest rows total wide some e t s =
    let f = fuel_is (length rest) s.fuel some s.enough in
    record {
      fuel = f.0;
      enough = omega (arith, length-drop size rest, f.1, s.enough);
      same = sym (ap (λ (r : Result SoFar LogFault). r >>= λ more. blocks_from f.0 size end (base + size) more (drop size rest)) t)
          ∙ sym (ap (λ (r : Result (List Record) LogFault). r >>= λ rs. all_taken end before rs >>= λ more. blocks_from f.0 size end (base + size) more (drop size rest)) e)
          ∙ sym (step_is f.0 size end base before rest some) ∙ ap (λ (n : ℕ). blocks_from n size end base before rest) (sym f.1) ∙ s.same;
    }

pub blocks_bad : (size end base : ℕ) (before : SoFar) (rest : Bytes) (fault : LogFault) (total : Result SoFar LogFault) → 0 < length rest → block_records base (take size rest) ≡ Err fault → BlocksSoFar size end base before rest total → total ≡ Err fault
blocks_bad size end base before rest fault total some e s =
    let f = fuel_is (length rest) s.fuel some s.enough in
    sym s.same ∙ ap (λ (n : ℕ). blocks_from n size end base before rest) f.1 ∙ step_is f.0 size end base before rest some
    ∙ ap (λ (r : Result (List Record) LogFault). r >>= λ rs. all_taken end before rs >>= λ more. blocks_from f.0 size end (base + size) more (drop size rest)) e

pub blocks_untaken : (size end base : ℕ) (before : SoFar) (rest : Bytes) (rows : List Record) (fault : LogFault) (total : Result SoFar LogFault) → 0 < length rest → block_records base (take size rest) ≡ Ok rows → all_taken end before rows ≡ Err fault → BlocksSoFar size end base before rest total → total ≡ Err fault
blocks_untaken size end base before rest rows fault total some e t s =
    let f = fuel_is (length rest) s.fuel some s.enough in
    sym s.same ∙ ap (λ (n : ℕ). blocks_from n size end base before rest) f.1 ∙ step_is f.0 size end base before rest some
    ∙ ap (λ (r : Result (List Record) LogFault). r >>= λ rs. all_taken end before rs >>= λ more. blocks_from f.0 size end (base + size) more (drop size rest)) e
    ∙ ap (λ (r : Result SoFar LogFault). r >>= λ more. blocks_from f.0 size end (base + size) more (drop size rest)) t

pub some_left : (n : ℕ) (b : Bool) → b ≡ eqb n 0 → b ≡ false → 0 < n
some_left zero b e f = absurd (let both = sym e ∙ f in cc)
some_left (suc n) b e f = omega arith

pub nothing_left : (n : ℕ) (b : Bool) → b ≡ eqb n 0 → b ≡ true → n ≡ 0
nothing_left n b e t = eqb-true n 0 (sym e ∙ t)

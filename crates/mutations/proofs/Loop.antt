-- Reading mutations one after the other, as a loop does.
use Rattle.std.proofs.Common.{◌≡◌, ℕ, zero, suc, ◌-◌, ◌≤◌, ◌<◌, Bool, true, false, List, [], ◌∷◌, ◌++◌, length, Result, Ok, Err, inl, inr, refl, sym, ap, ◌∙◌, append_assoc, arith}
use Rattle.std.specs.Prelude.{◌⊎◌, ◌==◌}
use Rattle.std.proofs.lemmas.Bool.{eqb-true}
use Rattle.std.proofs.lemmas.List.{append-nil, nil_from_length}
use Rattle.fb_bytes.specs.Bytes.{Bytes}
use Rattle.mutations.specs.declared.mutation.Mutation.{Mutation}
use Rattle.mutations.specs.declared.wire_fault.WireFault.{WireFault}
use Rattle.mutations.specs.declared.wire_fault.WireFault.TheVariants.{NoMemory}
use Rattle.mutations.specs.Reading.{◌>>=◌, mutation_at, mutations_at}
use Rattle.mutations.proofs.Basics.{not_both}

-- what was read before, and what is still read
abbrev pub with_front : List Mutation → Result (List Mutation) WireFault → Result (List Mutation) WireFault
with_front front read = read >>= λ others. Ok (front ++ others)

-- how far a loop has come that reads the whole: `most` is enough for what is left
pub record IsSoFar (front : List Mutation) (total : ℕ) (rest : Bytes) (whole : Result (List Mutation) WireFault) : Type 0 where
  pub most : ℕ
  pub enough : length rest ≤ most
  pub within : length rest ≤ total
  pub same : with_front front (mutations_at most total rest) ≡ whole

pub begins : (total : ℕ) (bytes : Bytes) → length bytes ≤ total → IsSoFar [] total bytes (mutations_at total total bytes)
begins total bytes h = record { most = total; enough = h; within = h; same = whole (mutations_at total total bytes) }
  where
    whole : (read : Result (List Mutation) WireFault) → with_front [] read ≡ read
    whole (Ok xs) = refl
    whole (Err e) = refl

regroup : (front : List Mutation) (m : Mutation) (read : Result (List Mutation) WireFault) → with_front front (read >>= λ others. Ok (m ∷ others)) ≡ with_front (front ++ m ∷ []) read
regroup front m (Ok others) = ap (λ (ms : List Mutation). Ok ms) (simp append_assoc)
regroup front m (Err e) = refl

-- the first of those that are left
pub first_of_rest : (most total : ℕ) (rest : Bytes) → 0 < length rest → length rest ≤ suc most → mutations_at (suc most) total rest ≡ (mutation_at (total - length rest) rest >>= λ first. mutations_at most total first.1 >>= λ others. Ok (first.0 ∷ others))
unfolding mutations_at
first_of_rest most total [] h g = absurd (omega arith)
first_of_rest most total (b ∷ bs) h g = refl

pub goes_on : (front : List Mutation) (total : ℕ) (rest : Bytes) (whole : Result (List Mutation) WireFault) (m : Mutation) (after : Bytes) → IsSoFar front total rest whole → 0 < length rest → mutation_at (total - length rest) rest ≡ Ok (m, after) → length after < length rest → IsSoFar (front ++ m ∷ []) total after whole
goes_on front total rest whole m after s h read shorter = go s.most s.enough s.same
  where
    go : (most : ℕ) → length rest ≤ most → with_front front (mutations_at most total rest) ≡ whole → IsSoFar (front ++ m ∷ []) total after whole
    go zero e same = absurd (omega arith)
    go (suc most) e same =
        let one : with_front front (mutations_at (suc most) total rest) ≡ with_front (front ++ m ∷ []) (mutations_at most total after) = rw (first_of_rest most total rest h e, read) (regroup front m (mutations_at most total after)) in
        record { most = most; enough = omega arith; within = omega (arith, s.within); same = sym one ∙ same }

pub ends : (front : List Mutation) (total : ℕ) (rest : Bytes) (whole : Result (List Mutation) WireFault) (e : WireFault) → IsSoFar front total rest whole → 0 < length rest → mutation_at (total - length rest) rest ≡ Err e → whole ≡ Err e
ends front total rest whole e s h read = go s.most s.enough s.same
  where
    go : (most : ℕ) → length rest ≤ most → with_front front (mutations_at most total rest) ≡ whole → whole ≡ Err e
    go zero le same = absurd (omega arith)
    go (suc most) le same =
        let one : with_front front (mutations_at (suc most) total rest) ≡ Err e = rw (first_of_rest most total rest h le, read) refl in
        sym same ∙ one

nothing_left : (front : List Mutation) (most total : ℕ) → with_front front (mutations_at most total []) ≡ Ok front
unfolding mutations_at
nothing_left front zero total = ap (λ (ms : List Mutation). Ok ms) (append-nil front)
nothing_left front (suc most) total = ap (λ (ms : List Mutation). Ok ms) (append-nil front)

pub is_done : (front : List Mutation) (total : ℕ) (rest : Bytes) (whole : Result (List Mutation) WireFault) → IsSoFar front total rest whole → rest ≡ [] → whole ≡ Ok front
is_done front total rest whole s none = sym s.same ∙ ap (λ (bytes : Bytes). with_front front (mutations_at s.most total bytes)) none ∙ nothing_left front s.most total

-- a fault of the next one is the fault of the whole, unless memory ran out
pub fails : (front : List Mutation) (total : ℕ) (rest : Bytes) (whole : Result (List Mutation) WireFault) (e : WireFault) → IsSoFar front total rest whole → 0 < length rest → (e ≡ NoMemory) ⊎ (mutation_at (total - length rest) rest ≡ Err e) → (e ≡ NoMemory) ⊎ (whole ≡ Err e)
fails front total rest whole e s h (inl starved) = inl starved
fails front total rest whole e s h (inr read) = inr (ends front total rest whole e s h read)

-- what isn't empty has a byte
pub has_some : (rest : Bytes) (empty : Bool) → empty ≡ (length rest == 0) → empty ≡ false → 0 < length rest
has_some [] empty h g = not_both h g
has_some (b ∷ bs) empty h g = omega arith

pub has_none : (rest : Bytes) (empty : Bool) → empty ≡ (length rest == 0) → empty ≡ true → rest ≡ []
has_none rest empty h g = nil_from_length rest (eqb-true _ _ (sym h ∙ g))

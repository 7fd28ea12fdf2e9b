-- The entry at a place that code reads by its index.
use Rattle.std.proofs.Common.{◌≡◌, ℕ, zero, suc, ◌<◌, arith, true, List, [], ◌∷◌, length, Some, Result, Ok, Err, OnOk, OnErr, get_or, refl, sym, ap, ◌∙◌}
use Rattle.std.specs.List.{slice_get, slice_set}
use Rattle.std.proofs.lemmas.Option.{slice_get_read}
use Rattle.fb_bytes.specs.Bytes.{Bytes, is_same}
use Rattle.versioned_kv.specs.Chains.{Chain}
use Rattle.versioned_kv.specs.inner.Edits.{is_chain_of}

pub on_ok : {A E : Type 0} {P Q : Type 0} (r : Result A E) → (P → Q) → OnOk r P → OnOk r Q
on_ok (Ok x) f h = f h
on_ok (Err e) f h = tt

-- the list that a value shows is the one that its fields have
pub read_at : {A : Type 0} (inside xs : List A) (place : ℕ) (x : A) → inside ≡ xs → place < length xs → x ≡ get_or inside place x → slice_get xs place ≡ Some x
read_at inside xs place x e l h = slice_get_read xs (length xs) place x refl l (h ∙ ap (λ ys. get_or ys place x) e)

pub chain_at : (key : Bytes) (chains : List Chain) (place : ℕ) (chain : Chain) → slice_get chains place ≡ Some chain → is_chain_of key (slice_get chains place) ≡ true → is_same chain.key key ≡ true
chain_at key chains place chain g t = ap (is_chain_of key) (sym g) ∙ t

pub on_err : {A E : Type 0} {P Q : Type 0} (r : Result A E) → (P → Q) → OnErr r P → OnErr r Q
on_err (Ok x) f h = tt
on_err (Err e) f h = f h

-- an entry that is put back as it was
pub set_same : {A : Type 0} (place : ℕ) (xs : List A) (x : A) → slice_get xs place ≡ Some x → slice_set xs place x ≡ xs
set_same place [] x g = cc
set_same zero (y ∷ ys) x g = let same : y ≡ x = cc in ap (λ z. z ∷ ys) (sym same)
set_same (suc place) (y ∷ ys) x g = ap (λ zs. y ∷ zs) (set_same place ys x g)

pub some_at : {A : Type 0} (xs : List A) (place : ℕ) → place < length xs → (x : A) × (slice_get xs place ≡ Some x)
some_at [] place l = absurd (omega arith)
some_at (x ∷ xs) zero l = (x, refl)
some_at (x ∷ xs) (suc place) l = some_at xs place (omega arith)

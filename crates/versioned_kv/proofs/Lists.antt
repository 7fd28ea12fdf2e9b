-- Lists: what holds of all of them, and of their last entry.
use Rattle.std.proofs.Common.{◌≡◌, ℕ, suc, ◌-◌, ◌<◌, ◌≤◌, true, false, List, [], ◌∷◌, ◌++◌, length, Option, Some, None, take, ⊎_elim, refl, sym, ap, ◌∙◌, subst, arith}
use Rattle.std.specs.List.{slice_get, slice_set, AllByRecursion}
use Rattle.std.proofs.lemmas.Bool.{cases_order, eq-eqb, ne_eqb, eqb-true, eqb-false}
use Rattle.fb_bytes.proofs.Order.{not_both}
use Rattle.versioned_kv.specs.Chains.{Row}
use Rattle.versioned_kv.specs.inner.Chains.{AreRising}
use Rattle.versioned_kv.specs.Edits.{without_rows}
use Rattle.versioned_kv.specs.inner.Edits.{put_row, AreRowsUpto, is_row_of}

-- rows that are all below a version
abbrev pub AreRowsBelow : ℕ → List Row → Type 0
AreRowsBelow version rows = AllByRecursion (λ row. row.version < version) rows

pub without_below : (version : ℕ) (rows : List Row) → AreRowsBelow version rows → without_rows version rows ≡ rows
without_below version [] h = refl
without_below version (r ∷ rs) h = let e = ne_eqb r.version version (λ q. omega arith) in rw e (ap (λ (xs : List Row). r ∷ xs) (without_below version rs h.1))

-- the rows but for the last one, which is the only one of its version
abbrev pub fronts : List Row → List Row
fronts rows = take (length rows - 1) rows

-- the last row has this version: all others are below it
last_is : (version : ℕ) (rows : List Row) (last : Row) → AreRising rows → AreRowsUpto version rows → slice_get rows (length rows - 1) ≡ Some last → last.version ≡ version → without_rows version rows ≡ take (length rows - 1) rows
last_is version [] last h u g e = refl
last_is version (r ∷ []) last h u g e = let same : r ≡ last = cc in let t = eq-eqb r.version version (ap (λ (x : Row). x.version) same ∙ e) in rw t refl
last_is version (r ∷ s ∷ rs) last h u g e =
    let n : length (s ∷ rs) - 1 ≡ length rs = omega arith in
    let m : length (r ∷ s ∷ rs) - 1 ≡ suc (length rs) = omega arith in
    let g' : slice_get (r ∷ s ∷ rs) (suc (length rs)) ≡ Some last = subst (λ i. slice_get (r ∷ s ∷ rs) i ≡ Some last) m g in
    let ih : without_rows version (s ∷ rs) ≡ take (length rs) (s ∷ rs) = subst (λ i. without_rows version (s ∷ rs) ≡ take i (s ∷ rs)) n (last_is version (s ∷ rs) last h.1 u.1 (subst (λ i. slice_get (s ∷ rs) i ≡ Some last) (sym n) g') e) in
    let t = ne_eqb r.version version (λ q. let a = h.0.0 in let b = u.1.0 in omega arith) in
    subst (λ i. without_rows version (r ∷ s ∷ rs) ≡ take i (r ∷ s ∷ rs)) (sym m) (rw t (ap (λ (xs : List Row). r ∷ xs) ih))

-- the last row has another version, so none has this one
last_not : (version : ℕ) (rows : List Row) (last : Row) → AreRising rows → AreRowsUpto version rows → slice_get rows (length rows - 1) ≡ Some last → (last.version ≡ version → ⊥) → AreRowsBelow version rows
last_not version [] last h u g e = tt
last_not version (r ∷ []) last h u g e = let same : r ≡ last = cc in (subst (λ (x : Row). (x.version ≡ version → ⊥) → r.version < version) same (λ ne. let a = u.0 in below r.version a ne) e, tt)
  where
    below : (n : ℕ) → n ≤ version → (n ≡ version → ⊥) → n < version
    below n a ne = ⊎_elim (λ q. absurd (ne q)) (λ q. ⊎_elim (λ l. l) (λ l. absurd (omega arith)) q) (cases_order n version)
last_not version (r ∷ s ∷ rs) last h u g e =
    let m : length (r ∷ s ∷ rs) - 1 ≡ suc (length (s ∷ rs) - 1) = omega arith in
    let rest = last_not version (s ∷ rs) last h.1 u.1 (subst (λ i. slice_get (r ∷ s ∷ rs) i ≡ Some last) m g) e in
    (let a = h.0.0 in let b = u.1.0 in omega arith, rest)

pub cut_last : (version : ℕ) (rows : List Row) (last : Row) → AreRising rows → AreRowsUpto version rows → slice_get rows (length rows - 1) ≡ Some last → last.version ≡ version → take (length rows - 1) rows ≡ without_rows version rows
cut_last version rows last h u g e = sym (last_is version rows last h u g e)

pub cut_none : (version : ℕ) (rows : List Row) (last : Row) → AreRising rows → AreRowsUpto version rows → slice_get rows (length rows - 1) ≡ Some last → (last.version ≡ version → ⊥) → rows ≡ without_rows version rows
cut_none version rows last h u g e = sym (without_below version rows (last_not version rows last h u g e))

set_last : (rows : List Row) (row : Row) → 0 < length rows → slice_set rows (length rows - 1) row ≡ take (length rows - 1) rows ++ row ∷ []
set_last [] row h = absurd (omega arith)
set_last (r ∷ []) row h = refl
set_last (r ∷ s ∷ rs) row h =
    let n : length (s ∷ rs) - 1 ≡ length rs = omega arith in
    let m : length (r ∷ s ∷ rs) - 1 ≡ suc (length rs) = omega arith in
    let ih = subst (λ i. slice_set (s ∷ rs) i row ≡ take i (s ∷ rs) ++ row ∷ []) n (set_last (s ∷ rs) row (omega arith)) in
    subst (λ i. slice_set (r ∷ s ∷ rs) i row ≡ take i (r ∷ s ∷ rs) ++ row ∷ []) (sym m) (ap (λ (xs : List Row). r ∷ xs) ih)

no_last : (r : Row) (rs : List Row) → slice_get (r ∷ rs) (length (r ∷ rs) - 1) ≡ None → ⊥
no_last r [] g = cc
no_last r (s ∷ rs) g =
    let m : length (r ∷ s ∷ rs) - 1 ≡ suc (length (s ∷ rs) - 1) = omega arith in
    no_last s rs (subst (λ i. slice_get (r ∷ s ∷ rs) i ≡ None) m g)

pub put_over : (row : Row) (rows : List Row) → AreRising rows → AreRowsUpto row.version rows → is_row_of row.version (slice_get rows (length rows - 1)) ≡ true → slice_set rows (length rows - 1) row ≡ put_row row rows
put_over row [] h u f = not_both refl (sym f)
put_over row (r ∷ rs) h u f = go (slice_get (r ∷ rs) (length (r ∷ rs) - 1)) refl
  where
    go : (o : Option Row) → slice_get (r ∷ rs) (length (r ∷ rs) - 1) ≡ o → slice_set (r ∷ rs) (length (r ∷ rs) - 1) row ≡ put_row row (r ∷ rs)
    go None g = not_both refl (sym (ap (is_row_of row.version) (sym g) ∙ f))
    go (Some last) g = set_last (r ∷ rs) row (omega arith) ∙ ap (λ (xs : List Row). xs ++ row ∷ []) (cut_last row.version (r ∷ rs) last h u g (eqb-true last.version row.version (ap (is_row_of row.version) (sym g) ∙ f)))

pub cut_over : (version : ℕ) (rows : List Row) → AreRising rows → AreRowsUpto version rows → is_row_of version (slice_get rows (length rows - 1)) ≡ true → take (length rows - 1) rows ≡ without_rows version rows
cut_over version rows h u f = go (slice_get rows (length rows - 1)) refl
  where
    go : (o : Option Row) → slice_get rows (length rows - 1) ≡ o → take (length rows - 1) rows ≡ without_rows version rows
    go None g = not_both refl (sym (ap (is_row_of version) (sym g) ∙ f))
    go (Some last) g = cut_last version rows last h u g (eqb-true last.version version (ap (is_row_of version) (sym g) ∙ f))

pub cut_after : (version : ℕ) (rows : List Row) → AreRising rows → AreRowsUpto version rows → is_row_of version (slice_get rows (length rows - 1)) ≡ false → rows ≡ without_rows version rows
cut_after version [] h u f = refl
cut_after version (r ∷ rs) h u f = go (slice_get (r ∷ rs) (length (r ∷ rs) - 1)) refl
  where
    go : (o : Option Row) → slice_get (r ∷ rs) (length (r ∷ rs) - 1) ≡ o → (r ∷ rs) ≡ without_rows version (r ∷ rs)
    go None g = absurd (no_last r rs g)
    go (Some last) g = cut_none version (r ∷ rs) last h u g (eqb-false last.version version (ap (is_row_of version) (sym g) ∙ f))

pub put_after : (row : Row) (rows : List Row) → AreRising rows → AreRowsUpto row.version rows → is_row_of row.version (slice_get rows (length rows - 1)) ≡ false → rows ++ row ∷ [] ≡ put_row row rows
put_after row rows h u f = ap (λ (xs : List Row). xs ++ row ∷ []) (cut_after row.version rows h u f)

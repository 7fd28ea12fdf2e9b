-- A loop that moves the tasks of other jobs to the front, and counts those that are available.
use Rattle.std.proofs.Common.{◌≡◌, ℕ, ◌+◌, ◌<◌, Bool, true, false, cond, not, eqb, List, [], ◌∷◌, ◌++◌, length, get_or, take, drop, sym, ap, ◌∙◌, arith}
use Rattle.std.specs.List.{filter, SwappedAt}
use Rattle.std.proofs.lemmas.List.{get_or-drop}
use Rattle.std.proofs.lemmas.List.Elements.{filter_more}
use Rattle.std.proofs.lemmas.List.Filters.{FiltersInPlace, FiltersInPlace-more_no, FiltersInPlace-more_swap}
use Rattle.std.proofs.lemmas.List.Sums.{sum_by_push}
use Rattle.task_bucket.specs.declared.held.Held.{Held}
use Rattle.task_bucket.specs.inner.Held.{free_count}

-- those of other jobs
abbrev pub is_other : ℕ → Held → Bool
is_other job h = not (eqb h.task.job job)

-- what was kept so far stands at the front, and so many of it are available
pub record IsKeeping (job : ℕ) (old new : List Held) (kept at free : ℕ) : Type 0 where
  pub in_place : FiltersInPlace (is_other job) old new kept at
  pub counted : free ≡ free_count (take kept new)

pub drops_one : (job : ℕ) (old new : List Held) (kept at free : ℕ) (x : Held) → at < length new → x ≡ get_or new at x → eqb x.task.job job ≡ true → IsKeeping job old new kept at free → IsKeeping job old new kept (at + 1) free
drops_one job old new kept at free x lt here e so = record { in_place = FiltersInPlace-more_no so.in_place lt (ap not e) here; counted = so.counted }

at_drop : (xs ys : List Held) (i : ℕ) (d : Held) → drop i xs ≡ drop i ys → get_or xs i d ≡ get_or ys i d
at_drop xs ys i d e =
    let none : i + 0 ≡ i = omega arith in
    let first : (hs : List Held) → get_or hs i d ≡ get_or (drop i hs) 0 d = λ hs. ap (λ (n : ℕ). get_or hs n d) (sym none) ∙ sym (get_or-drop i hs 0 d) in
    first xs ∙ ap (λ (hs : List Held). get_or hs 0 d) e ∙ sym (first ys)

pub keeps_one : (job : ℕ) (old new swapped : List Held) (kept at free more : ℕ) (x : Held) → at < length new → x ≡ get_or new at x → eqb x.task.job job ≡ false → more ≡ cond x.free 1 0 → SwappedAt new swapped kept at → IsKeeping job old new kept at free → IsKeeping job old swapped (kept + 1) (at + 1) (free + more)
keeps_one job old new swapped kept at free more x lt here e is s so =
    let in_place : FiltersInPlace (is_other job) old swapped (kept + 1) (at + 1) = FiltersInPlace-more_swap so.in_place lt (ap not e) here s in
    let before = so.in_place in
    let within : at < length old = omega (arith, lt, before.long) in
    let same : get_or old at x ≡ x = sym (here ∙ at_drop new old at x before.rest) in
    let front : take (kept + 1) swapped ≡ take kept new ++ x ∷ [] =
    in_place.front ∙ filter_more (is_other job) old at x within
    ∙ ap (λ (y : Held). filter (is_other job) (take at old) ++ cond (is_other job y) (y ∷ []) []) same
    ∙ ap (λ (b : Bool). filter (is_other job) (take at old) ++ cond (not b) (x ∷ []) []) e
    ∙ ap (λ (hs : List Held). hs ++ x ∷ []) (sym before.front) in
    let counts : free_count (take (kept + 1) swapped) ≡ free_count (take kept new) + cond x.free 1 0 = ap free_count front ∙ sum_by_push (λ (h : Held). cond h.free 1 0) (take kept new) x in
    record { in_place = in_place; counted = omega (arith, counts, so.counted, is) }

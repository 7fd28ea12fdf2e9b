-- The future at a place.
use Rattle.std.proofs.Common.{◌≡◌, ℕ, suc, ◌+◌, ◌<◌, Bool, true, false, cond, ◌||◌, eqb, List, [], ◌∷◌, ◌++◌, length, get_or, set, take, drop, refl, sym, ap, subst, ◌∙◌, Result, Ok, Err, arith}
use Rattle.std.specs.Prelude.{OnOk, IfOk}
use Rattle.std.proofs.lemmas.List.{append-nil, get_or_default, take_all}
use Rattle.task_futures.specs.Futures.{SeenFuture, is_made, blocks_of, changed, is_open, is_some_block}
use Rattle.task_futures.specs.inner.Futures.{place_of}
use Rattle.fb_bytes.proofs.Mapped.{drop-all}
use Rattle.task_futures.specs.inner.Changes.{lesser_count}
use Rattle.task_futures.specs.Laws.{AreRising, AreFutures}
use Rattle.task_futures.proofs.Finding.{made_place}

pub place_within : (number : ℕ) (fs : List SeenFuture) → is_made number fs ≡ true → place_of number fs < length fs
place_within number [] e = absurd cc
place_within number (f ∷ fs) e = go (eqb f.number number) e (place_within number fs)
  where
    go : (b : Bool) → (b || is_made number fs) ≡ true → (is_made number fs ≡ true → place_of number fs < length fs) → cond b 0 (place_of number fs + 1) < length (f ∷ fs)
    go true e ih = omega arith
    go false e ih = omega (arith, ih e)

pub made_open : (number : ℕ) (fs : List SeenFuture) → is_open number fs ≡ true → is_made number fs ≡ true
made_open number [] e = absurd cc
made_open number (f ∷ fs) e = go (eqb f.number number) e (made_open number fs)
  where
    go : (b : Bool) → is_some_block (cond b f.blocks (blocks_of number fs)) ≡ true → (is_some_block (blocks_of number fs) ≡ true → is_made number fs ≡ true) → (b || is_made number fs) ≡ true
    go true e ih = refl
    go false e ih = ih e

pub set_changed : (number : ℕ) (change : SeenFuture → SeenFuture) (fs : List SeenFuture) (d : SeenFuture) → is_made number fs ≡ true → set fs (place_of number fs) (change (get_or fs (place_of number fs) d)) ≡ changed number change fs
set_changed number change [] d e = absurd cc
set_changed number change (f ∷ fs) d e = go (eqb f.number number) e (set_changed number change fs d)
  where
    go : (b : Bool) → (b || is_made number fs) ≡ true → (is_made number fs ≡ true → set fs (place_of number fs) (change (get_or fs (place_of number fs) d)) ≡ changed number change fs) → set (f ∷ fs) (cond b 0 (place_of number fs + 1)) (change (get_or (f ∷ fs) (cond b 0 (place_of number fs + 1)) d)) ≡ cond b (change f ∷ fs) (f ∷ changed number change fs)
    go true e ih = refl
    go false e ih = let one : place_of number fs + 1 ≡ suc (place_of number fs) = omega arith in ap (λ (n : ℕ). set (f ∷ fs) n (change (get_or (f ∷ fs) n d))) one ∙ ap (λ (gs : List SeenFuture). f ∷ gs) (ih e)

pub blocks_at : (number : ℕ) (fs : List SeenFuture) (d : SeenFuture) → is_made number fs ≡ true → (get_or fs (place_of number fs) d).blocks ≡ blocks_of number fs
blocks_at number [] d e = absurd cc
blocks_at number (f ∷ fs) d e = go (eqb f.number number) e (blocks_at number fs d)
  where
    go : (b : Bool) → (b || is_made number fs) ≡ true → (is_made number fs ≡ true → (get_or fs (place_of number fs) d).blocks ≡ blocks_of number fs) → (get_or (f ∷ fs) (cond b 0 (place_of number fs + 1)) d).blocks ≡ cond b f.blocks (blocks_of number fs)
    go true e ih = refl
    go false e ih = let one : place_of number fs + 1 ≡ suc (place_of number fs) = omega arith in ap (λ (n : ℕ). (get_or (f ∷ fs) n d).blocks) one ∙ ih e

-- ---- at a place

pub ok_then : {T E : Type 0} (r : Result T E) (P Q : Type 0) → (P → Q) → OnOk r P → OnOk r Q
ok_then (Ok x) P Q f p = f p
ok_then (Err e) P Q f p = tt

pub answer_then : {T E : Type 0} (r : Result T E) (P Q : T → Type 0) → ((x : T) → P x → Q x) → IfOk r P → IfOk r Q
answer_then (Ok x) P Q f p = f x p
answer_then (Err e) P Q f p = tt

pub put_changed : (number : ℕ) (change : SeenFuture → SeenFuture) (items fs : List SeenFuture) (at : ℕ) (old new : SeenFuture) → is_made number fs ≡ true → items ≡ fs → at ≡ place_of number fs → old ≡ get_or items at old → new ≡ change old → set items at new ≡ changed number change fs
put_changed number change items fs at old new made same is here e =
    let found : old ≡ get_or fs (place_of number fs) old = here ∙ ap (λ (gs : List SeenFuture). get_or gs at old) same ∙ ap (λ (n : ℕ). get_or fs n old) is in
    ap (λ (gs : List SeenFuture). set gs at new) same ∙ ap (λ (n : ℕ). set fs n new) is ∙ ap (set fs (place_of number fs)) (e ∙ ap change found) ∙ set_changed number change fs old made

pub next_at : (number : ℕ) (items fs : List SeenFuture) (at : ℕ) (old : SeenFuture) → is_made number fs ≡ true → items ≡ fs → at ≡ place_of number fs → old ≡ get_or items at old → old.blocks ≡ blocks_of number fs
next_at number items fs at old made same is here =
    ap (λ (x : SeenFuture). x.blocks) (here ∙ ap (λ (gs : List SeenFuture). get_or gs at old) same ∙ ap (λ (n : ℕ). get_or fs n old) is) ∙ blocks_at number fs old made

pub same_item : (fs : List SeenFuture) (i : ℕ) (x y : SeenFuture) → i < length fs → x ≡ get_or fs i x → y ≡ get_or fs i y → x ≡ y
same_item fs i x y lt e f = e ∙ get_or_default fs i x y lt ∙ sym f

-- the place that halving finds is the number's
pub at_is : (number : ℕ) (fs items slice : List SeenFuture) (at : ℕ) → AreFutures items → items ≡ fs → slice ≡ items → at ≡ lesser_count number slice → is_made number fs ≡ true → at ≡ place_of number fs
at_is number fs items slice at a view same is made = is ∙ ap (lesser_count number) (same ∙ view) ∙ made_place number fs (subst AreRising view a.rising) made

-- a list that was written whole, as a vector has it
pub whole : (n : ℕ) (new xs : List SeenFuture) → n ≡ length xs → length new ≡ length xs → take n (new ++ drop (length new) xs) ≡ new
whole n new xs e f =
    ap (λ (ys : List SeenFuture). take n (new ++ ys)) (drop-all xs (length new) (omega arith)) ∙ ap (take n) (append-nil new) ∙ take_all n new (omega arith)

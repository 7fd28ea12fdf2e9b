-- Each call keeps what lists of futures keep.
use Rattle.std.proofs.Common.{◌≡◌, ℕ, suc, ◌+◌, ◌<◌, ◌≤◌, Bool, true, false, not, cond, ◌||◌, ◌&&◌, eqb, List, [], ◌∷◌, ◌++◌, map, max, refl, sym, ap, subst, ◌∙◌, arith}
use Rattle.std.specs.List.{filter}
use Rattle.std.proofs.lemmas.Bool.{eqb-true, eq-eqb, ne_eqb}
use Rattle.task_kinds.specs.Tasks.{SeenTask}
use Rattle.task_futures.specs.Futures.{Part, SeenFuture, fresh_with, greatest_number, next_number, blocks_of, is_some_block, is_open, changed, and_block, and_callback, join_blocks, links_of, linked, left, kept_joins, passed_on, settle, unjoined, becomes_set, newly_set}
use Rattle.task_futures.specs.Laws.{ArePast, AreRising, ArePartsPast, AreForward, HasPassedOn, HavePassedOn, AreFutures, AreKept, is_one_of, has_block, ChangesNothing, FuturesLaw}

-- ---- one more future

past-append : (n : ℕ) (fs : List SeenFuture) (g : SeenFuture) → ArePast n fs → n < g.number → ArePast n (fs ++ g ∷ [])
past-append n [] g p lt = (lt, tt)
past-append n (f ∷ fs) g p lt = (p.0, past-append n fs g p.1 lt)

rising-append : (fs : List SeenFuture) (g : SeenFuture) → AreRising fs → greatest_number fs < g.number → AreRising (fs ++ g ∷ [])
rising-append [] g r lt = (tt, tt)
rising-append (f ∷ fs) g r lt = (past-append f.number fs g r.0 (omega arith), rising-append fs g r.1 (omega arith))

forward-append : (fs : List SeenFuture) (g : SeenFuture) → AreForward fs → ArePartsPast g.number g.joins → AreForward (fs ++ g ∷ [])
forward-append [] g a p = (p, tt)
forward-append (f ∷ fs) g a p = (a.0, forward-append fs g a.1 p)

passed-append : (fs : List SeenFuture) (g : SeenFuture) → HavePassedOn fs → HasPassedOn g.blocks g.joins → HavePassedOn (fs ++ g ∷ [])
passed-append [] g a p = (p, tt)
passed-append (f ∷ fs) g a p = (a.0, passed-append fs g a.1 p)

no_joins : (bs : List ℕ) → HasPassedOn bs []
no_joins [] = refl
no_joins (b ∷ bs) = tt

greatest_map : (change : SeenFuture → SeenFuture) → ((f : SeenFuture) → (change f).number ≡ f.number) → (fs : List SeenFuture) → greatest_number (map change fs) ≡ greatest_number fs
greatest_map change same [] = refl
greatest_map change same (f ∷ fs) = λ i. max (same f i) (greatest_map change same fs i)

one_more : (fs : List SeenFuture) (n : ℕ) (bs : List ℕ) → greatest_number fs < n → AreFutures fs → AreFutures (fs ++ fresh_with n bs ∷ [])
one_more fs n bs lt a = record { rising = rising-append fs (fresh_with n bs) a.rising lt; forward = forward-append fs (fresh_with n bs) a.forward tt; passed_on = passed-append fs (fresh_with n bs) a.passed_on (no_joins bs) }

-- ---- one future is changed

-- what such a change keeps
record Keeps (change : SeenFuture → SeenFuture) : Type 0 where
  number : (f : SeenFuture) → (change f).number ≡ f.number
  forward : (f : SeenFuture) → ArePartsPast f.number f.joins → ArePartsPast (change f).number (change f).joins
  passed_on : (f : SeenFuture) → HasPassedOn f.blocks f.joins → HasPassedOn (change f).blocks (change f).joins

past_changed : (number : ℕ) (change : SeenFuture → SeenFuture) → Keeps change → (n : ℕ) (fs : List SeenFuture) → ArePast n fs → ArePast n (changed number change fs)
past_changed number change k n [] p = tt
past_changed number change k n (f ∷ fs) p = go (eqb f.number number) (past_changed number change k n fs p.1)
  where
    go : (b : Bool) → ArePast n (changed number change fs) → ArePast n (cond b (change f ∷ fs) (f ∷ changed number change fs))
    go true ih = (subst (λ (m : ℕ). n < m) (sym (k.number f)) p.0, p.1)
    go false ih = (p.0, ih)

rising_changed : (number : ℕ) (change : SeenFuture → SeenFuture) → Keeps change → (fs : List SeenFuture) → AreRising fs → AreRising (changed number change fs)
rising_changed number change k [] r = tt
rising_changed number change k (f ∷ fs) r = go (eqb f.number number) (rising_changed number change k fs r.1)
  where
    go : (b : Bool) → AreRising (changed number change fs) → AreRising (cond b (change f ∷ fs) (f ∷ changed number change fs))
    go true ih = (subst (λ (m : ℕ). ArePast m fs) (sym (k.number f)) r.0, r.1)
    go false ih = (past_changed number change k f.number fs r.0, ih)

forward_changed : (number : ℕ) (change : SeenFuture → SeenFuture) → Keeps change → (fs : List SeenFuture) → AreForward fs → AreForward (changed number change fs)
forward_changed number change k [] a = tt
forward_changed number change k (f ∷ fs) a = go (eqb f.number number) (forward_changed number change k fs a.1)
  where
    go : (b : Bool) → AreForward (changed number change fs) → AreForward (cond b (change f ∷ fs) (f ∷ changed number change fs))
    go true ih = (k.forward f a.0, a.1)
    go false ih = (a.0, ih)

passed_changed : (number : ℕ) (change : SeenFuture → SeenFuture) → Keeps change → (fs : List SeenFuture) → HavePassedOn fs → HavePassedOn (changed number change fs)
passed_changed number change k [] a = tt
passed_changed number change k (f ∷ fs) a = go (eqb f.number number) (passed_changed number change k fs a.1)
  where
    go : (b : Bool) → HavePassedOn (changed number change fs) → HavePassedOn (cond b (change f ∷ fs) (f ∷ changed number change fs))
    go true ih = (k.passed_on f a.0, a.1)
    go false ih = (a.0, ih)

one_changed : (number : ℕ) (change : SeenFuture → SeenFuture) → Keeps change → (fs : List SeenFuture) → AreFutures fs → AreFutures (changed number change fs)
one_changed number change k fs a = record { rising = rising_changed number change k fs a.rising; forward = forward_changed number change k fs a.forward; passed_on = passed_changed number change k fs a.passed_on }

more_blocks : (bs : List ℕ) (b : ℕ) (joins : List Part) → HasPassedOn (bs ++ b ∷ []) joins
more_blocks [] b joins = tt
more_blocks (c ∷ bs) b joins = tt

block_keeps : Keeps and_block
block_keeps = record { number = λ f. refl; forward = λ f p. p; passed_on = λ f p. more_blocks f.blocks _ f.joins }

callback_keeps : (task : SeenTask) → Keeps (and_callback task)
callback_keeps task = record { number = λ f. refl; forward = λ f p. p; passed_on = λ f p. p }

-- ---- a join

links_none : (part join block : ℕ) (ps : List ℕ) (fs : List SeenFuture) → is_open part fs ≡ false → links_of part join block ps fs ≡ []
links_none part join block [] fs e = refl
links_none part join block (p ∷ ps) fs e = go (is_open p fs) refl (eqb p part) refl (λ n. links_none part join n ps fs e)
  where
    go : (o : Bool) → is_open p fs ≡ o → (s : Bool) → eqb p part ≡ s → ((n : ℕ) → links_of part join n ps fs ≡ []) → cond o (cond s (record { join = join; block = block } ∷ links_of part join (block + 1) ps fs) (links_of part join (block + 1) ps fs)) (links_of part join block ps fs) ≡ []
    go false eo s es ih = ih block
    go true eo false es ih = ih (block + 1)
    go true eo true es ih = let x : true ≡ false = sym eo ∙ ap (λ (q : ℕ). is_open q fs) (eqb-true p part es) ∙ e in absurd cc

links_past : (part join block : ℕ) (ps : List ℕ) (fs : List SeenFuture) → part < join → ArePartsPast part (links_of part join block ps fs)
links_past part join block [] fs lt = tt
links_past part join block (p ∷ ps) fs lt = go (is_open p fs) (eqb p part) (λ n. links_past part join n ps fs lt)
  where
    go : (o s : Bool) → ((n : ℕ) → ArePartsPast part (links_of part join n ps fs)) → ArePartsPast part (cond o (cond s (record { join = join; block = block } ∷ links_of part join (block + 1) ps fs) (links_of part join (block + 1) ps fs)) (links_of part join block ps fs))
    go false s ih = ih block
    go true false ih = ih (block + 1)
    go true true ih = (lt, ih (block + 1))

parts-append : (n : ℕ) (ps qs : List Part) → ArePartsPast n ps → ArePartsPast n qs → ArePartsPast n (ps ++ qs)
parts-append n [] qs p q = q
parts-append n (x ∷ ps) qs p q = (p.0, parts-append n ps qs p.1 q)

past_linked : (parts : List ℕ) (all : List SeenFuture) (n : ℕ) (fs : List SeenFuture) → ArePast n fs → ArePast n (map (linked parts all) fs)
past_linked parts all n [] p = tt
past_linked parts all n (f ∷ fs) p = (p.0, past_linked parts all n fs p.1)

rising_linked : (parts : List ℕ) (all fs : List SeenFuture) → AreRising fs → AreRising (map (linked parts all) fs)
rising_linked parts all [] r = tt
rising_linked parts all (f ∷ fs) r = (past_linked parts all f.number fs r.0, rising_linked parts all fs r.1)

forward_linked : (parts : List ℕ) (all fs : List SeenFuture) → greatest_number fs ≤ greatest_number all → AreForward fs → AreForward (map (linked parts all) fs)
forward_linked parts all [] le a = tt
forward_linked parts all (f ∷ fs) le a =
    (parts-append f.number f.joins (links_of f.number (next_number all) 1 parts all) a.0 (links_past f.number (next_number all) 1 parts all (omega arith)), forward_linked parts all fs (omega arith) a.1)

-- the first has at least this number
abbrev IsLow : ℕ → List SeenFuture → Type 0
IsLow lo [] = Unit {0}
IsLow lo (f ∷ fs) = lo ≤ f.number

past_low : (n : ℕ) (fs : List SeenFuture) → ArePast n fs → IsLow (suc n) fs
past_low n [] p = tt
past_low n (f ∷ fs) p = omega (arith, p.0)

passed_linked : (parts : List ℕ) (all : List SeenFuture) (lo : ℕ) (fs : List SeenFuture) → IsLow lo fs → AreRising fs → ((n : ℕ) → lo ≤ n → blocks_of n all ≡ blocks_of n fs) → HavePassedOn fs → HavePassedOn (map (linked parts all) fs)
passed_linked parts all lo [] low r same a = tt
passed_linked parts all lo (f ∷ fs) low r same a =
    (go f.blocks refl a.0, passed_linked parts all (suc f.number) fs (past_low f.number fs r.0) r.1 behind a.1)
  where
    behind : (n : ℕ) → suc f.number ≤ n → blocks_of n all ≡ blocks_of n fs
    behind n le = same n (omega (arith, low, le)) ∙ ap (λ (b : Bool). cond b f.blocks (blocks_of n fs)) (ne_eqb f.number n (λ e. omega (arith, e, le)))

    here : blocks_of f.number all ≡ f.blocks
    here = same f.number low ∙ ap (λ (b : Bool). cond b f.blocks (blocks_of f.number fs)) (eq-eqb f.number f.number refl)

    go : (bs : List ℕ) → f.blocks ≡ bs → HasPassedOn bs f.joins → HasPassedOn bs (f.joins ++ links_of f.number (next_number all) 1 parts all)
    go [] e none = ap (λ (js : List Part). js ++ links_of f.number (next_number all) 1 parts all) none ∙ links_none f.number (next_number all) 1 parts all (ap is_some_block (here ∙ e))
    go (b ∷ bs) e some = tt

low_all : (fs : List SeenFuture) → IsLow 0 fs
low_all [] = tt
low_all (f ∷ fs) = omega arith

all_linked : (parts : List ℕ) (fs : List SeenFuture) → AreFutures fs → AreFutures (map (linked parts fs) fs)
all_linked parts fs a = record { rising = rising_linked parts fs fs a.rising; forward = forward_linked parts fs fs (omega arith) a.forward; passed_on = passed_linked parts fs 0 fs (low_all fs) a.rising (λ n le. refl) a.passed_on }

all_joined : (parts : List ℕ) (fs : List SeenFuture) → AreFutures fs → AreFutures (map (linked parts fs) fs ++ fresh_with (next_number fs) (join_blocks 1 parts fs) ∷ [])
all_joined parts fs a =
    let same : greatest_number (map (linked parts fs) fs) ≡ greatest_number fs = greatest_map (linked parts fs) (λ f. refl) fs in
    one_more (map (linked parts fs) fs) (next_number fs) (join_blocks 1 parts fs) (omega (arith, same)) (all_linked parts fs a)

-- ---- what falls

past_settle : (ps : List Part) (n : ℕ) (fs : List SeenFuture) → ArePast n fs → ArePast n (settle ps fs)
past_settle ps n [] p = tt
past_settle ps n (f ∷ fs) p = (p.0, past_settle (passed_on (left ps f.number f.blocks) f.joins ps) n fs p.1)

rising_settle : (ps : List Part) (fs : List SeenFuture) → AreRising fs → AreRising (settle ps fs)
rising_settle ps [] r = tt
rising_settle ps (f ∷ fs) r = (past_settle (passed_on (left ps f.number f.blocks) f.joins ps) f.number fs r.0, rising_settle (passed_on (left ps f.number f.blocks) f.joins ps) fs r.1)

kept_past : (n : ℕ) (bs : List ℕ) (joins : List Part) → ArePartsPast n joins → ArePartsPast n (kept_joins bs joins)
kept_past n [] joins p = tt
kept_past n (b ∷ bs) joins p = p

forward_settle : (ps : List Part) (fs : List SeenFuture) → AreForward fs → AreForward (settle ps fs)
forward_settle ps [] a = tt
forward_settle ps (f ∷ fs) a = (kept_past f.number (left ps f.number f.blocks) f.joins a.0, forward_settle (passed_on (left ps f.number f.blocks) f.joins ps) fs a.1)

kept_passed : (bs : List ℕ) (joins : List Part) → HasPassedOn bs (kept_joins bs joins)
kept_passed [] joins = refl
kept_passed (b ∷ bs) joins = tt

passed_settle : (ps : List Part) (fs : List SeenFuture) → HavePassedOn (settle ps fs)
passed_settle ps [] = tt
passed_settle ps (f ∷ fs) = (kept_passed (left ps f.number f.blocks) f.joins, passed_settle (passed_on (left ps f.number f.blocks) f.joins ps) fs)

all_settle : (ps : List Part) (fs : List SeenFuture) → AreFutures fs → AreFutures (settle ps fs)
all_settle ps fs a = record { rising = rising_settle ps fs a.rising; forward = forward_settle ps fs a.forward; passed_on = passed_settle ps fs }

-- ---- what is taken out

past_without : (number n : ℕ) (fs : List SeenFuture) → ArePast n fs → ArePast n (map (unjoined number) (filter (λ (f : SeenFuture). not (eqb f.number number)) fs))
past_without number n [] p = tt
past_without number n (f ∷ fs) p = go (not (eqb f.number number)) (past_without number n fs p.1)
  where
    go : (b : Bool) → ArePast n (map (unjoined number) (filter (λ (f : SeenFuture). not (eqb f.number number)) fs)) → ArePast n (map (unjoined number) (cond b (f ∷ filter (λ (f : SeenFuture). not (eqb f.number number)) fs) (filter (λ (f : SeenFuture). not (eqb f.number number)) fs)))
    go true ih = (p.0, ih)
    go false ih = ih

parts_filter : (number n : ℕ) (ps : List Part) → ArePartsPast n ps → ArePartsPast n (filter (λ (p : Part). not (eqb p.join number)) ps)
parts_filter number n [] a = tt
parts_filter number n (p ∷ ps) a = go (not (eqb p.join number)) (parts_filter number n ps a.1)
  where
    go : (b : Bool) → ArePartsPast n (filter (λ (p : Part). not (eqb p.join number)) ps) → ArePartsPast n (cond b (p ∷ filter (λ (p : Part). not (eqb p.join number)) ps) (filter (λ (p : Part). not (eqb p.join number)) ps))
    go true ih = (a.0, ih)
    go false ih = ih

passed_filter : (number : ℕ) (bs : List ℕ) (joins : List Part) → HasPassedOn bs joins → HasPassedOn bs (filter (λ (p : Part). not (eqb p.join number)) joins)
passed_filter number [] joins e = ap (filter (λ (p : Part). not (eqb p.join number))) e
passed_filter number (b ∷ bs) joins e = tt

all_without : (number : ℕ) (fs : List SeenFuture) → AreFutures fs → AreFutures (map (unjoined number) (filter (λ (f : SeenFuture). not (eqb f.number number)) fs))
all_without number [] a = record { rising = tt; forward = tt; passed_on = tt }
all_without number (f ∷ fs) a = go (not (eqb f.number number)) (all_without number fs (record { rising = a.rising.1; forward = a.forward.1; passed_on = a.passed_on.1 }))
  where
    go : (b : Bool) → AreFutures (map (unjoined number) (filter (λ (f : SeenFuture). not (eqb f.number number)) fs)) → AreFutures (map (unjoined number) (cond b (f ∷ filter (λ (f : SeenFuture). not (eqb f.number number)) fs) (filter (λ (f : SeenFuture). not (eqb f.number number)) fs)))
    go true ih = record { rising = (past_without number f.number fs a.rising.0, ih.rising); forward = (parts_filter number f.number f.joins a.forward.0, ih.forward); passed_on = (passed_filter number f.blocks f.joins a.passed_on.0, ih.passed_on) }
    go false ih = ih

-- ---- a block that isn't open

left_unknown : (number block n : ℕ) (bs : List ℕ) → (eqb number n && is_one_of block bs) ≡ false → left (record { join = number; block = block } ∷ []) n bs ≡ bs
left_unknown number block n [] e = refl
left_unknown number block n (b ∷ bs) e = go (eqb number n) (eqb block b) e (left_unknown number block n bs)
  where
    go : (t s : Bool) → (t && (s || is_one_of block bs)) ≡ false → ((t && is_one_of block bs) ≡ false → left (record { join = number; block = block } ∷ []) n bs ≡ bs) → cond (not ((t && s) || false)) (b ∷ left (record { join = number; block = block } ∷ []) n bs) (left (record { join = number; block = block } ∷ []) n bs) ≡ b ∷ bs
    go true true e ih = absurd cc
    go true false e ih = ap (λ (x : List ℕ). b ∷ x) (ih e)
    go false s e ih = ap (λ (x : List ℕ). b ∷ x) (ih refl)

or_left : (x y : Bool) → (x || y) ≡ false → x ≡ false
or_left true y e = e
or_left false y e = refl

or_right : (x y : Bool) → (x || y) ≡ false → y ≡ false
or_right true y e = absurd cc
or_right false y e = e

settle_unknown : (number block : ℕ) (fs : List SeenFuture) → HavePassedOn fs → has_block number block fs ≡ false → settle (record { join = number; block = block } ∷ []) fs ≡ fs
settle_unknown number block [] a e = refl
settle_unknown number block (f ∷ fs) a e =
    ap (λ (bs : List ℕ). record { number = f.number; blocks = bs; callbacks = f.callbacks; joins = kept_joins bs f.joins } ∷ settle (passed_on bs f.joins (record { join = number; block = block } ∷ [])) fs) (left_unknown number block f.number f.blocks (or_left (eqb number f.number && is_one_of block f.blocks) (has_block number block fs) e))
    ∙ go f.blocks refl a.0 (settle_unknown number block fs a.1 (or_right (eqb number f.number && is_one_of block f.blocks) (has_block number block fs) e))
  where
    go : (bs : List ℕ) → f.blocks ≡ bs → HasPassedOn bs f.joins → settle (record { join = number; block = block } ∷ []) fs ≡ fs → record { number = f.number; blocks = bs; callbacks = f.callbacks; joins = kept_joins bs f.joins } ∷ settle (passed_on bs f.joins (record { join = number; block = block } ∷ [])) fs ≡ f ∷ fs
    go [] is none ih =
        ap (λ (js : List Part). record { number = f.number; blocks = []; callbacks = f.callbacks; joins = [] } ∷ settle ((record { join = number; block = block } ∷ []) ++ js) fs) none
        ∙ ap (λ (gs : List SeenFuture). record { number = f.number; blocks = []; callbacks = f.callbacks; joins = [] } ∷ gs) ih
        ∙ (λ i. record { number = f.number; blocks = sym is i; callbacks = f.callbacks; joins = sym none i } ∷ fs)
    go (b ∷ bs) is some ih =
        ap (λ (gs : List SeenFuture). record { number = f.number; blocks = b ∷ bs; callbacks = f.callbacks; joins = f.joins } ∷ gs) ih
        ∙ (λ i. record { number = f.number; blocks = sym is i; callbacks = f.callbacks; joins = f.joins } ∷ fs)

newly_none : (fs : List SeenFuture) → newly_set fs fs ≡ []
newly_none [] = refl
newly_none (f ∷ fs) = go f.blocks (newly_none fs)
  where
    go : (bs : List ℕ) → newly_set fs fs ≡ [] → cond (becomes_set bs bs) f.callbacks [] ++ newly_set fs fs ≡ []
    go [] ih = ih
    go (b ∷ bs) ih = ih

-- ---- all of it

pub all_kept : (fs : List SeenFuture) → AreFutures fs → AreKept fs
all_kept fs a = record { fresh = one_more fs (next_number fs) [] (omega arith) a; block = λ number. one_changed number and_block block_keeps fs a; on_set = λ number task. one_changed number (and_callback task) (callback_keeps task) fs a; join = λ parts. all_joined parts fs a; unblock = λ number block. all_settle (record { join = number; block = block } ∷ []) fs a; drop_newest = all_without (greatest_number fs) fs a }

changes_nothing : (number block : ℕ) (fs : List SeenFuture) → AreFutures fs → has_block number block fs ≡ false → ChangesNothing number block fs
changes_nothing number block fs a e =
    let same = settle_unknown number block fs a.passed_on e in
    record { same = same; none = ap (newly_set fs) same ∙ newly_none fs }

pub all_laws : FuturesLaw
all_laws = record { empty = record { rising = tt; forward = tt; passed_on = tt }; kept = all_kept; unknown = changes_nothing }

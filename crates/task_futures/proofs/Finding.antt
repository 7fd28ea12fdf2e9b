-- The place of a future, where the numbers rise, and what a change at that place is.
use Rattle.std.proofs.Common.{◌≡◌, ℕ, zero, suc, ◌+◌, ◌<◌, ◌≤◌, Bool, true, false, not, cond, ◌&&◌, ◌||◌, eqb, ltb, List, [], ◌∷◌, ◌++◌, length, get_or, set, map, take, drop, refl, sym, ap, subst, ◌∙◌, arith}
use Rattle.std.specs.List.{filter, AllByRecursion}
use Rattle.std.proofs.lemmas.Bool.{eqb-true, eq-eqb, ne_eqb, lt-ltb, le-ltb, ltb-true, ltb-false}
use Rattle.fb_bytes.proofs.Halving.{Falls}
use Rattle.task_futures.specs.Futures.{Part, SeenFuture, greatest_number, is_made, blocks_of, is_open, is_some_block, is_part}
use Rattle.task_futures.specs.inner.Futures.{place_of, cleared_by, first_settled, head_settled}
use Rattle.task_futures.specs.Laws.{ArePast, AreRising, HasPassedOn, HavePassedOn}
use Rattle.task_futures.specs.inner.Changes.{is_lesser, lesser_count, cleared}

-- ---- halving

pub past_at : (u : ℕ) (fs : List SeenFuture) (j : ℕ) (d : SeenFuture) → ArePast u fs → j < length fs → u < (get_or fs j d).number
past_at u [] j d p lt = absurd (omega arith)
past_at u (f ∷ fs) zero d p lt = p.0
past_at u (f ∷ fs) (suc j) d p lt = past_at u fs j d p.1 (omega arith)

less_past : (number u : ℕ) (fs : List SeenFuture) → number ≤ u → ArePast u fs → AllByRecursion (λ (f : SeenFuture). is_lesser number f ≡ false) fs
less_past number u [] le p = tt
less_past number u (f ∷ fs) le p = (le-ltb f.number number (omega (arith, p.0, le)), less_past number u fs le p.1)

-- once one hasn't a lesser number, none behind it has
pub less_falls : (number : ℕ) (fs : List SeenFuture) → AreRising fs → Falls (is_lesser number) fs
less_falls number [] r = tt
less_falls number (f ∷ fs) r = ((λ e. less_past number f.number fs (ltb-false f.number number e) r.0), less_falls number fs r.1)

-- ---- what is found

one_more : (n : ℕ) → 1 + n ≡ n + 1
one_more n = omega arith

past_made : (u n : ℕ) (fs : List SeenFuture) → ArePast u fs → is_made n fs ≡ true → u < n
past_made u n [] p e = absurd cc
past_made u n (f ∷ fs) p e = go (eqb f.number n) refl e (past_made u n fs p.1)
  where
    go : (b : Bool) → eqb f.number n ≡ b → (b || is_made n fs) ≡ true → (is_made n fs ≡ true → u < n) → u < n
    go true is e ih = let same = eqb-true f.number n is in omega (arith, same, p.0)
    go false is e ih = ih e

pub made_place : (n : ℕ) (fs : List SeenFuture) → AreRising fs → is_made n fs ≡ true → lesser_count n fs ≡ place_of n fs
made_place n [] r e = absurd cc
made_place n (f ∷ fs) r e = go (eqb f.number n) refl e (made_place n fs r.1)
  where
    go : (b : Bool) → eqb f.number n ≡ b → (b || is_made n fs) ≡ true → (is_made n fs ≡ true → lesser_count n fs ≡ place_of n fs) → lesser_count n (f ∷ fs) ≡ cond b 0 (place_of n fs + 1)
    go true is e ih = ap (λ (b : Bool). cond b (1 + lesser_count n fs) 0) (le-ltb f.number n (let same = eqb-true f.number n is in omega (arith, same)))
    go false is e ih =
        ap (λ (b : Bool). cond b (1 + lesser_count n fs) 0) (lt-ltb f.number n (past_made f.number n fs r.0 e))
        ∙ ap (λ (k : ℕ). 1 + k) (ih e) ∙ one_more (place_of n fs)

none_past : (u n : ℕ) (fs : List SeenFuture) → ArePast u fs → n ≤ u → blocks_of n fs ≡ []
none_past u n [] p le = refl
none_past u n (f ∷ fs) p le = ap (λ (b : Bool). cond b f.blocks (blocks_of n fs)) (ne_eqb f.number n (λ e. omega (arith, p.0, e, le))) ∙ none_past u n fs p.1 le

-- the blocks at the place are those of the number, if it is the number's
pub found_blocks : (n : ℕ) (fs : List SeenFuture) (i : ℕ) (f : SeenFuture) → AreRising fs → i ≡ lesser_count n fs → i < length fs → f ≡ get_or fs i f → f.number ≡ n → f.blocks ≡ blocks_of n fs
found_blocks n [] i f r is lt here same = absurd (omega arith)
found_blocks n (x ∷ xs) i f r is lt here same = go (ltb x.number n) refl is (λ j a b c. found_blocks n xs j f r.1 a b c same)
  where
    go : (b : Bool) → ltb x.number n ≡ b → i ≡ cond b (1 + lesser_count n xs) 0 → ((j : ℕ) → j ≡ lesser_count n xs → j < length xs → f ≡ get_or xs j f → f.blocks ≡ blocks_of n xs) → f.blocks ≡ blocks_of n (x ∷ xs)
    go true e is ih =
        let next : i ≡ suc (lesser_count n xs) = omega (arith, is) in
        let less = ltb-true x.number n e in
        ih (lesser_count n xs) refl (omega (arith, next)) (here ∙ ap (λ (k : ℕ). get_or (x ∷ xs) k f) next)
        ∙ sym (ap (λ (b : Bool). cond b x.blocks (blocks_of n xs)) (ne_eqb x.number n (λ e. omega (arith, less, e))))
    go false e is ih =
        let this : f ≡ x = here ∙ ap (λ (k : ℕ). get_or (x ∷ xs) k f) is in
        ap (λ (y : SeenFuture). y.blocks) this
        ∙ sym (ap (λ (b : Bool). cond b x.blocks (blocks_of n xs)) (eq-eqb x.number n (sym (ap (λ (y : SeenFuture). y.number) this) ∙ same)))

pub missing_at : (n : ℕ) (fs : List SeenFuture) (i : ℕ) (f : SeenFuture) → AreRising fs → i ≡ lesser_count n fs → i < length fs → f ≡ get_or fs i f → (f.number ≡ n → ⊥) → blocks_of n fs ≡ []
missing_at n [] i f r is lt here other = absurd (omega arith)
missing_at n (x ∷ xs) i f r is lt here other = go (ltb x.number n) refl is (λ j a b c. missing_at n xs j f r.1 a b c other)
  where
    go : (b : Bool) → ltb x.number n ≡ b → i ≡ cond b (1 + lesser_count n xs) 0 → ((j : ℕ) → j ≡ lesser_count n xs → j < length xs → f ≡ get_or xs j f → blocks_of n xs ≡ []) → blocks_of n (x ∷ xs) ≡ []
    go true e is ih =
        let next : i ≡ suc (lesser_count n xs) = omega (arith, is) in
        let less = ltb-true x.number n e in
        ap (λ (b : Bool). cond b x.blocks (blocks_of n xs)) (ne_eqb x.number n (λ e. omega (arith, less, e)))
        ∙ ih (lesser_count n xs) refl (omega (arith, next)) (here ∙ ap (λ (k : ℕ). get_or (x ∷ xs) k f) next)
    go false e is ih =
        let this : f ≡ x = here ∙ ap (λ (k : ℕ). get_or (x ∷ xs) k f) is in
        let more = ltb-false x.number n e in
        ap (λ (b : Bool). cond b x.blocks (blocks_of n xs)) (ne_eqb x.number n (λ q. other (ap (λ (y : SeenFuture). y.number) this ∙ q)))
        ∙ none_past x.number n xs r.0 more

pub missing_all : (n : ℕ) (fs : List SeenFuture) → length fs ≤ lesser_count n fs → blocks_of n fs ≡ []
missing_all n [] le = refl
missing_all n (x ∷ xs) le = go (ltb x.number n) refl le (missing_all n xs)
  where
    go : (b : Bool) → ltb x.number n ≡ b → length (x ∷ xs) ≤ cond b (1 + lesser_count n xs) 0 → (length xs ≤ lesser_count n xs → blocks_of n xs ≡ []) → blocks_of n (x ∷ xs) ≡ []
    go true e le ih =
        let less = ltb-true x.number n e in
        ap (λ (b : Bool). cond b x.blocks (blocks_of n xs)) (ne_eqb x.number n (λ e. omega (arith, less, e))) ∙ ih (omega arith)
    go false e le ih = absurd (omega arith)

pub open_at : (n : ℕ) (fs : List SeenFuture) (i : ℕ) (f : SeenFuture) → AreRising fs → i ≡ lesser_count n fs → i < length fs → f ≡ get_or fs i f → (eqb f.number n && is_some_block f.blocks) ≡ is_open n fs
open_at n fs i f r is lt here = go (eqb f.number n) refl
  where
    go : (b : Bool) → eqb f.number n ≡ b → (b && is_some_block f.blocks) ≡ is_open n fs
    go true e = ap is_some_block (found_blocks n fs i f r is lt here (eqb-true f.number n e))
    go false e = sym (ap is_some_block (missing_at n fs i f r is lt here (λ same. absurd (let wrong : true ≡ false = sym (eq-eqb f.number n same) ∙ e in cc))))

-- ---- the last has the greatest number

greatest_past : (u : ℕ) (fs : List SeenFuture) → ArePast u fs → 0 < length fs → u < greatest_number fs
greatest_past u [] p lt = absurd (omega arith)
greatest_past u (f ∷ fs) p lt = omega (arith, p.0)

pub greatest_last : (fs : List SeenFuture) (i : ℕ) (f : SeenFuture) → AreRising fs → i + 1 ≡ length fs → f ≡ get_or fs i f → f.number ≡ greatest_number fs
greatest_last [] i f r is here = absurd (omega arith)
greatest_last (x ∷ []) zero f r is here = ap (λ (y : SeenFuture). y.number) here ∙ omega arith
greatest_last (x ∷ y ∷ ys) zero f r is here = absurd (omega arith)
greatest_last (x ∷ []) (suc i) f r is here = absurd (omega arith)
greatest_last (x ∷ y ∷ ys) (suc i) f r is here =
    let rest = greatest_last (y ∷ ys) i f r.1 (omega arith) here in
    let more = greatest_past x.number (y ∷ ys) r.0 (omega arith) in
    omega (arith, rest, more)

-- ---- a block is cleared

keeps_other : (n : ℕ) (p : Part) (bs : List ℕ) → eqb p.join n ≡ false → filter (λ b. not (is_part n b p)) bs ≡ bs
keeps_other n p [] e = refl
keeps_other n p (b ∷ bs) e =
    ap (λ (t : Bool). cond (not (t && eqb p.block b)) (b ∷ filter (λ b. not (is_part n b p)) bs) (filter (λ b. not (is_part n b p)) bs)) e ∙ ap (λ (xs : List ℕ). b ∷ xs) (keeps_other n p bs e)

cleared_other : (p : Part) (f : SeenFuture) → (p.join ≡ f.number → ⊥) → cleared p f ≡ f
cleared_other p f other = λ i. record { number = f.number; blocks = keeps_other f.number p f.blocks (ne_eqb p.join f.number other) i; callbacks = f.callbacks; joins = f.joins }

-- what is changed at the place of a number, where the others stay
changed_past : (n : ℕ) (change : SeenFuture → SeenFuture) → ((f : SeenFuture) → (f.number ≡ n → ⊥) → change f ≡ f) → (u : ℕ) (fs : List SeenFuture) → ArePast u fs → n ≤ u → map change fs ≡ fs
changed_past n change other u [] past le = refl
changed_past n change other u (f ∷ fs) past le = λ i. other f (λ e. omega (arith, past.0, e, le)) i ∷ changed_past n change other u fs past.1 le i

pub changed_there : (n : ℕ) (change : SeenFuture → SeenFuture) → ((f : SeenFuture) → (f.number ≡ n → ⊥) → change f ≡ f) → (fs : List SeenFuture) (i : ℕ) (x d : SeenFuture) → AreRising fs → i ≡ lesser_count n fs → i < length fs → x ≡ change (get_or fs i d) → set fs i x ≡ map change fs
changed_there n change other [] i x d r is lt e = absurd (omega arith)
changed_there n change other (f ∷ fs) i x d r is lt e = go (ltb f.number n) refl is (λ j. changed_there n change other fs j x d r.1)
  where
    go : (b : Bool) → ltb f.number n ≡ b → i ≡ cond b (1 + lesser_count n fs) 0 → ((j : ℕ) → j ≡ lesser_count n fs → j < length fs → x ≡ change (get_or fs j d) → set fs j x ≡ map change fs) → set (f ∷ fs) i x ≡ map change (f ∷ fs)
    go true less is ih =
        let next : i ≡ suc (lesser_count n fs) = omega (arith, is) in
        let low = ltb-true f.number n less in
        ap (λ (k : ℕ). set (f ∷ fs) k x) next
        ∙ ap (λ (gs : List SeenFuture). f ∷ gs) (ih (lesser_count n fs) refl (omega (arith, next)) (e ∙ ap (λ (k : ℕ). change (get_or (f ∷ fs) k d)) next))
        ∙ ap (λ (g : SeenFuture). g ∷ map change fs) (sym (other f (λ q. omega (arith, low, q))))
    go false less is ih =
        let high = ltb-false f.number n less in
        ap (λ (k : ℕ). set (f ∷ fs) k x) is
        ∙ ap (λ (g : SeenFuture). g ∷ fs) (e ∙ ap (λ (k : ℕ). change (get_or (f ∷ fs) k d)) is)
        ∙ ap (λ (gs : List SeenFuture). change f ∷ gs) (sym (changed_past n change other f.number fs r.0 high))

pub changed_none : (n : ℕ) (change : SeenFuture → SeenFuture) → ((f : SeenFuture) → (f.number ≡ n → ⊥) → change f ≡ f) → (fs : List SeenFuture) → length fs ≤ lesser_count n fs → fs ≡ map change fs
changed_none n change other [] le = refl
changed_none n change other (f ∷ fs) le = go (ltb f.number n) refl le (changed_none n change other fs)
  where
    go : (b : Bool) → ltb f.number n ≡ b → length (f ∷ fs) ≤ cond b (1 + lesser_count n fs) 0 → (length fs ≤ lesser_count n fs → fs ≡ map change fs) → f ∷ fs ≡ map change (f ∷ fs)
    go true less le ih =
        let low = ltb-true f.number n less in
        ap (λ (g : SeenFuture). g ∷ fs) (sym (other f (λ q. omega (arith, low, q)))) ∙ ap (λ (gs : List SeenFuture). change f ∷ gs) (ih (omega arith))
    go false less le ih = absurd (omega arith)

pub cleared_there : (p : Part) (fs : List SeenFuture) (i : ℕ) (x d : SeenFuture) → AreRising fs → i ≡ lesser_count p.join fs → i < length fs → x ≡ cleared p (get_or fs i d) → set fs i x ≡ map (cleared p) fs
cleared_there p = changed_there p.join (cleared p) (λ f o. cleared_other p f (λ q. o (sym q)))

pub cleared_none : (p : Part) (fs : List SeenFuture) → length fs ≤ lesser_count p.join fs → fs ≡ map (cleared p) fs
cleared_none p = changed_none p.join (cleared p) (λ f o. cleared_other p f (λ q. o (sym q)))

-- ---- the numbers go on rising

past_map : (change : SeenFuture → SeenFuture) → ((f : SeenFuture) → (change f).number ≡ f.number) → (u : ℕ) (fs : List SeenFuture) → ArePast u fs → ArePast u (map change fs)
past_map change same u [] p = tt
past_map change same u (f ∷ fs) p = (subst (λ n. u < n) (sym (same f)) p.0, past_map change same u fs p.1)

pub rising_map : (change : SeenFuture → SeenFuture) → ((f : SeenFuture) → (change f).number ≡ f.number) → (fs : List SeenFuture) → AreRising fs → AreRising (map change fs)
rising_map change same [] r = tt
rising_map change same (f ∷ fs) r = (subst (λ n. ArePast n (map change fs)) (sym (same f)) (past_map change same f.number fs r.0), rising_map change same fs r.1)

past_take : (u k : ℕ) (fs : List SeenFuture) → ArePast u fs → ArePast u (take k fs)
past_take u zero fs p = tt
past_take u (suc k) [] p = tt
past_take u (suc k) (f ∷ fs) p = (p.0, past_take u k fs p.1)

rising_take : (k : ℕ) (fs : List SeenFuture) → AreRising fs → AreRising (take k fs)
rising_take zero fs r = tt
rising_take (suc k) [] r = tt
rising_take (suc k) (f ∷ fs) r = (past_take f.number k fs r.0, rising_take k fs r.1)

rising_next : (i k : ℕ) (fs : List SeenFuture) (e : SeenFuture) → i < length fs → AreRising fs → AreRising (take k (drop (suc i) (set fs i e)))
rising_next i k [] e lt r = absurd (omega arith)
rising_next zero k (f ∷ fs) e lt r = rising_take k fs r.1
rising_next (suc i) k (f ∷ fs) e lt r = rising_next i k fs e (omega arith) r.1

pub rising_behind : (i k : ℕ) (fs : List SeenFuture) (e : SeenFuture) → i < length fs → AreRising fs → AreRising (take k (drop (i + 1) (set fs i e)))
rising_behind i k fs e lt r = let one : suc i ≡ i + 1 = omega arith in subst (λ (n : ℕ). AreRising (take k (drop n (set fs i e)))) one (rising_next i k fs e lt r)

past_head : (u i : ℕ) (fs : List SeenFuture) → ArePast u fs → ArePast u (take i fs ++ head_settled (drop i fs))
past_head u zero [] p = tt
past_head u zero (f ∷ fs) p = go f.blocks
  where
    go : (bs : List ℕ) → ArePast u (first_settled bs f fs)
    go [] = (p.0, past_map (cleared_by f.joins) (λ f. refl) u fs p.1)
    go (b ∷ bs) = p
past_head u (suc i) [] p = tt
past_head u (suc i) (f ∷ fs) p = (p.0, past_head u i fs p.1)

pub rising_head : (i : ℕ) (fs : List SeenFuture) → AreRising fs → AreRising (take i fs ++ head_settled (drop i fs))
rising_head zero [] r = tt
rising_head zero (f ∷ fs) r = go f.blocks
  where
    go : (bs : List ℕ) → AreRising (first_settled bs f fs)
    go [] = (past_map (cleared_by f.joins) (λ f. refl) f.number fs r.0, rising_map (cleared_by f.joins) (λ f. refl) fs r.1)
    go (b ∷ bs) = r
rising_head (suc i) [] r = tt
rising_head (suc i) (f ∷ fs) r = (past_head f.number i fs r.0, rising_head i fs r.1)

-- ---- what has been passed on

pub passed_front : (i : ℕ) (fs : List SeenFuture) (x : SeenFuture) → HavePassedOn fs → HavePassedOn (take i (set fs i x))
passed_front zero fs x h = tt
passed_front (suc i) [] x h = tt
passed_front (suc i) (f ∷ fs) x h = (h.0, passed_front i fs x h.1)

open_passed : (bs : List ℕ) (joins : List Part) → is_some_block bs ≡ true → HasPassedOn bs joins
open_passed [] joins e = absurd cc
open_passed (b ∷ bs) joins e = tt

pub passed_open : (i : ℕ) (fs : List SeenFuture) (x : SeenFuture) → HavePassedOn fs → is_some_block x.blocks ≡ true → HavePassedOn (set fs i x)
passed_open i [] x h e = tt
passed_open zero (f ∷ fs) x h e = (open_passed x.blocks x.joins e, h.1)
passed_open (suc i) (f ∷ fs) x h e = (h.0, passed_open i fs x h.1 e)

-- The links of a join, one part after the other.
use Rattle.std.proofs.Common.{◌≡◌, ℕ, suc, ◌+◌, ◌-◌, ◌<◌, ◌≤◌, Bool, true, false, cond, ◌&&◌, eqb, List, [], ◌∷◌, ◌++◌, length, get_or, set, map, take, drop, refl, sym, ap, subst, ◌∙◌, append_assoc, arith}
use Rattle.std.proofs.Math.Seq.{drop-cons, take-append_seam}
use Rattle.std.proofs.lemmas.Bool.{eqb-true, eq-eqb, ne_eqb}
use Rattle.std.proofs.lemmas.List.{append-nil, length-append, get_or_default, take_all, take_more}
use Rattle.fb_bytes.proofs.Mapped.{drop-all}
use Rattle.task_futures.specs.Futures.{Part, SeenFuture, blocks_of, is_open, is_some_block, links_of, linked, next_number}
use Rattle.task_futures.specs.inner.Changes.{is_open_one, and_link, front, less_link, with_link, without_link, unlinked, linked_by, lesser_count}
use Rattle.task_futures.specs.Laws.{AreRising}
use Rattle.task_futures.proofs.Finding.{open_at, changed_there, changed_none, missing_all, rising_map}

-- ---- one future

pub front-append : (links : List Part) (link : Part) → front (links ++ link ∷ []) ≡ links
front-append links link =
    let n : length (links ++ link ∷ []) - 1 ≡ length links = omega (arith, length-append links (link ∷ [])) in
    ap (λ (k : ℕ). take k (links ++ link ∷ [])) n ∙ take-append_seam links (link ∷ [])

abbrev with_joins : SeenFuture → List Part → SeenFuture
with_joins f joins = record { number = f.number; blocks = f.blocks; callbacks = f.callbacks; joins = joins }

-- ---- one part

and_false : (b : Bool) → (b && false) ≡ false
and_false true = refl
and_false false = refl

link_other : (o : Bool) (n : ℕ) (link : Part) (f : SeenFuture) → (f.number ≡ n → ⊥) → and_link o n link f ≡ f
link_other o n link f other = ap (λ (b : Bool). with_joins f (cond (o && b) (f.joins ++ link ∷ []) f.joins)) (ne_eqb f.number n other) ∙ ap (λ (b : Bool). with_joins f (cond b (f.joins ++ link ∷ []) f.joins)) (and_false o)

less_other : (o : Bool) (n : ℕ) (f : SeenFuture) → (f.number ≡ n → ⊥) → less_link o n f ≡ f
less_other o n f other = ap (λ (b : Bool). with_joins f (cond (o && b) (front f.joins) f.joins)) (ne_eqb f.number n other) ∙ ap (λ (b : Bool). with_joins f (cond b (front f.joins) f.joins)) (and_false o)

pub open_there : (n : ℕ) (fs : List SeenFuture) (i : ℕ) (d : SeenFuture) → AreRising fs → i ≡ lesser_count n fs → i < length fs → is_open_one n (get_or fs i d) ≡ is_open n fs
open_there n fs i d r is lt = open_at n fs i (get_or fs i d) r is lt (get_or_default fs i d (get_or fs i d) lt)

pub link_there : (n : ℕ) (link : Part) (fs : List SeenFuture) (i : ℕ) (d x : SeenFuture) → AreRising fs → i ≡ lesser_count n fs → i < length fs → x ≡ and_link (is_open_one n (get_or fs i d)) n link (get_or fs i d) → set fs i x ≡ with_link n link fs
link_there n link fs i d x r is lt e =
    changed_there n (and_link (is_open n fs) n link) (link_other (is_open n fs) n link) fs i x d r is lt
    (e ∙ ap (λ (b : Bool). and_link b n link (get_or fs i d)) (open_there n fs i d r is lt))

pub link_none : (n : ℕ) (link : Part) (fs : List SeenFuture) → length fs ≤ lesser_count n fs → fs ≡ with_link n link fs
link_none n link fs le = changed_none n (and_link (is_open n fs) n link) (link_other (is_open n fs) n link) fs le

pub unlink_there : (n : ℕ) (fs : List SeenFuture) (i : ℕ) (d x : SeenFuture) → AreRising fs → i ≡ lesser_count n fs → i < length fs → x ≡ less_link (is_open_one n (get_or fs i d)) n (get_or fs i d) → set fs i x ≡ without_link n fs
unlink_there n fs i d x r is lt e =
    changed_there n (less_link (is_open n fs) n) (less_other (is_open n fs) n) fs i x d r is lt
    (e ∙ ap (λ (b : Bool). less_link b n (get_or fs i d)) (open_there n fs i d r is lt))

pub unlink_none : (n : ℕ) (fs : List SeenFuture) → length fs ≤ lesser_count n fs → fs ≡ without_link n fs
unlink_none n fs le = changed_none n (less_link (is_open n fs) n) (less_other (is_open n fs) n) fs le

pub none_open : (n : ℕ) (fs : List SeenFuture) → length fs ≤ lesser_count n fs → false ≡ is_open n fs
none_open n fs le = sym (ap is_some_block (missing_all n fs le))

-- ---- what a link leaves

blocks_map : (change : SeenFuture → SeenFuture) → ((f : SeenFuture) → (change f).number ≡ f.number) → ((f : SeenFuture) → (change f).blocks ≡ f.blocks) → (n : ℕ) (fs : List SeenFuture) → blocks_of n (map change fs) ≡ blocks_of n fs
blocks_map change number blocks n [] = refl
blocks_map change number blocks n (f ∷ fs) = λ i. cond (eqb (number f i) n) (blocks f i) (blocks_map change number blocks n fs i)

link_open : (p : ℕ) (link : Part) (fs : List SeenFuture) (q : ℕ) → is_open q (with_link p link fs) ≡ is_open q fs
link_open p link fs q = ap is_some_block (blocks_map (and_link (is_open p fs) p link) (λ f. refl) (λ f. refl) q fs)

less_more : (o : Bool) (p : ℕ) (link : Part) (f : SeenFuture) → less_link o p (and_link o p link f) ≡ f
less_more o p link f = ap (with_joins f) (go (o && eqb f.number p))
  where
    go : (t : Bool) → cond t (front (cond t (f.joins ++ link ∷ []) f.joins)) (cond t (f.joins ++ link ∷ []) f.joins) ≡ f.joins
    go true = front-append f.joins link
    go false = refl

all_less : (o : Bool) (p : ℕ) (link : Part) (fs : List SeenFuture) → map (less_link o p) (map (and_link o p link) fs) ≡ fs
all_less o p link [] = refl
all_less o p link (f ∷ fs) = λ i. less_more o p link f i ∷ all_less o p link fs i

undone : (p : ℕ) (link : Part) (fs : List SeenFuture) → without_link p (with_link p link fs) ≡ fs
undone p link fs = ap (λ (o : Bool). map (less_link o p) (with_link p link fs)) (link_open p link fs p) ∙ all_less (is_open p fs) p link fs

pub unlinked-append : (ps qs : List ℕ) (fs : List SeenFuture) → unlinked (ps ++ qs) fs ≡ unlinked ps (unlinked qs fs)
unlinked-append [] qs fs = refl
unlinked-append (p ∷ ps) qs fs = ap (without_link p) (unlinked-append ps qs fs)

same_test : (a b : ℕ) → eqb a b ≡ eqb b a
same_test a b = go (eqb b a) refl
  where
    go : (t : Bool) → eqb b a ≡ t → eqb a b ≡ t
    go true e = eq-eqb a b (sym (eqb-true b a e))
    go false e = ne_eqb a b (λ q. absurd (let wrong : true ≡ false = sym (eq-eqb b a (sym q)) ∙ e in cc))

linked_on : (join block p : ℕ) (ps : List ℕ) (old : List SeenFuture) (f : SeenFuture) → linked_by join (cond (is_open p old) (block + 1) block) ps old (and_link (is_open p old) p (record { join = join; block = block }) f) ≡ linked_by join block (p ∷ ps) old f
linked_on join block p ps old f =
    ap (with_joins f) (ap (λ (s : Bool). cond (is_open p old && s) (f.joins ++ link ∷ []) f.joins ++ links_of f.number join (cond (is_open p old) (block + 1) block) ps old) (same_test f.number p) ∙ go (is_open p old) (eqb p f.number))
  where
    link : Part
    link = record { join = join; block = block }

    go : (o s : Bool) → cond (o && s) (f.joins ++ link ∷ []) f.joins ++ links_of f.number join (cond o (block + 1) block) ps old ≡ f.joins ++ cond o (cond s (link ∷ links_of f.number join (block + 1) ps old) (links_of f.number join (block + 1) ps old)) (links_of f.number join block ps old)
    go false s = refl
    go true false = refl
    go true true = append_assoc f.joins (link ∷ []) (links_of f.number join (block + 1) ps old)

linked_all_on : (join block p : ℕ) (ps : List ℕ) (old fs : List SeenFuture) → map (linked_by join (cond (is_open p old) (block + 1) block) ps old) (map (and_link (is_open p old) p (record { join = join; block = block })) fs) ≡ map (linked_by join block (p ∷ ps) old) fs
linked_all_on join block p ps old [] = refl
linked_all_on join block p ps old (f ∷ fs) = λ i. linked_on join block p ps old f i ∷ linked_all_on join block p ps old fs i

linked_nothing : (join block : ℕ) (old fs : List SeenFuture) → map (linked_by join block [] old) fs ≡ fs
linked_nothing join block old [] = refl
linked_nothing join block old (f ∷ fs) = λ i. with_joins f (append-nil f.joins i) ∷ linked_nothing join block old fs i

-- ---- all parts

-- what the parts so far have linked
pub record LinkedSo (old : List SeenFuture) (join : ℕ) (parts : List ℕ) (i : ℕ) (now : List SeenFuture) (block : ℕ) : Type 0 where
  pub rising : AreRising now
  pub still : (p : ℕ) → is_open p now ≡ is_open p old
  pub rest : map (linked_by join block (drop i parts) old) now ≡ map (linked_by join 1 parts old) old
  pub back : unlinked (take i parts) now ≡ old
  pub low : block ≤ i + 1

pub linked_first : (old : List SeenFuture) (join : ℕ) (parts : List ℕ) → AreRising old → LinkedSo old join parts 0 old 1
linked_first old join parts r = record { rising = r; still = λ p. refl; rest = refl; back = refl; low = omega arith }

next_low : (o : Bool) (block i next : ℕ) → next ≡ cond o (block + 1) block → block ≤ i + 1 → next ≤ i + 1 + 1
next_low true block i next e le = omega arith
next_low false block i next e le = omega arith

pub linked_step : (old : List SeenFuture) (join : ℕ) (parts : List ℕ) (i : ℕ) (now new : List SeenFuture) (block next p : ℕ) (o : Bool) → i < length parts → p ≡ get_or parts i 0 → LinkedSo old join parts i now block → o ≡ is_open p now → next ≡ cond o (block + 1) block → new ≡ with_link p (record { join = join; block = block }) now → LinkedSo old join parts (i + 1) new next
linked_step old join parts i now new block next p o lt here so is_ nx made =
    let link : Part = record { join = join; block = block } in
    let one : suc i ≡ i + 1 = omega arith in
    let more : drop i parts ≡ p ∷ drop (i + 1) parts = drop-cons parts i 0 lt ∙ ap (λ (q : ℕ). q ∷ drop (suc i) parts) (sym here) ∙ ap (λ (n : ℕ). p ∷ drop n parts) one in
    let so_far : take (i + 1) parts ≡ take i parts ++ p ∷ [] = take_more parts i 0 lt ∙ ap (λ (q : ℕ). take i parts ++ q ∷ []) (sym here) in
    record {
      rising = subst AreRising (sym made) (rising_map (and_link (is_open p now) p link) (λ f. refl) now so.rising);
      still = λ q. ap (is_open q) made ∙ link_open p link now q ∙ so.still q;
      rest = ap (map (linked_by join next (drop (i + 1) parts) old)) made
          ∙ ap (λ (b : ℕ). map (linked_by join b (drop (i + 1) parts) old) (with_link p link now)) (nx ∙ ap (λ (t : Bool). cond t (block + 1) block) (is_ ∙ so.still p))
          ∙ ap (λ (t : Bool). map (linked_by join (cond (is_open p old) (block + 1) block) (drop (i + 1) parts) old) (map (and_link t p link) now)) (so.still p)
          ∙ linked_all_on join block p (drop (i + 1) parts) old now
          ∙ ap (λ (ps : List ℕ). map (linked_by join block ps old) now) (sym more)
          ∙ so.rest;
      back = ap (unlinked (take (i + 1) parts)) made ∙ ap (λ (ps : List ℕ). unlinked ps (with_link p link now)) so_far
          ∙ unlinked-append (take i parts) (p ∷ []) (with_link p link now) ∙ ap (unlinked (take i parts)) (undone p link now) ∙ so.back;
      low = next_low o block i next nx so.low;
    }

pub linked_last : (old : List SeenFuture) (join : ℕ) (parts : List ℕ) (i : ℕ) (now : List SeenFuture) (block : ℕ) → length parts ≤ i → join ≡ next_number old → LinkedSo old join parts i now block → now ≡ map (linked parts old) old
linked_last old join parts i now block le is so =
    sym (linked_nothing join block old now) ∙ ap (λ (ps : List ℕ). map (linked_by join block ps old) now) (sym (drop-all parts i le)) ∙ so.rest ∙ ap (λ (n : ℕ). map (linked_by n 1 parts old) old) is

pub linked_back : (old : List SeenFuture) (join : ℕ) (parts : List ℕ) (i : ℕ) (now : List SeenFuture) (block : ℕ) → length parts ≤ i → LinkedSo old join parts i now block → unlinked parts now ≡ old
linked_back old join parts i now block le so = ap (λ (ps : List ℕ). unlinked ps now) (sym (take_all i parts le)) ∙ so.back

-- ---- all taken off again

-- what is left to take off
pub record UnlinkedSo (old : List SeenFuture) (parts : List ℕ) (left : ℕ) (now : List SeenFuture) : Type 0 where
  pub rising : AreRising now
  pub rest : unlinked (take left parts) now ≡ unlinked parts old

pub unlinked_first : (old : List SeenFuture) (parts : List ℕ) (left : ℕ) → AreRising old → left ≡ length parts → UnlinkedSo old parts left old
unlinked_first old parts left r e = record { rising = r; rest = ap (λ (ps : List ℕ). unlinked ps old) (take_all left parts (omega arith)) }

pub unlinked_step : (old : List SeenFuture) (parts : List ℕ) (left at p : ℕ) (now new : List SeenFuture) → left ≡ at + 1 → at < length parts → p ≡ get_or parts at 0 → UnlinkedSo old parts left now → new ≡ without_link p now → UnlinkedSo old parts at new
unlinked_step old parts left at p now new e lt here so made = record {
  rising = subst AreRising (sym made) (rising_map (less_link (is_open p now) p) (λ f. refl) now so.rising);
  rest = ap (unlinked (take at parts)) made ∙ sym (unlinked-append (take at parts) (p ∷ []) now)
      ∙ ap (λ (ps : List ℕ). unlinked ps now) (sym (ap (λ (n : ℕ). take n parts) e ∙ take_more parts at 0 lt ∙ ap (λ (q : ℕ). take at parts ++ q ∷ []) (sym here))) ∙ so.rest;
}

pub unlinked_last : (old : List SeenFuture) (parts : List ℕ) (left : ℕ) (now : List SeenFuture) → left ≡ 0 → UnlinkedSo old parts left now → now ≡ unlinked parts old
unlinked_last old parts left now e so = ap (λ (n : ℕ). unlinked (take n parts) now) (sym e) ∙ so.rest

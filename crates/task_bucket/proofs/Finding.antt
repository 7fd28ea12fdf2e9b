-- The place of a task, where the uids rise, and what a change at that place is.
use Rattle.std.proofs.Common.{◌≡◌, ℕ, zero, suc, ◌+◌, ◌<◌, ◌≤◌, Bool, true, false, not, cond, ◌&&◌, ltb, eqb, List, [], ◌∷◌, length, get_or, set, map, Option, Some, None, refl, sym, ap, ◌∙◌, arith}
use Rattle.std.specs.List.{filter, remove, AllByRecursion}
use Rattle.std.proofs.lemmas.Bool.{ne_eqb, lt-ltb, le-ltb, ltb-true, ltb-false, lt-leb, leb-false}
use Rattle.task_bucket.specs.declared.held.Held.{Held}
use Rattle.task_bucket.specs.inner.Held.{ArePast, AreRising, held_is, first_held, is_upto, is_lesser, lesser_count, retimed_held}
use Rattle.fb_bytes.proofs.Halving.{Falls}

past_at : (u : ℕ) (hs : List Held) (j : ℕ) (d : Held) → ArePast u hs → j < length hs → u < (get_or hs j d).uid
past_at u [] j d p lt = absurd (omega arith)
past_at u (h ∷ hs) zero d p lt = p.0
past_at u (h ∷ hs) (suc j) d p lt = past_at u hs j d p.1 (omega arith)

less_past : (uid u : ℕ) (hs : List Held) → uid ≤ u → ArePast u hs → AllByRecursion (λ (h : Held). is_lesser uid h ≡ false) hs
less_past uid u [] le p = tt
less_past uid u (h ∷ hs) le p = (le-ltb h.uid uid (omega (arith, p.0, le)), less_past uid u hs le p.1)

-- once one hasn't a lesser uid, none behind it has
pub less_falls : (uid : ℕ) (hs : List Held) → AreRising hs → Falls (is_lesser uid) hs
less_falls uid [] r = tt
less_falls uid (h ∷ hs) r = ((λ e. less_past uid h.uid hs (ltb-false h.uid uid e) r.0), less_falls uid hs r.1)

upto_past : (uid u : ℕ) (hs : List Held) → uid ≤ u → ArePast u hs → AllByRecursion (λ (h : Held). is_upto uid h ≡ false) hs
upto_past uid u [] le p = tt
upto_past uid u (h ∷ hs) le p = (lt-leb h.uid uid (omega (arith, p.0, le)), upto_past uid u hs le p.1)

pub upto_falls : (uid : ℕ) (hs : List Held) → AreRising hs → Falls (is_upto uid) hs
upto_falls uid [] r = tt
upto_falls uid (h ∷ hs) r = ((λ e. let more = leb-false h.uid uid e in upto_past uid h.uid hs (omega (arith, more)) r.0), upto_falls uid hs r.1)

-- a task stands behind those with lesser uids
pub lesser_at : (hs : List Held) (i : ℕ) (d : Held) → AreRising hs → i < length hs → lesser_count (get_or hs i d).uid hs ≡ i
lesser_at [] i d r lt = absurd (omega arith)
lesser_at (h ∷ hs) zero d r lt = ap (λ (b : Bool). cond b (1 + lesser_count h.uid hs) 0) (le-ltb h.uid h.uid (omega arith))
lesser_at (h ∷ hs) (suc i) d r lt =
    let up = past_at h.uid hs i d r.0 (omega arith) in
    let rest = lesser_at hs i d r.1 (omega arith) in
    ap (λ (b : Bool). cond b (1 + lesser_count (get_or hs i d).uid hs) 0) (lt-ltb h.uid (get_or hs i d).uid up) ∙ omega (arith, rest)

-- ---- what is found

and_false : (b : Bool) → (b && false) ≡ false
and_false true = refl
and_false false = refl

other_is : (until uid : ℕ) (h : Held) → (h.uid ≡ uid → ⊥) → held_is until uid h ≡ false
other_is until uid h other = ap (λ (b : Bool). not h.free && eqb h.until until && b) (ne_eqb h.uid uid other) ∙ and_false (not h.free && eqb h.until until)

first_on : (until uid : ℕ) (h : Held) (hs : List Held) → held_is until uid h ≡ false → first_held until uid (h ∷ hs) ≡ first_held until uid hs
first_on until uid h hs e = ap (λ (b : Bool). cond b (Some h) (first_held until uid hs)) e

first_past : (until uid u : ℕ) (hs : List Held) → ArePast u hs → uid ≤ u → first_held until uid hs ≡ None
first_past until uid u [] p le = refl
first_past until uid u (h ∷ hs) p le = first_on until uid h hs (other_is until uid h (λ e. omega (arith, p.0, e, le))) ∙ first_past until uid u hs p.1 le

-- what stands at the place decides
first_at : (until uid : ℕ) (hs : List Held) (i : ℕ) (h : Held) → AreRising hs → i ≡ lesser_count uid hs → i < length hs → h ≡ get_or hs i h → first_held until uid hs ≡ cond (held_is until uid h) (Some h) None
first_at until uid [] i h r is lt here = absurd (omega arith)
first_at until uid (x ∷ xs) i h r is lt here = go (ltb x.uid uid) refl is (λ j. first_at until uid xs j h r.1)
  where
    go : (b : Bool) → ltb x.uid uid ≡ b → i ≡ cond b (1 + lesser_count uid xs) 0
        → ((j : ℕ) → j ≡ lesser_count uid xs → j < length xs → h ≡ get_or xs j h → first_held until uid xs ≡ cond (held_is until uid h) (Some h) None)
        → first_held until uid (x ∷ xs) ≡ cond (held_is until uid h) (Some h) None
    go true e is ih =
        let next : i ≡ suc (lesser_count uid xs) = omega (arith, is) in
        let less = ltb-true x.uid uid e in
        first_on until uid x xs (other_is until uid x (λ q. omega (arith, less, q)))
        ∙ ih (lesser_count uid xs) refl (omega (arith, next)) (here ∙ ap (λ (k : ℕ). get_or (x ∷ xs) k h) next)
    go false e is ih =
        let this : h ≡ x = here ∙ ap (λ (k : ℕ). get_or (x ∷ xs) k h) is in
        let more = ltb-false x.uid uid e in
        ap (λ (o : Option Held). cond (held_is until uid x) (Some x) o) (first_past until uid x.uid xs r.0 more)
        ∙ sym (ap (λ (y : Held). cond (held_is until uid y) (Some y) None) this)

pub first_there : (until uid : ℕ) (hs : List Held) (i : ℕ) (h : Held) → AreRising hs → i ≡ lesser_count uid hs → i < length hs → h ≡ get_or hs i h → held_is until uid h ≡ true → first_held until uid hs ≡ Some h
first_there until uid hs i h r is lt here e = first_at until uid hs i h r is lt here ∙ ap (λ (b : Bool). cond b (Some h) None) e

pub first_other : (until uid : ℕ) (hs : List Held) (i : ℕ) (h : Held) → AreRising hs → i ≡ lesser_count uid hs → i < length hs → h ≡ get_or hs i h → held_is until uid h ≡ false → first_held until uid hs ≡ None
first_other until uid hs i h r is lt here e = first_at until uid hs i h r is lt here ∙ ap (λ (b : Bool). cond b (Some h) None) e

pub first_none : (until uid : ℕ) (hs : List Held) → length hs ≤ lesser_count uid hs → first_held until uid hs ≡ None
first_none until uid [] le = refl
first_none until uid (x ∷ xs) le = go (ltb x.uid uid) refl le (first_none until uid xs)
  where
    go : (b : Bool) → ltb x.uid uid ≡ b → length (x ∷ xs) ≤ cond b (1 + lesser_count uid xs) 0 → (length xs ≤ lesser_count uid xs → first_held until uid xs ≡ None) → first_held until uid (x ∷ xs) ≡ None
    go true e le ih = let less = ltb-true x.uid uid e in first_on until uid x xs (other_is until uid x (λ q. omega (arith, less, q))) ∙ ih (omega arith)
    go false e le ih = absurd (omega arith)

-- ---- what is changed

-- the change leaves all with other uids
abbrev pub KeepsOthers : ℕ → (Held → Held) → Type 0
KeepsOthers uid f = (h : Held) → (h.uid ≡ uid → ⊥) → f h ≡ h

pub retimes_other : (until uid new : ℕ) → KeepsOthers uid (retimed_held until uid new)
retimes_other until uid new h other = ap (λ (b : Bool). let x : Held = record { uid = h.uid; until = cond b new h.until; free = h.free; task = h.task } in x) (other_is until uid h other)

kept_past : (uid : ℕ) (f : Held → Held) → KeepsOthers uid f → (u : ℕ) (hs : List Held) → ArePast u hs → uid ≤ u → map f hs ≡ hs
kept_past uid f k u [] p le = refl
kept_past uid f k u (h ∷ hs) p le = λ i. k h (λ e. omega (arith, p.0, e, le)) i ∷ kept_past uid f k u hs p.1 le i

pub changed_there : (uid : ℕ) (f : Held → Held) → KeepsOthers uid f → (hs : List Held) (i : ℕ) (x d : Held) → AreRising hs → i ≡ lesser_count uid hs → i < length hs → x ≡ f (get_or hs i d) → set hs i x ≡ map f hs
changed_there uid f k [] i x d r is lt e = absurd (omega arith)
changed_there uid f k (h ∷ hs) i x d r is lt e = go (ltb h.uid uid) refl is (λ j. changed_there uid f k hs j x d r.1)
  where
    go : (b : Bool) → ltb h.uid uid ≡ b → i ≡ cond b (1 + lesser_count uid hs) 0
        → ((j : ℕ) → j ≡ lesser_count uid hs → j < length hs → x ≡ f (get_or hs j d) → set hs j x ≡ map f hs)
        → set (h ∷ hs) i x ≡ map f (h ∷ hs)
    go true less is ih =
        let next : i ≡ suc (lesser_count uid hs) = omega (arith, is) in
        let low = ltb-true h.uid uid less in
        ap (λ (n : ℕ). set (h ∷ hs) n x) next
        ∙ ap (λ (ys : List Held). h ∷ ys) (ih (lesser_count uid hs) refl (omega (arith, next)) (e ∙ ap (λ (n : ℕ). f (get_or (h ∷ hs) n d)) next))
        ∙ ap (λ (y : Held). y ∷ map f hs) (sym (k h (λ q. omega (arith, low, q))))
    go false less is ih =
        let high = ltb-false h.uid uid less in
        ap (λ (n : ℕ). set (h ∷ hs) n x) is
        ∙ ap (λ (y : Held). y ∷ hs) (e ∙ ap (λ (n : ℕ). f (get_or (h ∷ hs) n d)) is)
        ∙ ap (λ (ys : List Held). f h ∷ ys) (sym (kept_past uid f k h.uid hs r.0 high))

pub changed_none : (uid : ℕ) (f : Held → Held) → KeepsOthers uid f → (hs : List Held) → length hs ≤ lesser_count uid hs → hs ≡ map f hs
changed_none uid f k [] le = refl
changed_none uid f k (h ∷ hs) le = go (ltb h.uid uid) refl le (changed_none uid f k hs)
  where
    go : (b : Bool) → ltb h.uid uid ≡ b → length (h ∷ hs) ≤ cond b (1 + lesser_count uid hs) 0 → (length hs ≤ lesser_count uid hs → hs ≡ map f hs) → h ∷ hs ≡ map f (h ∷ hs)
    go true less le ih =
        let low = ltb-true h.uid uid less in
        ap (λ (y : Held). y ∷ hs) (sym (k h (λ q. omega (arith, low, q)))) ∙ ap (λ (ys : List Held). f h ∷ ys) (ih (omega arith))
    go false less le ih = absurd (omega arith)

-- ---- what is taken out

-- the test fails for all with other uids
abbrev pub IsOf : ℕ → (Held → Bool) → Type 0
IsOf uid test = (h : Held) → (h.uid ≡ uid → ⊥) → test h ≡ false

pub lease_of_uid : (until uid : ℕ) → IsOf uid (held_is until uid)
lease_of_uid until uid h other = other_is until uid h other

pub uid_of_uid : (uid : ℕ) → IsOf uid (λ h. eqb h.uid uid)
uid_of_uid uid h other = ne_eqb h.uid uid other

out_past : (uid : ℕ) (test : Held → Bool) → IsOf uid test → (u : ℕ) (hs : List Held) → ArePast u hs → uid ≤ u → hs ≡ filter (λ h. not (test h)) hs
out_past uid test of u [] p le = refl
out_past uid test of u (h ∷ hs) p le =
    ap (λ (xs : List Held). h ∷ xs) (out_past uid test of u hs p.1 le) ∙ sym (ap (λ (b : Bool). cond (not b) (h ∷ filter (λ h. not (test h)) hs) (filter (λ h. not (test h)) hs)) (of h (λ e. omega (arith, p.0, e, le))))

-- one that stays in front
out_on : (test : Held → Bool) (h : Held) (hs new : List Held) → test h ≡ false → new ≡ filter (λ h. not (test h)) hs → h ∷ new ≡ filter (λ h. not (test h)) (h ∷ hs)
out_on test h hs new e is = ap (λ (xs : List Held). h ∷ xs) is ∙ sym (ap (λ (b : Bool). cond (not b) (h ∷ filter (λ h. not (test h)) hs) (filter (λ h. not (test h)) hs)) e)

pub out_none : (uid : ℕ) (test : Held → Bool) → IsOf uid test → (hs : List Held) → length hs ≤ lesser_count uid hs → hs ≡ filter (λ h. not (test h)) hs
out_none uid test of [] le = refl
out_none uid test of (h ∷ hs) le = go (ltb h.uid uid) refl le (out_none uid test of hs)
  where
    go : (b : Bool) → ltb h.uid uid ≡ b → length (h ∷ hs) ≤ cond b (1 + lesser_count uid hs) 0 → (length hs ≤ lesser_count uid hs → hs ≡ filter (λ h. not (test h)) hs) → h ∷ hs ≡ filter (λ h. not (test h)) (h ∷ hs)
    go true e le ih = let less = ltb-true h.uid uid e in out_on test h hs hs (of h (λ q. omega (arith, less, q))) (ih (omega arith))
    go false e le ih = absurd (omega arith)

pub out_there : (uid : ℕ) (test : Held → Bool) → IsOf uid test → (hs : List Held) (i : ℕ) (d : Held) → AreRising hs → i ≡ lesser_count uid hs → i < length hs → test (get_or hs i d) ≡ true → remove hs i ≡ filter (λ h. not (test h)) hs
out_there uid test of [] i d r is lt e = absurd (omega arith)
out_there uid test of (h ∷ hs) i d r is lt e = go (ltb h.uid uid) refl is (λ j. out_there uid test of hs j d r.1)
  where
    go : (b : Bool) → ltb h.uid uid ≡ b → i ≡ cond b (1 + lesser_count uid hs) 0 → ((j : ℕ) → j ≡ lesser_count uid hs → j < length hs → test (get_or hs j d) ≡ true → remove hs j ≡ filter (λ h. not (test h)) hs) → remove (h ∷ hs) i ≡ filter (λ h. not (test h)) (h ∷ hs)
    go true low is ih =
        let next : i ≡ suc (lesser_count uid hs) = omega (arith, is) in
        let less = ltb-true h.uid uid low in
        ap (remove (h ∷ hs)) next
        ∙ out_on test h hs (remove hs (lesser_count uid hs)) (of h (λ q. omega (arith, less, q))) (ih (lesser_count uid hs) refl (omega (arith, next)) (ap (λ (k : ℕ). test (get_or (h ∷ hs) k d)) (sym next) ∙ e))
    go false low is ih =
        let more = ltb-false h.uid uid low in
        let here : test h ≡ true = ap (λ (k : ℕ). test (get_or (h ∷ hs) k d)) (sym is) ∙ e in
        ap (remove (h ∷ hs)) is ∙ out_past uid test of h.uid hs r.0 more
        ∙ sym (ap (λ (b : Bool). cond (not b) (h ∷ filter (λ h. not (test h)) hs) (filter (λ h. not (test h)) hs)) here)

pub out_other : (uid : ℕ) (test : Held → Bool) → IsOf uid test → (hs : List Held) (i : ℕ) (d : Held) → AreRising hs → i ≡ lesser_count uid hs → i < length hs → test (get_or hs i d) ≡ false → hs ≡ filter (λ h. not (test h)) hs
out_other uid test of [] i d r is lt e = absurd (omega arith)
out_other uid test of (h ∷ hs) i d r is lt e = go (ltb h.uid uid) refl is (λ j. out_other uid test of hs j d r.1)
  where
    go : (b : Bool) → ltb h.uid uid ≡ b → i ≡ cond b (1 + lesser_count uid hs) 0 → ((j : ℕ) → j ≡ lesser_count uid hs → j < length hs → test (get_or hs j d) ≡ false → hs ≡ filter (λ h. not (test h)) hs) → h ∷ hs ≡ filter (λ h. not (test h)) (h ∷ hs)
    go true low is ih =
        let next : i ≡ suc (lesser_count uid hs) = omega (arith, is) in
        let less = ltb-true h.uid uid low in
        out_on test h hs hs (of h (λ q. omega (arith, less, q))) (ih (lesser_count uid hs) refl (omega (arith, next)) (ap (λ (k : ℕ). test (get_or (h ∷ hs) k d)) (sym next) ∙ e))
    go false low is ih =
        let more = ltb-false h.uid uid low in
        out_on test h hs hs (ap (λ (k : ℕ). test (get_or (h ∷ hs) k d)) (sym is) ∙ e) (out_past uid test of h.uid hs r.0 more)

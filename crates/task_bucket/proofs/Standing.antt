-- What stands in the lists, and where each uid stands once at most, how often.
use Rattle.std.proofs.Common.{◌≡◌, ℕ, Bool, true, false, cond, not, ◌||◌, ltb, leb, eqb, List, [], ◌∷◌, map, Some, ◌⊎◌, ⊎_elim, refl, sym, ap, ◌∙◌, arith, inl, inr}
use Rattle.std.specs.List.{filter}
use Rattle.std.proofs.lemmas.Bool.{and_parts, and_from, eqb-true, eq-eqb, le-leb, false_from_ne_true}
use Rattle.fb_bytes.specs.Options.{IsIn}
use Rattle.task_bucket.specs.Lists.{Lease, Slot, Lists, slot_with, lease_with, any_of, has_uid, put_slot, put_lease, is_lease, is_leased}
use Rattle.task_bucket.specs.Claims.{returned_to}
use Rattle.task_bucket.specs.Leases.{retimed_if}
use Rattle.task_bucket.specs.Sums.{weigh, is_uid, HasUidsOnce}
use Rattle.task_bucket.proofs.Totals.{any_counted, in_counts, in_found, not_one}
use Rattle.task_bucket.proofs.Weighing.{leases_once, WasLeased, due_in, all_laws}

-- ---- lists

pub not_both : (b : Bool) → not b ≡ true → b ≡ true → ⊥
not_both true e f = cc
not_both false e f = cc

-- what a filter leaves passes and was there
pub in_filter : {A : Type 0} (p : A → Bool) (x : A) (xs : List A) → IsIn x (filter p xs) → (p x ≡ true) × IsIn x xs
in_filter p x [] i = absurd i
in_filter p x (y ∷ ys) i = go (p y) refl i (in_filter p x ys)
  where
    go : (b : Bool) → p y ≡ b → IsIn x (cond b (y ∷ filter p ys) (filter p ys)) → (IsIn x (filter p ys) → (p x ≡ true) × IsIn x ys) → (p x ≡ true) × IsIn x (y ∷ ys)
    go true is (inl e) ih = (ap p e ∙ is, inl e)
    go true is (inr j) ih = let h = ih j in (h.0, inr h.1)
    go false is j ih = let h = ih j in (h.0, inr h.1)

-- each of a list that a function made comes from one
pub in_map : {A B : Type 0} (f : A → B) (x : B) (ys : List A) → IsIn x (map f ys) → (y : A) × IsIn y ys × (x ≡ f y)
in_map f x [] i = absurd i
in_map f x (y ∷ ys) (inl e) = (y, inl refl, e)
in_map f x (y ∷ ys) (inr i) = let h = in_map f x ys i in (h.0, inr h.1, h.2)

any_in : {A : Type 0} (p : A → Bool) (xs : List A) → any_of p xs ≡ true → (x : A) × IsIn x xs × (p x ≡ true)
any_in p [] e = absurd cc
any_in {A = A} p (x ∷ xs) e = go (p x) refl e (any_in p xs)
  where
    go : (b : Bool) → p x ≡ b → (b || any_of p xs) ≡ true → (any_of p xs ≡ true → (y : A) × IsIn y xs × (p y ≡ true)) → (y : A) × IsIn y (x ∷ xs) × (p y ≡ true)
    go true is e ih = (x, inl refl, is)
    go false is e ih = let h = ih e in (h.0, inr h.1, h.2)

in_any : {A : Type 0} (p : A → Bool) (x : A) (xs : List A) → IsIn x xs → p x ≡ true → any_of p xs ≡ true
in_any p x xs i e = any_counted p xs ∙ le-leb 1 _ (in_counts p x xs e i)

-- ---- what is put into a list

pub in_put_slot : (x slot : Slot) (ss : List Slot) → IsIn x (put_slot slot ss) → (x ≡ slot) ⊎ IsIn x ss
in_put_slot x slot [] i = i
in_put_slot x slot (s ∷ ss) i = go (ltb slot.uid s.uid) i (in_put_slot x slot ss)
  where
    go : (b : Bool) → IsIn x (cond b (slot ∷ s ∷ ss) (s ∷ put_slot slot ss)) → (IsIn x (put_slot slot ss) → (x ≡ slot) ⊎ IsIn x ss) → (x ≡ slot) ⊎ IsIn x (s ∷ ss)
    go true i ih = i
    go false (inl e) ih = inr (inl e)
    go false (inr j) ih = ⊎_elim (λ e. inl e) (λ k. inr (inr k)) (ih j)

pub in_put_lease : (x lease : Lease) (ls : List Lease) → IsIn x (put_lease lease ls) → (x ≡ lease) ⊎ IsIn x ls
in_put_lease x lease [] i = i
in_put_lease x lease (l ∷ ls) i = go (ltb lease.uid l.uid) i (in_put_lease x lease ls)
  where
    go : (b : Bool) → IsIn x (cond b (lease ∷ l ∷ ls) (l ∷ put_lease lease ls)) → (IsIn x (put_lease lease ls) → (x ≡ lease) ⊎ IsIn x ls) → (x ≡ lease) ⊎ IsIn x (l ∷ ls)
    go true i ih = i
    go false (inl e) ih = inr (inl e)
    go false (inr j) ih = ⊎_elim (λ e. inl e) (λ k. inr (inr k)) (ih j)

-- ---- leases that are held

pub lease_parts : (until uid : ℕ) (l : Lease) → is_lease until uid l ≡ true → (l.until ≡ until) × (l.uid ≡ uid)
lease_parts until uid l e = let h = and_parts (eqb l.until until) (eqb l.uid uid) e in (eqb-true l.until until h.0, eqb-true l.uid uid h.1)

pub parts_lease : (until uid : ℕ) (l : Lease) → l.until ≡ until → l.uid ≡ uid → is_lease until uid l ≡ true
parts_lease until uid l e f = and_from (eqb l.until until) (eqb l.uid uid) (eq-eqb l.until until e) (eq-eqb l.uid uid f)

-- a lease that is held stands in the list
abbrev pub Stands : ℕ → ℕ → List Lease → Type 0
Stands until uid ls = (l : Lease) × IsIn l ls × (l.until ≡ until) × (l.uid ≡ uid)

pub leased_in : (until uid : ℕ) (lists : Lists) → is_leased until uid lists ≡ true → Stands until uid lists.leased
leased_in until uid lists e =
    let h = any_in (is_lease until uid) lists.leased e in
    let p = lease_parts until uid h.0 h.2 in
    (h.0, h.1, p.0, p.1)

pub in_leased : (until uid : ℕ) (l : Lease) (lists : Lists) → IsIn l lists.leased → l.until ≡ until → l.uid ≡ uid → is_leased until uid lists ≡ true
in_leased until uid l lists i e f = in_any (is_lease until uid) l lists.leased i (parts_lease until uid l e f)

pub not_leased : (until uid : ℕ) (lists : Lists) → ((l : Lease) → IsIn l lists.leased → l.until ≡ until → l.uid ≡ uid → ⊥) → is_leased until uid lists ≡ false
not_leased until uid lists none = false_from_ne_true _ (λ e. let h = leased_in until uid lists e in none h.0 h.1 h.2 h.3)

-- ---- uids

-- where each uid stands once at most, a lease is told by it
pub one_lease : (lists : Lists) → HasUidsOnce lists → (x y : Lease) → IsIn x lists.leased → IsIn y lists.leased → x.uid ≡ y.uid → x ≡ y
one_lease lists once x y i j e =
    let a = in_found (lease_with y.uid) x lists.leased (eq-eqb x.uid y.uid e) (leases_once lists once y.uid) i in
    let b = in_found (lease_with y.uid) y lists.leased (eq-eqb y.uid y.uid refl) (leases_once lists once y.uid) j in
    let same : Some x ≡ Some y = sym a ∙ b in
    cc

-- and no task is available and leased
pub apart : (lists : Lists) → HasUidsOnce lists → (slot : Slot) (lease : Lease) → IsIn slot lists.available → IsIn lease lists.leased → slot.uid ≡ lease.uid → ⊥
apart lists once slot lease i j e =
    let a = in_counts (slot_with lease.uid) slot lists.available (eq-eqb slot.uid lease.uid e) i in
    let b = in_counts (lease_with lease.uid) lease lists.leased (eq-eqb lease.uid lease.uid refl) j in
    let both = once lease.uid in
    omega arith

pub has_none : (uid : ℕ) (lists : Lists) → has_uid uid lists ≡ false → weigh (is_uid uid) lists ≡ 0
has_none uid lists e = not_one _ (sym (all_laws.counted uid lists) ∙ e)

pub none_has : (uid : ℕ) (lists : Lists) → weigh (is_uid uid) lists ≡ 0 → has_uid uid lists ≡ false
none_has uid lists e = all_laws.counted uid lists ∙ ap (leb 1) e

-- ---- what went back

pub back_slots : (now : ℕ) (slots : List Slot) (leased : List Lease) (slot : Slot) → IsIn slot (returned_to now slots leased).available → IsIn slot slots ⊎ WasLeased now slot leased
back_slots now [] leased slot i = inr (due_in now slot leased i)
back_slots now (s ∷ ss) leased slot i = inl i

pub back_leases : (now : ℕ) (slots : List Slot) (leased : List Lease) (lease : Lease) → IsIn lease (returned_to now slots leased).leased → IsIn lease leased
back_leases now [] leased lease i = (in_filter (λ l. not (leb l.until now)) lease leased i).1
back_leases now (s ∷ ss) leased lease i = i

-- ---- where the leases have another until

-- what it came from
pub record Came (until uid new : ℕ) (ls : List Lease) (x : Lease) : Type 0 where
  pub from : Lease
  pub there : IsIn from ls
  pub uid_is : x.uid ≡ from.uid
  pub task_is : x.task ≡ from.task
  pub until_is : x.until ≡ cond (is_lease until uid from) new from.until

pub came : (until uid new : ℕ) (ls : List Lease) (x : Lease) → IsIn x (map (retimed_if until uid new) ls) → Came until uid new ls x
came until uid new ls x i =
    let h = in_map (retimed_if until uid new) x ls i in
    record {
      from = h.0;
      there = h.1;
      uid_is = ap (λ (l : Lease). l.uid) h.2;
      task_is = ap (λ (l : Lease). l.task) h.2;
      until_is = ap (λ (l : Lease). l.until) h.2;
    }

-- it has the new until, or its own
abbrev pub WasRetimed : (until uid new : ℕ) → Lease → Lease → Type 0
WasRetimed until uid new from x = ((from.until ≡ until) × (from.uid ≡ uid) × (x.until ≡ new)) ⊎ (x.until ≡ from.until)

pub was_retimed : (until uid new : ℕ) (from x : Lease) → x.until ≡ cond (is_lease until uid from) new from.until → WasRetimed until uid new from x
was_retimed until uid new from x e = go (is_lease until uid from) refl e
  where
    go : (b : Bool) → is_lease until uid from ≡ b → x.until ≡ cond b new from.until → WasRetimed until uid new from x
    go true is e = let p = lease_parts until uid from is in inl (p.0, p.1, e)
    go false is e = inr e

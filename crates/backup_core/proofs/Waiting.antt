-- A task that waited for a future is closed: what is due then, and what waits on.
use Rattle.std.proofs.Common.{◌≡◌, ℕ, ◌+◌, ◌≤◌, Bool, true, false, not, ◌&&◌, ◌||◌, cond, List, [], ◌∷◌, ◌++◌, length, map, Some, refl, sym, ap, ◌∙◌, subst, arith, ◌==◌}
use Rattle.std.proofs.lemmas.Bool.{eq-eqb, ne_eqb, eqb-true}
use Rattle.std.proofs.lemmas.List.{append-nil}
use Rattle.fb_bytes.proofs.Order.{not_both}
use Rattle.task_kinds.specs.Tasks.{SeenTask}
use Rattle.task_kinds.specs.Works.{BackupWork, of_backup, future_in, block_in}
use Rattle.task_bucket.specs.Laws.{SumsLaw}
use Rattle.task_bucket.specs.Leases.{after_finish}
use Rattle.task_bucket.specs.declared.Lease.{Lease}
use Rattle.task_bucket.specs.Lists.{Lists}
use Rattle.task_bucket.specs.Sums.{weigh, of_job}
use Rattle.task_futures.specs.declared.Part.{Part}
use Rattle.task_futures.specs.Futures.{SeenFuture, falls, left, is_some_block, becomes_set, newly_set, due_of, unblocked}
use Rattle.task_futures.specs.inner.Futures.{cleared_by}
use Rattle.task_futures.specs.Laws.{ArePast, AreRising, HasPassedOn, HavePassedOn, AreFutures, FuturesLaw}
use Rattle.task_futures.proofs.Falling.{settle_first, settle_nothing}
use Rattle.backup_core.specs.Counts.{one_if}
use Rattle.backup_core.specs.Futures.{future_at, count_of, waits_on, waits_elsewhere, IsWaiting, ClosesOne, Unblocks, WaitingLaw}
use Rattle.backup_core.specs.Tasks.{load_of}

or_false : (b : Bool) → (b || false) ≡ b
or_false true = refl
or_false false = refl

abbrev part : ℕ → ℕ → List Part
part number block = record { join = number; block = block } ∷ []

-- ---- what falls of the blocks of one future

other_falls : (number block n b : ℕ) → (n ≡ number → ⊥) → falls (part number block) n b ≡ false
other_falls number block n b h = ap (λ t. (t && block == b) || false) (ne_eqb number n (λ e. h (sym e)))

own_falls : (number block b : ℕ) → falls (part number block) number b ≡ (block == b)
own_falls number block b = ap (λ t. (t && block == b) || false) (eq-eqb number number refl) ∙ or_false (block == b)

left_other : (number block n : ℕ) → (n ≡ number → ⊥) → (bs : List ℕ) → left (part number block) n bs ≡ bs
left_other number block n h [] = refl
left_other number block n h (b ∷ bs) =
    ap (λ t. cond (not t) (b ∷ left (part number block) n bs) (left (part number block) n bs)) (other_falls number block n b h)
    ∙ ap (λ (x : List ℕ). b ∷ x) (left_other number block n h bs)

same_either : (t : Bool) (n : ℕ) → n ≡ cond t n n
same_either true n = refl
same_either false n = refl

left_count : (number block b : ℕ) (bs : List ℕ) → count_of b (left (part number block) number bs) ≡ cond (block == b) 0 (count_of b bs)
left_count number block b [] = same_either (block == b) 0
left_count number block b (c ∷ cs) =
    ap (λ t. count_of b (cond (not t) (c ∷ left (part number block) number cs) (left (part number block) number cs))) (own_falls number block c)
    ∙ go (block == c) (block == b) refl refl (left_count number block b cs)
  where
    go : (t u : Bool) → (block == c) ≡ t → (block == b) ≡ u → count_of b (left (part number block) number cs) ≡ cond u 0 (count_of b cs) → count_of b (cond (not t) (c ∷ left (part number block) number cs) (left (part number block) number cs)) ≡ cond u 0 (one_if (c == b) + count_of b cs)
    go true true p q ih = ih
    go true false p q ih =
        let e : block ≡ c = eqb-true block c p in
        let z : one_if (c == b) ≡ 0 = ap one_if (sym (ap (λ x. x == b) e) ∙ q) in
        omega arith
    go false true p q ih =
        let e : block ≡ b = eqb-true block b q in
        let z : one_if (c == b) ≡ 0 = ap one_if (ne_eqb c b (λ s. not_both (eq-eqb block c (e ∙ sym s)) p)) in
        omega arith
    go false false p q ih = ap (λ n. one_if (c == b) + n) ih

left_length : (number block : ℕ) (bs : List ℕ) → length (left (part number block) number bs) + count_of block bs ≡ length bs
left_length number block [] = refl
left_length number block (c ∷ cs) =
    ap (λ t. length (cond (not t) (c ∷ left (part number block) number cs) (left (part number block) number cs)) + count_of block (c ∷ cs)) (own_falls number block c)
    ∙ go (block == c) refl (left_length number block cs)
  where
    go : (t : Bool) → (block == c) ≡ t → length (left (part number block) number cs) + count_of block cs ≡ length cs → length (cond (not t) (c ∷ left (part number block) number cs) (left (part number block) number cs)) + (one_if (c == block) + count_of block cs) ≡ length (c ∷ cs)
    go true p ih = let z : one_if (c == block) ≡ 1 = ap one_if (eq-eqb c block (sym (eqb-true block c p))) in omega arith
    go false p ih = let z : one_if (c == block) ≡ 0 = ap one_if (ne_eqb c block (λ s. not_both (eq-eqb block c (sym s)) p)) in omega arith

-- ---- a future that waits for no other one

same_unset : (bs : List ℕ) → becomes_set bs bs ≡ false
same_unset [] = refl
same_unset (b ∷ bs) = refl

module _ (number block : ℕ) where
  other_newly : (g : SeenFuture) (rest : List SeenTask) → (g.number ≡ number → ⊥) → cond (becomes_set g.blocks (left (part number block) g.number g.blocks)) g.callbacks [] ++ rest ≡ rest
  other_newly g rest h =
      ap (λ (bs : List ℕ). cond (becomes_set g.blocks bs) g.callbacks [] ++ rest) (left_other number block g.number h g.blocks)
      ∙ ap (λ t. cond t g.callbacks [] ++ rest) (same_unset g.blocks)

  newly_none : (gs : List SeenFuture) → ArePast number gs → newly_set gs (map (cleared_by (part number block)) gs) ≡ []
  newly_none [] past = refl
  newly_none (g ∷ gs) past = other_newly g (newly_set gs (map (cleared_by (part number block)) gs)) (λ e. let l = past.0 in omega arith) ∙ newly_none gs past.1

  newly_one : (fs : List SeenFuture) (f : SeenFuture) → AreRising fs → future_at number fs ≡ Some f → newly_set fs (map (cleared_by (part number block)) fs) ≡ cond (becomes_set f.blocks (left (part number block) number f.blocks)) f.callbacks []
  newly_one [] f r e = absurd cc
  newly_one (g ∷ gs) f r e = go (newly_one gs f r.1) (g.number == number) refl e
    where
      go : (future_at number gs ≡ Some f → newly_set gs (map (cleared_by (part number block)) gs) ≡ cond (becomes_set f.blocks (left (part number block) number f.blocks)) f.callbacks []) → (t : Bool) → (g.number == number) ≡ t → cond t (Some g) (future_at number gs) ≡ Some f → newly_set (g ∷ gs) (map (cleared_by (part number block)) (g ∷ gs)) ≡ cond (becomes_set f.blocks (left (part number block) number f.blocks)) f.callbacks []
      go ih true p q =
          let n : g.number ≡ number = eqb-true g.number number p in
          let same : g ≡ f = cc in
          ap (λ (xs : List SeenTask). cond (becomes_set g.blocks (left (part number block) g.number g.blocks)) g.callbacks [] ++ xs) (newly_none gs (subst (λ (x : ℕ). ArePast x gs) n r.0))
          ∙ append-nil (cond (becomes_set g.blocks (left (part number block) g.number g.blocks)) g.callbacks [])
          ∙ ap (λ (x : ℕ). cond (becomes_set g.blocks (left (part number block) x g.blocks)) g.callbacks []) n
          ∙ ap (λ (h : SeenFuture). cond (becomes_set h.blocks (left (part number block) number h.blocks)) h.callbacks []) same
      go ih false p q = other_newly g (newly_set gs (map (cleared_by (part number block)) gs)) (λ s. not_both (eq-eqb g.number number s) p) ∙ ih q

  other_passes : (g : SeenFuture) → (g.number ≡ number → ⊥) → HasPassedOn g.blocks g.joins → HasPassedOn (left (part number block) g.number g.blocks) g.joins
  other_passes g h p = subst (λ (bs : List ℕ). HasPassedOn bs g.joins) (sym (left_other number block g.number h g.blocks)) p

  none_pass : (gs : List SeenFuture) → ArePast number gs → HavePassedOn gs → HavePassedOn (map (cleared_by (part number block)) gs)
  none_pass [] past p = tt
  none_pass (g ∷ gs) past p = (other_passes g (λ e. let l = past.0 in omega arith) p.0, none_pass gs past.1 p.1)

  nothing_passes : (bs : List ℕ) (joins : List Part) → joins ≡ [] → HasPassedOn bs joins
  nothing_passes [] joins e = e
  nothing_passes (b ∷ bs) joins e = tt

  one_passes : (fs : List SeenFuture) (f : SeenFuture) → AreRising fs → future_at number fs ≡ Some f → f.joins ≡ [] → HavePassedOn fs → HavePassedOn (map (cleared_by (part number block)) fs)
  one_passes [] f r e j p = tt
  one_passes (g ∷ gs) f r e j p = go (λ q. one_passes gs f r.1 q j p.1) (g.number == number) refl e
    where
      go : (future_at number gs ≡ Some f → HavePassedOn (map (cleared_by (part number block)) gs)) → (t : Bool) → (g.number == number) ≡ t → cond t (Some g) (future_at number gs) ≡ Some f → HavePassedOn (map (cleared_by (part number block)) (g ∷ gs))
      go ih true s q =
          let same : g ≡ f = cc in
          (nothing_passes (left (part number block) g.number g.blocks) g.joins (ap (λ (h : SeenFuture). h.joins) same ∙ j), none_pass gs (subst (λ (x : ℕ). ArePast x gs) (eqb-true g.number number s) r.0) p.1)
      go ih false s q = (other_passes g (λ e. not_both (eq-eqb g.number number e) s) p.0, ih q)

  -- the future without the block
  abbrev one_left : SeenFuture → SeenFuture
  one_left f = record { number = f.number; blocks = left (part number block) number f.blocks; callbacks = f.callbacks; joins = f.joins }

  one_found : (fs : List SeenFuture) (f : SeenFuture) → future_at number fs ≡ Some f → future_at number (map (cleared_by (part number block)) fs) ≡ Some (one_left f)
  one_found [] f e = absurd cc
  one_found (g ∷ gs) f e = go (one_found gs f) (g.number == number) refl e
    where
      go : (future_at number gs ≡ Some f → future_at number (map (cleared_by (part number block)) gs) ≡ Some (one_left f)) → (t : Bool) → (g.number == number) ≡ t → cond t (Some g) (future_at number gs) ≡ Some f → cond t (Some (cleared_by (part number block) g)) (future_at number (map (cleared_by (part number block)) gs)) ≡ Some (one_left f)
      go ih true s q =
          let same : g ≡ f = cc in
          ap (λ (x : ℕ). Some (record { number = g.number; blocks = left (part number block) x g.blocks; callbacks = g.callbacks; joins = g.joins })) (eqb-true g.number number s)
          ∙ ap (λ (h : SeenFuture). Some (one_left h)) same
      go ih false s q = ih q

  unblocked_is : (fs : List SeenFuture) (f : SeenFuture) → AreFutures fs → future_at number fs ≡ Some f → f.joins ≡ [] → unblocked number block fs ≡ map (cleared_by (part number block)) fs
  unblocked_is fs f are e j = settle_first (part number block) fs ∙ settle_nothing (map (cleared_by (part number block)) fs) (one_passes fs f are.rising e j are.passed_on)

  due_is : (fs : List SeenFuture) (f : SeenFuture) → AreFutures fs → future_at number fs ≡ Some f → f.joins ≡ [] → due_of number block fs ≡ cond (becomes_set f.blocks (left (part number block) number f.blocks)) f.callbacks []
  due_is fs f are e j = ap (newly_set fs) (unblocked_is fs f are e j) ∙ newly_one fs f are.rising e

-- ---- none is left

some_block : (b : ℕ) (bs : List ℕ) → count_of b bs ≡ 1 → is_some_block bs ≡ true
some_block b [] e = absurd (omega arith)
some_block b (c ∷ cs) e = refl

none_left : (bs : List ℕ) (n : ℕ) → n ≡ length bs → not (is_some_block bs) ≡ (n == 0)
none_left [] n e = sym (eq-eqb n 0 e)
none_left (b ∷ bs) n e = sym (ne_eqb n 0 (λ z. absurd (omega arith)))

-- ---- the tasks

future_here : (t : Bool) (n : ℕ) → n ≡ 1 → cond t 0 n ≡ 0 → t ≡ true
future_here true n o e = refl
future_here false n o e = absurd (omega arith)

module _ (sums : SumsLaw) (job : ℕ) (f : BackupWork → ℕ) (after : SeenTask) (lists : Lists) (futures : List SeenFuture) (lease : Lease) (task : SeenTask) (are : AreFutures futures) (w : IsWaiting job f after lists futures) (c : ClosesOne job f lists lease task) where
  -- the task takes off what it counts
  taken_off : (g : ℕ → SeenTask → ℕ) → weigh g (after_finish lease lists) + g lease.uid task ≡ weigh g lists
  taken_off g =
      let x = sums.finish g lease lists c.uids c.leased in
      let y = (sums.tasks lists c.uids).at g lease.uid task c.there in
      omega arith

  here : (future_in task.params == w.number) ≡ true
  here = future_here (future_in task.params == w.number) (of_job job (of_backup f) lease.uid task) c.counts (let x = taken_off (waits_elsewhere job f w.number) in let y = w.only in omega arith)

  counted : (b : ℕ) → waits_on job f w.number b lease.uid task ≡ one_if (block_in task.params == b)
  counted b =
      ap (λ t. cond (t && block_in task.params == b) (of_job job (of_backup f) lease.uid task) 0) here
      ∙ ap (λ n. cond (block_in task.params == b) n 0) c.counts

  held_left : (b : ℕ) → weigh (waits_on job f w.number b) (after_finish lease lists) + one_if (block_in task.params == b) ≡ count_of b w.future.blocks
  held_left b = let x = taken_off (waits_on job f w.number b) in let y = counted b in let z = w.held b in omega arith

  one_held : count_of (block_in task.params) w.future.blocks ≡ 1
  one_held =
      let x = held_left (block_in task.params) in
      let y : one_if (block_in task.params == block_in task.params) ≡ 1 = ap one_if (eq-eqb (block_in task.params) (block_in task.params) refl) in
      let z = w.once (block_in task.params) in
      omega arith

  abbrev rest : List ℕ
  rest = left (part w.number (block_in task.params)) w.number w.future.blocks

  all_left : load_of job (after_finish lease lists) f ≡ length rest
  all_left =
      let x = taken_off (of_job job (of_backup f)) in
      let y = c.counts in
      let z = w.all in
      let u = left_length w.number (block_in task.params) w.future.blocks in
      let o = one_held in
      omega arith

  still_once : (b : ℕ) → count_of b rest ≤ 1
  still_once b = go (block_in task.params == b) (left_count w.number (block_in task.params) b w.future.blocks)
    where
      go : (t : Bool) → count_of b rest ≡ cond t 0 (count_of b w.future.blocks) → count_of b rest ≤ 1
      go true e = omega arith
      go false e = let z = w.once b in omega arith

  still_held : (b : ℕ) → weigh (waits_on job f w.number b) (after_finish lease lists) ≡ count_of b rest
  still_held b = go (block_in task.params == b) refl (held_left b) (left_count w.number (block_in task.params) b w.future.blocks)
    where
      go : (t : Bool) → (block_in task.params == b) ≡ t → weigh (waits_on job f w.number b) (after_finish lease lists) + one_if t ≡ count_of b w.future.blocks → count_of b rest ≡ cond t 0 (count_of b w.future.blocks) → weigh (waits_on job f w.number b) (after_finish lease lists) ≡ count_of b rest
      go true p h e =
          let o : count_of b w.future.blocks ≡ 1 = subst (λ (x : ℕ). count_of x w.future.blocks ≡ 1) (eqb-true (block_in task.params) b p) one_held in
          omega arith
      go false p h e = omega arith

  -- the future's number is the one that the task has
  number_is : future_in task.params ≡ w.number
  number_is = eqb-true (future_in task.params) w.number here

  cleared_is : unblocked w.number (block_in task.params) futures ≡ map (cleared_by (part w.number (block_in task.params))) futures
  cleared_is = unblocked_is w.number (block_in task.params) futures w.future are w.found w.joins

  still_waiting : IsWaiting job f after (after_finish lease lists) (map (cleared_by (part w.number (block_in task.params))) futures)
  still_waiting = record {
    number = w.number;
    future = one_left w.number (block_in task.params) w.future;
    found = one_found w.number (block_in task.params) futures w.future w.found;
    callbacks = w.callbacks;
    joins = w.joins;
    once = still_once;
    held = still_held;
    only = let x = taken_off (waits_elsewhere job f w.number) in let y = w.only in omega arith;
    all = all_left;
  }

  after_last : due_of w.number (block_in task.params) futures ≡ cond (load_of job (after_finish lease lists) f == 0) (after ∷ []) []
  after_last =
      due_is w.number (block_in task.params) futures w.future are w.found w.joins
      ∙ ap (λ t. cond (t && not (is_some_block rest)) w.future.callbacks []) (some_block (block_in task.params) w.future.blocks one_held)
      ∙ ap (λ t. cond t w.future.callbacks []) (none_left rest (load_of job (after_finish lease lists) f) all_left)
      ∙ ap (λ (ts : List SeenTask). cond (load_of job (after_finish lease lists) f == 0) ts []) w.callbacks

  unblocks : FuturesLaw → Unblocks job f after (after_finish lease lists) futures w.number (block_in task.params)
  unblocks law = record {
    due = after_last;
    waiting = subst (IsWaiting job f after (after_finish lease lists)) (sym cleared_is) still_waiting;
    are = (law.kept futures are).unblock w.number (block_in task.params);
  }

  unblocks_task : FuturesLaw → Unblocks job f after (after_finish lease lists) futures (future_in task.params) (block_in task.params)
  unblocks_task law = subst (λ (n : ℕ). Unblocks job f after (after_finish lease lists) futures n (block_in task.params)) (sym number_is) (unblocks law)

pub waiting_law : SumsLaw → FuturesLaw → WaitingLaw
waiting_law sums law job f after lists futures lease task are w c = unblocks_task sums job f after lists futures lease task are w c law

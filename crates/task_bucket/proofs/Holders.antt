-- What agents remember of their leases, over all that happens.
use Rattle.std.proofs.Common.{◌≡◌, ◌≢◌, ℕ, zero, suc, ◌+◌, ◌<◌, ◌≤◌, Bool, true, false, cond, not, eqb, List, [], ◌∷◌, length, slice_set, Option, Some, None, option_map, ◌⊎◌, ⊎_elim, refl, sym, ap, subst, ◌∙◌, arith, inl, inr}
use Rattle.std.proofs.lemmas.Bool.{cases_lt, eq-eqb, ne_eqb}
use Rattle.fb_bytes.specs.Options.{IsIn}
use Rattle.task_kinds.specs.Tasks.{SeenTask}
use Rattle.task_bucket.specs.Lists.{Lease, Slot, Lists, nothing, slot_with, lease_with, added, added_asleep, without_uid, without_job, is_lease, is_leased}
use Rattle.task_bucket.specs.Claims.{lease_of, returned, chosen, claimed, leased_out, with_chosen, after_claim}
use Rattle.task_bucket.specs.Leases.{retimed, extended_in, extended, after_extend, after_finish}
use Rattle.task_bucket.specs.Sums.{weigh, is_uid, HasUidsOnce, task_at}
use Rattle.task_bucket.specs.Holders.{Holders, holder_at, HasFreshUids, Remembers, AreAlone, HoldersFacts, Adding, added_until, added_all}
use Rattle.task_bucket.specs.HoldersLaws.{KeepsHolders, TellsOfHolders, StaysStale, HoldersLaw}
use Rattle.task_bucket.proofs.Picks.{picked_in}
use Rattle.task_bucket.proofs.Totals.{in_counts}
use Rattle.task_bucket.proofs.Weighing.{returned_weighs, returned_once, finish_less, remove_less, WasLeased, extended_stood, all_laws}
use Rattle.task_bucket.proofs.Standing.{not_both, in_filter, in_put_slot, in_put_lease, lease_parts, parts_lease, Stands, leased_in, in_leased, not_leased, one_lease, apart, has_none, none_has, back_slots, back_leases, Came, came, was_retimed}

-- ---- what one agent remembers

-- who remembers a lease after a change remembers the new one, or is another one
abbrev Got : Holders → ℕ → Option Lease → ℕ → Lease → Type 0
Got hs agent v x held = ((x ≡ agent) × (v ≡ Some held)) ⊎ ((x ≡ agent → ⊥) × (holder_at hs x ≡ Some held))

got : (hs : Holders) (agent : ℕ) (v : Option Lease) (x : ℕ) (held : Lease) → holder_at (slice_set hs agent v) x ≡ Some held → Got hs agent v x held
got [] agent v x held e = absurd cc
got (h ∷ hs) zero v zero held e = inl (refl, e)
got (h ∷ hs) zero v (suc x) held e = inr ((λ q. omega arith), e)
got (h ∷ hs) (suc agent) v zero held e = inr ((λ q. omega arith), e)
got (h ∷ hs) (suc agent) v (suc x) held e = ⊎_elim (λ g. inl (ap suc g.0, g.1)) (λ g. inr ((λ q. g.0 (omega arith)), g.1)) (got hs agent v x held e)

forgot : (hs : Holders) (agent x : ℕ) (held : Lease) → holder_at (slice_set hs agent None) x ≡ Some held → holder_at hs x ≡ Some held
forgot hs agent x held e = ⊎_elim (λ g. absurd (let wrong : None ≡ Some held = g.1 in cc)) (λ g. g.1) (got hs agent None x held e)

-- ---- nothing that is leased comes back

-- Each task of the new lists was there, or its uid is new.
record Follows (next more : ℕ) (old new : Lists) : Type 0 where
  pub available : (slot : Slot) → IsIn slot new.available → IsIn slot old.available ⊎ (next ≤ slot.uid)
  pub leased : (lease : Lease) → IsIn lease new.leased → IsIn lease old.leased ⊎ (next ≤ lease.uid)
  pub least : next ≤ more
  pub once : HasUidsOnce new
  pub fresh : HasFreshUids more new

remembers_follows : (now next more : ℕ) (old new : Lists) (held : Lease) → Follows next more old new → Remembers now next old held → Remembers now more new held
remembers_follows now next more old new held f r = record {
  drawn = let d = r.drawn in let l = f.least in omega arith;
  available = λ slot i e. ⊎_elim (λ j. r.available slot j e) (λ ge. absurd (let d = r.drawn in omega arith)) (f.available slot i);
  leased = λ lease i e. ⊎_elim (λ j. r.leased lease j e) (λ ge. absurd (let d = r.drawn in omega arith)) (f.leased lease i);
}

-- no lease that someone remembers is held anew
held_before : (now next more : ℕ) (old new : Lists) (held : Lease) → Follows next more old new → Remembers now next old held → is_leased held.until held.uid new ≡ true → is_leased held.until held.uid old ≡ true
held_before now next more old new held f r e =
    let l = leased_in held.until held.uid new e in
    ⊎_elim (λ j. in_leased held.until held.uid l.0 old j l.2 l.3) (λ ge. absurd (let d = r.drawn in let u = l.3 in omega arith)) (f.leased l.0 l.1)

follows_keeps : (now next more : ℕ) (old new : Lists) (holders : Holders) → Follows next more old new → HoldersFacts now next old holders → HoldersFacts now more new holders
follows_keeps now next more old new holders f h = record {
  once = f.once;
  fresh = f.fresh;
  each = λ agent held e. remembers_follows now next more old new held f (h.each agent held e);
  alone = λ agent other first second e g u t l. h.alone agent other first second e g u t (held_before now next more old new first f (h.each agent first e) l);
}

follows_stale : (now next more : ℕ) (old new : Lists) (held : Lease) → Follows next more old new → Remembers now next old held → is_leased held.until held.uid old ≡ false → is_leased held.until held.uid new ≡ false
follows_stale now next more old new held f r stale = not_leased held.until held.uid new (λ l i t u. let yes = held_before now next more old new held f r (in_leased held.until held.uid l new i t u) in let wrong : true ≡ false = sym yes ∙ stale in cc)

-- sums that don't grow bring no uid
fresh_less : (next more : ℕ) (old new : Lists) → next ≤ more → ((uid : ℕ) → weigh (is_uid uid) new ≤ weigh (is_uid uid) old) → HasFreshUids next old → HasFreshUids more new
fresh_less next more old new le less fresh uid ge = none_has uid new (let a = less uid in let b = has_none uid old (fresh uid (omega arith)) in omega arith)

-- ---- adding

-- one task more, under the next uid
fresh_more : (next : ℕ) (task : SeenTask) (old new : Lists) → ((uid : ℕ) → weigh (is_uid uid) new ≡ is_uid uid next task + weigh (is_uid uid) old) → HasFreshUids next old → HasFreshUids (next + 1) new
fresh_more next task old new adds fresh uid ge =
    let zero : is_uid uid next task ≡ 0 = ap (λ (b : Bool). cond b 1 0) (ne_eqb next uid (λ e. omega arith)) in
    none_has uid new (let a = adds uid in let b = has_none uid old (fresh uid (omega arith)) in omega arith)

module _ (next : ℕ) (task : SeenTask) (lists : Lists) (once : HasUidsOnce lists) (fresh : HasFreshUids next lists) where
  add_follows : Follows next (next + 1) lists (added next task lists)
  add_follows = record {
    available = λ slot i. ⊎_elim (λ e. inr (let u : slot.uid ≡ next = ap (λ (s : Slot). s.uid) e in omega arith)) (λ j. inl j) (in_put_slot slot (record { uid = next; task = task }) lists.available i);
    leased = λ lease i. inl i;
    least = omega arith;
    once = (all_laws.once lists once).add next task (fresh next (omega arith));
    fresh = fresh_more next task lists (added next task lists) (λ uid. all_laws.add (is_uid uid) next task lists) fresh;
  }

  asleep_follows : (until : ℕ) → Follows next (next + 1) lists (added_asleep until next task lists)
  asleep_follows until = record {
    available = λ slot i. inl i;
    leased = λ lease i. ⊎_elim (λ e. inr (let u : lease.uid ≡ next = ap (λ (l : Lease). l.uid) e in omega arith)) (λ j. inl j) (in_put_lease lease (record { until = until; uid = next; task = task }) lists.leased i);
    least = omega arith;
    once = (all_laws.once lists once).add_asleep until next task (fresh next (omega arith));
    fresh = fresh_more next task lists (added_asleep until next task lists) (λ uid. all_laws.add_asleep (is_uid uid) until next task lists) fresh;
  }

  until_follows : (o : Option ℕ) → Follows next (next + 1) lists (added_until o next task lists)
  until_follows None = add_follows
  until_follows (Some until) = asleep_follows until

all_keeps : (now next : ℕ) (adds : List Adding) (lists : Lists) (holders : Holders) → HoldersFacts now next lists holders → HoldersFacts now (next + length adds) (added_all next adds lists) holders
all_keeps now next [] lists holders h = let same : next ≡ next + 0 = omega arith in subst (λ (n : ℕ). HoldersFacts now n lists holders) same h
all_keeps now next (x ∷ xs) lists holders h =
    let new : Lists = added_until x.until next x.task lists in
    let one = follows_keeps now next (next + 1) lists new holders (until_follows next x.task lists h.once h.fresh x.until) h in
    let same : next + 1 + length xs ≡ next + length (x ∷ xs) = omega arith in
    subst (λ (n : ℕ). HoldersFacts now n (added_all (next + 1) xs new) holders) same (all_keeps now (next + 1) xs new holders one)

all_gone : (now next : ℕ) (adds : List Adding) (lists : Lists) (holders : Holders) (held : Lease) → HoldersFacts now next lists holders → Remembers now next lists held → is_leased held.until held.uid lists ≡ false → is_leased held.until held.uid (added_all next adds lists) ≡ false
all_gone now next [] lists holders held h r gone = gone
all_gone now next (x ∷ xs) lists holders held h r gone =
    let new : Lists = added_until x.until next x.task lists in
    let f = until_follows next x.task lists h.once h.fresh x.until in
    all_gone now (next + 1) xs new holders held (follows_keeps now next (next + 1) lists new holders f h) (remembers_follows now next (next + 1) lists new held f r) (follows_stale now next (next + 1) lists new held f r gone)

-- ---- taking out

module _ (next : ℕ) (lists : Lists) (once : HasUidsOnce lists) (fresh : HasFreshUids next lists) where
  -- nothing comes, and each uid counts no more
  less_follows : (new : Lists) → ((slot : Slot) → IsIn slot new.available → IsIn slot lists.available) → ((lease : Lease) → IsIn lease new.leased → IsIn lease lists.leased) → ((uid : ℕ) → weigh (is_uid uid) new ≤ weigh (is_uid uid) lists) → Follows next next lists new
  less_follows new a b less = record {
    available = λ slot i. inl (a slot i);
    leased = λ lease i. inl (b lease i);
    least = omega arith;
    once = λ uid. let w = less uid in let o = once uid in omega arith;
    fresh = fresh_less next next lists new (omega arith) less fresh;
  }

  finish_follows : (lease : Lease) → Follows next next lists (after_finish lease lists)
  finish_follows lease = less_follows (after_finish lease lists) (λ slot i. i) (λ l i. (in_filter (λ x. not (is_lease lease.until lease.uid x)) l lists.leased i).1) (finish_less lease lists)

  drop_follows : (job : ℕ) → Follows next next lists (without_job job lists)
  drop_follows job = less_follows (without_job job lists) (λ slot i. (in_filter (λ s. not (eqb s.task.job job)) slot lists.available i).1) (λ lease i. (in_filter (λ l. not (eqb l.task.job job)) lease lists.leased i).1) (λ uid. all_laws.drop_less (is_uid uid) job lists)

  remove_follows : (uid : ℕ) → Follows next next lists (without_uid uid lists)
  remove_follows uid = less_follows (without_uid uid lists) (λ slot i. (in_filter (λ s. not (slot_with uid s)) slot lists.available i).1) (λ lease i. (in_filter (λ l. not (lease_with uid l)) lease lists.leased i).1) (remove_less uid lists)

-- ---- claiming

-- a task that may be claimed, of a lease that is remembered
remembers_back : (now next : ℕ) (lists : Lists) (held : Lease) → Remembers now next lists held → (slot : Slot) → IsIn slot (returned now lists).available → slot.uid ≡ held.uid → (held.until ≤ now) × (slot.task ≡ held.task)
remembers_back now next lists held r slot i e = ⊎_elim (λ j. r.available slot j e) was (back_slots now lists.available lists.leased slot i)
  where
    was : WasLeased now slot lists.leased → (held.until ≤ now) × (slot.task ≡ held.task)
    was w =
        let h = r.leased w.0 w.1 (ap (λ (s : Slot). s.uid) w.2 ∙ e) in
        let over : w.0.until ≤ now = w.3 in
        (⊎_elim (λ q. q) (λ q. omega arith) h.0, sym (ap (λ (s : Slot). s.task) w.2) ∙ h.1)

-- what a claim gives
record Claims (now until next : ℕ) (lists new : Lists) (lease : Lease) : Type 0 where
  pub until_is : lease.until ≡ until
  pub drawn : lease.uid < next
  -- whoever remembers its task has a lease whose time is over
  pub over : (held : Lease) → Remembers now next lists held → held.uid ≡ lease.uid → (held.until ≤ now) × (lease.task ≡ held.task)
  pub available : (slot : Slot) → IsIn slot new.available → (slot.uid ≡ lease.uid → ⊥) × IsIn slot (returned now lists).available
  pub leased : (x : Lease) → IsIn x new.leased → (x ≡ lease) ⊎ ((x.uid ≡ lease.uid → ⊥) × IsIn x lists.leased)

-- a uid that may be claimed was drawn
back_drawn : (now next : ℕ) (lists : Lists) (slot : Slot) → HasFreshUids next lists → IsIn slot (returned now lists).available → slot.uid < next
back_drawn now next lists slot fresh i = ⊎_elim (λ lt. lt) (λ ge. absurd (stood ge)) (cases_lt slot.uid next)
  where
    stood : next ≤ slot.uid → ⊥
    stood ge =
        let none = has_none slot.uid lists (fresh slot.uid ge) in
        let same = returned_weighs (is_uid slot.uid) now lists in
        let one = in_counts (slot_with slot.uid) slot (returned now lists).available (eq-eqb slot.uid slot.uid refl) i in
        omega arith

slot_claims : (now length next : ℕ) (lists : Lists) (slot : Slot) → HasUidsOnce lists → HasFreshUids next lists → IsIn slot (returned now lists).available → Claims now (now + length) next lists (leased_out (now + length) slot (returned now lists)) (lease_of (now + length) slot)
slot_claims now length next lists slot once fresh i = record {
  until_is = refl;
  drawn = back_drawn now next lists slot fresh i;
  over = λ held r e. remembers_back now next lists held r slot i (sym e);
  available = λ x j. let h = in_filter (λ s. not (slot_with slot.uid s)) x (returned now lists).available j in ((λ e. not_both (slot_with slot.uid x) h.0 (eq-eqb x.uid slot.uid e)), h.1);
  leased = λ x j. ⊎_elim (λ e. inl e) (λ k. inr ((λ e. apart (returned now lists) (returned_once now lists once) slot x i k (sym e)), back_leases now lists.available lists.leased x k)) (in_put_lease x (lease_of (now + length) slot) (returned now lists).leased j);
}

claim_gives : (now length pick next : ℕ) (lists : Lists) (lease : Lease) → HasUidsOnce lists → HasFreshUids next lists → claimed now length pick lists ≡ Some lease → Claims now (now + length) next lists (after_claim now length pick lists) lease
claim_gives now length pick next lists lease once fresh e = go (chosen now pick lists) refl e
  where
    go : (o : Option Slot) → chosen now pick lists ≡ o → option_map (lease_of (now + length)) o ≡ Some lease → Claims now (now + length) next lists (after_claim now length pick lists) lease
    go None is e = absurd cc
    go (Some slot) is e =
        let same : lease_of (now + length) slot ≡ lease = cc in
        subst (λ (o : Option Slot). Claims now (now + length) next lists (with_chosen (now + length) o lists (returned now lists)) lease) (sym is)
        (subst (λ (l : Lease). Claims now (now + length) next lists (leased_out (now + length) slot (returned now lists)) l) same
        (slot_claims now length next lists slot once fresh (picked_in pick (returned now lists).available slot is)))

claim_leaves : (now length pick : ℕ) (lists : Lists) → claimed now length pick lists ≡ None → after_claim now length pick lists ≡ lists
claim_leaves now length pick lists e = go (chosen now pick lists) e
  where
    go : (o : Option Slot) → option_map (lease_of (now + length)) o ≡ None → with_chosen (now + length) o lists (returned now lists) ≡ lists
    go None e = refl
    go (Some slot) e = absurd cc

claim_others : (now until next : ℕ) (lists new : Lists) (lease held : Lease) → Claims now until next lists new lease → Remembers now next lists held → Remembers now next new held
claim_others now until next lists new lease held c r = record {
  drawn = r.drawn;
  available = λ slot i e. remembers_back now next lists held r slot (c.available slot i).1 e;
  leased = λ x i e. ⊎_elim
      (λ q. let h = c.over held r (sym e ∙ ap (λ (l : Lease). l.uid) q) in (inl h.0, ap (λ (l : Lease). l.task) q ∙ h.1))
      (λ j. r.leased x j.1 e) (c.leased x i);
}

claim_own : (now until next : ℕ) (lists new : Lists) (lease : Lease) → Claims now until next lists new lease → Remembers now next new lease
claim_own now until next lists new lease c = record {
  drawn = c.drawn;
  available = λ slot i e. absurd ((c.available slot i).0 e);
  leased = λ x i e. ⊎_elim (λ q. (inr (ap (λ (l : Lease). l.until) q), ap (λ (l : Lease). l.task) q)) (λ j. absurd (j.0 e)) (c.leased x i);
}

claim_stale : (now until next : ℕ) (lists new : Lists) (lease held : Lease) → now < until → Claims now until next lists new lease → Remembers now next lists held → is_leased held.until held.uid lists ≡ false → is_leased held.until held.uid new ≡ false
claim_stale now until next lists new lease held pos c r stale = not_leased held.until held.uid new (λ x i t u. ⊎_elim (own x t u) (λ j. before x j.1 t u) (c.leased x i))
  where
    own : (x : Lease) → x.until ≡ held.until → x.uid ≡ held.uid → x ≡ lease → ⊥
    own x t u q =
        let over = (c.over held r (sym u ∙ ap (λ (l : Lease). l.uid) q)).0 in
        let same : x.until ≡ lease.until = ap (λ (l : Lease). l.until) q in
        let is = c.until_is in
        omega arith

    before : (x : Lease) → IsIn x lists.leased → x.until ≡ held.until → x.uid ≡ held.uid → ⊥
    before x i t u = let wrong : true ≡ false = sym (in_leased held.until held.uid x lists i t u) ∙ stale in cc

-- an agent remembers the lease that it claimed, or is another one
module _ (now until next : ℕ) (lists new : Lists) (holders : Holders) (agent : ℕ) (lease : Lease) (pos : now < until) (c : Claims now until next lists new lease) (h : HoldersFacts now next lists holders) where
  claim_each : (x : ℕ) (held : Lease) → holder_at (slice_set holders agent (Some lease)) x ≡ Some held → Remembers now next new held
  claim_each x held e = ⊎_elim
      (λ g. let same : lease ≡ held = cc (g.1) in subst (Remembers now next new) same (claim_own now until next lists new lease c))
      (λ g. claim_others now until next lists new lease held c (h.each x held g.1)) (got holders agent (Some lease) x held e)

  -- what another agent remembers isn't this lease
  claim_clash : (held : Lease) → Remembers now next lists held → held.uid ≡ lease.uid → held.until ≡ lease.until → ⊥
  claim_clash held r u t = let over = (c.over held r u).0 in let is = c.until_is in omega arith

  claim_alone : AreAlone new (slice_set holders agent (Some lease))
  claim_alone x y first second e f u t l = go (got holders agent (Some lease) x first e) (got holders agent (Some lease) y second f)
    where
      old : Remembers now next lists first → is_leased first.until first.uid lists ≡ true
      old r =
          let i = leased_in first.until first.uid new l in
          ⊎_elim
          (λ q. absurd (claim_clash first r (sym i.3 ∙ ap (λ (z : Lease). z.uid) q) (sym i.2 ∙ ap (λ (z : Lease). z.until) q)))
          (λ j. in_leased first.until first.uid i.0 lists j.1 i.2 i.3) (c.leased i.0 i.1)

      go : Got holders agent (Some lease) x first → Got holders agent (Some lease) y second → x ≡ y
      go (inl p) (inl q) = p.0 ∙ sym q.0
      go (inl p) (inr q) = let m : lease ≡ first = cc (p.1) in absurd (claim_clash second (h.each y second q.1) (sym u ∙ sym (ap (λ (z : Lease). z.uid) m)) (sym t ∙ sym (ap (λ (z : Lease). z.until) m)))
      go (inr p) (inl q) = let m : lease ≡ second = cc (q.1) in absurd (claim_clash first (h.each x first p.1) (u ∙ sym (ap (λ (z : Lease). z.uid) m)) (t ∙ sym (ap (λ (z : Lease). z.until) m)))
      go (inr p) (inr q) = h.alone x y first second p.1 q.1 u t (old (h.each x first p.1))

claim_keeps : (now length pick next : ℕ) (lists : Lists) (holders : Holders) (agent : ℕ) (lease : Lease) → 1 ≤ length → claimed now length pick lists ≡ Some lease → HoldersFacts now next lists holders → HoldersFacts now next (after_claim now length pick lists) (slice_set holders agent (Some lease))
claim_keeps now length pick next lists holders agent lease pos e h =
    let new : Lists = after_claim now length pick lists in
    let c = claim_gives now length pick next lists lease h.once h.fresh e in
    record {
      once = (all_laws.once lists h.once).claim now length pick;
      fresh = fresh_less next next lists new (omega arith) (λ uid. let w = all_laws.claim (is_uid uid) now length pick lists h.once in omega arith) h.fresh;
      each = claim_each now (now + length) next lists new holders agent lease (omega arith) c h;
      alone = claim_alone now (now + length) next lists new holders agent lease (omega arith) c h;
    }

-- ---- extending

-- the lease that an agent extends
record Extends (now until next : ℕ) (lists : Lists) (holders : Holders) (agent : ℕ) (held new : Lease) : Type 0 where
  pub has : holder_at holders agent ≡ Some held
  pub from : Lease
  pub there : IsIn from lists.leased
  pub from_until : from.until ≡ held.until
  pub from_uid : from.uid ≡ held.uid
  pub until_is : new.until ≡ until
  pub uid_is : new.uid ≡ held.uid
  pub task_is : new.task ≡ from.task

extend_gives : (now until next : ℕ) (lists : Lists) (holders : Holders) (agent : ℕ) (held new : Lease) → holder_at holders agent ≡ Some held → extended held until lists ≡ Some new → Extends now until next lists holders agent held new
extend_gives now until next lists holders agent held new has e =
    let s = extended_stood held.until held.uid until new lists.leased e in
    let p = lease_parts held.until held.uid s.0 s.2 in
    record {
      has = has;
      from = s.0;
      there = s.1;
      from_until = p.0;
      from_uid = p.1;
      until_is = sym (ap (λ (l : Lease). l.until) s.3);
      uid_is = sym (ap (λ (l : Lease). l.uid) s.3) ∙ p.1;
      task_is = sym (ap (λ (l : Lease). l.task) s.3);
    }

module _ (now until next : ℕ) (lists : Lists) (holders : Holders) (agent : ℕ) (held new : Lease) (pos : now < until) (x : Extends now until next lists holders agent held new) (h : HoldersFacts now next lists holders) where
  abbrev after : Lists
  after = after_extend held until lists

  extend_leased : is_leased held.until held.uid lists ≡ true
  extend_leased = in_leased held.until held.uid x.from lists x.there x.from_until x.from_uid

  -- the lease that another agent remembers of this task is over
  extend_over : (other : ℕ) (o : Lease) → (other ≡ agent → ⊥) → holder_at holders other ≡ Some o → o.uid ≡ held.uid → o.until ≤ now
  extend_over other o ne e u = ⊎_elim (λ q. q) (λ q. absurd (ne (sym (h.alone agent other held o x.has e (sym u) (sym x.from_until ∙ q) extend_leased)))) ((h.each other o e).leased x.from x.there (x.from_uid ∙ sym u)).0

  extend_others : (other : ℕ) (o : Lease) → (other ≡ agent → ⊥) → holder_at holders other ≡ Some o → Remembers now next after o
  extend_others other o ne e = record {
    drawn = (h.each other o e).drawn;
    available = (h.each other o e).available;
    leased = λ l i u. leases l u (came held.until held.uid until lists.leased l i);
  }
    where
      leases : (l : Lease) → l.uid ≡ o.uid → Came held.until held.uid until lists.leased l → ((o.until ≤ now) ⊎ (l.until ≡ o.until)) × (l.task ≡ o.task)
      leases l u c =
          let r = (h.each other o e).leased c.from c.there (sym c.uid_is ∙ u) in
          (⊎_elim (λ q. inl (extend_over other o ne e (sym u ∙ c.uid_is ∙ q.1))) (λ q. ⊎_elim (λ le. inl le) (λ g. inr (q ∙ g)) r.0) (was_retimed held.until held.uid until c.from l c.until_is), c.task_is ∙ r.1)

  extend_own : Remembers now next after new
  extend_own = record {
    drawn = let d = (h.each agent held x.has).drawn in let u = x.uid_is in omega arith;
    available = λ slot i u. absurd (apart lists h.once slot x.from i x.there (u ∙ x.uid_is ∙ sym x.from_uid));
    leased = λ l i u. leases l u (came held.until held.uid until lists.leased l i);
  }
    where
      leases : (l : Lease) → l.uid ≡ new.uid → Came held.until held.uid until lists.leased l → ((new.until ≤ now) ⊎ (l.until ≡ new.until)) × (l.task ≡ new.task)
      leases l u c =
          let one : c.from ≡ x.from = one_lease lists h.once c.from x.from c.there x.there (sym c.uid_is ∙ u ∙ x.uid_is ∙ sym x.from_uid) in
          let is : is_lease held.until held.uid c.from ≡ true = parts_lease held.until held.uid c.from (ap (λ (z : Lease). z.until) one ∙ x.from_until) (ap (λ (z : Lease). z.uid) one ∙ x.from_uid) in
          (inr (c.until_is ∙ ap (λ (b : Bool). cond b until c.from.until) is ∙ sym x.until_is), c.task_is ∙ ap (λ (z : Lease). z.task) one ∙ sym x.task_is)

  extend_each : (z : ℕ) (o : Lease) → holder_at (slice_set holders agent (Some new)) z ≡ Some o → Remembers now next after o
  extend_each z o e = ⊎_elim
      (λ g. let same : new ≡ o = cc (g.1) in subst (Remembers now next after) same extend_own)
      (λ g. extend_others z o g.0 g.1) (got holders agent (Some new) z o e)

  extend_clash : (other : ℕ) (o : Lease) → (other ≡ agent → ⊥) → holder_at holders other ≡ Some o → o.uid ≡ held.uid → o.until ≡ until → ⊥
  extend_clash other o ne e u t = let over = extend_over other o ne e u in omega arith

  extend_alone : AreAlone after (slice_set holders agent (Some new))
  extend_alone a b first second e f u t l = go (got holders agent (Some new) a first e) (got holders agent (Some new) b second f)
    where
      old : (a ≡ agent → ⊥) → holder_at holders a ≡ Some first → is_leased first.until first.uid lists ≡ true
      old ne has =
          let i = leased_in first.until first.uid after l in
          let c = came held.until held.uid until lists.leased i.0 i.1 in
          ⊎_elim
          (λ q. absurd (extend_clash a first ne has (sym i.3 ∙ c.uid_is ∙ q.1) (sym i.2 ∙ q.2)))
          (λ q. in_leased first.until first.uid c.from lists c.there (sym q ∙ i.2) (sym c.uid_is ∙ i.3))
          (was_retimed held.until held.uid until c.from i.0 c.until_is)

      go : Got holders agent (Some new) a first → Got holders agent (Some new) b second → a ≡ b
      go (inl p) (inl q) = p.0 ∙ sym q.0
      go (inl p) (inr q) = let m : new ≡ first = cc (p.1) in absurd (extend_clash b second q.0 q.1 (sym u ∙ sym (ap (λ (z : Lease). z.uid) m) ∙ x.uid_is) (sym t ∙ sym (ap (λ (z : Lease). z.until) m) ∙ x.until_is))
      go (inr p) (inl q) = let m : new ≡ second = cc (q.1) in absurd (extend_clash a first p.0 p.1 (u ∙ sym (ap (λ (z : Lease). z.uid) m) ∙ x.uid_is) (t ∙ sym (ap (λ (z : Lease). z.until) m) ∙ x.until_is))
      go (inr p) (inr q) = h.alone a b first second p.1 q.1 u t (old p.0 p.1)

extend_keeps : (now length next : ℕ) (lists : Lists) (holders : Holders) (agent : ℕ) (held new : Lease) → 1 ≤ length → holder_at holders agent ≡ Some held → extended held (now + length) lists ≡ Some new → HoldersFacts now next lists holders → HoldersFacts now next (after_extend held (now + length) lists) (slice_set holders agent (Some new))
extend_keeps now length next lists holders agent held new pos has e h =
    let x = extend_gives now (now + length) next lists holders agent held new has e in
    let after : Lists = after_extend held (now + length) lists in
    record {
      once = (all_laws.once lists h.once).extend held (now + length);
      fresh = fresh_less next next lists after (omega arith) (λ uid. let w = all_laws.extend (is_uid uid) held (now + length) lists in omega arith) h.fresh;
      each = extend_each now (now + length) next lists holders agent held new (omega arith) x h;
      alone = extend_alone now (now + length) next lists holders agent held new (omega arith) x h;
    }

-- whoever's lease is extended, one that isn't held is no more
extend_stale : (now until next : ℕ) (lists : Lists) (lease held : Lease) → now < until → Remembers now next lists held → is_leased held.until held.uid lists ≡ false → is_leased held.until held.uid (after_extend lease until lists) ≡ false
extend_stale now until next lists lease held pos r stale = not_leased held.until held.uid (after_extend lease until lists) (λ l i t u. leases l t u (came lease.until lease.uid until lists.leased l i))
  where
    before : (l : Lease) → IsIn l lists.leased → l.until ≡ held.until → l.uid ≡ held.uid → ⊥
    before l i t u = let wrong : true ≡ false = sym (in_leased held.until held.uid l lists i t u) ∙ stale in cc

    leases : (l : Lease) → l.until ≡ held.until → l.uid ≡ held.uid → Came lease.until lease.uid until lists.leased l → ⊥
    leases l t u c =
        let own = sym c.uid_is ∙ u in
        ⊎_elim
        (λ q. let is = q.2 in ⊎_elim (λ le. omega arith) (λ e. before c.from c.there e own) (r.leased c.from c.there own).0)
        (λ q. before c.from c.there (sym q ∙ t) own)
        (was_retimed lease.until lease.uid until c.from l c.until_is)

-- a lease that is held is extended
extends_it : (until uid new : ℕ) (ls : List Lease) (l : Lease) → IsIn l ls → is_lease until uid l ≡ true → (x : Lease) × (extended_in until uid new ls ≡ Some x)
extends_it until uid new [] l i e = absurd i
extends_it until uid new (y ∷ ys) l i e = go (is_lease until uid y) refl i (λ j. extends_it until uid new ys l j e)
  where
    go : (b : Bool) → is_lease until uid y ≡ b → IsIn l (y ∷ ys) → (IsIn l ys → (x : Lease) × (extended_in until uid new ys ≡ Some x)) → (x : Lease) × (cond b (Some (retimed new y)) (extended_in until uid new ys) ≡ Some x)
    go true is i ih = (retimed new y, refl)
    go false is (inl q) ih = absurd (let wrong : true ≡ false = sym e ∙ ap (is_lease until uid) q ∙ is in cc)
    go false is (inr j) ih = ih j

-- ---- what the facts tell

retimed_same : (until : ℕ) (a b : Lease) → a.uid ≡ b.uid → a.task ≡ b.task → retimed until a ≡ retimed until b
retimed_same until a b u t = λ i. record { until = until; uid = u i; task = t i }

module _ (now next : ℕ) (lists : Lists) (holders : Holders) (h : HoldersFacts now next lists holders) where
  tells_extend : (agent until : ℕ) (held : Lease) → holder_at holders agent ≡ Some held → is_leased held.until held.uid lists ≡ true → extended held until lists ≡ Some (retimed until held)
  tells_extend agent until held has is =
      let l = leased_in held.until held.uid lists is in
      let f = extends_it held.until held.uid until lists.leased l.0 l.1 (parts_lease held.until held.uid l.0 l.2 l.3) in
      let s = extended_stood held.until held.uid until f.0 lists.leased f.1 in
      let p = lease_parts held.until held.uid s.0 s.2 in
      let t = ((h.each agent held has).leased s.0 s.1 p.1).1 in
      f.1 ∙ ap Some (sym s.3 ∙ retimed_same until s.0 held p.1 t)

  tells_task : (agent : ℕ) (held : Lease) → holder_at holders agent ≡ Some held → is_leased held.until held.uid lists ≡ true → task_at held.uid lists ≡ Some held.task
  tells_task agent held has is =
      let l = leased_in held.until held.uid lists is in
      let t = ((h.each agent held has).leased l.0 l.1 l.3).1 in
      ap (λ (uid : ℕ). task_at uid lists) (sym l.3) ∙ (all_laws.tasks lists h.once).leased l.0 l.1 ∙ ap Some t

  tells_others : (agent other : ℕ) (held stale : Lease) → holder_at holders agent ≡ Some held → holder_at holders other ≡ Some stale → other ≢ agent → stale.uid ≡ held.uid → is_leased held.until held.uid lists ≡ true → (stale.until ≢ held.until) × (is_leased stale.until stale.uid lists ≡ false)
  tells_others agent other held stale has hides ne u is = (differs, not_leased stale.until stale.uid lists none)
    where
      stood : Stands held.until held.uid lists.leased
      stood = leased_in held.until held.uid lists is

      differs : stale.until ≡ held.until → ⊥
      differs e = ne (h.alone other agent stale held hides has u e (in_leased stale.until stale.uid stood.0 lists stood.1 (stood.2 ∙ sym e) (stood.3 ∙ sym u)))

      none : (l : Lease) → IsIn l lists.leased → l.until ≡ stale.until → l.uid ≡ stale.uid → ⊥
      none l i t v = differs (sym t ∙ ap (λ (z : Lease). z.until) (one_lease lists h.once l stood.0 i stood.1 (v ∙ u ∙ sym stood.3)) ∙ stood.2)

  module _ (stale : Lease) (r : Remembers now next lists stale) (gone : is_leased stale.until stale.uid lists ≡ false) where
    follows_gone : (more : ℕ) (new : Lists) → Follows next more lists new → is_leased stale.until stale.uid new ≡ false
    follows_gone more new f = follows_stale now next more lists new stale f r gone

    claim_gone : (length pick : ℕ) → 1 ≤ length → is_leased stale.until stale.uid (after_claim now length pick lists) ≡ false
    claim_gone length pick pos = go (claimed now length pick lists) refl
      where
        go : (o : Option Lease) → claimed now length pick lists ≡ o → is_leased stale.until stale.uid (after_claim now length pick lists) ≡ false
        go None e = ap (is_leased stale.until stale.uid) (claim_leaves now length pick lists e) ∙ gone
        go (Some lease) e = claim_stale now (now + length) next lists (after_claim now length pick lists) lease stale (omega arith) (claim_gives now length pick next lists lease h.once h.fresh e) r gone

    stays_stale : StaysStale now next lists stale
    stays_stale = record {
      add = λ task. gone;
      add_asleep = λ until task. follows_gone (next + 1) (added_asleep until next task lists) (asleep_follows next task lists h.once h.fresh until);
      add_all = λ adds. all_gone now next adds lists holders stale h r gone;
      claim = claim_gone;
      extend = λ lease length pos. extend_stale now (now + length) next lists lease stale (omega arith) r gone;
      finish = λ lease. follows_gone next (after_finish lease lists) (finish_follows next lists h.once h.fresh lease);
      drop_job = λ job. follows_gone next (without_job job lists) (drop_follows next lists h.once h.fresh job);
      remove = λ uid. follows_gone next (without_uid uid lists) (remove_follows next lists h.once h.fresh uid);
    }

-- ---- all together

remembers_later : (now next time more : ℕ) (lists : Lists) (held : Lease) → now ≤ time → next ≤ more → Remembers now next lists held → Remembers time more lists held
remembers_later now next time more lists held l m r = record {
  drawn = let d = r.drawn in omega arith;
  available = λ slot i e. let a = r.available slot i e in let over = a.0 in (omega arith, a.1);
  leased = λ lease i e. let a = r.leased lease i e in (⊎_elim (λ q. inl (omega arith)) (λ q. inr q) a.0, a.1);
}

later_keeps : (now next time more : ℕ) (lists : Lists) (holders : Holders) → now ≤ time → next ≤ more → HoldersFacts now next lists holders → HoldersFacts time more lists holders
later_keeps now next time more lists holders l m h = record {
  once = h.once;
  fresh = λ uid ge. h.fresh uid (omega arith);
  each = λ agent held e. remembers_later now next time more lists held l m (h.each agent held e);
  alone = h.alone;
}

forget_keeps : (now next : ℕ) (lists : Lists) (holders : Holders) (agent : ℕ) → HoldersFacts now next lists holders → HoldersFacts now next lists (slice_set holders agent None)
forget_keeps now next lists holders agent h = record {
  once = h.once;
  fresh = h.fresh;
  each = λ x held e. h.each x held (forgot holders agent x held e);
  alone = λ x y first second e f. h.alone x y first second (forgot holders agent x first e) (forgot holders agent y second f);
}

nothing_keeps : (now next : ℕ) (holders : Holders) → ((agent : ℕ) → holder_at holders agent ≡ None) → HoldersFacts now next nothing holders
nothing_keeps now next holders none = record {
  once = all_laws.empty;
  fresh = λ uid ge. refl;
  each = λ agent held e. absurd (nobody agent held e);
  alone = λ x y first second e. absurd (nobody x first e);
}
  where
    nobody : (agent : ℕ) (held : Lease) → holder_at holders agent ≡ Some held → ⊥
    nobody agent held e = let wrong : None ≡ Some held = sym (none agent) ∙ e in cc

keeps : (now next : ℕ) (lists : Lists) (holders : Holders) → HoldersFacts now next lists holders → KeepsHolders now next lists holders
keeps now next lists holders h =
    let finished : (lease : Lease) → HoldersFacts now next (after_finish lease lists) holders = λ lease. follows_keeps now next next lists (after_finish lease lists) holders (finish_follows next lists h.once h.fresh lease) h in
    record {
      later = λ time le. later_keeps now next time next lists holders le (omega arith) h;
      skip = λ more le. later_keeps now next now more lists holders (omega arith) le h;
      add = λ task. follows_keeps now next (next + 1) lists (added next task lists) holders (add_follows next task lists h.once h.fresh) h;
      add_asleep = λ until task. follows_keeps now next (next + 1) lists (added_asleep until next task lists) holders (asleep_follows next task lists h.once h.fresh until) h;
      add_all = λ adds. all_keeps now next adds lists holders h;
      claim = λ agent length pick lease pos e. claim_keeps now length pick next lists holders agent lease pos e h;
      extend = λ agent length held new pos has e. extend_keeps now length next lists holders agent held new pos has e h;
      forget = λ agent. forget_keeps now next lists holders agent h;
      close = λ agent lease. forget_keeps now next (after_finish lease lists) holders agent (finished lease);
      finish = finished;
      drop_job = λ job. follows_keeps now next next lists (without_job job lists) holders (drop_follows next lists h.once h.fresh job) h;
      remove = λ uid. follows_keeps now next next lists (without_uid uid lists) holders (remove_follows next lists h.once h.fresh uid) h;
    }

tells : (now next : ℕ) (lists : Lists) (holders : Holders) → HoldersFacts now next lists holders → TellsOfHolders now next lists holders
tells now next lists holders h = record {
  claim = λ length pick lease e. let c = claim_gives now length pick next lists lease h.once h.fresh e in (c.drawn, c.until_is);
  claim_none = λ length pick. claim_leaves now length pick lists;
  extend = tells_extend now next lists holders h;
  holds_task = tells_task now next lists holders h;
  others_stale = tells_others now next lists holders h;
  stays_stale = λ agent stale has gone. stays_stale now next lists holders h stale (h.each agent stale has) gone;
}

pub holders_laws : HoldersLaw
holders_laws = record { empty = nothing_keeps; keeps = keeps; tells = tells }

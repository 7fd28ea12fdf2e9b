-- The operator's orders leave the facts on a backup.
use Rattle.std.proofs.Common.{◌≡◌, ◌≢◌, ◌⊎◌, inl, inr, ⊎_elim, ℕ, zero, suc, ◌+◌, ◌≤◌, Bool, true, false, cond, [], ◌∷◌, Some, None, refl, sym, ap, ◌∙◌, arith}
use Rattle.fb_bytes.proofs.Order.{not_both}
use Rattle.fb_bytes.specs.Keys.{AreSeparate}
use Rattle.task_kinds.specs.declared.JobState.{JobState}
use Rattle.task_kinds.specs.declared.JobState.TheVariants.{Submitted, Running, RunningDifferential, Completed, Aborted, Failed}
use Rattle.task_kinds.specs.States.{has_ended}
use Rattle.task_kinds.specs.Works.{BackupWork, BackupStart, BackupDispatch}
use Rattle.backup_core.specs.declared.mode.Mode.{Mode}
use Rattle.backup_core.specs.declared.mode.Mode.TheVariants.{Hand, Once, Continuous}
use Rattle.backup_core.specs.Backups.{Terms, BackupJob, submitted, aborted_job}
use Rattle.backup_core.specs.Counts.{starts, dispatches, ranges, manifests, log_dispatches, logs, erases, finishes, any, improper, strays}
use Rattle.backup_core.specs.Facts.{View, AreSettings, LineFacts, WorkFacts, JobFacts}
use Rattle.backup_core.specs.Laws.{GetsTasks, OrdersLaw, TasksLaw}
use Rattle.backup_core.specs.Orders.{WrongKind, is_continuous, wrong_if, is_differential, snapshot_refusal, resumed, discontinue_refusal, discontinued}
use Rattle.backup_core.specs.Tasks.{IsLoad, at_once}
use Rattle.backup_core.proofs.Closes.{work_of, no_noted, noted_later}
use Rattle.backup_core.proofs.Sums.{one_true, no_task}

-- ---- a new backup

submit_is : (terms : Terms) (old new : View) → IsLoad old.load → old.load any ≡ 0 → AreSeparate terms.ranges → terms.ranges ≢ [] → terms.mode ≢ Hand → AreSettings terms.settings → GetsTasks old (at_once BackupStart ∷ []) new → JobFacts (submitted terms) new
submit_is terms old new sums none separate some tasked settings gets =
    let z = no_task old.load none sums in
    let g : (f : BackupWork → ℕ) → new.load f ≡ f BackupStart + 0 + old.load f = gets.1 in
    let s = g starts in let d = g dispatches in let r = g ranges in let m = g manifests in
    let l = g log_dispatches in let o = g logs in let e = g erases in let f = g finishes in
    record {
      separate = separate;
      some = some;
      noted = no_noted terms.ranges new.now;
      snapshot = omega arith;
      goes_on = λ e. record {
        log = record {
          begun = omega arith;
          erased = omega arith;
          next = omega arith;
          strays = let x = g (strays 0 0) in let y = z.strays 0 0 in omega arith;
          logs = λ q. absurd (let y = z.starts in omega arith);
          waits = λ q. refl;
        };
        work = work_of terms.mode (submitted terms) new tasked (record {
          settings = settings;
          snapshots = omega arith;
          logs = omega arith;
          submitted = λ q. omega arith;
          finishing = λ q. absurd (omega arith);
          differential = λ q. let x : Submitted ≡ RunningDifferential = q in cc;
          proper = let x = g improper in let y = z.improper in omega arith;
          tiles = λ q. absurd (omega arith);
        });
      };
      ended = λ e. not_both e refl;
    }

-- ---- which jobs an order is for

wrong_not : (wrong : Bool) (state : JobState) → wrong_if wrong state ≡ None → wrong ≡ false
wrong_not true state e = cc
wrong_not false state e = refl

continuous_is : (mode : Mode) (wrong : Bool) (state : JobState) → cond (is_continuous mode) (wrong_if wrong state) (Some WrongKind) ≡ None → (mode ≡ Continuous) × (wrong ≡ false)
continuous_is Hand wrong state e = cc
continuous_is Once wrong state e = cc
continuous_is Continuous wrong state e = (refl, wrong_not wrong state e)

differential_is : (state : JobState) → cond (is_differential state) false true ≡ false → state ≡ RunningDifferential
differential_is Submitted e = not_both refl e
differential_is Running e = not_both refl e
differential_is RunningDifferential e = refl
differential_is Completed e = not_both refl e
differential_is Aborted e = not_both refl e
differential_is Failed e = not_both refl e

goes_on_is : (state : JobState) (ending : Bool) → cond (has_ended state) true ending ≡ false → (has_ended state ≡ false) × (ending ≡ false)
goes_on_is Submitted ending e = (refl, e)
goes_on_is Running ending e = (refl, e)
goes_on_is RunningDifferential ending e = (refl, e)
goes_on_is Completed ending e = not_both refl e
goes_on_is Aborted ending e = not_both refl e
goes_on_is Failed ending e = not_both refl e

not_hand : (mode : Mode) → mode ≡ Continuous → mode ≡ Hand → ⊥
not_hand mode e q = let x : Continuous ≡ Hand = sym e ∙ q in cc

lines_of : (m : Mode) (j : BackupJob) (v : View) → (m ≡ Hand → ⊥) → WorkFacts m j v → LineFacts j v
lines_of Hand j v n w = absurd (n refl)
lines_of Once j v n w = w
lines_of Continuous j v n w = w

-- ---- snapshot

snapshot_is : (j : BackupJob) (old new : View) → JobFacts j old → snapshot_refusal j ≡ None → GetsTasks old (at_once BackupDispatch ∷ []) new → JobFacts (resumed j) new
snapshot_is j old new h none gets =
    let c = continuous_is j.terms.mode _ j.state none in
    let n = not_hand j.terms.mode c.0 in
    let d = differential_is j.state c.1 in
    let o = h.goes_on (ap has_ended d) in
    let l = lines_of j.terms.mode j old n o.work in
    let done = l.differential d in
    let one = one_true j.done done.0 in
    let a = l.snapshots in let b = l.logs in let t = gets.0 in
    let g : (f : BackupWork → ℕ) → new.load f ≡ f BackupDispatch + 0 + old.load f = gets.1 in
    let gs = g starts in let gd = g dispatches in let gr = g ranges in let gm = g manifests in
    let gl = g log_dispatches in let go = g logs in let ge = g erases in let gf = g finishes in
    record {
      separate = h.separate;
      some = h.some;
      noted = noted_later j.terms.ranges old.now new.now j.noted (omega arith) h.noted;
      snapshot = let x = h.snapshot in omega arith;
      goes_on = λ e. record {
        log = record {
          begun = o.log.begun;
          erased = o.log.erased;
          next = let x = o.log.next in omega arith;
          strays = let x = g (strays j.erased j.next) in let y = o.log.strays in omega arith;
          logs = λ q. o.log.logs (omega arith);
          waits = λ q. o.log.waits (omega arith);
        };
        work = work_of j.terms.mode (resumed j) new n (record {
          settings = l.settings;
          snapshots = omega arith;
          logs = omega arith;
          submitted = λ q. let x : Running ≡ Submitted = q in cc;
          finishing = λ q. let x = l.finishing (omega arith) in not_both x.1 done.1;
          differential = λ q. let x : Running ≡ RunningDifferential = q in cc;
          proper = let x = g improper in let y = l.proper in omega arith;
          tiles = λ q. absurd (omega arith);
        });
      };
      ended = λ e. not_both e refl;
    }

-- ---- discontinue

discontinue_is : (j : BackupJob) (v : View) → JobFacts j v → discontinue_refusal j ≡ None → JobFacts (discontinued j) v
discontinue_is j v h none =
    let c = continuous_is j.terms.mode _ j.state none in
    let n = not_hand j.terms.mode c.0 in
    let o = h.goes_on (goes_on_is j.state j.ending c.1).0 in
    let l = lines_of j.terms.mode j v n o.work in
    record {
      separate = h.separate;
      some = h.some;
      noted = h.noted;
      snapshot = h.snapshot;
      goes_on = λ e. record {
        log = record { begun = o.log.begun; erased = o.log.erased; next = o.log.next; strays = o.log.strays; logs = o.log.logs; waits = o.log.waits };
        work = work_of j.terms.mode (discontinued j) v n (record {
          settings = l.settings;
          snapshots = l.snapshots;
          logs = l.logs;
          submitted = λ q. let x : Running ≡ Submitted = q in cc;
          finishing = λ q. ((l.finishing q).0, refl);
          differential = λ q. let x : Running ≡ RunningDifferential = q in cc;
          proper = l.proper;
          tiles = l.tiles;
        });
      };
      ended = λ e. not_both e refl;
    }

-- ---- abort

abort_is : (j : BackupJob) (old new : View) → JobFacts j old → old.now ≤ new.now → new.load any ≡ 0 → JobFacts (aborted_job j) new
abort_is j old new h later none = record {
  separate = h.separate;
  some = h.some;
  noted = noted_later j.terms.ranges old.now new.now j.noted later h.noted;
  snapshot = let x = h.snapshot in omega arith;
  goes_on = λ e. not_both refl e;
  ended = λ e. none;
}

pub orders_law : OrdersLaw
orders_law = record { submit = submit_is; snapshot = snapshot_is; discontinue = discontinue_is; abort = abort_is }

-- ---- each job that goes on has a task

pub tasks_law : TasksLaw
tasks_law j v h sums goes tasked = ⊎_elim (λ z. absurd (let n = no_task v.load z sums in let c = (lines_of j.terms.mode j v tasked (h.goes_on goes).work).logs in let a = n.starts in let b = n.log_dispatches in let d = n.logs in let e = n.erases in let f = n.finishes in omega arith)) (λ l. l) (none_or_some (v.load any))
  where
    none_or_some : (n : ℕ) → (n ≡ 0) ⊎ (1 ≤ n)
    none_or_some zero = inl refl
    none_or_some (suc n) = inr (omega arith)

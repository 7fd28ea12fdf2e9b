-- What the close of each kind of task leaves of the facts on the log and on the lines of its backup:
-- by sums over its tasks.
use Rattle.std.proofs.Common.{◌<◌, ◌≡◌, ℕ, zero, suc, ◌+◌, ◌≤◌, min, Bool, true, false, not, ◌&&◌, ◌||◌, cond, List, [], ◌∷◌, ◌⊎◌, inl, inr, ⊎_elim, refl, ap, ◌∙◌, arith, nat_le, nat_lt}
use Rattle.std.proofs.lemmas.Bool.{and_from, le-leb, ltb-true, lt-ltb}
use Rattle.fb_bytes.specs.Bytes.{Bytes}
use Rattle.fb_bytes.specs.declared.KeyRange.{KeyRange}
use Rattle.fb_bytes.specs.Keys.{holds, in_ranges, is_backwards}
use Rattle.mutations.proofs.Basics.{by_test}
use Rattle.task_kinds.specs.declared.JobState.{JobState}
use Rattle.task_kinds.specs.declared.JobState.TheVariants.{Submitted, Running, RunningDifferential}
use Rattle.task_kinds.specs.States.{has_ended}
use Rattle.task_kinds.specs.Works.{BackupWork, BackupStart, BackupDispatch, BackupRange, BackupManifest, BackupLogs, BackupLog, BackupErase, BackupFinish}
use Rattle.snapshot_plan.specs.declared.Noted.{Noted}
use Rattle.snapshot_plan.specs.Noted.{with_noted}
use Rattle.snapshot_plan.specs.Pieces.{ArePieces}
use Rattle.backup_core.specs.declared.mode.Mode.{Mode}
use Rattle.backup_core.specs.declared.mode.Mode.TheVariants.{Hand, Once, Continuous}
use Rattle.backup_core.specs.Backups.{BackupJob}
use Rattle.backup_core.specs.Counts.{Counts, count, nothing, one_if, count_holding, starts, dispatches, ranges, manifests, log_dispatches, logs, erases, finishes, any, holding, strays}
use Rattle.backup_core.specs.Facts.{View, LogFacts, LineFacts}
use Rattle.backup_core.specs.Rows.{is_once, is_ending, state_after, begun, dispatched, range_tasks, sealed_to, log_tasks, logs_end, logging_to, erased_job}
use Rattle.backup_core.specs.Tasks.{IsLoad, Adding, at_once, asleep, adds}
use Rattle.backup_core.proofs.Pieces.{noted_more}
use Rattle.backup_core.proofs.Sums.{one_true, one_false, Balance, holding_below, strays_below, all_tasks}

-- a backup that goes on and isn't made by hand
pub record Works (job : BackupJob) (view : View) : Type 0 where
  pub goes_on : has_ended job.state ≡ false
  pub tasked : job.terms.mode ≡ Hand → ⊥
  pub log : LogFacts job view
  pub lines : LineFacts job view

-- ---- sums over tasks to be added

-- over the range tasks of a plan
abbrev total : (KeyRange → ℕ) → List KeyRange → ℕ
total g [] = 0
total g (p ∷ ps) = g p + total g ps

ranges_total : (c : Counts) (snapshot : ℕ) (ps : List KeyRange) → adds (count c) (range_tasks snapshot ps) ≡ total c.range ps
ranges_total c snapshot [] = refl
ranges_total c snapshot (p ∷ ps) = ap (λ n. c.range p + n) (ranges_total c snapshot ps)

total_none : (ps : List KeyRange) → total (λ p. 0) ps ≡ 0
total_none [] = refl
total_none (p ∷ ps) = let h = total_none ps in omega arith

total_held : (key : Bytes) (ps : List KeyRange) → total (λ p. one_if (holds p key)) ps ≡ count_holding ps key
total_held key [] = refl
total_held key (p ∷ ps) = ap (λ n. one_if (holds p key) + n) (total_held key ps)

total_proper : (ps : List KeyRange) → ArePieces ps → total (λ p. one_if (is_backwards p)) ps ≡ 0
total_proper [] h = refl
total_proper (p ∷ ps) h = let x = one_false (is_backwards p) h.0 in let y = total_proper ps h.2 in omega arith

-- another number counts no range task
ranges_none : (c : Counts) (snapshot : ℕ) (ps : List KeyRange) → c.range ≡ (λ p. 0) → adds (count c) (range_tasks snapshot ps) ≡ 0
ranges_none c snapshot ps e = ranges_total c snapshot ps ∙ ap (λ g. total g ps) e ∙ total_none ps

-- over the log tasks of a dispatch
logs_none : (c : Counts) (most span from to : ℕ) → c.log ≡ (λ b e. 0) → adds (count c) (log_tasks most span from to) ≡ 0
logs_none c zero span from to e = refl
logs_none c (suc most) span from to e = by_test (nat_lt from to) (λ l. adds (count c) l ≡ 0) _ _ (λ t. let x = logs_none c most span (min (from + span) to) to e in let y : c.log from (min (from + span) to) ≡ 0 = ap (λ g. g from (min (from + span) to)) e in omega arith) (λ t. refl)

pub ends_between : (most span from to : ℕ) → from ≤ to → (from ≤ logs_end most span from to) × (logs_end most span from to ≤ to)
ends_between zero span from to l = (omega arith, l)
ends_between (suc most) span from to l = by_test (nat_lt from to) (λ n. (from ≤ n) × (n ≤ to)) _ _ (λ t. let x = ends_between most span (min (from + span) to) to (omega arith) in let a = x.0 in let b = ltb-true from to t in (omega arith, x.1)) (λ t. (omega arith, l))

-- each log task lies between what is erased and the new next version
logs_inside : (erased next most span from to : ℕ) → 1 ≤ span → erased ≤ from → from ≤ to → logs_end most span from to ≤ next → adds (strays erased next) (log_tasks most span from to) ≡ 0
logs_inside erased next zero span from to o a l e = refl
logs_inside erased next (suc most) span from to o a l e = go (nat_lt from to) (λ p q r. logs_inside erased next most span (min (from + span) to) to o p q r) refl e
  where
    go : (t : Bool) → (erased ≤ min (from + span) to → min (from + span) to ≤ to → logs_end most span (min (from + span) to) to ≤ next → adds (strays erased next) (log_tasks most span (min (from + span) to) to) ≡ 0) → nat_lt from to ≡ t → cond t (logs_end most span (min (from + span) to) to) from ≤ next → adds (strays erased next) (cond t (at_once (BackupLog from (min (from + span) to)) ∷ log_tasks most span (min (from + span) to) to) []) ≡ 0
    go false ih t e = refl
    go true ih t e =
        let f = ltb-true from to t in
        let x = ih (omega arith) (omega arith) e in
        let y = (ends_between most span (min (from + span) to) to (omega arith)).0 in
        let z : one_if (not (nat_le erased from && nat_lt from (min (from + span) to) && nat_le (min (from + span) to) next)) ≡ 0 = ap (λ b. one_if (not b)) (and_from _ _ (and_from _ _ (le-leb erased from a) (lt-ltb from (min (from + span) to) (omega arith))) (le-leb (min (from + span) to) next (omega arith))) in
        omega arith

-- some version is there to be logged
pub logs_some : (most span from to : ℕ) → from < to → 1 ≤ adds logs (log_tasks (suc most) span from to)
logs_some most span from to l = let e = lt-ltb from to l in rw e (omega arith)

-- ---- states

pub state_cases : (mode : Mode) (ending caught_up : Bool) (state : JobState) → state_after mode ending caught_up state ≡ RunningDifferential → (state ≡ RunningDifferential) ⊎ (((ending || is_once mode) ≡ false) × (caught_up ≡ true))
state_cases Continuous false true state e = inr (refl, refl)
state_cases Continuous false false state e = inl e
state_cases Continuous true caught_up state e = inl e
state_cases Hand ending caught_up state e = inl e
state_cases Once ending caught_up state e = inl e

pub submitted_before : (mode : Mode) (ending caught_up : Bool) (state : JobState) → state_after mode ending caught_up state ≡ Submitted → state ≡ Submitted
submitted_before Continuous false true state e = cc
submitted_before Continuous false false state e = e
submitted_before Continuous true caught_up state e = e
submitted_before Hand ending caught_up state e = e
submitted_before Once ending caught_up state e = e

pub still_open : (mode : Mode) (ending caught_up : Bool) (state : JobState) → has_ended state ≡ false → has_ended (state_after mode ending caught_up state) ≡ false
still_open Continuous false true state e = refl
still_open Continuous false false state e = e
still_open Continuous true caught_up state e = e
still_open Hand ending caught_up state e = e
still_open Once ending caught_up state e = e

-- ---- the rows

module _ (j : BackupJob) (v new : View) (w : Works j v) (sums : IsLoad v.load) where
  -- where a task of the snapshots is open, the snapshot isn't done
  undone : {P : Type 0} → one_if j.done ≡ 0 → j.done ≡ true → P
  undone z e = let x = one_true j.done e in absurd (omega arith)

  -- ---- start

  pub start_lines : (version : ℕ) → Balance v.load new.load BackupStart (at_once BackupDispatch ∷ at_once BackupLogs ∷ []) → LineFacts (begun version j) new
  start_lines version b =
      let a = w.lines.snapshots in let c = w.lines.logs in
      let n : 1 ≤ v.load starts = let x = b.starts in omega arith in
      let z : one_if j.done ≡ 0 = omega arith in
      record {
        settings = w.lines.settings;
        snapshots = omega arith;
        logs = omega arith;
        submitted = λ e. let x : Running ≡ Submitted = e in cc;
        finishing = λ l. absurd (let x = b.finishes in omega arith);
        differential = λ e. let x : Running ≡ RunningDifferential = e in cc;
        proper = let p = w.lines.proper in omega arith;
        tiles = λ z. absurd (omega arith);
      }

  pub start_log : (version : ℕ) → version ≤ new.now + 1 → Balance v.load new.load BackupStart (at_once BackupDispatch ∷ at_once BackupLogs ∷ []) → LogFacts (begun version j) new
  start_log version l b =
      let c = w.lines.logs in
      let n : 1 ≤ v.load starts = let x = b.starts in omega arith in
      record {
        begun = omega arith;
        erased = omega arith;
        next = l;
        logs = λ z. refl;
        waits = λ l. absurd (let x = b.starts in omega arith);
        strays = let x = b.at (strays version version) in let y = sums.less (strays version version) logs (strays_below version version) in omega arith;
      }

  -- ---- dispatch

  pub dispatch_lines : (snapshot : ℕ) (ps : List KeyRange) → ((key : Bytes) → count_holding ps key ≡ one_if (in_ranges j.terms.ranges key)) → ArePieces ps → 1 ≤ adds ranges (range_tasks snapshot ps) → Balance v.load new.load BackupDispatch (range_tasks snapshot ps) → LineFacts (dispatched snapshot j) new
  dispatch_lines snapshot ps tile pieces some b =
      let a = w.lines.snapshots in let c = w.lines.logs in
      let z1 = ranges_none (record nothing { start = 1 }) snapshot ps refl in
      let z2 = ranges_none (record nothing { dispatch = 1 }) snapshot ps refl in
      let z3 = ranges_none (record nothing { manifest = 1 }) snapshot ps refl in
      let z4 = ranges_none (record nothing { logs = 1 }) snapshot ps refl in
      let z5 = ranges_none (record nothing { log = λ b e. 1 }) snapshot ps refl in
      let z6 = ranges_none (record nothing { erase = 1 }) snapshot ps refl in
      let z7 = ranges_none (record nothing { finish = 1 }) snapshot ps refl in
      let z8 = ranges_total (record nothing { range = λ p. one_if (is_backwards p) }) snapshot ps ∙ total_proper ps pieces in
      let n : 1 ≤ v.load dispatches = let x = b.dispatches in omega arith in
      let z : one_if j.done ≡ 0 = omega arith in
      record {
        settings = w.lines.settings;
        snapshots = let x = b.ranges in omega arith;
        logs = omega arith;
        submitted = λ e. absurd (let x = w.lines.submitted e in omega arith);
        finishing = λ l. undone z (w.lines.finishing (let x = b.finishes in omega arith)).0;
        differential = λ e. undone z (w.lines.differential e).0;
        proper = let p = w.lines.proper in omega arith;
        tiles = λ z key. let t = tile key in let x = b.at (holding key) in let y = ranges_total (record nothing { range = λ p. one_if (holds p key) }) snapshot ps ∙ total_held key ps in let u = sums.less (holding key) ranges (holding_below key) in omega arith;
      }

  pub dispatch_log : (snapshot : ℕ) (ps : List KeyRange) → v.now ≤ new.now → Balance v.load new.load BackupDispatch (range_tasks snapshot ps) → LogFacts (dispatched snapshot j) new
  dispatch_log snapshot ps l b =
      let u = ranges_none (record nothing { start = 1 }) snapshot ps refl in
      record {
        begun = w.log.begun;
        erased = w.log.erased;
        next = let x = w.log.next in omega arith;
        logs = λ z. w.log.logs (let x = b.starts in omega arith);
        waits = λ z. w.log.waits (let x = b.starts in omega arith);
        strays = let x = b.at (strays j.erased j.next) in let y = ranges_none (record nothing { log = λ b e. one_if (not (nat_le j.erased b && nat_lt b e && nat_le e j.next)) }) snapshot ps refl in let z = w.log.strays in omega arith;
      }

  -- ---- range: its file is noted, and after the last of them the manifest is added

  abbrev with_one : Noted → BackupJob
  with_one one = record j { noted = with_noted one j.noted }

  pub range_last : (snapshot : ℕ) (one : Noted) → v.load ranges ≡ 1 → Balance v.load new.load (BackupRange snapshot one.piece) (at_once (BackupManifest snapshot) ∷ []) → LineFacts (with_one one) new
  range_last snapshot one last b =
      let a = w.lines.snapshots in let c = w.lines.logs in
      let z : one_if j.done ≡ 0 = omega arith in
      record {
        settings = w.lines.settings;
        snapshots = let x = b.ranges in omega arith;
        logs = omega arith;
        submitted = λ e. absurd (let x = w.lines.submitted e in omega arith);
        finishing = λ l. w.lines.finishing (let x = b.finishes in omega arith);
        differential = λ e. w.lines.differential e;
        proper = let p = w.lines.proper in omega arith;
        tiles = λ z key. let t = w.lines.tiles (omega arith) key in let x = b.at (holding key) in let y = noted_more one j.noted key in omega arith;
      }

  pub range_more : (snapshot : ℕ) (one : Noted) → 2 ≤ v.load ranges → Balance v.load new.load (BackupRange snapshot one.piece) [] → LineFacts (with_one one) new
  range_more snapshot one more b =
      let a = w.lines.snapshots in let c = w.lines.logs in
      record {
        settings = w.lines.settings;
        snapshots = let x = b.ranges in omega arith;
        logs = omega arith;
        submitted = λ e. absurd (let x = w.lines.submitted e in omega arith);
        finishing = λ l. w.lines.finishing (let x = b.finishes in omega arith);
        differential = λ e. w.lines.differential e;
        proper = let p = w.lines.proper in omega arith;
        tiles = λ z key. let t = w.lines.tiles (omega arith) key in let x = b.at (holding key) in let y = noted_more one j.noted key in omega arith;
      }

  -- ---- what stays of the log

  pub same_log : (i : BackupJob) (x : BackupWork) → starts x ≡ 0 → i.begin ≡ j.begin → i.erased ≡ j.erased → i.next ≡ j.next → i.started ≡ j.started → v.now ≤ new.now → (ys : List Adding) → Balance v.load new.load x ys → adds starts ys ≡ 0 → adds (strays j.erased j.next) ys ≡ 0 → LogFacts i new
  same_log i x o d p q g l ys b n e = record {
    begun = let z = w.log.begun in omega arith;
    erased = let z = w.log.erased in omega arith;
    next = let z = w.log.next in omega arith;
    logs = λ z. g ∙ w.log.logs (let y = b.starts in omega arith);
    waits = λ z. g ∙ w.log.waits (let y = b.starts in omega arith);
    strays = ap new.load (λ k. strays (p k) (q k)) ∙ (let y = b.at (strays j.erased j.next) in let z = w.log.strays in omega arith);
  }

  -- ---- manifest

  pub manifest_lines : (snapshot last : ℕ) (state : JobState) → (state ≡ Submitted → j.state ≡ Submitted) → (state ≡ RunningDifferential → (j.state ≡ RunningDifferential) ⊎ (is_ending j ≡ false)) → Balance v.load new.load (BackupManifest snapshot) [] → LineFacts (record (sealed_to last j) { state = state }) new
  manifest_lines snapshot last state s d b =
      let a = w.lines.snapshots in let c = w.lines.logs in
      let n : 1 ≤ v.load manifests = let x = b.manifests in omega arith in
      let z : one_if j.done ≡ 0 = omega arith in
      record {
        settings = w.lines.settings;
        snapshots = let x = b.ranges in omega arith;
        logs = omega arith;
        submitted = λ e. absurd (let x = w.lines.submitted (s e) in omega arith);
        finishing = λ l. undone z (w.lines.finishing (let x = b.finishes in omega arith)).0;
        differential = λ e. (refl, ⊎_elim (λ x. (w.lines.differential x).1) (λ x. x) (d e));
        proper = let p = w.lines.proper in omega arith;
        tiles = λ z key. let t = w.lines.tiles (omega arith) key in let x = b.at (holding key) in omega arith;
      }

  -- ---- logs

  pub logs_finish : j.done ≡ true → is_ending j ≡ true → Balance v.load new.load BackupLogs (at_once BackupFinish ∷ []) → LineFacts j new
  logs_finish p q b =
      let a = w.lines.snapshots in let c = w.lines.logs in
      record {
        settings = w.lines.settings;
        snapshots = omega arith;
        logs = let x = b.logs in omega arith;
        submitted = λ e. absurd (let x = w.lines.submitted e in omega arith);
        finishing = λ l. (p, q);
        differential = λ e. w.lines.differential e;
        proper = let p = w.lines.proper in omega arith;
        tiles = λ z key. let t = w.lines.tiles (omega arith) key in let x = b.at (holding key) in omega arith;
      }

  pub logs_asleep : (until : ℕ) → 1 ≤ v.load log_dispatches → Balance v.load new.load BackupLogs (asleep until BackupLogs ∷ []) → LineFacts j new
  logs_asleep until has b =
      let a = w.lines.snapshots in let c = w.lines.logs in
      record {
        settings = w.lines.settings;
        snapshots = omega arith;
        logs = let x = b.logs in omega arith;
        submitted = λ e. absurd (let x = w.lines.submitted e in omega arith);
        finishing = λ l. w.lines.finishing (omega arith);
        differential = λ e. w.lines.differential e;
        proper = let p = w.lines.proper in omega arith;
        tiles = λ z key. let t = w.lines.tiles (omega arith) key in let x = b.at (holding key) in omega arith;
      }

  pub logs_more : (next most span from to : ℕ) → 1 ≤ adds logs (log_tasks most span from to) → Balance v.load new.load BackupLogs (log_tasks most span from to) → LineFacts (logging_to next j) new
  logs_more next most span from to some b =
      let a = w.lines.snapshots in let c = w.lines.logs in
      let z1 = logs_none (record nothing { start = 1 }) most span from to refl in
      let z2 = logs_none (record nothing { dispatch = 1 }) most span from to refl in
      let z3 = logs_none (record nothing { manifest = 1 }) most span from to refl in
      let z4 = logs_none (record nothing { logs = 1 }) most span from to refl in
      let z5 = logs_none (record nothing { range = λ p. 1 }) most span from to refl in
      let z6 = logs_none (record nothing { erase = 1 }) most span from to refl in
      let z7 = logs_none (record nothing { finish = 1 }) most span from to refl in
      let z8 = logs_none (record nothing { range = λ p. one_if (is_backwards p) }) most span from to refl in
      record {
        settings = w.lines.settings;
        snapshots = omega arith;
        logs = let x = b.logs in omega arith;
        submitted = λ e. absurd (let x = w.lines.submitted e in omega arith);
        finishing = λ l. absurd (omega arith);
        differential = λ e. w.lines.differential e;
        proper = let p = w.lines.proper in omega arith;
        tiles = λ z key. let t = w.lines.tiles (omega arith) key in let x = b.at (holding key) in let y = logs_none (record nothing { range = λ p. one_if (holds p key) }) most span from to refl in omega arith;
      }

  pub logs_log : (most span : ℕ) → 1 ≤ span → j.next ≤ new.now + 1 → Balance v.load new.load BackupLogs (log_tasks most span j.next (new.now + 1)) → LogFacts (logging_to (logs_end most span j.next (new.now + 1)) j) new
  logs_log most span one l b =
      let e = ends_between most span j.next (new.now + 1) l in
      let u = logs_none (record nothing { start = 1 }) most span j.next (new.now + 1) refl in
      record {
        begun = w.log.begun;
        erased = let x = w.log.erased in let y = e.0 in omega arith;
        next = e.1;
        logs = λ z. w.log.logs (let x = b.starts in omega arith);
        waits = λ z. w.log.waits (let x = b.starts in omega arith);
        strays =
            let c = w.lines.logs in
            let o = logs_none (record nothing { logs = 1 }) most span j.next (new.now + 1) refl in
            let x = b.at (strays j.erased (logs_end most span j.next (new.now + 1))) in
            let y = sums.less (strays j.erased (logs_end most span j.next (new.now + 1))) logs (strays_below j.erased (logs_end most span j.next (new.now + 1))) in
            let z = logs_inside j.erased (logs_end most span j.next (new.now + 1)) most span j.next (new.now + 1) one w.log.erased l (omega arith) in
            omega arith;
      }

  -- ---- log: after the last of the dispatch the erase is added

  pub log_last : (begin end : ℕ) (state : JobState) → (state ≡ Submitted → j.state ≡ Submitted) → (state ≡ RunningDifferential → (j.done ≡ true) × (is_ending j ≡ false)) → v.load logs ≡ 1 → Balance v.load new.load (BackupLog begin end) (at_once BackupErase ∷ []) → LineFacts (record j { state = state }) new
  log_last begin end state s d last b =
      let a = w.lines.snapshots in let c = w.lines.logs in
      record {
        settings = w.lines.settings;
        snapshots = omega arith;
        logs = let x = b.logs in omega arith;
        submitted = λ e. absurd (let x = w.lines.submitted (s e) in omega arith);
        finishing = λ l. absurd (let x = b.finishes in omega arith);
        differential = d;
        proper = let p = w.lines.proper in omega arith;
        tiles = λ z key. let t = w.lines.tiles (omega arith) key in let x = b.at (holding key) in omega arith;
      }

  pub log_more : (begin end : ℕ) (state : JobState) → (state ≡ Submitted → j.state ≡ Submitted) → (state ≡ RunningDifferential → (j.done ≡ true) × (is_ending j ≡ false)) → 2 ≤ v.load logs → Balance v.load new.load (BackupLog begin end) [] → LineFacts (record j { state = state }) new
  log_more begin end state s d more b =
      let a = w.lines.snapshots in let c = w.lines.logs in
      record {
        settings = w.lines.settings;
        snapshots = omega arith;
        logs = let x = b.logs in omega arith;
        submitted = λ e. absurd (let x = w.lines.submitted (s e) in omega arith);
        finishing = λ l. absurd (let x = b.finishes in omega arith);
        differential = d;
        proper = let p = w.lines.proper in omega arith;
        tiles = λ z key. let t = w.lines.tiles (omega arith) key in let x = b.at (holding key) in omega arith;
      }

  -- ---- erase

  pub erase_lines : Balance v.load new.load BackupErase (at_once BackupLogs ∷ []) → LineFacts (erased_job j) new
  erase_lines b =
      let a = w.lines.snapshots in let c = w.lines.logs in
      record {
        settings = w.lines.settings;
        snapshots = omega arith;
        logs = let x = b.logs in omega arith;
        submitted = λ e. absurd (let x = w.lines.submitted e in omega arith);
        finishing = λ l. w.lines.finishing (omega arith);
        differential = λ e. w.lines.differential e;
        proper = let p = w.lines.proper in omega arith;
        tiles = λ z key. let t = w.lines.tiles (omega arith) key in let x = b.at (holding key) in omega arith;
      }

  pub erase_log : v.now ≤ new.now → Balance v.load new.load BackupErase (at_once BackupLogs ∷ []) → LogFacts (erased_job j) new
  erase_log l b =
      let c = w.lines.logs in
      let n : 1 ≤ v.load erases = let x = b.erases in omega arith in
      record {
        begun = let x = w.log.begun in let y = w.log.erased in omega arith;
        erased = omega arith;
        next = let x = w.log.next in omega arith;
        logs = λ z. w.log.logs (let x = b.starts in omega arith);
        waits = λ z. w.log.waits (let x = b.starts in omega arith);
        strays = let x = b.at (strays j.next j.next) in let y = sums.less (strays j.next j.next) logs (strays_below j.next j.next) in omega arith;
      }

  -- ---- finish: no task is left

  pub finish_none : Balance v.load new.load BackupFinish [] → new.load any ≡ 0
  finish_none b =
      let c = w.lines.logs in
      let a = w.lines.snapshots in
      let n : 1 ≤ v.load finishes = let x = b.finishes in omega arith in
      let d = one_true j.done (w.lines.finishing n).0 in
      let l = all_tasks v.load sums in
      let x = b.at any in
      omega arith

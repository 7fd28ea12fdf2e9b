-- Each close leaves the facts on its backup.
use Rattle.std.proofs.Common.{◌≡◌, ◌≢◌, ℕ, suc, ◌+◌, ◌≤◌, Bool, true, false, ◌&&◌, ◌||◌, List, [], ◌∷◌, ◌⊎◌, inl, inr, ⊎_elim, Option, Some, None, refl, sym, ap, ◌∙◌, subst, arith, nat_lt, ◌==◌}
use Rattle.std.proofs.lemmas.Bool.{and_parts, eqb-true, eqb-false, ltb-false, cases_Bool}
use Rattle.fb_bytes.specs.Bytes.{Bytes, is_below}
use Rattle.fb_bytes.specs.declared.KeyRange.{KeyRange}
use Rattle.fb_bytes.specs.Keys.{holds, in_ranges, is_backwards, AreSeparate}
use Rattle.fb_bytes.proofs.Order.{not_both}
use Rattle.mutations.proofs.Basics.{by_test, all_weaker}
use Rattle.task_kinds.specs.declared.JobState.{JobState}
use Rattle.task_kinds.specs.declared.JobState.TheVariants.{Submitted, RunningDifferential}
use Rattle.task_kinds.specs.States.{has_ended}
use Rattle.task_kinds.specs.Works.{BackupWork, BackupStart, BackupDispatch, BackupRange, BackupManifest, BackupLogs, BackupLog, BackupErase, BackupFinish}
use Rattle.snapshot_plan.specs.declared.Done.{Done}
use Rattle.snapshot_plan.specs.declared.Noted.{Noted}
use Rattle.manifests.specs.Files.{version_of}
use Rattle.snapshot_plan.specs.Listing.{noted_names, IsNew}
use Rattle.snapshot_plan.specs.Noted.{pieces_of, with_noted, manifest_of}
use Rattle.snapshot_plan.proofs.Manifests.{placed_all}
use Rattle.snapshot_plan.proofs.Walking.{piece_law}
use Rattle.backup_core.specs.declared.mode.Mode.{Mode}
use Rattle.backup_core.specs.declared.mode.Mode.TheVariants.{Hand, Once, Continuous}
use Rattle.backup_core.specs.Backups.{BackupJob}
use Rattle.backup_core.specs.Counts.{one_if, count_holding, ranges, log_dispatches, logs, logs_from, any, holding, improper}
use Rattle.backup_core.specs.Facts.{View, IsPlan, LogFacts, LineFacts, WorkFacts, OpenFacts, NotedFacts, JobFacts}
use Rattle.backup_core.specs.Laws.{CanNote, FileFits, RowsLaw}
use Rattle.backup_core.specs.Rows.{Scene, Row, is_ending, is_past, has_caught_up, state_after, settled, begun, start_row, dispatched, range_tasks, dispatch_row, noting, if_last, range_row, sealed_to, manifest_row, log_tasks, logs_end, logging_to, logs_row, log_row, erased_job, next_logs, erase_row, finished, finish_row, start_if, range_if, row_of}
use Rattle.backup_core.specs.Tasks.{IsLoad, HasTask, at_once, asleep, adds}
use Rattle.backup_core.proofs.Noting.{noting_law}
use Rattle.backup_core.proofs.Pieces.{held_none, counted_once, some_key}
use Rattle.backup_core.proofs.Rows.{Works, logs_some, state_cases, submitted_before, still_open, start_lines, start_log, dispatch_lines, dispatch_log, range_last, range_more, same_log, manifest_lines, logs_finish, logs_asleep, logs_more, logs_log, log_last, log_more, erase_lines, erase_log, finish_none}
use Rattle.backup_core.proofs.Sums.{one_most, one_true, from_one, Balance, balance}

-- ---- a backup with an open task

by_mode : (m : Mode) (j : BackupJob) (v : View) → WorkFacts m j v → 1 ≤ v.load any → LineFacts j v
by_mode Hand j v h l = absurd (let z = h.none in omega arith)
by_mode Once j v h l = h
by_mode Continuous j v h l = h

-- it goes on, and isn't made by hand
pub works : (j : BackupJob) (v : View) → JobFacts j v → 1 ≤ v.load any → Works j v
works j v h l = ⊎_elim (λ e. absurd (let z = h.ended e in omega arith)) (λ e. record { goes_on = e; tasked = λ q. let x : WorkFacts Hand j v = subst (λ m. WorkFacts m j v) q (h.goes_on e).work in absurd (let z = x.none in omega arith); log = (h.goes_on e).log; lines = by_mode j.terms.mode j v (h.goes_on e).work l }) (cases_Bool (has_ended j.state))

pub work_of : (m : Mode) (i : BackupJob) (x : View) → (m ≡ Hand → ⊥) → LineFacts i x → WorkFacts m i x
work_of Hand i x n l = absurd (n refl)
work_of Once i x n l = l
work_of Continuous i x n l = l

-- ---- an open piece

module _ (j : BackupJob) (v : View) (w : Works j v) (sums : IsLoad v.load) (snapshot : ℕ) (piece : KeyRange) (has : HasTask v.load (BackupRange snapshot piece)) where
  pub proper_piece : is_backwards piece ≡ false
  proper_piece = ⊎_elim (λ e. absurd (let x = has improper in let y = w.lines.proper in let z = one_true (is_backwards piece) e in omega arith)) (λ e. e) (cases_Bool (is_backwards piece))

  -- its keys are in the ranges, and in no noted piece
  pub piece_tile : (key : Bytes) → holds piece key ≡ true → (in_ranges j.terms.ranges key ≡ true) × (in_ranges (pieces_of j.noted) key ≡ false)
  piece_tile key h =
      let a = w.lines.snapshots in
      let r = has ranges in
      let t = w.lines.tiles (omega arith) key in
      let x = has (holding key) in
      let y = one_true (holds piece key) h in
      let o = one_most (in_ranges j.terms.ranges key) in
      (from_one (in_ranges j.terms.ranges key) (omega arith), held_none (pieces_of j.noted) key (omega arith))

-- ---- what is noted

pub no_noted : (ranges : List KeyRange) (now : ℕ) → NotedFacts ranges now []
no_noted ranges now = record { pieces = tt; inside = λ key e. not_both e refl; past = tt; names = tt; distinct = tt }

pub noted_later : (ranges : List KeyRange) (old new : ℕ) (noted : List Noted) → old ≤ new → NotedFacts ranges old noted → NotedFacts ranges new noted
noted_later ranges old new noted l h = record { pieces = h.pieces; inside = h.inside; past = all_weaker (λ (n : Noted). n.file.version ≤ old) (λ n. n.file.version ≤ new) (λ n k. omega arith) noted h.past; names = h.names; distinct = h.distinct }

pub one_noted : (ranges : List KeyRange) (now : ℕ) (noted : List Noted) (one : Noted) → is_backwards one.piece ≡ false → ((key : Bytes) → holds one.piece key ≡ true → in_ranges ranges key ≡ true) → ((key : Bytes) → holds one.piece key ≡ true → in_ranges (pieces_of noted) key ≡ false) → one.file.version ≤ now → version_of one.file.name ≡ Some one.file.version → IsNew one.file.name (noted_names noted) → NotedFacts ranges now noted → NotedFacts ranges now (with_noted one noted)
one_noted ranges now noted one proper inside apart past name new h = record {
  pieces = piece_law.stay one noted h.pieces proper apart;
  inside = λ key e. go key (holds one.piece key) refl (sym (piece_law.more one noted key) ∙ e);
  past = placed_all (λ (n : Noted). n.file.version ≤ now) (λ (m : Noted). is_below m.piece.begin one.piece.begin) one noted past h.past;
  names = noting_law.names one noted (name, tt) h.names;
  distinct = noting_law.distinct one noted new h.distinct;
}
  where
    go : (key : Bytes) (b : Bool) → holds one.piece key ≡ b → (holds one.piece key || in_ranges (pieces_of noted) key) ≡ true → in_ranges ranges key ≡ true
    go key true q x = inside key q
    go key false q x = h.inside key (sym (ap (λ b. b || in_ranges (pieces_of noted) key) q) ∙ x)

-- ---- the facts once a task is closed

module _ (j : BackupJob) (old new : View) (h : JobFacts j old) (later : old.now ≤ new.now) where
  noted_still : NotedFacts j.terms.ranges new.now j.noted
  noted_still = noted_later j.terms.ranges old.now new.now j.noted later h.noted

  open_of : (i : BackupJob) → (j.terms.mode ≡ Hand → ⊥) → i.terms ≡ j.terms → LogFacts i new → LineFacts i new → OpenFacts i new
  open_of i n t g l = record { log = g; work = work_of i.terms.mode i new (λ e. n (sym (ap (λ z. z.mode) t) ∙ e)) l }

  -- with what is noted now
  pub job_with : (i : BackupJob) → (j.terms.mode ≡ Hand → ⊥) → i.terms ≡ j.terms → NotedFacts j.terms.ranges new.now i.noted → i.snapshot ≤ new.now → has_ended i.state ≡ false → LogFacts i new → LineFacts i new → JobFacts i new
  job_with i n t noted snapshot goes log lines = record {
    separate = subst (λ x. AreSeparate x.ranges) (sym t) h.separate;
    some = subst (λ x. x.ranges ≢ []) (sym t) h.some;
    noted = subst (λ x. NotedFacts x.ranges new.now i.noted) (sym t) noted;
    snapshot = snapshot;
    goes_on = λ e. open_of i n t log lines;
    ended = λ e. not_both e goes;
  }

  -- with what was noted
  pub job_still : (i : BackupJob) → (j.terms.mode ≡ Hand → ⊥) → i.terms ≡ j.terms → i.noted ≡ j.noted → i.snapshot ≡ j.snapshot → has_ended i.state ≡ false → LogFacts i new → LineFacts i new → JobFacts i new
  job_still i n t e s goes log lines = job_with i n t (subst (NotedFacts j.terms.ranges new.now) (sym e) noted_still) (let x = h.snapshot in omega arith) goes log lines

-- ---- each close

module _ (old : View) (scene : Scene) (file : Option Done) (j : BackupJob) (new : View) (h : JobFacts j old) (sums : IsLoad old.load) (now : scene.now ≡ old.now) where
  -- after the close of one task these are added
  record Leaves (work : BackupWork) (row : Row) : Type 0 where
    others : (f : BackupWork → ℕ) → scene.others f + f work ≡ old.load f
    now_is : new.now ≡ row.now
    tasks : (f : BackupWork → ℕ) → new.load f ≡ adds f row.adds + scene.others f

  module _ (work : BackupWork) where
    bal : (row : Row) → Leaves work row → Balance old.load new.load work row.adds
    bal row l = balance old.load new.load work row.adds (λ f. let x = l.others f in let y = l.tasks f in omega arith)

    has : (row : Row) → Leaves work row → HasTask old.load work
    has row l f = let x = l.others f in omega arith

    working : (row : Row) → Leaves work row → Works j old
    working row l = works j old h (has row l any)

  start_facts : (version : ℕ) → old.now ≤ version → Leaves BackupStart (start_row version j) → JobFacts (begun version j) new
  start_facts version later l =
      let w = working BackupStart (start_row version j) l in
      let b = bal BackupStart (start_row version j) l in
      let n = l.now_is in
      job_still j old new h (omega arith) (begun version j) w.tasked refl refl refl refl (start_log j old new w sums version (omega arith) b) (start_lines j old new w sums version b)

  dispatch_facts : IsPlan j.terms.ranges scene.pieces → Leaves BackupDispatch (dispatch_row scene j) → JobFacts (dispatched scene.now j) new
  dispatch_facts plan l =
      let w = working BackupDispatch (dispatch_row scene j) l in
      let b = bal BackupDispatch (dispatch_row scene j) l in
      let n = l.now_is in
      job_with j old new h (omega arith) (dispatched scene.now j) w.tasked refl (no_noted j.terms.ranges new.now) (omega arith) w.goes_on
      (dispatch_log j old new w sums scene.now scene.pieces (omega arith) b)
      (dispatch_lines j old new w sums scene.now scene.pieces tile plan.pieces (some scene.pieces refl) b)
    where
      tile : (key : Bytes) → count_holding scene.pieces key ≡ one_if (in_ranges j.terms.ranges key)
      tile key = counted_once scene.pieces key plan.pieces ∙ ap one_if (plan.same key)

      some : (ps : List KeyRange) → scene.pieces ≡ ps → 1 ≤ adds ranges (range_tasks scene.now scene.pieces)
      some [] e = let k = some_key j.terms.ranges h.some h.separate in not_both (plan.same k.0 ∙ k.1) (ap (λ ps. in_ranges ps k.0) e)
      some (p ∷ ps) e = subst (λ qs. 1 ≤ adds ranges (range_tasks scene.now qs)) (sym e) (omega arith)

  module _ (snapshot : ℕ) (piece : KeyRange) (done : Done) (fits : CanNote old.now j done) where
    abbrev one : Noted
    one = record { piece = piece; file = done }

    noted_facts : Works j old → HasTask old.load (BackupRange snapshot piece) → old.now ≤ new.now → LogFacts (noting piece done j) new → LineFacts (noting piece done j) new → JobFacts (noting piece done j) new
    noted_facts w t later log lines =
        job_with j old new h later (noting piece done j) w.tasked refl
        (one_noted j.terms.ranges new.now j.noted one (proper_piece j old w sums snapshot piece t) (λ key e. (piece_tile j old w sums snapshot piece t key e).0) (λ key e. (piece_tile j old w sums snapshot piece t key e).1) (let p = fits.past in omega arith) fits.name fits.new (noted_still j old new h later))
        (let x = h.snapshot in omega arith) w.goes_on log lines

    range_facts : (last : Bool) → (scene.others ranges == 0) ≡ last → Leaves (BackupRange snapshot piece) (record { now = scene.now; job = noting piece done j; adds = if_last last (BackupManifest snapshot) }) → JobFacts (noting piece done j) new
    range_facts true e l =
        let w = working (BackupRange snapshot piece) _ l in
        let b = bal (BackupRange snapshot piece) _ l in
        let n = l.now_is in
        let x = eqb-true (scene.others ranges) 0 e in
        let y = l.others ranges in
        noted_facts w (has (BackupRange snapshot piece) _ l) (omega arith)
        (same_log j old new w sums (noting piece done j) (BackupRange snapshot piece) refl refl refl refl refl (omega arith) (at_once (BackupManifest snapshot) ∷ []) b refl refl)
        (range_last j old new w sums snapshot one (omega arith) b)
    range_facts false e l =
        let w = working (BackupRange snapshot piece) _ l in
        let b = bal (BackupRange snapshot piece) _ l in
        let n = l.now_is in
        let x = eqb-false (scene.others ranges) 0 e in
        let y = l.others ranges in
        noted_facts w (has (BackupRange snapshot piece) _ l) (omega arith)
        (same_log j old new w sums (noting piece done j) (BackupRange snapshot piece) refl refl refl refl refl (omega arith) [] b refl refl)
        (range_more j old new w sums snapshot one (omega arith) b)

  -- ---- a state that is settled

  module _ (i : BackupJob) where
    abbrev settled_state : JobState
    settled_state = state_after i.terms.mode i.ending (has_caught_up i scene.others) i.state

    submitted_still : settled_state ≡ Submitted → i.state ≡ Submitted
    submitted_still e = submitted_before i.terms.mode i.ending (has_caught_up i scene.others) i.state e

    open_still : has_ended i.state ≡ false → has_ended settled_state ≡ false
    open_still e = still_open i.terms.mode i.ending (has_caught_up i scene.others) i.state e

    differential_from : settled_state ≡ RunningDifferential → (i.state ≡ RunningDifferential) ⊎ ((is_ending i ≡ false) × (has_caught_up i scene.others ≡ true))
    differential_from e = state_cases i.terms.mode i.ending (has_caught_up i scene.others) i.state e

    is_done : has_caught_up i scene.others ≡ true → i.done ≡ true
    is_done e = (and_parts i.done (nat_lt i.last i.next) (and_parts (is_past i) (scene.others (logs_from i.last) == 0) e).0).0

  manifest_facts : (snapshot : ℕ) → Leaves (BackupManifest snapshot) (manifest_row scene j) → JobFacts (settled scene.others (sealed_to (manifest_of j.noted).end j)) new
  manifest_facts snapshot l =
      let w = working (BackupManifest snapshot) (manifest_row scene j) l in
      let b = bal (BackupManifest snapshot) (manifest_row scene j) l in
      let n = l.now_is in
      let i = sealed_to (manifest_of j.noted).end j in
      job_still j old new h (omega arith) (settled scene.others (sealed_to (manifest_of j.noted).end j)) w.tasked refl refl refl (open_still (sealed_to (manifest_of j.noted).end j) w.goes_on)
      (same_log j old new w sums (settled scene.others (sealed_to (manifest_of j.noted).end j)) (BackupManifest snapshot) refl refl refl refl refl (omega arith) [] b refl refl)
      (manifest_lines j old new w sums snapshot (manifest_of j.noted).end (settled_state (sealed_to (manifest_of j.noted).end j))
      (submitted_still (sealed_to (manifest_of j.noted).end j))
      (λ e. ⊎_elim (λ x. inl x) (λ x. inr x.0) (differential_from (sealed_to (manifest_of j.noted).end j) e)) b)

  -- ---- logs

  abbrev AfterLogs : Row → Type 0
  AfterLogs row = Leaves BackupLogs row → JobFacts row.job new

  logs_last : (is_ending j && is_past j) ≡ true → AfterLogs (record { now = scene.now; job = j; adds = at_once BackupFinish ∷ [] })
  logs_last e l =
      let w = working BackupLogs _ l in
      let b = bal BackupLogs _ l in
      let n = l.now_is in
      let x = and_parts (is_ending j) (is_past j) e in
      let y = and_parts j.done (nat_lt j.last j.next) x.1 in
      job_still j old new h (omega arith) j w.tasked refl refl refl w.goes_on
      (same_log j old new w sums j BackupLogs refl refl refl refl refl (omega arith) (at_once BackupFinish ∷ []) b refl refl)
      (logs_finish j old new w sums y.0 x.0 b)

  logs_later : (until : ℕ) → AfterLogs (record { now = scene.now; job = j; adds = asleep until BackupLogs ∷ [] })
  logs_later until l =
      let w = working BackupLogs _ l in
      let b = bal BackupLogs _ l in
      let n = l.now_is in
      job_still j old new h (omega arith) j w.tasked refl refl refl w.goes_on
      (same_log j old new w sums j BackupLogs refl refl refl refl refl (omega arith) (asleep until BackupLogs ∷ []) b refl refl)
      (logs_asleep j old new w sums until (has BackupLogs _ l log_dispatches) b)

  logs_now : (most span : ℕ) → 1 ≤ span → nat_lt scene.now j.next ≡ false → AfterLogs (record { now = scene.now; job = logging_to (logs_end (suc most) span j.next (scene.now + 1)) j; adds = log_tasks (suc most) span j.next (scene.now + 1) })
  logs_now most span one e l =
      let w = working BackupLogs _ l in
      let b = bal BackupLogs _ l in
      let n : new.now ≡ scene.now = l.now_is in
      let m : scene.now ≡ new.now = sym n in
      let f = ltb-false scene.now j.next e in
      let c = subst (λ k. Balance old.load new.load BackupLogs (log_tasks (suc most) span j.next (k + 1))) m b in
      job_still j old new h (omega arith) (logging_to (logs_end (suc most) span j.next (scene.now + 1)) j) w.tasked refl refl refl w.goes_on
      (subst (λ k. LogFacts (logging_to (logs_end (suc most) span j.next (k + 1)) j) new) n (logs_log j old new w sums (suc most) span one (omega arith) c))
      (logs_more j old new w sums (logs_end (suc most) span j.next (scene.now + 1)) (suc most) span j.next (scene.now + 1) (logs_some most span j.next (scene.now + 1) (omega arith)) b)

  logs_facts : AfterLogs (logs_row scene j)
  logs_facts l = by_test (is_ending j && is_past j) AfterLogs _ _ logs_last (λ e. by_test (nat_lt scene.now j.next) AfterLogs _ _ (λ d. logs_later (scene.now + j.terms.settings.rest)) (λ d. logs_now 3 j.terms.settings.span (working BackupLogs (logs_row scene j) l).lines.settings.span d)) l

  -- ---- log

  module _ (begin end : ℕ) where
    log_state : (i : BackupJob) → Works i old → settled_state i ≡ RunningDifferential → (i.done ≡ true) × (is_ending i ≡ false)
    log_state i w e = ⊎_elim (λ x. w.lines.differential x) (λ x. (is_done i x.1, x.0)) (differential_from i e)

    log_facts : (last : Bool) → (scene.others logs == 0) ≡ last → Leaves (BackupLog begin end) (record { now = scene.now; job = settled scene.others j; adds = if_last last BackupErase }) → JobFacts (settled scene.others j) new
    log_facts true e l =
        let w = working (BackupLog begin end) _ l in
        let b = bal (BackupLog begin end) _ l in
        let n = l.now_is in
        let x = eqb-true (scene.others logs) 0 e in
        let y = l.others logs in
        job_still j old new h (omega arith) (settled scene.others j) w.tasked refl refl refl (open_still j w.goes_on)
        (same_log j old new w sums (settled scene.others j) (BackupLog begin end) refl refl refl refl refl (omega arith) (at_once BackupErase ∷ []) b refl refl)
        (log_last j old new w sums begin end (settled_state j) (submitted_still j) (log_state j w) (omega arith) b)
    log_facts false e l =
        let w = working (BackupLog begin end) _ l in
        let b = bal (BackupLog begin end) _ l in
        let n = l.now_is in
        let x = eqb-false (scene.others logs) 0 e in
        let y = l.others logs in
        job_still j old new h (omega arith) (settled scene.others j) w.tasked refl refl refl (open_still j w.goes_on)
        (same_log j old new w sums (settled scene.others j) (BackupLog begin end) refl refl refl refl refl (omega arith) [] b refl refl)
        (log_more j old new w sums begin end (settled_state j) (submitted_still j) (log_state j w) (omega arith) b)

  -- ---- erase, finish

  erase_facts : (awake : Bool) (until : ℕ) → Leaves BackupErase (record { now = scene.now; job = erased_job j; adds = next_logs awake until ∷ [] }) → JobFacts (erased_job j) new
  erase_facts awake until l =
      let w = working BackupErase _ l in
      let b = bal BackupErase _ l in
      let c = balance old.load new.load BackupErase (at_once BackupLogs ∷ []) (λ f. b.at f ∙ ap (λ x. old.load f + (f x + 0)) (work_is awake)) in
      let n = l.now_is in
      job_still j old new h (omega arith) (erased_job j) w.tasked refl refl refl w.goes_on
      (erase_log j old new w sums (omega arith) c) (erase_lines j old new w sums c)
    where
      work_is : (awake : Bool) → (next_logs awake until).work ≡ BackupLogs
      work_is true = refl
      work_is false = refl

  finish_facts : Leaves BackupFinish (finish_row scene j) → JobFacts (finished j) new
  finish_facts l =
      let w = working BackupFinish (finish_row scene j) l in
      let b = bal BackupFinish (finish_row scene j) l in
      let n = l.now_is in
      record {
        separate = h.separate;
        some = h.some;
        noted = noted_still j old new h (omega arith);
        snapshot = let x = h.snapshot in omega arith;
        goes_on = λ e. not_both refl e;
        ended = λ e. finish_none j old new w sums b;
      }

  -- ---- all together

  abbrev After : BackupWork → Row → Type 0
  After work row = Leaves work row → JobFacts row.job new

  of_row : (work : BackupWork) (made row : Row) → Some made ≡ Some row → After work made → After work row
  of_row work made row e g = let q : made ≡ row = cc in subst (After work) q g

  row_facts : ((version : ℕ) → scene.version ≡ Some version → old.now ≤ version) → IsPlan j.terms.ranges scene.pieces → FileFits old.now j file → (work : BackupWork) (row : Row) → row_of scene work file j ≡ Some row → After work row
  row_facts later plan past BackupStart row e = go scene.version refl e
    where
      go : (o : Option ℕ) → scene.version ≡ o → start_if j o ≡ Some row → After BackupStart row
      go None q e = absurd cc
      go (Some version) q e = of_row BackupStart (start_row version j) row e (start_facts version (later version q))
  row_facts later plan past BackupDispatch row e = of_row BackupDispatch (dispatch_row scene j) row e (dispatch_facts plan)
  row_facts later plan past (BackupRange snapshot piece) row e = go file past e
    where
      go : (o : Option Done) → FileFits old.now j o → range_if scene snapshot piece j o ≡ Some row → After (BackupRange snapshot piece) row
      go None p e = absurd cc
      go (Some done) p e = of_row (BackupRange snapshot piece) (range_row scene snapshot piece done j) row e (range_facts snapshot piece done p (scene.others ranges == 0) refl)
  row_facts later plan past (BackupManifest snapshot) row e = of_row (BackupManifest snapshot) (manifest_row scene j) row e (manifest_facts snapshot)
  row_facts later plan past BackupLogs row e = of_row BackupLogs (logs_row scene j) row e logs_facts
  row_facts later plan past (BackupLog begin end) row e = of_row (BackupLog begin end) (log_row scene j) row e (log_facts begin end (scene.others logs == 0) refl)
  row_facts later plan past BackupErase row e = of_row BackupErase (erase_row scene j) row e (erase_facts (is_ending j && j.done) (scene.now + j.terms.settings.rest))
  row_facts later plan past BackupFinish row e = of_row BackupFinish (finish_row scene j) row e finish_facts

pub rows_law : RowsLaw
rows_law old scene work file job row new c =
    row_facts old scene file job new c.facts c.load c.now c.later c.plan c.fits work row c.row_is (record { others = c.others; now_is = c.now_is; tasks = c.tasks })

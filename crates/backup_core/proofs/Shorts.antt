-- Each open piece is one of which a file can be made.
use Rattle.std.proofs.Common.{◌≡◌, ℕ, zero, suc, ◌+◌, ◌<◌, ◌^◌, Bool, true, false, not, ◌&&◌, List, [], ◌∷◌, ◌++◌, length, min, Option, Some, None, refl, sym, ap, subst, arith, nat_le, nat_lt, ◌==◌}
use Rattle.std.specs.List.{AllByRecursion}
use Rattle.std.proofs.lemmas.Bool.{and_parts, and_from, leb-true, ltb-true, le-leb, lt-ltb}
use Rattle.fb_bytes.specs.Bytes.{Bytes}
use Rattle.fb_bytes.specs.declared.KeyRange.{KeyRange}
use Rattle.fb_bytes.specs.declared.Pair.{Pair}
use Rattle.fb_bytes.specs.Keys.{holds}
use Rattle.block_frame.specs.Profiles.{key_limit_of}
use Rattle.mutations.proofs.Basics.{by_test}
use Rattle.task_kinds.specs.Works.{BackupWork, BackupStart, BackupDispatch, BackupRange, BackupManifest, BackupLogs, BackupLog, BackupErase, BackupFinish}
use Rattle.snapshot_plan.specs.declared.Done.{Done}
use Rattle.snapshot_plan.specs.Plans.{keys_in, is_cut, cuts, cut_before, pieces_in, pieces}
use Rattle.database.specs.Dumps.{pairs_at, FitBlock}
use Rattle.database.proofs.Dumping.{dump_law}
use Rattle.backup_core.specs.Backups.{BackupJob}
use Rattle.backup_core.specs.Counts.{one_if, ranges, logs}
use Rattle.backup_core.specs.Facts.{View}
use Rattle.backup_core.specs.Laws.{Closes}
use Rattle.backup_core.specs.Limits.{is_short, AreShort, unfit, LimitFacts, LimitLaw}
use Rattle.backup_core.specs.Rows.{Scene, Row, is_ending, is_past, start_row, range_tasks, dispatch_row, if_last, range_row, manifest_row, log_tasks, logs_row, log_row, next_logs, erase_row, finish_row, start_if, range_if, row_of}
use Rattle.backup_core.specs.Taken.{WorkFits}
use Rattle.backup_core.specs.Tasks.{Adding, HasTask, at_once, adds}

-- ---- an open piece

passes : (t : Bool) → one_if (not t) ≡ 0 → t ≡ true
passes true e = refl
passes false e = absurd (omega arith)

fits : (block : ℕ) (view : View) (work : BackupWork) → view.load (unfit block) ≡ 0 → HasTask view.load work → WorkFits block work
fits block view BackupStart z has = tt
fits block view BackupDispatch z has = tt
fits block view (BackupRange snapshot piece) z has =
    let t = passes (nat_lt snapshot (2 ^ 63) && is_short block piece) (let x = has (unfit block) in omega arith) in
    let p = and_parts (nat_lt snapshot (2 ^ 63)) (is_short block piece) t in
    let q = and_parts (nat_le (length piece.begin) (key_limit_of block)) (nat_le (length piece.end) (key_limit_of block)) p.1 in
    record { number = ltb-true snapshot (2 ^ 63) p.0; begin = leb-true (length piece.begin) (key_limit_of block) q.0; end = leb-true (length piece.end) (key_limit_of block) q.1 }
fits block view (BackupManifest snapshot) z has = tt
fits block view BackupLogs z has = tt
fits block view (BackupLog begin end) z has = tt
fits block view BackupErase z has = tt
fits block view BackupFinish z has = tt

-- ---- what a close adds

pieces_fit : (block now : ℕ) (plan : List KeyRange) → now < 2 ^ 63 → AreShort block plan → adds (unfit block) (range_tasks now plan) ≡ 0
pieces_fit block now [] l h = refl
pieces_fit block now (piece ∷ plan) l h =
    let ih = pieces_fit block now plan l h.1 in
    let e : one_if (not (nat_lt now (2 ^ 63) && is_short block piece)) ≡ 0 = ap (λ t. one_if (not t)) (and_from (nat_lt now (2 ^ 63)) (is_short block piece) (lt-ltb now (2 ^ 63) l) h.0) in
    omega arith

last_fits : (block : ℕ) (t : Bool) (work : BackupWork) → unfit block work ≡ 0 → adds (unfit block) (if_last t work) ≡ 0
last_fits block true work e = omega arith
last_fits block false work e = refl

spans_fit : (block most span low to : ℕ) → adds (unfit block) (log_tasks most span low to) ≡ 0
spans_fit block zero span low to = refl
spans_fit block (suc most) span low to =
    by_test (nat_lt low to) (λ (more : List Adding). adds (unfit block) more ≡ 0) (at_once (BackupLog low (min (low + span) to)) ∷ log_tasks most span (min (low + span) to) to) []
    (λ e. let ih = spans_fit block most span (min (low + span) to) to in omega arith)
    (λ e. refl)

next_fits : (block : ℕ) (awake : Bool) (until : ℕ) → adds (unfit block) (next_logs awake until ∷ []) ≡ 0
next_fits block true until = refl
next_fits block false until = refl

module _ (block : ℕ) (scene : Scene) (file : Option Done) (j : BackupJob) (now : scene.now < 2 ^ 63) (short : AreShort block scene.pieces) where
  -- no piece that doesn't fit is added, and the ranges stay
  record Leaves (row : Row) : Type 0 where
    none : adds (unfit block) row.adds ≡ 0
    ranges_are : row.job.terms.ranges ≡ j.terms.ranges

  of_row : (made row : Row) → Some made ≡ Some row → Leaves made → Leaves row
  of_row made row e h = let q : made ≡ row = cc in subst Leaves q h

  logs_leave : Leaves (logs_row scene j)
  logs_leave = by_test (is_ending j && is_past j) Leaves _ _
      (λ e. record { none = refl; ranges_are = refl })
      (λ e. by_test (nat_lt scene.now j.next) Leaves _ _ (λ d. record { none = refl; ranges_are = refl }) (λ d. record { none = spans_fit block 4 j.terms.settings.span j.next (scene.now + 1); ranges_are = refl }))

  leaves : (work : BackupWork) (row : Row) → row_of scene work file j ≡ Some row → Leaves row
  leaves BackupStart row e = go scene.version e
    where
      go : (o : Option ℕ) → start_if j o ≡ Some row → Leaves row
      go None e = absurd cc
      go (Some version) e = of_row (start_row version j) row e (record { none = refl; ranges_are = refl })
  leaves BackupDispatch row e = of_row (dispatch_row scene j) row e (record { none = pieces_fit block scene.now scene.pieces now short; ranges_are = refl })
  leaves (BackupRange snapshot piece) row e = go file e
    where
      go : (f : Option Done) → range_if scene snapshot piece j f ≡ Some row → Leaves row
      go None e = absurd cc
      go (Some done) e = of_row (range_row scene snapshot piece done j) row e (record { none = last_fits block (scene.others ranges == 0) (BackupManifest snapshot) refl; ranges_are = refl })
  leaves (BackupManifest snapshot) row e = of_row (manifest_row scene j) row e (record { none = refl; ranges_are = refl })
  leaves BackupLogs row e = of_row (logs_row scene j) row e logs_leave
  leaves (BackupLog begin end) row e = of_row (log_row scene j) row e (record { none = last_fits block (scene.others logs == 0) BackupErase refl; ranges_are = refl })
  leaves BackupErase row e = of_row (erase_row scene j) row e (record { none = next_fits block (is_ending j && j.done) (scene.now + j.terms.settings.rest); ranges_are = refl })
  leaves BackupFinish row e = of_row (finish_row scene j) row e (record { none = refl; ranges_are = refl })

row_keeps : (block : ℕ) (old : View) (scene : Scene) (work : BackupWork) (file : Option Done) (job : BackupJob) (row : Row) (new : View) → Closes old scene work file job row new → scene.now < 2 ^ 63 → AreShort block scene.pieces → LimitFacts block job old → LimitFacts block row.job new
row_keeps block old scene work file job row new c now short h =
    let l = leaves block scene file job now short work row c.row_is in
    let x = c.others (unfit block) in
    let y = c.tasks (unfit block) in
    let z = h.tasks in
    let n = l.none in
    record { ranges = subst (AreShort block) (sym l.ranges_are) h.ranges; tasks = omega arith }

-- ---- a plan

abbrev IsKey : ℕ → Bytes → Type 0
IsKey block key = nat_le (length key) (key_limit_of block) ≡ true

keys_short : (block : ℕ) (range : KeyRange) (pairs : List Pair) → AllByRecursion (λ (pair : Pair). FitBlock block pair.key pair.value) pairs → AllByRecursion (IsKey block) (keys_in range pairs)
keys_short block range [] h = tt
keys_short block range (pair ∷ pairs) h =
    let ih = keys_short block range pairs h.1 in
    by_test (holds range pair.key) (AllByRecursion (IsKey block)) (pair.key ∷ keys_in range pairs) (keys_in range pairs) (λ e. (le-leb (length pair.key) (key_limit_of block) h.0.0, ih)) (λ e. ih)

cuts_short : (block shard place : ℕ) (keys : List Bytes) → AllByRecursion (IsKey block) keys → AllByRecursion (IsKey block) (cuts shard place keys)
cuts_short block shard place [] h = tt
cuts_short block shard place (key ∷ keys) h =
    let ih = cuts_short block shard (place + 1) keys h.1 in
    by_test (is_cut shard place) (AllByRecursion (IsKey block)) (key ∷ cuts shard (place + 1) keys) (cuts shard (place + 1) keys) (λ e. (h.0, ih)) (λ e. ih)

cut_short : (block : ℕ) (keys : List Bytes) (range : KeyRange) → AllByRecursion (IsKey block) keys → is_short block range ≡ true → AreShort block (cut_before keys range)
cut_short block [] range h s = (s, tt)
cut_short block (key ∷ keys) range h s =
    let p = and_parts (nat_le (length range.begin) (key_limit_of block)) (nat_le (length range.end) (key_limit_of block)) s in (
      and_from (nat_le (length range.begin) (key_limit_of block)) (nat_le (length key) (key_limit_of block)) p.0 h.0,
      cut_short block keys (record { begin = key; end = range.end }) h.1 (and_from (nat_le (length key) (key_limit_of block)) (nat_le (length range.end) (key_limit_of block)) h.0 p.1),
    )

all_append : {X : Type 0} (P : X → Type 0) (xs ys : List X) → AllByRecursion P xs → AllByRecursion P ys → AllByRecursion P (xs ++ ys)
all_append P [] ys h g = g
all_append P (x ∷ xs) ys h g = (h.0, all_append P xs ys h.1 g)

plan_short : (block shard : ℕ) (pairs : List Pair) (ranges : List KeyRange) → AllByRecursion (λ (pair : Pair). FitBlock block pair.key pair.value) pairs → AreShort block ranges → AreShort block (pieces shard pairs ranges)
plan_short block shard pairs [] f h = tt
plan_short block shard pairs (range ∷ more) f h =
    all_append (λ (r : KeyRange). is_short block r ≡ true) (pieces_in shard pairs range) (pieces shard pairs more)
    (cut_short block (cuts shard 0 (keys_in range pairs)) range (cuts_short block shard 0 (keys_in range pairs) (keys_short block range pairs f)) h.0)
    (plan_short block shard pairs more f h.1)

pub limit_law : LimitLaw
limit_law = record {
  fits = λ block job view work h has. fits block view work h.tasks has;
  row = row_keeps;
  plan = λ block shard now history range ranges w h. plan_short block shard (pairs_at block history now range) ranges ((dump_law block history now range).fit w) h;
}

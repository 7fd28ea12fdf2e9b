-- Rows of a once backup with one piece, computed: each close, and which tasks it adds.
use Rattle.std.proofs.Common.{◌≡◌, ℕ, ◌+◌, true, List, [], ◌∷◌, Some, None, refl}
use Rattle.fb_bytes.specs.declared.KeyRange.{KeyRange}
use Rattle.task_kinds.specs.declared.JobState.TheVariants.{Submitted, Running, RunningDifferential, Completed}
use Rattle.task_kinds.specs.Works.{BackupStart, BackupDispatch, BackupRange, BackupManifest, BackupLogs, BackupLog, BackupErase, BackupFinish}
use Rattle.snapshot_plan.specs.declared.Done.{Done}
use Rattle.backup_core.specs.declared.mode.Mode.{Mode}
use Rattle.backup_core.specs.declared.mode.Mode.TheVariants.{Once, Continuous}
use Rattle.backup_core.specs.Backups.{Terms, BackupJob, submitted}
use Rattle.backup_core.specs.Orders.{WrongKind, WrongState, snapshot_refusal, discontinue_refusal, discontinued, abort_refusal}
use Rattle.backup_core.specs.Rows.{Scene, Row, most_logs, log_tasks, logs_end, start_row, dispatch_row, range_row, manifest_row, logs_row, log_row, erase_row, finish_row, row_of}
use Rattle.backup_core.specs.Tasks.{Adding, at_once, asleep, adds}

abbrev piece : KeyRange
piece = record { begin = 97 ∷ []; end = 98 ∷ [] }

abbrev terms : Mode → Terms
terms mode = record { number = 1; mode = mode; ranges = piece ∷ []; settings = record { shard = 100; span = 10; rest = 5 } }

-- the newest version, and the job's other open tasks
abbrev at : ℕ → List Adding → Scene
at now open_ = record { now = now; version = Some (now + 10); pieces = piece ∷ []; others = λ f. adds f open_ }

abbrev file : Done
file = record { name = 1 ∷ []; version = 20; bytes = 23 }

-- ---- spans of log tasks

spans : log_tasks most_logs 10 10 31 ≡ at_once (BackupLog 10 20) ∷ at_once (BackupLog 20 30) ∷ at_once (BackupLog 30 31) ∷ []
spans = refl

spans_end : logs_end most_logs 10 10 31 ≡ 31
spans_end = refl

four_spans : log_tasks most_logs 1 10 21 ≡ at_once (BackupLog 10 11) ∷ at_once (BackupLog 11 12) ∷ at_once (BackupLog 12 13) ∷ at_once (BackupLog 13 14) ∷ []
four_spans = refl

four_end : logs_end most_logs 1 10 21 ≡ 14
four_end = refl

-- ---- a once backup

abbrev started : BackupJob
started = (start_row 10 (submitted (terms Once))).job

start_adds : row_of (at 0 []) BackupStart None (submitted (terms Once)) ≡ Some (record { now = 10; job = started; adds = at_once BackupDispatch ∷ at_once BackupLogs ∷ [] })
start_adds = refl

-- without a version there is no start
no_start : row_of (record (at 0 []) { version = None }) BackupStart None (submitted (terms Once)) ≡ None
no_start = refl

abbrev planned : Row
planned = dispatch_row (at 10 (at_once BackupLogs ∷ [])) started

plan_adds : planned.adds ≡ at_once (BackupRange 10 piece) ∷ []
plan_adds = refl

abbrev logging : Row
logging = logs_row (at 10 (at_once (BackupRange 10 piece) ∷ [])) planned.job

logging_adds : logging.adds ≡ at_once (BackupLog 10 11) ∷ []
logging_adds = refl

-- nothing is new
logging_sleeps : (logs_row (at 10 []) logging.job).adds ≡ asleep 15 BackupLogs ∷ []
logging_sleeps = refl

abbrev dumped_piece : Row
dumped_piece = range_row (at 20 (at_once (BackupLog 10 11) ∷ [])) 10 piece file logging.job

piece_adds : dumped_piece.adds ≡ at_once (BackupManifest 10) ∷ []
piece_adds = refl

-- with another piece open there is no manifest yet
piece_waits : (range_row (at 20 (at_once (BackupRange 10 piece) ∷ [])) 10 piece file logging.job).adds ≡ []
piece_waits = refl

abbrev logged_once : Row
logged_once = log_row (at 20 (at_once (BackupManifest 10) ∷ [])) dumped_piece.job

logged_adds : logged_once.adds ≡ at_once BackupErase ∷ []
logged_adds = refl

abbrev sealed_at : Row
sealed_at = manifest_row (at 20 (at_once BackupErase ∷ [])) logged_once.job

sealed_is : sealed_at.job.done ≡ true
sealed_is = refl

sealed_through : sealed_at.job.last ≡ 20
sealed_through = refl

-- an erase before the snapshot is done lets the dispatch sleep, one after it doesn't
erase_sleeps : (erase_row (at 20 (at_once (BackupManifest 10) ∷ [])) logged_once.job).adds ≡ asleep 25 BackupLogs ∷ []
erase_sleeps = refl

abbrev erased_once : Row
erased_once = erase_row (at 20 []) sealed_at.job

erase_wakes : erased_once.adds ≡ at_once BackupLogs ∷ []
erase_wakes = refl

-- the log isn't past the snapshot yet
abbrev logging_again : Row
logging_again = logs_row (at 20 []) erased_once.job

again_adds : logging_again.adds ≡ at_once (BackupLog 11 21) ∷ []
again_adds = refl

abbrev erased_again : Row
erased_again = erase_row (at 20 []) (log_row (at 20 []) logging_again.job).job

finishing : (logs_row (at 20 []) erased_again.job).adds ≡ at_once BackupFinish ∷ []
finishing = refl

ends : (finish_row (at 20 []) erased_again.job).job.state ≡ Completed
ends = refl

erased_all : (finish_row (at 20 []) erased_again.job).job.erased ≡ 21
erased_all = refl

-- ---- a continuous backup that has come as far

abbrev continuous : BackupJob
continuous = record erased_again.job { terms = terms Continuous }

differential : (log_row (at 20 []) continuous).job.state ≡ RunningDifferential
differential = refl

-- with a log task open from the snapshot's greatest version on it isn't yet
not_yet : (log_row (at 20 (at_once (BackupLog 20 21) ∷ [])) continuous).job.state ≡ Running
not_yet = refl

stays_running : (log_row (at 20 []) (discontinued continuous)).job.state ≡ Running
stays_running = refl

-- it doesn't finish by itself
goes_on : (logs_row (at 20 []) continuous).adds ≡ asleep 25 BackupLogs ∷ []
goes_on = refl

-- ---- refusals

once_goes_on : discontinue_refusal (submitted (terms Once)) ≡ Some WrongKind
once_goes_on = refl

too_early : snapshot_refusal (submitted (terms Continuous)) ≡ Some (WrongState Submitted)
too_early = refl

may_be_told : discontinue_refusal (submitted (terms Continuous)) ≡ None
may_be_told = refl

told_already : discontinue_refusal (discontinued (submitted (terms Continuous))) ≡ Some (WrongState Running)
told_already = refl

not_after_its_end : abort_refusal (finish_row (at 20 []) erased_again.job).job ≡ Some (WrongState Completed)
not_after_its_end = refl

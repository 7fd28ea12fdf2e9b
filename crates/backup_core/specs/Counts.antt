-- What a backup's tasks count, by their kinds.
use Rattle.std.specs.Prelude.{ℕ, Bool, not, ◌&&◌, List, [], ◌∷◌, ◌+◌, nat_lt, nat_le}
use Rattle.std.specs.Prelude.{if◌then◌else◌}
use Rattle.fb_bytes.specs.Bytes.{Bytes}
use Rattle.fb_bytes.specs.declared.KeyRange.{KeyRange}
use Rattle.fb_bytes.specs.Keys.{holds, is_backwards}
use Rattle.task_kinds.specs.Works.{BackupWork, BackupStart, BackupDispatch, BackupRange}
use Rattle.task_kinds.specs.Works.{BackupManifest, BackupLogs, BackupLog, BackupErase}
use Rattle.task_kinds.specs.Works.{BackupFinish}

-- a number for a test
abbrev pub one_if : Bool → ℕ
one_if test = if test then 1 else 0

-- what a task counts, by its kind
pub record Counts : Type 0 where
  pub start : ℕ
  pub dispatch : ℕ
  pub range : KeyRange → ℕ
  pub manifest : ℕ
  pub logs : ℕ
  pub log : ℕ → ℕ → ℕ
  pub erase : ℕ
  pub finish : ℕ

abbrev pub count : Counts → BackupWork → ℕ
count c BackupStart = c.start
count c BackupDispatch = c.dispatch
count c (BackupRange snapshot piece) = c.range piece
count c (BackupManifest snapshot) = c.manifest
count c BackupLogs = c.logs
count c (BackupLog begin end) = c.log begin end
count c BackupErase = c.erase
count c BackupFinish = c.finish

abbrev pub nothing : Counts
nothing = record {
  start = 0;
  dispatch = 0;
  range = λ piece. 0;
  manifest = 0;
  logs = 0;
  log = λ begin end. 0;
  erase = 0;
  finish = 0;
}

abbrev pub starts : BackupWork → ℕ
starts = count (record nothing { start = 1 })

abbrev pub dispatches : BackupWork → ℕ
dispatches = count (record nothing { dispatch = 1 })

abbrev pub ranges : BackupWork → ℕ
ranges = count (record nothing { range = λ piece. 1 })

abbrev pub manifests : BackupWork → ℕ
manifests = count (record nothing { manifest = 1 })

abbrev pub log_dispatches : BackupWork → ℕ
log_dispatches = count (record nothing { logs = 1 })

abbrev pub logs : BackupWork → ℕ
logs = count (record nothing { log = λ begin end. 1 })

abbrev pub erases : BackupWork → ℕ
erases = count (record nothing { erase = 1 })

abbrev pub finishes : BackupWork → ℕ
finishes = count (record nothing { finish = 1 })

-- every task
abbrev pub any : BackupWork → ℕ
any work = 1

-- pieces that hold a key
abbrev pub holding : Bytes → BackupWork → ℕ
holding key = count (record nothing { range = λ piece. one_if (holds piece key) })

-- pieces that have no key
abbrev pub improper : BackupWork → ℕ
improper = count (record nothing { range = λ piece. one_if (is_backwards piece) })

-- log tasks that are empty, begin below a version or end past another
abbrev pub strays : ℕ → ℕ → BackupWork → ℕ
strays erased next =
    count
    (record nothing {
      log = λ begin end. one_if
          (not (nat_le erased begin && nat_lt begin end && nat_le end next));
    })

-- log tasks that begin at or below a version
abbrev pub logs_from : ℕ → BackupWork → ℕ
logs_from version =
    count (record nothing { log = λ begin end. one_if (nat_le begin version) })

-- how many of these ranges hold a key
abbrev pub count_holding : List KeyRange → Bytes → ℕ
count_holding [] key = 0
count_holding (piece ∷ pieces) key = one_if (holds piece key) + count_holding pieces key

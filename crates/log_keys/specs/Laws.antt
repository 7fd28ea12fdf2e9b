-- What holds of all keys, and of all logs.
use Rattle.std.specs.Prelude.{◌≡◌, ℕ, false, ◌==◌, ◌&&◌, List, [], ◌∷◌, ◌++◌, max, Some, None}
use Rattle.std.specs.Prelude.{if◌then◌else◌}
use Rattle.fb_bytes.specs.Bytes.{is_below}
use Rattle.mutations.specs.Replay.{is_within, AreRising}
use Rattle.log_keys.specs.Keys.{Key, Fits, key_bytes, key_in, is_key_below}
use Rattle.log_keys.specs.Logs.{Standing, AreOrdered, IsNewest, AreOfOthers, stands, with_one}
use Rattle.log_keys.specs.Logs.{is_between, is_older, erased, without, batch_of, batches_between}
use Rattle.log_keys.specs.Logs.{logged_at, batch_at}

-- the byte order of keys is the order of job, version and part
abbrev pub KeyOrderLaw : Type 0
KeyOrderLaw =
    (a b : Key) → Fits a → Fits b → is_below (key_bytes a) (key_bytes b) ≡ is_key_below a b

-- bytes are those of one key
abbrev pub OneKeyLaw : Type 0
OneKeyLaw = (key : Key) → Fits key → key_in (key_bytes key) ≡ key

-- what was put under a job and a version stands there, and all else is as it was
abbrev pub PutLaw : Type 0
PutLaw = (one : Standing) (log : List Standing) (job version : ℕ) → stands one.job one.version log
    ≡ false
    → logged_at job version (with_one one log)
    ≡ (if (one.job == job) && (one.version == version) then Some one.muts
    else logged_at job version log)

-- a job's versions before a version are erased, and all else is as it was
abbrev pub EraseLaw : Type 0
EraseLaw = (of below : ℕ) (log : List Standing) (job version : ℕ)
    → logged_at job version (erased of below log)
    ≡ (if is_older of below job version then None else logged_at job version log)

-- nothing stands under a version that was retracted, and all else is as it was
abbrev pub RetractLaw : Type 0
RetractLaw =
    (retracted : ℕ) (log : List Standing) (job version : ℕ)
    → logged_at job version (without retracted log)
    ≡ (if version == retracted then None else logged_at job version log)

-- of the versions from begin on and before end, what is joined has what stands under the job, and
-- of others nothing
abbrev pub JoinLaw : Type 0
JoinLaw = (job begin end : ℕ) (log : List Standing) (version : ℕ)
    → batch_at version (batches_between job begin end log)
    ≡ (if is_within begin end version then logged_at job version log else None)

-- the versions of what is joined rise
abbrev pub JoinOrderLaw : Type 0
JoinOrderLaw =
    (job begin end : ℕ) (log : List Standing) → AreOrdered log
    → AreRising (batches_between job begin end log)

-- a batch that is its job's newest comes last where it is joined, and elsewhere nothing changes
abbrev pub NewestLaw : Type 0
NewestLaw = (one : Standing) (log : List Standing) (job begin end : ℕ) → AreOrdered log
    → IsNewest one log
    → batches_between job begin end (with_one one log) ≡ batches_between job begin end log
    ++ (if is_between job begin end one.job one.version then batch_of one ∷ [] else [])

-- what is joined of a job whose earlier versions were erased begins later, and that of other jobs
-- is as it was
abbrev pub EraseJoinLaw : Type 0
EraseJoinLaw =
    (of below job begin end : ℕ) (log : List Standing)
    → batches_between job begin end (erased of below log)
    ≡ batches_between job (if of == job then max begin below else begin) end log

-- once a version is retracted, the log is what it was before the puts under that version
abbrev pub UndoLaw : Type 0
UndoLaw = (one : Standing) (log : List Standing) → without one.version (with_one one log)
    ≡ without one.version log

-- to retract a version that nothing stands under changes nothing
abbrev pub UnusedLaw : Type 0
UnusedLaw = (version : ℕ) (log : List Standing) → AreOfOthers version log
    → without version log ≡ log

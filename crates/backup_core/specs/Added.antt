-- Tasks that come into a bucket, each under the next uid.
use Rattle.std.specs.Prelude.{◌≡◌, ℕ, ◌+◌, ◌≤◌, false, List, [], ◌∷◌, Option, Some, None}
use Rattle.task_kinds.specs.Tasks.{SeenTask}
use Rattle.task_kinds.specs.Works.{OfBackup, task_for}
use Rattle.task_bucket.specs.Lists.{Lists, has_uid, added, added_asleep}
use Rattle.backup_core.specs.Tasks.{Adding}

-- no uid from this one on stands in the lists
abbrev pub IsFresh : ℕ → Lists → Type 0
IsFresh next lists = (uid : ℕ) → next ≤ uid → has_uid uid lists ≡ false

-- one task more, available or asleep
abbrev pub added_one : ℕ → Option ℕ → SeenTask → Lists → Lists
added_one uid None task lists = added uid task lists
added_one uid (Some until) task lists = added_asleep until uid task lists

-- the tasks of a job, under the uids from one on; those that wait for a future do so with its blocks
-- from a number on
abbrev pub added_all : (job future block uid : ℕ) → List Adding → Lists → Lists
added_all job future block uid [] lists = lists
added_all job future block uid (adding ∷ more) lists =
    added_all job future (block + 1) (uid + 1) more
    (added_one uid adding.until (task_for job future block (OfBackup adding.work)) lists)

-- tasks that are due, under the uids from one on
abbrev pub added_due : ℕ → List SeenTask → Lists → Lists
added_due uid [] lists = lists
added_due uid (task ∷ tasks) lists = added_due (uid + 1) tasks (added uid task lists)

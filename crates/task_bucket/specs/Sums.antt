-- Sums over the tasks of a bucket, of a number that may read the uid and the task, never the until.
use Rattle.std.specs.Prelude.{ℕ, ◌+◌, ◌≤◌, List, [], ◌∷◌, Option, option_map, if◌then◌else◌, ◌==◌}
use Rattle.std.specs.List.{find}
use Rattle.std.specs.Option.{option_or}
use Rattle.task_kinds.specs.Tasks.{SeenTask}
use Rattle.task_kinds.specs.Works.{Work, number_of}
use Rattle.task_bucket.specs.Lists.{Lease, Slot, Lists, slot_with, lease_with}

-- the sum of a number over a list
abbrev pub sum_of : {A : Type 0} → (A → ℕ) → List A → ℕ
sum_of f [] = 0
sum_of f (x ∷ xs) = f x + sum_of f xs

-- what a number counts for an available task, and for a leased one
abbrev pub slot_counts : (ℕ → SeenTask → ℕ) → Slot → ℕ
slot_counts f slot = f slot.uid slot.task

abbrev pub lease_counts : (ℕ → SeenTask → ℕ) → Lease → ℕ
lease_counts f lease = f lease.uid lease.task

-- the sum over all tasks, available and leased
abbrev pub weigh : (ℕ → SeenTask → ℕ) → Lists → ℕ
weigh f lists = sum_of (slot_counts f) lists.available + sum_of (lease_counts f) lists.leased

-- what a job's tasks count, by their works; the others count 0
abbrev pub of_job : ℕ → (Work → ℕ) → ℕ → SeenTask → ℕ
of_job job f uid task = if task.job == job then number_of f task else 0

-- the sum of a number over a job's works in the bucket
abbrev pub load : ℕ → Lists → (Work → ℕ) → ℕ
load job lists f = weigh (of_job job f) lists

-- what the tasks with this uid count; the others count 0
abbrev pub of_uid : ℕ → (ℕ → SeenTask → ℕ) → ℕ → SeenTask → ℕ
of_uid u f uid task = if uid == u then f uid task else 0

-- how often a uid stands in the bucket
abbrev pub is_uid : ℕ → ℕ → SeenTask → ℕ
is_uid u uid task = if uid == u then 1 else 0

-- each uid stands at most once
abbrev pub HasUidsOnce : Lists → Type 0
HasUidsOnce lists = (uid : ℕ) → weigh (is_uid uid) lists ≤ 1

-- the first task with this uid in each list
abbrev pub slot_task : ℕ → List Slot → Option SeenTask
slot_task uid slots = option_map (λ s. s.task) (find (slot_with uid) slots)

abbrev pub lease_task : ℕ → List Lease → Option SeenTask
lease_task uid leases = option_map (λ l. l.task) (find (lease_with uid) leases)

-- the task with this uid, available or leased
abbrev pub task_at : ℕ → Lists → Option SeenTask
task_at uid lists = option_or (slot_task uid lists.available) (lease_task uid lists.leased)

-- The lines of jobs: one for each.
use Rattle.std.specs.Prelude.{ℕ, List, [], ◌∷◌, ◌++◌, codes, decimal}
use Rattle.fb_bytes.specs.Bytes.{Bytes}
use Rattle.task_kinds.specs.declared.JobState.{JobState}
use Rattle.task_kinds.specs.declared.JobState.TheVariants.{Submitted, Running}
use Rattle.task_kinds.specs.declared.JobState.TheVariants.{RunningDifferential, Completed}
use Rattle.task_kinds.specs.declared.JobState.TheVariants.{Aborted, Failed}
use Rattle.cluster_core.specs.declared.JobKind.{JobKind}
use Rattle.cluster_core.specs.declared.JobKind.TheVariants.{Hand, Backup, Restore, Dr}
use Rattle.cluster_core.specs.Jobs.{JobTold}
use Rattle.report_text.specs.Lines.{line}

-- how far a job has come
abbrev pub state_word : JobState → Bytes
state_word Submitted = codes "submitted"
state_word Running = codes "running"
state_word RunningDifferential = codes "running-differential"
state_word Completed = codes "completed"
state_word Aborted = codes "aborted"
state_word Failed = codes "failed"

-- a job's type
abbrev pub kind_word : JobKind → Bytes
kind_word Hand = codes "hand"
kind_word Backup = codes "backup"
kind_word Restore = codes "restore"
kind_word Dr = codes "dr"

-- a job of this number, tag and type
abbrev pub job_line : ℕ → Bytes → JobKind → JobState → Bytes
job_line number tag kind state =
    line (codes "job" ∷ decimal number ∷ tag ∷ kind_word kind ∷ state_word state ∷ [])

-- a line for each job
abbrev pub job_lines : List JobTold → Bytes
job_lines [] = []
job_lines (job ∷ jobs) =
    job_line job.terms.number job.terms.tag job.terms.kind job.state ++ job_lines jobs

-- How far a job has come.
use Rattle.std.specs.Prelude.{Bool, true, false}
use Rattle.task_kinds.specs.declared.job_state.JobState.{JobState}
use Rattle.task_kinds.specs.declared.job_state.JobState.TheVariants.{Submitted, Running}
use Rattle.task_kinds.specs.declared.job_state.JobState.TheVariants.{RunningDifferential, Completed}
use Rattle.task_kinds.specs.declared.job_state.JobState.TheVariants.{Aborted, Failed}

-- a job has ended once it was completed, aborted or failed
abbrev pub has_ended : JobState → Bool
has_ended Submitted = false
has_ended Running = false
has_ended RunningDifferential = false
has_ended Completed = true
has_ended Aborted = true
has_ended Failed = true

-- What the operator's commands have in common.
use Rattle.std.specs.Prelude.{◌+◌, List, Option, Some}
use Rattle.std.specs.Prelude.{None, Ok, Err, nat_lt, if◌then◌else◌}
use Rattle.fb_bytes.specs.Bytes.{Bytes}
use Rattle.fb_outside.specs.declared.File.{File}
use Rattle.database.specs.Commits.{most_version}
use Rattle.cluster_core.specs.declared.event.Answer.TheVariants.{Done, Placed, Refused}
use Rattle.cluster_core.specs.declared.event.StepFault.TheVariants.{NoMemory}
use Rattle.cluster_core.specs.declared.refusal.Refusal.{Refusal}
use Rattle.cluster_core.specs.declared.refusal.Refusal.TheVariants.{NoJob}
use Rattle.cluster_core.specs.declared.refusal.Refusal.TheVariants.{WrongState}
use Rattle.task_kinds.specs.States.{has_ended}
use Rattle.cluster_core.specs.Jobs.{Found, newest, state_of_job}
use Rattle.cluster_core.specs.State as machine
use Rattle.cluster_core.specs.State.{with_put}
use Rattle.cluster_core.specs.Moves.{Luck, Moved, moved, changes}

-- The operator goes on to the next command.
abbrev pub gone_on : machine.State → machine.State
gone_on state = record state { place = state.place + 1 }

abbrev pub refuses : Refusal → machine.State → Moved
refuses refusal state = moved (Ok (Refused refusal)) (gone_on state)

abbrev pub done : machine.State → Moved
done state = moved (Ok Done) (gone_on state)

-- the files of the state with a put
abbrev pub files_put : machine.State → Bytes → Bytes → Option (List File)
files_put state whole bytes = with_put whole bytes state.files

-- A file of the container is put; once it is done the ticket is used up, and the operator goes on.
abbrev pub puts : machine.State → Bytes → Bytes → machine.State → Luck → Moved
puts state whole bytes after luck =
    changes state (files_put state whole bytes) luck
    (moved (Ok (Placed whole))
    (record (gone_on after)
    { files = files_put state whole bytes; tickets = state.tickets + 1 }))

-- tickets go as far as versions
abbrev pub putting : machine.State → Bytes → Bytes → machine.State → Luck → Moved
putting state whole bytes after luck =
    if nat_lt most_version state.tickets then moved (Err NoMemory) state
    else puts state whole bytes after luck

-- a command of a job that hasn't ended
abbrev pub on_running : machine.State → (Found → Moved) → Found → Moved
on_running state f found =
    if has_ended (state_of_job found.job)
    then refuses (WrongState (state_of_job found.job)) state
    else f found

abbrev pub on_found : machine.State → Bytes → (Found → Moved) → Option Found → Moved
on_found state tag f None = refuses (NoJob tag) state
on_found state tag f (Some found) = on_running state f found

-- the newest job with the tag has to be there and may not have ended
abbrev pub on_job : machine.State → Bytes → (Found → Moved) → Moved
on_job state tag f = on_found state tag f (newest tag state.jobs)

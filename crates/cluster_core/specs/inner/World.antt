-- The machine's state of the parts that keep it, and the steps of single methods.
use Rattle.std.specs.Prelude.{◌≡◌, ℕ, ◌≤◌, List, [], ◌∷◌, Option, Some, None, Result, Ok, Err}
use Rattle.std.specs.List.{AllByRecursion-prop}
use Rattle.std.specs.Coded.{Coded, prop_coded}
use Rattle.fb_outside.specs.declared.File.{File}
use Rattle.versioned_kv.specs.declared.Versions.{Versions}
use Rattle.workload_text.specs.declared.Settings.{Settings}
use Rattle.workload_text.specs.declared.ClientScript.{ClientScript}
use Rattle.workload_text.specs.declared.Command.{Command}
use Rattle.workload_text.specs.declared.ScheduleLine.{ScheduleLine}
use Rattle.workload_text.specs.declared.Workload.{Workload}
use Rattle.workload_text.specs.declared.Workload as workload
use Rattle.workload_text.specs.Commands.{IsCommand, IsCommand-prop}
use Rattle.database.specs.declared.JobLog.{JobLog}
use Rattle.database.specs.Logs.{with_log, without_log}
use Rattle.database.specs.Commits.{Database, scene_of, oldest_at}
use Rattle.fb_bytes.specs.Bytes.{Bytes}
use Rattle.fb_bytes.specs.Options.{◌>>=◌}
use Rattle.workload_text.specs.declared.Side.{Side}
use Rattle.workload_text.specs.declared.Side.TheVariants.{Src, Dst}
use Rattle.client_core.specs.declared.Outcome.{Outcome}
use Rattle.cluster_core.specs.declared.event.Answer.{Answer}
use Rattle.cluster_core.specs.declared.event.Answer.TheVariants.{Nothing}
use Rattle.cluster_core.specs.declared.event.Answer.TheVariants as answers
use Rattle.client_core.specs.Clients.{ClientState, begun_client, Try, commit_try}
use Rattle.cluster_core.specs.declared.job.Job.{Job}
use Rattle.cluster_core.specs.Jobs.{logs_of}
use Rattle.cluster_core.specs.State.{State, client_at}
use Rattle.cluster_core.specs.declared.event.Event.{Event}
use Rattle.cluster_core.specs.declared.event.Event.TheVariants as events
use Rattle.cluster_core.specs.declared.event.StepFault.{StepFault}
use Rattle.cluster_core.specs.declared.event.StepFault.TheVariants.{NoMemory}
use Rattle.cluster_core.specs.Moves.{Luck, Fine, Silent, moved}
use Rattle.cluster_core.specs.commands.Open.{names_listed}
use Rattle.cluster_core.specs.events.Commit.{commit}
use Rattle.cluster_core.specs.Step.{event_gives, step}
use Rattle.cluster_core.specs.Sound.{Sound}
use Rattle.cluster_core.specs.World.{Seen}
use Rattle.cluster_core.specs.inner.Crew.{Crew}

-- a workload's commands are allowed in one way alone, so that fact has a code
abbrev pub allowed_code : (settings : Settings) (clients : List ClientScript)
    (operator : List Command) (schedule : List ScheduleLine)
    (clients_allowed : workload.clients_allowed-type settings clients operator schedule)
    (few_commands :
    workload.few_commands-type settings clients operator schedule clients_allowed)
    → Coded (workload.operator_allowed-type settings clients operator schedule clients_allowed
    few_commands)
allowed_code settings clients operator schedule clients_allowed few_commands =
    prop_coded
    (AllByRecursion-prop (IsCommand settings.block) (IsCommand-prop settings.block) operator)

-- the step of the operator's next command, by what the outside did
abbrev pub OperatorSteps : Seen → Result Answer StepFault → Seen → Type 0
OperatorSteps old result new =
    (luck : Luck) × (step old.workload old.state events.Command luck ≡ moved result new.state)

-- what the operator has: its jobs, how many of its commands have ended, the next ticket, and the
-- agents with the tasks that they claim
pub record Desk : Type 0 where
  pub jobs : List Job
  pub place : ℕ
  pub tickets : ℕ
  pub crew : Crew

-- the machine's state, of the parts that keep it
abbrev pub state_of : List ClientState → Database → Database → Versions → Desk → Option (List File)
    → State
state_of clients src dst versions desk files =
    record {
      time = versions.now;
      src = src.history;
      dst = dst.history;
      clients = clients;
      jobs = desk.jobs;
      place = desk.place;
      tickets = desk.tickets;
      bucket = desk.crew.bucket;
      uids = desk.crew.uids;
      paused = desk.crew.paused;
      agents = desk.crew.agents;
      files = files;
    }

-- the parts are those of a run of the workload, in a sound state
pub record IsWorld (workload : Workload) (src dst : Database) (versions : Versions)
    (state : State) : Type 0 where
  pub src_block : src.block ≡ workload.settings.block
  pub dst_block : dst.block ≡ workload.settings.block
  pub pace : versions.pace ≡ workload.settings.pace
  -- each database keeps what can be read
  pub src_oldest : src.oldest ≤ oldest_at versions.now
  pub dst_oldest : dst.oldest ≤ oldest_at versions.now
  -- each database has the logs of its jobs
  pub src_logs : src.logs ≡ logs_of Src state.jobs
  pub dst_logs : dst.logs ≡ logs_of Dst state.jobs
  pub sound : Sound workload state

-- the client of that number once it has begun a transaction, where it can
abbrev pub begun_in : List ClientState → ℕ → ℕ → Option ClientState
begun_in clients number time = client_at clients number >>= begun_client time

-- the client's try against one database, where it has begun a transaction
abbrev pub tried_in : List ClientState → ℕ → Database → Versions → Option Try
tried_in clients number db versions =
    client_at clients number >>= commit_try (scene_of db versions)

-- the side of the client of that number
abbrev pub side_in : List ClientState → ℕ → Option Side
side_in clients number = client_at clients number >>= λ client. Some client.script.side

-- a try's outcome as an answer
abbrev pub answer_of : Option Outcome → Answer
answer_of None = Nothing
answer_of (Some outcome) = answers.Outcome outcome

-- a commit that wasn't refused made its step; a refused one changed nothing
abbrev pub CommitSteps : Settings → State → ℕ → Result Answer StepFault → State → Type 0
CommitSteps settings old number (Ok answer) new = commit settings old number ≡ moved (Ok answer) new
CommitSteps settings old number (Err fault) new = (fault ≡ NoMemory) × (new ≡ old)

-- and so with an agent's event
abbrev pub AgentSteps : Workload → State → Event → Result Answer StepFault → State → Type 0
AgentSteps workload old event (Ok answer) new =
    event_gives workload old (Fine Silent) event ≡ moved (Ok answer) new
AgentSteps workload old event (Err fault) new = (fault ≡ NoMemory) × (new ≡ old)

-- the database of one side with a log more, where the log is of that side
abbrev pub logs_more : Side → Side → JobLog → Database → Database
logs_more Src Src log db = record db { logs = with_log log db.logs }
logs_more Src Dst log db = db
logs_more Dst Src log db = db
logs_more Dst Dst log db = record db { logs = with_log log db.logs }

-- and without a job's log
abbrev pub logs_less : Side → Side → ℕ → Database → Database
logs_less Src Src job db = record db { logs = without_log job db.logs }
logs_less Src Dst job db = db
logs_less Dst Src job db = db
logs_less Dst Dst job db = record db { logs = without_log job db.logs }

-- a list of a container's files gave this name first, or none
abbrev pub IsListed : State → Bytes → Option Bytes → Type 0
IsListed state container None = (said : List Bytes) × (names_listed container state.files said ≡ [])
IsListed state container (Some name) =
    (said : List Bytes) × (names : List Bytes)
    × (names_listed container state.files said ≡ name ∷ names)

-- the first of the names, where there is one
abbrev pub IsFirstName : List Bytes → Option Bytes → Type 0
IsFirstName [] name = name ≡ None
IsFirstName (first ∷ names) name = name ≡ Some first

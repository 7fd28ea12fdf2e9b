-- The machine's state.
use Rattle.std.specs.Prelude.{ℕ, zero, suc, Bool, false, List, [], map, replicate, Option, Some}
use Rattle.std.specs.Prelude.{None, slice_get, slice_set}
use Rattle.fb_bytes.specs.Bytes.{Bytes}
use Rattle.fb_outside.specs.declared.File.{File}
use Rattle.fb_outside.specs.Files.{with_file}
use Rattle.mutations.specs.declared.Entry.{Entry}
use Rattle.task_bucket.specs.Lists.{Lists, nothing}
use Rattle.workload_text.specs.declared.Side.{Side}
use Rattle.workload_text.specs.declared.Side.TheVariants.{Src, Dst}
use Rattle.workload_text.specs.declared.Workload.{Workload}
use Rattle.client_core.specs.Clients.{ClientState, new_client}
use Rattle.cluster_core.specs.declared.job.Job.{Job}
use Rattle.cluster_core.specs.Agents.{Memory}

pub record State : Type 0 where
  -- the newest version
  pub time : ℕ
  -- the histories of the two databases
  pub src : List Entry
  pub dst : List Entry
  -- in the order of their numbers
  pub clients : List ClientState
  -- in the order of their numbers
  pub jobs : List Job
  -- how many of the operator's commands have ended
  pub place : ℕ
  -- the next ticket: files are numbered in the order of the puts that succeeded
  pub tickets : ℕ
  -- the tasks that are to be done, and the next uid
  pub bucket : Lists
  pub uids : ℕ
  -- agents claim nothing meanwhile
  pub paused : Bool
  -- what each agent remembers, by its number from 0
  pub agents : List (Option Memory)
  -- the files of the store, where it tells them
  pub files : Option (List File)

-- the one of a side
abbrev pub on_side : {X : Type 0} → Side → X → X → X
on_side Src src dst = src
on_side Dst src dst = dst

-- the history of a side's database
abbrev pub history_on : Side → State → List Entry
history_on side state = on_side side state.src state.dst

abbrev pub with_history : Side → List Entry → State → State
with_history Src history state = record state { src = history }
with_history Dst history state = record state { dst = history }

-- the client of a number, counted from 1
abbrev pub client_at : List ClientState → ℕ → Option ClientState
client_at clients zero = None
client_at clients (suc n) = slice_get clients n

-- another client in the place of that number
abbrev pub put_client : List ClientState → ℕ → ClientState → List ClientState
put_client clients zero client = clients
put_client clients (suc n) client = slice_set clients n client

-- the state with another job at a place
abbrev pub with_job : ℕ → Job → State → State
with_job place job state = record state { jobs = slice_set state.jobs place job }

-- the files with a put, where they are told
abbrev pub with_put : Bytes → Bytes → Option (List File) → Option (List File)
with_put whole bytes None = None
with_put whole bytes (Some files) = Some (with_file files whole bytes)

-- the state in which a workload begins
abbrev pub opening : Workload → Option (List File) → State
opening workload files =
    record {
      time = 0;
      src = [];
      dst = [];
      clients = map (new_client workload.settings.tries) workload.clients;
      jobs = [];
      place = 0;
      tickets = 1;
      bucket = nothing;
      uids = 1;
      paused = false;
      agents = replicate (suc workload.settings.agents) None;
      files = files;
    }

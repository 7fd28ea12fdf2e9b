-- What each step keeps.
use Rattle.std.specs.Prelude.{◌≡◌, ℕ, zero, suc, ◌+◌, ◌^◌, ◌<◌, ◌≤◌, true, false, List, [], map}
use Rattle.std.specs.Prelude.{length, Option, Some, None, slice_get}
use Rattle.std.specs.List.{AllByRecursion}
use Rattle.fb_bytes.specs.Bytes.{Bytes, is_same}
use Rattle.fb_bytes.specs.declared.KeyRange.{KeyRange}
use Rattle.fb_bytes.specs.declared.Pair.{Pair}
use Rattle.fb_bytes.specs.Keys.{in_ranges, AreRanges}
use Rattle.fb_outside.specs.declared.File.{File}
use Rattle.fb_outside.specs.Files.{AreFiles, file_of}
use Rattle.mutations.specs.declared.Entry.{Entry}
use Rattle.mutations.specs.Clipping.{all_clipped}
use Rattle.mutations.specs.Spelling.{mutations_spelling}
use Rattle.mutations.specs.Histories.{IsRising}
use Rattle.file_names.specs.declared.Name.TheVariants.{Range}
use Rattle.file_names.specs.Reading.{name_of}
use Rattle.file_names.specs.Spelling.{unreliable_text}
use Rattle.container_view.specs.Contents.{file_grammars}
use Rattle.container_view.specs.Files.{whole_name, end_of}
use Rattle.container_view.specs.Honest.{IsHonestStore, listed_by}
use Rattle.container_view.specs.Law.{Source}
use Rattle.snapshot_plan.specs.declared.Noted.{Noted}
use Rattle.snapshot_plan.specs.Noted.{pieces_of}
use Rattle.snapshot_plan.specs.Pieces.{ArePieces}
use Rattle.snapshot_plan.specs.Listing.{noted_names, AreDistinct}
use Rattle.workload_text.specs.Commands.{is_container_name}
use Rattle.workload_text.specs.declared.Settings.{Settings}
use Rattle.workload_text.specs.declared.Workload.{Workload}
use Rattle.workload_text.specs.declared.Side.{Side}
use Rattle.workload_text.specs.declared.Side.TheVariants.{Src, Dst}
use Rattle.workload_text.specs.declared.ClientScript.{ClientScript}
use Rattle.database.specs.Commits.{most_version}
use Rattle.database.specs.Dumps.{AreWithin}
use Rattle.client_core.specs.Clients.{ClientState}
use Rattle.client_core.specs.Legal.{Ground, entries_by}
use Rattle.client_core.specs.Sound.{IsSoundClient}
use Rattle.task_kinds.specs.States.{has_ended}
use Rattle.task_kinds.specs.Tasks.{SeenTask}
use Rattle.task_kinds.specs.Works.{Work, OfBackup, work_of}
use Rattle.task_bucket.specs.Holders.{HoldersFacts}
use Rattle.task_bucket.specs.Lists.{Lists}
use Rattle.task_bucket.specs.Sums.{weigh}
use Rattle.backup_core.specs.declared.Mode.{Mode}
use Rattle.backup_core.specs.declared.Mode.TheVariants as modes
use Rattle.cluster_core.specs.declared.job.Job.{Job}
use Rattle.cluster_core.specs.declared.job.Job.TheVariants as types
use Rattle.cluster_core.specs.Agents.{Memory, holders_of, memory_at}
use Rattle.cluster_core.specs.Backups.{Backup}
use Rattle.cluster_core.specs.Jobs.{terms_of, ranges_on}
use Rattle.cluster_core.specs.State.{State, on_side, client_at}

-- The entries stand in the order of their versions, and none is past the newest version.
pub record IsOrdered (time : ℕ) (history : List Entry) : Type 0 where
  pub rising : IsRising history
  pub past : AllByRecursion (λ entry. entry.version ≤ time) history

abbrev pub other_side : Side → Side
other_side Src = Dst
other_side Dst = Src

-- what the clients of a side are measured by: the settings, the jobs that were to log there, and the
-- history
abbrev pub ground_of : Settings → Side → List Job → List Entry → List Entry → Ground
ground_of settings side jobs src dst =
    record {
      block = settings.block;
      pace = settings.pace;
      tries = settings.tries;
      logged = ranges_on side jobs;
      history = on_side side src dst;
    }

-- A client's outcomes and its database's history are legal for its script, and the other database
-- has no entry by it.
pub record IsClientSound (settings : Settings) (time : ℕ) (jobs : List Job) (src dst : List Entry)
    (number : ℕ) (client : ClientState) : Type 0 where
  pub sound : IsSoundClient (ground_of settings client.script.side jobs src dst) time number client
  pub apart : entries_by number (on_side (other_side client.script.side) src dst) ≡ []

-- ---- jobs

-- what a job logs of each entry from a version on has fewer than 2^32 bytes
abbrev pub AreLoggable : List KeyRange → ℕ → List Entry → Type 0
AreLoggable ranges begin history =
    AllByRecursion
    (λ entry. begin ≤ entry.version
    → length (mutations_spelling (all_clipped ranges entry.muts)) < 2 ^ 32)
    history

-- a range file of this version, whose ticket was drawn
pub record IsNoted (block now tickets : ℕ) (noted : Noted) : Type 0 where
  pub past : noted.file.version ≤ now
  pub snapshot : ℕ
  pub ticket : ℕ
  pub drawn : ticket < tickets
  pub name : name_of noted.file.name ≡ Range snapshot noted.file.version ticket block

-- What is kept of a backup, over the history of its database.
pub record BackupSound (block now tickets : ℕ) (history : List Entry) (backup : Backup)
    : Type 0 where
  pub named : is_container_name backup.container ≡ true
  pub ranges : AreRanges backup.job.terms.ranges
  pub some : 0 < length backup.job.terms.ranges
  -- the pieces of its snapshot are in order, and in its ranges
  pub pieces : ArePieces (pieces_of backup.job.noted)
  pub inside : (key : Bytes) → in_ranges (pieces_of backup.job.noted) key ≡ true
      → in_ranges backup.job.terms.ranges key ≡ true
  -- each has a file of its own
  pub noted : AllByRecursion (IsNoted block now tickets) backup.job.noted
  pub distinct : AreDistinct (noted_names backup.job.noted)
  pub snapshot : backup.job.snapshot ≤ now
  -- its log goes on from where it was cut
  pub begun : backup.job.begin ≤ backup.job.next
  pub erased : backup.job.erased ≤ backup.job.next
  pub next : backup.job.next ≤ now + 1
  pub logged : has_ended backup.job.state ≡ false
      → AreLoggable backup.job.terms.ranges backup.job.begin history

-- what a backup's container is a backup of
abbrev pub source_of : ℕ → ℕ → List Entry → Backup → Source
source_of block now history backup =
    record { history = history; now = now; ranges = backup.job.terms.ranges; block = block }

-- the file of a noted piece is in the container, and has that piece
pub record IsThere (block : ℕ) (container : Bytes) (files : List File)
    (noted : Noted) : Type 0 where
  pub bytes : Bytes
  pub file : file_of files (whole_name container noted.file.name) ≡ Some bytes
  pub pairs : List Pair
  pub content : file_grammars.range block bytes
      ≡ Some (record { range = noted.piece; pairs = pairs })

-- the unreliable end of a container in a store, 0 without its file, none where the file isn't in
-- its grammar
abbrev pub unreliable_in : Bytes → List File → Option ℕ
unreliable_in container files = end_of (file_of files (whole_name container unreliable_text))

-- The file of a noted piece is there where its version isn't below the container's unreliable end.
abbrev pub IsKept : ℕ → Bytes → List File → Noted → Type 0
IsKept block container files noted =
    (end : ℕ) → unreliable_in container files ≡ Some end → end ≤ noted.file.version
    → IsThere block container files noted

-- the name is that of a range file whose ticket was drawn
pub record IsDrawn (tickets : ℕ) (name : Bytes) : Type 0 where
  pub snapshot : ℕ
  pub version : ℕ
  pub ticket : ℕ
  pub block : ℕ
  pub read : name_of name ≡ Range snapshot version ticket block
  pub drawn : ticket < tickets

-- What is kept of a backup's container, where the store tells its files.
pub record IsStored (block now tickets : ℕ) (history : List Entry) (files : List File)
    (backup : Backup) : Type 0 where
  pub honest : IsHonestStore file_grammars (source_of block now history backup) backup.container
      files
  pub there : AllByRecursion (IsKept block backup.container files) backup.job.noted
  -- manifests list range files with drawn tickets alone
  pub listed : (name bytes : Bytes) (names : List Bytes)
      → file_of files (whole_name backup.container name) ≡ Some bytes
      → listed_by file_grammars (name_of name) bytes ≡ Some names
      → AllByRecursion (IsDrawn tickets) names

-- no two backups write to one container
abbrev pub AreApart : List Job → Type 0
AreApart jobs =
    (a b : ℕ) (first second : Backup) → slice_get jobs a ≡ Some (types.Backup first)
    → slice_get jobs b ≡ Some (types.Backup second)
    → is_same first.container second.container ≡ true → a ≡ b

-- jobs are numbered in their order, from this number on
abbrev pub AreNumbered : ℕ → List Job → Type 0
AreNumbered first jobs =
    (place : ℕ) (job : Job) → slice_get jobs place ≡ Some job
    → (terms_of job).number ≡ first + place

-- ---- tasks

-- the job of a number, counted from 1
abbrev pub job_at : List Job → ℕ → Option Job
job_at jobs zero = None
job_at jobs (suc n) = slice_get jobs n

-- 1 for a work that a backup of this mode may not have: one of another type. A hand job has none.
abbrev pub backup_misfit : Mode → Option Work → ℕ
backup_misfit modes.Once (Some (OfBackup work)) = 0
backup_misfit modes.Continuous (Some (OfBackup work)) = 0
backup_misfit mode work = 1

-- 1 for a work that isn't of the job's type, or where there is no job
abbrev pub misfit : Option Job → Option Work → ℕ
misfit None work = 1
misfit (Some (types.Backup backup)) work = backup_misfit backup.job.terms.mode work

-- 1 for a task that isn't one of its job
abbrev pub misfits : List Job → ℕ → SeenTask → ℕ
misfits jobs uid task = misfit (job_at jobs task.job) (work_of task)

-- ---- six parts, each over what it reads of the state

-- Neither the newest version nor a ticket that was drawn is past the greatest number.
pub record IsClockSound (time next_ticket : ℕ) : Type 0 where
  pub bound : time ≤ most_version
  pub tickets : next_ticket ≤ most_version + 1

-- The histories of both sides are in order, and their mutations within the block's limits.
pub record AreDatabasesSound (block time : ℕ) (src dst : List Entry) : Type 0 where
  pub histories : (side : Side) → IsOrdered time (on_side side src dst)
  pub within : (side : Side) → AreWithin block (on_side side src dst)

-- The clients go through the workload's scripts, each as far as its outcomes and the histories say.
pub record AreClientsSound (settings : Settings) (scripts : List ClientScript) (time : ℕ)
    (jobs : List Job) (src dst : List Entry) (clients : List ClientState) : Type 0 where
  pub scripts_are : map (λ (client : ClientState). client.script) clients ≡ scripts
  pub each : (number : ℕ) (client : ClientState) → client_at clients number ≡ Some client
      → IsClientSound settings time jobs src dst number client

-- The tasks, and what agents remember of them. Agents are numbered from 0 to the workload's last.
pub record AgentsSound (last time next : ℕ) (bucket : Lists) (agents : List (Option Memory))
    (jobs : List Job) : Type 0 where
  pub numbered : length agents ≡ suc last
  -- no uid that was drawn is past the greatest number
  pub uids : next ≤ most_version + 1
  -- each uid stands once, and no two agents hold one lease
  pub holders : HoldersFacts time next bucket (holders_of agents)
  -- each task is one of its job, in the bucket and in what an agent remembers
  pub fits : weigh (misfits jobs) bucket ≡ 0
  pub each : (agent : ℕ) (memory : Memory) → memory_at agents agent ≡ Some memory
      → misfits jobs memory.lease.uid memory.lease.task ≡ 0

-- what the facts on jobs and on their containers read of a state
pub record View : Type 0 where
  pub block : ℕ
  pub now : ℕ
  pub tickets : ℕ
  pub src : List Entry
  pub dst : List Entry
  pub jobs : List Job

abbrev pub view_of : ℕ → State → View
view_of block state =
    record {
      block = block;
      now = state.time;
      tickets = state.tickets;
      src = state.src;
      dst = state.dst;
      jobs = state.jobs;
    }

-- the facts on a job over the histories of both sides, by its type
abbrev pub JobSound : ℕ → ℕ → ℕ → List Entry → List Entry → Job → Type 0
JobSound block now tickets src dst (types.Backup backup) =
    BackupSound block now tickets (on_side backup.side src dst) backup

pub record AreJobsSound (view : View) : Type 0 where
  pub each : (place : ℕ) (job : Job) → slice_get view.jobs place ≡ Some job
      → JobSound view.block view.now view.tickets view.src view.dst job
  pub apart : AreApart view.jobs
  pub numbered : AreNumbered 1 view.jobs

-- the facts on a job's container, by its type
abbrev pub JobStored : ℕ → ℕ → ℕ → List Entry → List Entry → List File → Job → Type 0
JobStored block now tickets src dst files (types.Backup backup) =
    IsStored block now tickets (on_side backup.side src dst) files backup

-- What is kept of all containers of jobs, over the files that the store tells.
pub record AreContainersSound (view : View) (files : List File) : Type 0 where
  pub ordered : AreFiles files
  pub each : (place : ℕ) (job : Job) → slice_get view.jobs place ≡ Some job
      → JobStored view.block view.now view.tickets view.src view.dst files job

pub record Sound (workload : Workload) (state : State) : Type 0 where
  pub clock : IsClockSound state.time state.tickets
  pub databases : AreDatabasesSound workload.settings.block state.time state.src state.dst
  pub clients : AreClientsSound workload.settings workload.clients state.time state.jobs state.src
      state.dst state.clients
  pub jobs : AreJobsSound (view_of workload.settings.block state)
  pub agents : AgentsSound workload.settings.agents state.time state.uids state.bucket state.agents
      state.jobs
  -- where the store tells its files
  pub containers : (files : List File) → state.files ≡ Some files
      → AreContainersSound (view_of workload.settings.block state) files

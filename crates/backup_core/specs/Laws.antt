-- What the closes of tasks, the operator's orders and the takes of agents leave of the facts on a
-- backup.
use Rattle.std.specs.Prelude.{◌≡◌, ◌≢◌, ℕ, ◌+◌, ◌<◌, ◌≤◌, true, false, List, []}
use Rattle.std.specs.Prelude.{Option, Some, None}
use Rattle.std.specs.List.{AllByRecursion}
use Rattle.fb_bytes.specs.Bytes.{Bytes, is_same}
use Rattle.fb_bytes.specs.declared.KeyRange.{KeyRange}
use Rattle.fb_bytes.specs.Keys.{is_backwards, AreSeparate}
use Rattle.fb_bytes.specs.Options.{IsIn}
use Rattle.file_names.specs.declared.Name.TheVariants.{Range}
use Rattle.manifests.specs.Files.{version_of}
use Rattle.mutations.specs.Histories.{logged}
use Rattle.task_kinds.specs.States.{has_ended}
use Rattle.task_kinds.specs.Works.{BackupWork, BackupStart, BackupRange, BackupManifest}
use Rattle.task_kinds.specs.Works.{BackupLog}
use Rattle.task_kinds.specs.Tasks.{SeenTask}
use Rattle.task_bucket.specs.Leases.{after_finish}
use Rattle.task_bucket.specs.declared.Lease.{Lease}
use Rattle.task_bucket.specs.Lists.{Lists, added, added_asleep, without_job, is_leased}
use Rattle.task_bucket.specs.Sums.{HasUidsOnce, task_at}
use Rattle.snapshot_plan.specs.declared.Done.{Done}
use Rattle.snapshot_plan.specs.Listing.{noted_names, IsNew, IsWritable}
use Rattle.snapshot_plan.specs.Noted.{fault_of, manifest_of}
use Rattle.container_view.specs.Folder.{RangeContent, RangeFile, Folder}
use Rattle.container_view.specs.Law.{Source, HasState, IsHonest}
use Rattle.container_view.specs.Changes.{Grows, Inserts}
use Rattle.database.specs.declared.JobLog.{JobLog}
use Rattle.backup_core.specs.declared.mode.Mode.TheVariants.{Hand}
use Rattle.backup_core.specs.Backups.{Terms, BackupJob, opened, map_of, job_log, dumped, cut_to}
use Rattle.backup_core.specs.Backups.{sealed, aborted_job, text_of}
use Rattle.backup_core.specs.Counts.{any}
use Rattle.backup_core.specs.Facts.{View, IsPlan, AreSettings, JobFacts, IsThere, FileFacts}
use Rattle.backup_core.specs.Kept.{Part, RangePart, LogPart, ManifestPart, Kept, range_file}
use Rattle.backup_core.specs.Kept.{KeptFacts, done_of}
use Rattle.backup_core.specs.Orders.{submits, snapshot_refusal, snapshots, discontinue_refusal}
use Rattle.backup_core.specs.Orders.{discontinued}
use Rattle.backup_core.specs.Rows.{Scene, Row, row_of}
use Rattle.backup_core.specs.Tasks.{IsLoad, HasTask, load_of, IsTaskOf, Adding, adds}

-- ---- a bucket

-- The sums over a backup's tasks in a bucket, and what becomes of them as its tasks come and go.
pub record BucketLaw : Type 0 where
  pub sums : (job : ℕ) (lists : Lists) → IsLoad (load_of job lists)
  -- the task of a uid is among those of its job
  pub has : (lists : Lists) (job uid : ℕ) (work : BackupWork) (task : SeenTask)
      → HasUidsOnce lists → task_at uid lists ≡ Some task → IsTaskOf job work task
      → HasTask (load_of job lists) work
  -- a finish of a lease that is held takes off what its task counts
  pub finish : (lists : Lists) (lease : Lease) (job : ℕ) (work : BackupWork) (task : SeenTask)
      → HasUidsOnce lists → is_leased lease.until lease.uid lists ≡ true
      → task_at lease.uid lists ≡ Some task → IsTaskOf job work task → (f : BackupWork → ℕ)
      → load_of job (after_finish lease lists) f + f work ≡ load_of job lists f
  -- a task that is added adds what it counts
  pub add : (lists : Lists) (job uid : ℕ) (work : BackupWork) (task : SeenTask)
      → IsTaskOf job work task → (f : BackupWork → ℕ)
      → load_of job (added uid task lists) f ≡ f work + load_of job lists f
  pub add_asleep : (lists : Lists) (job until uid : ℕ) (work : BackupWork) (task : SeenTask)
      → IsTaskOf job work task → (f : BackupWork → ℕ)
      → load_of job (added_asleep until uid task lists) f ≡ f work + load_of job lists f
  -- tasks of other jobs change nothing
  pub finish_other : (lists : Lists) (lease : Lease) (job : ℕ) (task : SeenTask)
      → HasUidsOnce lists → task_at lease.uid lists ≡ Some task → task.job ≢ job
      → (f : BackupWork → ℕ) → load_of job (after_finish lease lists) f ≡ load_of job lists f
  pub add_other : (lists : Lists) (job uid : ℕ) (task : SeenTask) → task.job ≢ job
      → (f : BackupWork → ℕ) → load_of job (added uid task lists) f ≡ load_of job lists f
  pub add_asleep_other : (lists : Lists) (job until uid : ℕ) (task : SeenTask) → task.job ≢ job
      → (f : BackupWork → ℕ)
      → load_of job (added_asleep until uid task lists) f ≡ load_of job lists f
  -- a job that is dropped has no task
  pub drop : (job : ℕ) (lists : Lists) (f : BackupWork → ℕ)
      → load_of job (without_job job lists) f ≡ 0

-- ---- closes

-- a file that is noted: its version isn't past the newest one, and no file that is noted has its name
pub record CanNote (now : ℕ) (job : BackupJob) (file : Done) : Type 0 where
  pub past : file.version ≤ now
  pub name : version_of file.name ≡ Some file.version
  pub new : IsNew file.name (noted_names job.noted)

abbrev pub FileFits : ℕ → BackupJob → Option Done → Type 0
FileFits now job None = Unit {0}
FileFits now job (Some file) = CanNote now job file

-- A task of a job is closed: what the close reads is as the facts before it say, and after it the
-- bucket has the tasks that it adds in place of the one that it closes.
pub record Closes (old : View) (scene : Scene) (work : BackupWork) (file : Option Done)
    (job : BackupJob) (row : Row) (new : View) : Type 0 where
  pub facts : JobFacts job old
  pub load : IsLoad old.load
  pub now : scene.now ≡ old.now
  pub later : (version : ℕ) → scene.version ≡ Some version → old.now ≤ version
  pub plan : IsPlan job.terms.ranges scene.pieces
  pub fits : FileFits old.now job file
  pub others : (f : BackupWork → ℕ) → scene.others f + f work ≡ old.load f
  pub row_is : row_of scene work file job ≡ Some row
  pub now_is : new.now ≡ row.now
  pub tasks : (f : BackupWork → ℕ) → new.load f ≡ adds f row.adds + scene.others f

-- the close of each kind leaves the facts on its job
abbrev pub RowsLaw : Type 0
RowsLaw = (old : View) (scene : Scene) (work : BackupWork) (file : Option Done) (job : BackupJob)
    (row : Row) (new : View) → Closes old scene work file job row new → JobFacts row.job new

-- the file that is noted for a piece is there
abbrev pub FileThere : Folder → BackupWork → Option Done → Type 0
FileThere folder work None = Unit {0}
FileThere folder work (Some file) =
    (snapshot : ℕ) (piece : KeyRange) → work ≡ BackupRange snapshot piece
    → IsThere folder (record { piece = piece; file = file })

-- what a close leaves of the facts on the files, which it doesn't change
abbrev pub RowFilesLaw : Type 0
RowFilesLaw = (source : Source) (folder : Folder) (scene : Scene) (work : BackupWork)
    (file : Option Done) (job : BackupJob) (row : Row) → FileFacts job source folder
    → FileThere folder work file → row_of scene work file job ≡ Some row
    → FileFacts row.job source folder

-- the file isn't under this name
abbrev pub IsElsewhere : Bytes → Option Done → Type 0
IsElsewhere name None = Unit {0}
IsElsewhere name (Some file) = is_same name file.name ≡ false

-- what the code of a close relies on, and what it leaves of other parts
pub record ClosesLaw : Type 0 where
  -- an open piece can be noted
  pub piece : (job : BackupJob) (view : View) (snapshot : ℕ) (piece : KeyRange) → JobFacts job view
      → IsLoad view.load → HasTask view.load (BackupRange snapshot piece)
      → (is_backwards piece ≡ false) × (fault_of (map_of job) piece ≡ None)
  -- a job whose start is open logs nothing yet
  pub start : (job : BackupJob) (view : View) → JobFacts job view
      → HasTask view.load BackupStart → job_log job ≡ None
  -- the file of a kept part that was placed is there, and is that of its task's piece
  pub placed : (source : Source) (folder : Folder) (snapshot : ℕ) (piece : KeyRange) (kept : Kept)
      (of version bytes : ℕ) (body : RangeContent)
      → KeptFacts source folder (BackupRange snapshot piece) kept
      → kept.part ≡ RangePart of version body → kept.placed ≡ true
      → (of ≡ snapshot) × (body.range ≡ piece) × (version ≤ source.now)
      × IsThere folder
      (record { piece = piece; file = done_of source.block kept.ticket of version bytes })
  -- a name that no noted file has is still one, where the file that is noted is under another
  pub unnoted : (scene : Scene) (work : BackupWork) (file : Option Done) (job : BackupJob)
      (row : Row) (name : Bytes) → IsNew name (noted_names job.noted) → IsElsewhere name file
      → row_of scene work file job ≡ Some row → IsNew name (noted_names row.job.noted)

-- ---- jobs made by hand

-- no task of the job is there
abbrev pub IsIdle : View → Type 0
IsIdle view = IsLoad view.load × (view.load any ≡ 0)

-- what the commands on a hand job leave
pub record HandLaw : Type 0 where
  pub open_ : (number version : ℕ) (ranges : List KeyRange) (view : View) → IsIdle view
      → AreSeparate ranges → ranges ≢ [] → version ≤ view.now + 1
      → JobFacts (opened number Hand ranges version) view
  pub dump : (job : BackupJob) (view : View) (piece : KeyRange) (file : Done) → JobFacts job view
      → is_backwards piece ≡ false → fault_of (map_of job) piece ≡ None
      → CanNote view.now job file → job.terms.mode ≡ Hand
      → JobFacts (dumped job piece view.now file) view
  pub cut : (job : BackupJob) (view : View) → JobFacts job view → job.terms.mode ≡ Hand
      → IsLoad view.load → JobFacts (cut_to job view.now) view
  pub seal : (job : BackupJob) (view : View) → JobFacts job view → job.terms.mode ≡ Hand
      → JobFacts (sealed job) view
  pub dump_files : (job : BackupJob) (source : Source) (folder : Folder) (piece : KeyRange)
      (now : ℕ) (file : Done) → FileFacts job source folder
      → IsThere folder (record { piece = piece; file = file })
      → FileFacts (dumped job piece now file) source folder
  pub seal_files : (job : BackupJob) (source : Source) (folder : Folder)
      → FileFacts job source folder → FileFacts (sealed job) source folder

-- ---- orders

-- the view has these tasks more
abbrev pub GetsTasks : View → List Adding → View → Type 0
GetsTasks old more new =
    (new.now ≡ old.now)
    × ((f : BackupWork → ℕ) → new.load f ≡ adds f more + old.load f)

pub record OrdersLaw : Type 0 where
  -- a new backup, of whose number there was no task
  pub submit : (terms : Terms) (old new : View) → IsLoad old.load → old.load any ≡ 0
      → AreSeparate terms.ranges → terms.ranges ≢ [] → terms.mode ≢ Hand
      → AreSettings terms.settings → GetsTasks old (submits terms).adds new
      → JobFacts (submits terms).job new
  pub snapshot : (job : BackupJob) (old new : View) → JobFacts job old
      → snapshot_refusal job ≡ None → GetsTasks old (snapshots job).adds new
      → JobFacts (snapshots job).job new
  pub discontinue : (job : BackupJob) (view : View) → JobFacts job view
      → discontinue_refusal job ≡ None → JobFacts (discontinued job) view
  -- the tasks of a job that is given up are dropped
  pub abort : (job : BackupJob) (old new : View) → JobFacts job old → old.now ≤ new.now
      → new.load any ≡ 0 → JobFacts (aborted_job job) new

-- ---- takes

-- what the log of a database is asked for a log task: what the job logs, and has kept, of versions
-- that there have been
pub record CanLog (job : BackupJob) (now begin end : ℕ) : Type 0 where
  pub log : JobLog
  pub is : job_log job ≡ Some log
  pub ranges : log.ranges ≡ job.terms.ranges
  pub kept : log.erased ≤ begin
  pub some : begin < end
  pub past : end ≤ now + 1

-- no range file has this name
abbrev pub IsFree : Folder → Bytes → Type 0
IsFree folder name = AllByRecursion (λ file. is_same file.name name ≡ false) folder.ranges

-- what an agent keeps of a part, before its file is placed
abbrev pub kept_as : ℕ → Part → Kept
kept_as ticket part = record { ticket = ticket; part = part; placed = false }

-- What a take of an open task keeps is honest.
pub record TakesLaw : Type 0 where
  pub can_log : (job : BackupJob) (view : View) (begin end : ℕ) → JobFacts job view
      → HasTask view.load (BackupLog begin end) → CanLog job view.now begin end
  pub log : (source : Source) (folder : Folder) (job : BackupJob) (view : View)
      (ticket begin end : ℕ) → FileFacts job source folder → source.now ≡ view.now
      → JobFacts job view → HasTask view.load (BackupLog begin end)
      → KeptFacts source folder (BackupLog begin end)
      (kept_as ticket (LogPart begin end (logged source.history job.terms.ranges begin end)))
  -- the pairs of the piece at the newest version
  pub range : (source : Source) (folder : Folder) (job : BackupJob) (view : View)
      (ticket snapshot : ℕ) (body : RangeContent) → JobFacts job view → IsLoad view.load
      → HasTask view.load (BackupRange snapshot body.range)
      → HasState source source.now body
      → IsFree folder (text_of (Range snapshot source.now ticket source.block))
      → KeptFacts source folder (BackupRange snapshot body.range)
      (kept_as ticket (RangePart snapshot source.now body))
  pub manifest : (source : Source) (folder : Folder) (job : BackupJob) (view : View)
      (ticket snapshot : ℕ) → FileFacts job source folder → JobFacts job view → IsLoad view.load
      → HasTask view.load (BackupManifest snapshot)
      → IsWritable (manifest_of job.noted)
      × KeptFacts source folder (BackupManifest snapshot)
      (kept_as ticket (ManifestPart (manifest_of job.noted)))

-- each job that goes on and isn't a hand job has a task
abbrev pub TasksLaw : Type 0
TasksLaw = (job : BackupJob) (view : View) → JobFacts job view → IsLoad view.load
    → has_ended job.state ≡ false → job.terms.mode ≢ Hand → 1 ≤ view.load any

-- ---- as time goes on

-- a range file comes, under a name that none has, and not under that of a kept part, unless it is
-- the part's own
pub record FileComes (old new : Folder) (file : RangeFile) : Type 0 where
  pub ranges : Inserts file old.ranges new.ranges
  pub free : IsFree old file.name
  pub unreliable : new.unreliable ≡ old.unreliable

abbrev pub IsApart : ℕ → Kept → RangeFile → Type 0
IsApart block kept file = (snapshot version : ℕ) (body : RangeContent)
    → kept.part ≡ RangePart snapshot version body
    → file.name ≡ text_of (Range snapshot version kept.ticket block)
    → file ≡ range_file block kept.ticket snapshot version body

-- the file of a kept range part is there
abbrev pub IsPlaced : ℕ → Folder → Kept → Type 0
IsPlaced block folder kept = (snapshot version : ℕ) (body : RangeContent)
    → kept.part ≡ RangePart snapshot version body
    → IsIn (range_file block kept.ticket snapshot version body) folder.ranges

-- what an agent keeps stays honest
pub record KeptLaw : Type 0 where
  -- as time goes on and entries come
  pub grows : (old new : Source) (folder : Folder) (work : BackupWork) (kept : Kept)
      → Grows old new → KeptFacts old folder work kept → KeptFacts new folder work kept
  -- as range files come
  pub comes : (source : Source) (old new : Folder) (file : RangeFile) (work : BackupWork)
      (kept : Kept) → FileComes old new file → IsApart source.block kept file
      → KeptFacts source old work kept → KeptFacts source new work kept
  -- as other files come or go, or the unreliable end is raised
  pub stays : (source : Source) (old new : Folder) (work : BackupWork) (kept : Kept)
      → new.ranges ≡ old.ranges → old.unreliable ≤ new.unreliable
      → KeptFacts source old work kept → KeptFacts source new work kept
  -- as range files below the unreliable end go
  pub goes : (source : Source) (old new : Folder) (file : RangeFile) (work : BackupWork)
      (kept : Kept) → Inserts file new.ranges old.ranges → file.version < old.unreliable
      → new.unreliable ≡ old.unreliable → KeptFacts source old work kept
      → KeptFacts source new work kept
  -- as its file is placed
  pub placed : (source : Source) (folder : Folder) (work : BackupWork) (kept : Kept)
      → IsPlaced source.block folder kept → KeptFacts source folder work kept
      → KeptFacts source folder work (record kept { placed = true })

-- what stays of the facts on a job and on its files
pub record CalmLaw : Type 0 where
  -- while its tasks stand and time goes on
  pub job : (job : BackupJob) (old new : View) → old.now ≤ new.now
      → ((f : BackupWork → ℕ) → new.load f ≡ old.load f) → JobFacts job old → JobFacts job new
  pub files : (job : BackupJob) (old new : Source) (folder : Folder) → Grows old new
      → FileFacts job old folder → FileFacts job new folder
  -- as range files come, as other files come or go or the unreliable end is raised, and as range
  -- files below that end go, where the container stays honest
  pub comes : (job : BackupJob) (source : Source) (old new : Folder) (file : RangeFile)
      → FileComes old new file → IsHonest source new → FileFacts job source old
      → FileFacts job source new
  pub stays : (job : BackupJob) (source : Source) (old new : Folder) → new.ranges ≡ old.ranges
      → old.unreliable ≤ new.unreliable → IsHonest source new → FileFacts job source old
      → FileFacts job source new
  pub goes : (job : BackupJob) (source : Source) (old new : Folder) (file : RangeFile)
      → Inserts file new.ranges old.ranges → file.version < old.unreliable
      → new.unreliable ≡ old.unreliable → IsHonest source new → FileFacts job source old
      → FileFacts job source new

-- The log files and the manifests among names, and what is looked up in them.
use Rattle.std.specs.Prelude.{◌≡◌, ℕ, ◌≤◌, max, List, [], ◌∷◌, map, Option, Some, None}
use Rattle.std.specs.Prelude.{if◌then◌else◌, nat_le, nat_lt}
use Rattle.std.specs.List.{flat_map}
use Rattle.fb_bytes.specs.Bytes.{Bytes}
use Rattle.file_names.specs.declared.Name.{Name}
use Rattle.file_names.specs.declared.Name.TheVariants.{Range, Log, Manifest, Unreliable, Expired}
use Rattle.file_names.specs.declared.Name.TheVariants.{Other}
use Rattle.file_names.specs.Reading.{name_of}
use Rattle.container_view.specs.declared.logs.NamedLog.{NamedLog}
use Rattle.container_view.specs.declared.logs.Run.{Run}
use Rattle.container_view.specs.declared.sorting.NamedManifest.{NamedManifest}
use Rattle.container_view.specs.declared.sorting.SortedNames.{SortedNames}
use Rattle.container_view.specs.Folder.{LogFile, ManifestFile}
use Rattle.container_view.specs.Chain.{comes_first, best_log}
use Rattle.container_view.specs.Bounds.{reached}
use Rattle.container_view.specs.Names.{seen, logs_named, Sealed, sealed_named}
use Rattle.container_view.specs.Description.{log_span}

-- a log file of which the name, the begin and the end are known
abbrev pub plain_log : Bytes → ℕ → ℕ → LogFile
plain_log name begin end =
    record { name = name; begin = begin; end = end; block = 0; content = None }

-- a log file by its name, as a folder has it
abbrev pub log_of : NamedLog → LogFile
log_of log = plain_log log.name.now log.begin log.end

-- log files by their names, as a folder has them
abbrev pub logs_of : List NamedLog → List LogFile
logs_of logs = map log_of logs

-- a manifest by its name, as a folder has it
abbrev pub manifest_of : NamedManifest → ManifestFile
manifest_of m = record { name = m.name.now; begin = m.begin; end = m.end; content = None }

-- a manifest with the bytes that its name says
abbrev pub size_of : NamedManifest → Sealed
size_of m = record { file = manifest_of m; bytes = m.bytes }

-- manifests with the bytes that their names say
abbrev pub sizes_of : List NamedManifest → List Sealed
sizes_of manifests = map size_of manifests

-- manifests by their names, as a folder has them
abbrev pub manifests_of : List NamedManifest → List ManifestFile
manifests_of manifests = map (λ m. m.file) (sizes_of manifests)

-- the log file of a name, where it is that of one
abbrev pub log_named : Bytes → Name → Option LogFile
log_named name (Log begin end ticket block) = Some (plain_log name begin end)
log_named name (Range snapshot version ticket block) = None
log_named name (Manifest begin end size ticket) = None
log_named name Unreliable = None
log_named name Expired = None
log_named name Other = None

-- the log file alone, where there is one
abbrev pub listed : Option LogFile → List LogFile
listed None = []
listed (Some log) = log ∷ []

-- the log files among names, in the order of the names
abbrev pub plain_logs : List Bytes → List LogFile
plain_logs names = flat_map (λ name. listed (log_named name (name_of name))) names

-- no number is below the one before it, the first not below `low`
abbrev pub IsRisingBy : {A : Type 0} → (A → ℕ) → ℕ → List A → Type 0
IsRisingBy begin low [] = Unit {0}
IsRisingBy begin low (x ∷ xs) = (low ≤ begin x) × IsRisingBy begin (begin x) xs

-- of those at the front that begin at or before a version the last one
abbrev pub last_begun : {A : Type 0} → (A → ℕ) → ℕ → Option A → List A → Option A
last_begun begin version found [] = found
last_begun begin version found (x ∷ xs) =
    if nat_le (begin x) version then last_begun begin version (Some x) xs else found

-- its name and end, where it ends past the version
abbrev pub held : ℕ → Option LogFile → Option (Bytes × ℕ)
held version None = None
held version (Some log) = if nat_lt version log.end then Some (log.name, log.end) else None

-- the name and end of the best so far or, where it comes first, of one log file more
abbrev pub better : Option (Bytes × ℕ) → LogFile → Bytes × ℕ
better None log = (log.name, log.end)
better (Some best) log =
    if comes_first log.end log.name best.1 best.0 then (log.name, log.end) else best

-- each begin, with the name and end of the best up to there
abbrev pub bests : Option (Bytes × ℕ) → List LogFile → List LogFile
bests best [] = []
bests best (log ∷ logs) =
    plain_log (better best log).0 log.begin (better best log).1 ∷ bests
    (Some (better best log)) logs

-- the runs of versions without a gap, where one is open and further logs follow
abbrev pub runs_from : ℕ → ℕ → List LogFile → List Run
runs_from begin end [] = record { begin = begin; end = end } ∷ []
runs_from begin end (log ∷ logs) =
    if nat_le log.begin end then runs_from begin (max end log.end) logs
    else record { begin = begin; end = end } ∷ runs_from log.begin log.end logs

-- the runs of versions without a gap, of logs in the order of their begins
abbrev pub runs_of : List LogFile → List Run
runs_of [] = []
runs_of (log ∷ logs) = runs_from log.begin log.end logs

-- on from a version to the end of a run, if that is later
abbrev pub on_to : ℕ → Option Run → ℕ
on_to from None = from
on_to from (Some run) = max from run.end

-- the end that is reached from a version, by the runs
abbrev pub reach_in : List Run → ℕ → ℕ
reach_in runs from = on_to from (last_begun (λ run. run.begin) from None runs)

-- the name and end of the one that is found at a version, where it ends past it
abbrev pub best_in : List LogFile → ℕ → Option (Bytes × ℕ)
best_in logs version = held version (last_begun (λ log. log.begin) version None logs)

-- two lists have the same best log at each version
abbrev pub HaveSameBest : List LogFile → List LogFile → Type 0
HaveSameBest a b = (version : ℕ) → seen (best_log a version) ≡ seen (best_log b version)

-- the logs stand in the order of their begins, and have the same best ones as those among the
-- names; the manifests with their bytes are those among the names
pub record AreSorted (sorted : SortedNames) : Type 0 where
  pub rising : IsRisingBy (λ log. log.begin) 0 sorted.logs.items
  pub same : HaveSameBest (logs_of sorted.logs.items) (logs_named sorted.names.now)
  pub span : sorted.span ≡ log_span (logs_named sorted.names.now)
  pub manifests : sizes_of sorted.manifests.items ≡ sealed_named sorted.names.now

-- what is found in the first list is the best log of the second, at each version
abbrev pub TellsBest : List LogFile → List LogFile → Type 0
TellsBest list logs = (version : ℕ) → best_in list version ≡ seen (best_log logs version)

-- the runs tell what is reached by the logs, from each version
abbrev pub TellsReach : List Run → List LogFile → Type 0
TellsReach runs logs = (from : ℕ) → reach_in runs from ≡ reached logs from

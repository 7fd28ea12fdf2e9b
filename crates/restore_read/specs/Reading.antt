-- What a container's files say for a version, or the first fault.
use Rattle.std.specs.Prelude.{ℕ, ◌+◌, List, [], ◌∷◌, length, Option, Some, None, Result, Ok, Err}
use Rattle.std.specs.Prelude.{ok_or, unwrap_or, slice_get}
use Rattle.fb_bytes.specs.Bytes.{Bytes}
use Rattle.fb_outside.specs.Files.{file_of}
use Rattle.fb_outside.specs.declared.File.{File}
use Rattle.block_frame.specs.Profiles.{limit_of}
use Rattle.file_names.specs.declared.Name.{Name}
use Rattle.file_names.specs.declared.Name.TheVariants as names
use Rattle.file_names.specs.Reading.{name_of}
use Rattle.range_files.specs.Reading as ranges
use Rattle.log_files.specs.Reading as logs
use Rattle.container_view.specs.declared.Link.{Link}
use Rattle.container_view.specs.Files.{inside}
use Rattle.container_view.specs.declared.FileFault.TheVariants as file_faults
use Rattle.container_view.specs.declared.ViewFault.{ViewFault}
use Rattle.container_view.specs.declared.ViewFault.TheVariants as faults
use Rattle.container_view.specs.declared.RestoreSet.{RestoreSet}
use Rattle.container_view.specs.Sets.{◌>>=◌, in_file, set_of}
use Rattle.restore_apply.specs.declared.At.{At}
use Rattle.restore_apply.specs.declared.Loaded.{Loaded}
use Rattle.restore_apply.specs.declared.LoadedFile.{LoadedFile}
use Rattle.restore_apply.specs.declared.LoadedLink.{LoadedLink}
use Rattle.restore_apply.specs.Overlaps.{first_overlap}

-- all of them, or the first fault
abbrev pub each_or : {A B : Type 0} → (A → Result B ViewFault) → List A → Result (List B) ViewFault
each_or read [] = Ok []
each_or read (x ∷ xs) = do
  y ← read x
  ys ← each_or read xs
  Ok (y ∷ ys)

-- a range file by what its name says; a name of another kind is that of no range file
abbrev pub range_by : Bytes → Bytes → Name → Result LoadedFile ViewFault
range_by name bytes (names.Range snapshot version ticket block) = do
  body ← in_file (λ fault. file_faults.Range fault) name (ranges.read block bytes)
  Ok (record { version = version; body = body })
range_by name bytes (names.Log begin end ticket block) = Err (faults.Missing name)
range_by name bytes (names.Manifest begin end size ticket) = Err (faults.Missing name)
range_by name bytes names.Unreliable = Err (faults.Missing name)
range_by name bytes names.Expired = Err (faults.Missing name)
range_by name bytes names.Other = Err (faults.Missing name)

-- the range file of a name
abbrev pub range_at : List File → Bytes → Result LoadedFile ViewFault
range_at files name = do
  bytes ← ok_or (file_of files name) (faults.Missing name)
  range_by name bytes (name_of name)

-- a link's log file by what its name says; a name of another kind is that of no log file
abbrev pub link_by : Link → Bytes → Name → Result LoadedLink ViewFault
link_by link bytes (names.Log begin end ticket block) = do
  batches ← in_file (λ fault. file_faults.Log fault) link.name (logs.read block begin end bytes)
  Ok (record {
    from = link.from;
    to = link.to;
    limit = limit_of block;
    chunk = record { begin = begin; end = end; batches = batches };
  })
link_by link bytes (names.Range snapshot version ticket block) = Err (faults.Missing link.name)
link_by link bytes (names.Manifest begin end size ticket) = Err (faults.Missing link.name)
link_by link bytes names.Unreliable = Err (faults.Missing link.name)
link_by link bytes names.Expired = Err (faults.Missing link.name)
link_by link bytes names.Other = Err (faults.Missing link.name)

-- the log file of a link
abbrev pub link_at : List File → Link → Result LoadedLink ViewFault
link_at files link = do
  bytes ← ok_or (file_of files link.name) (faults.Missing link.name)
  link_by link bytes (name_of link.name)

-- the files where no two overlap, else the later one of the first overlap
abbrev pub apart_or : List Bytes → List LoadedFile → Option At → Result (List LoadedFile) ViewFault
apart_or names files None = Ok files
apart_or names files (Some at) =
    Err (faults.Damaged (unwrap_or (slice_get names at.place) [])
    (file_faults.Overlap at.range.begin))

-- range files in the order of their names, each read, and then tested for overlaps
abbrev pub files_at : List File → List Bytes → Result (List LoadedFile) ViewFault
files_at files names = do
  loaded ← each_or (range_at files) names
  apart_or names loaded (first_overlap loaded)

-- What is loaded for a version of a container with these files, or the first fault: that of its
-- set, of a range file in the manifest's order, of an overlap in the order of begin keys, of a
-- link's log file in the chain's order.
abbrev pub loaded_of : List File → ℕ → Result Loaded ViewFault
loaded_of files version = do
  set ← set_of files version
  loaded ← files_at files set.ranges
  links ← each_or (link_at files) set.links
  Ok (record { files = loaded; links = links })

-- how many files a set has; without a set there are none
abbrev pub set_files : Result RestoreSet ViewFault → ℕ
set_files (Ok set) = length set.ranges + length set.links
set_files (Err fault) = 0

-- How many calls on the store a restore makes at most: a list, a get for each of two properties and
-- for a manifest, and one get for each file of the set.
abbrev pub most_calls : Bytes → List File → ℕ → ℕ
most_calls container files version = 4 + set_files (set_of (inside container files) version)

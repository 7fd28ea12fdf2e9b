-- What a restore holds of a container's files, and what it says of each key.
use Rattle.std.specs.Prelude.{ℕ, ◌+◌, max, min, List, [], ◌∷◌, Option, Some, None, if◌then◌else◌}
use Rattle.fb_bytes.specs.Bytes.{Bytes}
use Rattle.fb_bytes.specs.declared.KeyRange.{KeyRange}
use Rattle.fb_bytes.specs.Keys.{holds}
use Rattle.fb_bytes.specs.Options.{◌>>=◌}
use Rattle.fb_bytes.specs.Pairs.{value_of}
use Rattle.mutations.specs.Replay.{replayed}
pub use Rattle.restore_apply.specs.declared.loaded.LoadedFile.{LoadedFile}
pub use Rattle.restore_apply.specs.declared.loaded.LoadedLink.{LoadedLink}
pub use Rattle.restore_apply.specs.declared.loaded.Loaded.{Loaded}

-- the range of a file
abbrev pub range_of : LoadedFile → KeyRange
range_of file = record { begin = file.body.begin; end = file.body.end }

-- the file whose range holds the key
abbrev pub file_with : List LoadedFile → Bytes → Option LoadedFile
file_with [] key = None
file_with (file ∷ files) key = if holds (range_of file) key then Some file else file_with files key

-- What the links' batches with low <= version < high leave at a key, each link giving its own
-- versions. A value that an operation appends to has the link's limit.
abbrev pub replayed_links : List LoadedLink → ℕ → ℕ → Bytes → Option Bytes → Option Bytes
replayed_links [] low high key old = old
replayed_links (link ∷ links) low high key old =
    replayed_links links low high key
    (replayed link.limit link.chunk.batches (max link.from low) (min link.to high) key old)

-- the value of a key at a version: that in its file, and then the batches since
abbrev pub loaded_at : Loaded → ℕ → Bytes → Option Bytes
loaded_at set version key = do
  file ← file_with set.files key
  replayed_links set.links (file.version + 1) (version + 1) key (value_of file.body.pairs key)

-- The files of a container, each with what its name says and what its bytes say.
use Rattle.std.specs.Prelude.{ℕ, List, Option}
use Rattle.fb_bytes.specs.Bytes.{Bytes}
use Rattle.fb_bytes.specs.declared.KeyRange.{KeyRange}
use Rattle.fb_bytes.specs.declared.Pair.{Pair}
use Rattle.mutations.specs.declared.Batch.{Batch}

-- what a range file says: a range of keys, and the pairs in it
pub record RangeContent : Type 0 where
  pub range : KeyRange
  pub pairs : List Pair

-- A range file: the pairs of a range at a version. The content is none where the bytes aren't in
-- their grammar.
pub record RangeFile : Type 0 where
  pub name : Bytes
  pub version : ℕ
  pub block : ℕ
  pub content : Option RangeContent

-- a log file: the batches with begin <= version < end
pub record LogFile : Type 0 where
  pub name : Bytes
  pub begin : ℕ
  pub end : ℕ
  pub block : ℕ
  pub content : Option (List Batch)

-- a manifest: the names of range files whose versions go from begin to end
pub record ManifestFile : Type 0 where
  pub name : Bytes
  pub begin : ℕ
  pub end : ℕ
  pub content : Option (List Bytes)

-- the files of a container by their kinds, and the unreliable end, below which no manifest may
-- begin
pub record Folder : Type 0 where
  pub ranges : List RangeFile
  pub logs : List LogFile
  pub manifests : List ManifestFile
  pub unreliable : ℕ

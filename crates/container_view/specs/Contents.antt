-- What a container's files say, by the grammars of their bytes.
use Rattle.std.specs.Prelude.{◌≡◌, ℕ, ◌<◌, ◌^◌, List, Some, option_map}
use Rattle.fb_bytes.specs.Bytes.{Bytes}
use Rattle.fb_bytes.specs.declared.Pair.{Pair}
use Rattle.fb_bytes.specs.Pairs.{AreRising}
use Rattle.mutations.specs.declared.Batch.{Batch}
use Rattle.file_names.specs.declared.Name.{Name}
use Rattle.range_files.specs.declared.RangeBody.{RangeBody}
use Rattle.range_files.specs.Reading.{range_file_of}
use Rattle.range_files.specs.Writing.{range_text}
use Rattle.range_files.specs.Writing as ranges
use Rattle.log_files.specs.Reading.{log_file_of}
use Rattle.log_files.specs.Writing.{log_text}
use Rattle.log_files.specs.Writing as logs
use Rattle.manifests.specs.declared.Manifest.{Manifest}
use Rattle.manifests.specs.Grammar.{ManifestText}
use Rattle.manifests.specs.Reading.{manifest_of}
use Rattle.container_view.specs.Folder.{RangeContent}
use Rattle.container_view.specs.Files.{Grammars}

abbrev pub range_content : RangeBody → RangeContent
range_content body =
    record { range = record { begin = body.begin; end = body.end }; pairs = body.pairs }

-- the grammars of the three kinds of file, each by the numbers in the file's name
abbrev pub file_grammars : Grammars
file_grammars = record {
  range = λ block bytes. option_map range_content (range_file_of block bytes);
  log = λ begin end block bytes. log_file_of block begin end bytes;
  manifest = λ name bytes. option_map (λ (m : Manifest). m.files) (manifest_of name bytes);
}

pub record ContentsLaw : Type 0 where
  -- what the writers of range files and of log files give says what was written
  pub range : (block : ℕ) (begin end : Bytes) (pairs : List Pair)
      → ranges.IsWritable block begin end pairs → AreRising pairs
      → file_grammars.range block (range_text block begin end pairs)
      ≡ Some (record { range = record { begin = begin; end = end }; pairs = pairs })
  pub log : (begin end block : ℕ) (batches : List Batch) → end < 2 ^ 64
      → logs.IsWritable block begin end batches
      → file_grammars.log begin end block (log_text block batches) ≡ Some batches
  -- the text of a manifest, in the grammar of its name, says its files
  pub manifest : (name : Name) (bytes : Bytes) (m : Manifest) → ManifestText name bytes m
      → file_grammars.manifest name bytes ≡ Some m.files

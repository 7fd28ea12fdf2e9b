-- What files say of a key before any mutation.
use Rattle.std.specs.Prelude.{List, Option}
use Rattle.fb_bytes.specs.Bytes.{Bytes}
use Rattle.fb_bytes.specs.Options.{◌>>=◌}
use Rattle.fb_bytes.specs.Pairs.{value_of}
use Rattle.restore_apply.specs.declared.loaded.LoadedFile.{LoadedFile}
use Rattle.restore_apply.specs.Loaded.{file_with}

-- the value of a key in the file whose range holds it
abbrev pub stored_at : List LoadedFile → Bytes → Option Bytes
stored_at files key = do
  file ← file_with files key
  value_of file.body.pairs key

-- The lines of a restore: the version, the pairs in the order of their keys, and how many they are.
use Rattle.std.specs.Prelude.{[], ◌∷◌, ◌++◌, length, codes, decimal}
use Rattle.std.specs.List.{flat_map}
use Rattle.fb_bytes.specs.Bytes.{Bytes}
use Rattle.fb_bytes.specs.Words.{printed}
use Rattle.fb_bytes.specs.declared.Pair.{Pair}
use Rattle.report_text.specs.declared.report.Restored.{Restored}
use Rattle.report_text.specs.Lines.{line}

abbrev pub pair_line : Pair → Bytes
pair_line pair = line (codes "pair" ∷ printed pair.key ∷ printed pair.value ∷ [])

abbrev pub restored_text : Restored → Bytes
restored_text told =
    line (codes "version" ∷ decimal told.version ∷ [])
    ++ (flat_map pair_line told.pairs ++ line (codes "pairs" ∷ decimal (length told.pairs) ∷ []))

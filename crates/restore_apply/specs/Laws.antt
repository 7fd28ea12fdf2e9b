-- What holds of all loaded files.
use Rattle.std.specs.Prelude.{◌≡◌, true, ◌↔◌, List, None}
use Rattle.restore_apply.specs.Loaded.{LoadedFile}
use Rattle.restore_apply.specs.Overlaps.{first_overlap, are_apart}

-- a file overlaps one before it exactly where some two overlap
abbrev pub OverlapLaw : Type 0
OverlapLaw = (files : List LoadedFile) → (first_overlap files ≡ None) ↔ (are_apart files ≡ true)

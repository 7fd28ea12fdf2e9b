-- What a store in memory tells after a change.
use Rattle.std.proofs.Common.{◌≡◌, List, Some, sym, ap, ◌∙◌}
use Rattle.fb_outside.specs.Files.{File, AreFiles}
use Rattle.fb_outside.specs.Told.{in_order, told_files, told_in_order}

pub told_after : (change : List File → List File) (old new told : List File) → AreFiles new → new ≡ change old → in_order old ≡ Some told → in_order new ≡ Some (change told)
told_after change old new told a e t = told_in_order new a ∙ ap Some (e ∙ ap change (sym (told_files old told t)))

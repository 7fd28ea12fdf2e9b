-- The first part of a name, which says its container.
use Rattle.std.specs.Prelude.{◌==◌, [], ◌∷◌, List, Option, Some, None, option_map}
use Rattle.std.specs.Prelude.{if◌then◌else◌}
use Rattle.std.specs.List.{flat_map}
use Rattle.fb_bytes.specs.Bytes.{Bytes}
use Rattle.container_view.specs.View.{as_list}

-- what stands before the first slash, where there is one
abbrev pub first_part : Bytes → Option Bytes
first_part [] = None
first_part (byte ∷ name) =
    if byte == 47 then Some [] else option_map (λ part. byte ∷ part) (first_part name)

-- the first parts of names that have a slash, in the order of the names
abbrev pub first_parts : List Bytes → List Bytes
first_parts names = flat_map (λ name. as_list (first_part name)) names

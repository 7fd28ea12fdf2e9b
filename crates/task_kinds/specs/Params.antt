-- What parameters are.
use Rattle.std.specs.Prelude.{◌<◌, ◌^◌}
use Rattle.task_kinds.specs.declared.kind.Shape.{Shape}
use Rattle.task_kinds.specs.declared.kind.Shape.TheVariants as shapes
use Rattle.task_kinds.specs.declared.params.Params.{Params}
use Rattle.task_kinds.specs.declared.params.Params.TheVariants.{Nothing, Piece, Snapshot, Span}
use Rattle.task_kinds.specs.declared.params.Params.TheVariants.{File, Range}

abbrev pub shape_in : Params → Shape
shape_in Nothing = shapes.Nothing
shape_in (Piece snapshot range future block) = shapes.Piece
shape_in (Snapshot snapshot) = shapes.Snapshot
shape_in (Span begin end future block) = shapes.Span
shape_in (File place future block) = shapes.File
shape_in (Range range future block) = shapes.Range

-- each number of the parameters is below 2 to the 63rd
abbrev pub AreSmall : Params → Type 0
AreSmall Nothing = Unit {0}
AreSmall (Piece snapshot range future block) =
    (snapshot < 2 ^ 63) × (future < 2 ^ 63) × (block < 2 ^ 63)
AreSmall (Snapshot snapshot) = snapshot < 2 ^ 63
AreSmall (Span begin end future block) =
    (begin < 2 ^ 63) × (end < 2 ^ 63) × (future < 2 ^ 63) × (block < 2 ^ 63)
AreSmall (File place future block) = (place < 2 ^ 63) × (future < 2 ^ 63) × (block < 2 ^ 63)
AreSmall (Range range future block) = (future < 2 ^ 63) × (block < 2 ^ 63)

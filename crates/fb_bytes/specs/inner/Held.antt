-- The bytes of a string, wherever they stand.
use Rattle.std.specs.Prelude.{◌≤◌, take}
use Rattle.std.specs.Arc.{arc_value}
use Rattle.fb_bytes.specs.declared.held.Held.{Held}
use Rattle.fb_bytes.specs.declared.held.Held.TheVariants.{Short, Own, Shared}
use Rattle.fb_bytes.specs.Bytes.{Bytes}

-- the bytes that stand in place, in a list, or in a list that is shared
abbrev pub held_bytes : Held → Bytes
held_bytes (Short len bytes) = take len bytes
held_bytes (Own bytes) = bytes.items
held_bytes (Shared bytes) = (arc_value bytes).items

-- no more bytes stand in place than there is room for
abbrev pub IsHeld : Held → Type 0
IsHeld (Short len bytes) = len ≤ 30
IsHeld (Own bytes) = Unit {0}
IsHeld (Shared bytes) = Unit {0}

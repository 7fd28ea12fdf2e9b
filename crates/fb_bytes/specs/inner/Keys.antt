-- Where a key stands to a range that halving looks at.
use Rattle.std.specs.Prelude.{Bool, not}
use Rattle.fb_bytes.specs.declared.key_range.KeyRange.{KeyRange}
use Rattle.fb_bytes.specs.Bytes.{Bytes, is_below}

-- the key is at the end of the range or past it
abbrev pub is_passed : Bytes → KeyRange → Bool
is_passed key range = not (is_below key range.end)

-- Where a range stands to a key that halving looks for.
use Rattle.std.specs.Prelude.{Bool}
use Rattle.fb_bytes.specs.Bytes.{Bytes, is_below}
use Rattle.fb_bytes.specs.declared.KeyRange.{KeyRange}

-- the range begins before the key
abbrev pub begins_before : Bytes → KeyRange → Bool
begins_before key range = is_below range.begin key

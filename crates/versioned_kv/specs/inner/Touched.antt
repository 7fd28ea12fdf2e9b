-- Which keys a clear touches.
use Rattle.std.specs.Prelude.{ℕ, Bool, ◌&&◌, List}
use Rattle.std.specs.Prelude.{is_some}
use Rattle.fb_bytes.specs.Bytes.{Bytes}
use Rattle.fb_bytes.specs.declared.KeyRange.{KeyRange}
use Rattle.fb_bytes.specs.Keys.{holds}
use Rattle.versioned_kv.specs.Chains.{Chain, value_at}

-- the range holds the key, and the key has a value
abbrev pub has_value_in : KeyRange → ℕ → List Chain → Bytes → Bool
has_value_in range version chains key = holds range key && is_some (value_at chains key version)

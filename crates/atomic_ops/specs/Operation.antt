-- What an atomic operation leaves at a key.
use Rattle.std.specs.Prelude.{ℕ, ◌+◌, [], ◌++◌, length, nat_le, option_map, unwrap_or, Vec, Option}
use Rattle.std.specs.Prelude.{Some, None, if◌then◌else◌}
use Rattle.atomic_ops.specs.declared.op.Op.{Op}
use Rattle.atomic_ops.specs.declared.op.Op.TheVariants.{Add, And, Or, Xor, AppendIfFits, Max, Min}
use Rattle.atomic_ops.specs.declared.op.Op.TheVariants.{ByteMin, ByteMax, MinV2, AndV2}
use Rattle.atomic_ops.specs.declared.op.Op.TheVariants.{CompareAndClear}
use Rattle.atomic_ops.specs.Bytes.{Bytes, is_same, fitted, bytes_and, bytes_or, bytes_xor, earlier}
use Rattle.atomic_ops.specs.Bytes.{later}
use Rattle.atomic_ops.specs.Numbers.{sum_bytes, greater, lesser}

-- the bytes of what is left, if anything is
abbrev pub bytes_left : {A : Type 0} → Option (Vec ℕ A) → Option Bytes
bytes_left left = option_map (λ bytes. bytes.items) left

-- the bytes with more at the end, or as they are where that would be longer than the limit
abbrev pub appended : Bytes → Bytes → ℕ → Bytes
appended old param limit = if nat_le (length old + length param) limit then old ++ param else old

-- from what the key has, the parameter, and the limit on the length of an append
unfoldable pub operation : Op → Option Bytes → Bytes → ℕ → Option Bytes
operation Add old param limit = Some (sum_bytes (fitted old (length param)) param)
operation And old param limit = Some (bytes_and (fitted old (length param)) param)
operation Or old param limit = Some (bytes_or (fitted old (length param)) param)
operation Xor old param limit = Some (bytes_xor (fitted old (length param)) param)
operation AppendIfFits old param limit = Some (appended (unwrap_or old []) param limit)
operation Max old param limit = Some (greater (fitted old (length param)) param)
operation Min old param limit = Some (lesser (fitted old (length param)) param)
operation ByteMin None param limit = Some param
operation ByteMin (Some old) param limit = Some (earlier old param)
operation ByteMax None param limit = Some param
operation ByteMax (Some old) param limit = Some (later old param)
operation MinV2 None param limit = Some param
operation MinV2 (Some old) param limit = Some (lesser (fitted (Some old) (length param)) param)
operation AndV2 None param limit = Some param
operation AndV2 (Some old) param limit = Some (bytes_and (fitted (Some old) (length param)) param)
operation CompareAndClear None param limit = None
operation CompareAndClear (Some old) param limit = if is_same old param then None else Some old

-- What a transaction's keys and values say against it, before any database is looked at.
use Rattle.std.specs.Prelude.{ℕ, ◌+◌, Bool, false, not, ◌||◌, List, [], ◌∷◌, ◌++◌, length, Option}
use Rattle.std.specs.Prelude.{Some, None, nat_lt, if◌then◌else◌}
use Rattle.std.specs.Option.{option_map}
use Rattle.fb_bytes.specs.Bytes.{Bytes, is_below, is_same}
use Rattle.fb_bytes.specs.Keys.{user_end}
use Rattle.fb_bytes.specs.Options.{first_place}
use Rattle.mutations.specs.declared.mutation.Mutation.{Mutation}
use Rattle.mutations.specs.declared.mutation.Mutation.TheVariants.{Set, ClearRange, Atomic}
use Rattle.mutations.specs.declared.tx_op.TxOp.{TxOp}
use Rattle.mutations.specs.declared.tx_op.TxOp.TheVariants.{Get, SnapshotGet, Scan, Write}
use Rattle.mutations.specs.declared.tx_fault.TxFault.{TxFault}
use Rattle.mutations.specs.declared.tx_fault.TxFault.TheVariants.{Outside, KeyTooLarge}
use Rattle.mutations.specs.declared.tx_fault.TxFault.TheVariants.{ValueTooLarge, TooLarge}

-- the writes, in order
abbrev pub writes_of : List TxOp → List Mutation
writes_of [] = []
writes_of (Write mutation ∷ ops) = mutation ∷ writes_of ops
writes_of (Get key ∷ ops) = writes_of ops
writes_of (SnapshotGet key ∷ ops) = writes_of ops
writes_of (Scan range limit ∷ ops) = writes_of ops

-- the key isn't a user's
abbrev pub is_system_key : Bytes → Bool
is_system_key key = not (is_below key user_end)

-- the range begins or ends outside the user space
abbrev pub is_system_range : Bytes → Bytes → Bool
is_system_range begin end = is_system_key begin || is_below user_end end

abbrev pub is_write_outside : Mutation → Bool
is_write_outside (Set key value) = is_system_key key
is_write_outside (ClearRange begin end) = is_system_range begin end
is_write_outside (Atomic op key param) = is_system_key key

-- the operation reaches past the user space
abbrev pub is_outside : TxOp → Bool
is_outside (Get key) = is_system_key key
is_outside (SnapshotGet key) = is_system_key key
is_outside (Scan range limit) = is_system_range range.begin range.end
is_outside (Write mutation) = is_write_outside mutation

-- longer than the limit
abbrev pub is_long : ℕ → Bytes → Bool
is_long limit bytes = nat_lt limit (length bytes)

-- the end of a clear of one key, which isn't tested against the limit on keys
abbrev pub is_end_of_one : Bytes → Bytes → Bool
is_end_of_one begin end = is_same end (begin ++ 0 ∷ [])

abbrev pub is_write_key_long : ℕ → Mutation → Bool
is_write_key_long limit (Set key value) = is_long limit key
is_write_key_long limit (ClearRange begin end) =
    is_long limit begin || (if is_end_of_one begin end then false else is_long limit end)
is_write_key_long limit (Atomic op key param) = is_long limit key

-- a key of the operation is longer than the limit on keys
abbrev pub is_key_long : ℕ → TxOp → Bool
is_key_long limit (Get key) = is_long limit key
is_key_long limit (SnapshotGet key) = is_long limit key
is_key_long limit (Scan range count) = is_long limit range.begin || is_long limit range.end
is_key_long limit (Write mutation) = is_write_key_long limit mutation

abbrev pub is_write_value_long : ℕ → Mutation → Bool
is_write_value_long limit (Set key value) = is_long limit value
is_write_value_long limit (ClearRange begin end) = false
is_write_value_long limit (Atomic op key param) = is_long limit param

-- its value or parameter is longer than the limit on values
abbrev pub is_value_long : ℕ → TxOp → Bool
is_value_long limit (Get key) = false
is_value_long limit (SnapshotGet key) = false
is_value_long limit (Scan range count) = false
is_value_long limit (Write mutation) = is_write_value_long limit mutation

-- the bytes of a write: its key and its value, begin and end, or key and parameter
abbrev pub write_bytes : Mutation → ℕ
write_bytes (Set key value) = length key + length value
write_bytes (ClearRange begin end) = length begin + length end
write_bytes (Atomic op key param) = length key + length param

-- the bytes of all writes
abbrev pub written_bytes : List TxOp → ℕ
written_bytes [] = 0
written_bytes (Write mutation ∷ ops) = write_bytes mutation + written_bytes ops
written_bytes (Get key ∷ ops) = written_bytes ops
written_bytes (SnapshotGet key ∷ ops) = written_bytes ops
written_bytes (Scan range limit ∷ ops) = written_bytes ops

infixl 20 ◌or_else◌
abbrev pub ◌or_else◌ : {X : Type 0} → Option X → Option X → Option X
(Some x) or_else other = Some x
None or_else other = other

-- the most bytes that the writes of a transaction may have
abbrev pub most_written : ℕ
most_written = 10000000

-- the first fault, each test going over all operations before the next one; the limits are those on
-- keys and on values
abbrev pub tx_fault : ℕ → ℕ → List TxOp → Option TxFault
tx_fault keys values ops =
    option_map Outside (first_place is_outside ops)
    or_else option_map KeyTooLarge (first_place (is_key_long keys) ops)
    or_else option_map ValueTooLarge (first_place (is_value_long values) ops)
    or_else (if nat_lt most_written (written_bytes ops) then Some (TooLarge (written_bytes ops))
    else None)

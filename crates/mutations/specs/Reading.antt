-- Reading a batch: the list that the bytes spell, or the first fault.
use Rattle.std.specs.Prelude.{ℕ, zero, suc, ◌-◌, List, [], ◌∷◌, length, take, drop, Option, Some}
use Rattle.std.specs.Prelude.{None, Result, Ok, Err, nat_lt, ◌==◌, if◌then◌else◌}
use Rattle.fb_bytes.specs.Bytes.{Bytes, is_below}
pub use Rattle.fb_bytes.specs.Results.{◌>>=◌, found_or}
use Rattle.fb_bytes.specs.Results.{GivesBut}
use Rattle.atomic_ops.specs.Codes.{op_of_code}
use Rattle.mutations.specs.declared.wire_fault.WireFault.{WireFault}
use Rattle.mutations.specs.declared.wire_fault.WireFault.TheVariants.{Short, Protocol, Length, Code}
use Rattle.mutations.specs.declared.wire_fault.WireFault.TheVariants.{Backwards, NoMemory}
use Rattle.mutations.specs.declared.mutation.Mutation.TheVariants.{Set, ClearRange, Atomic}
use Rattle.mutations.specs.declared.mutation.Mutation.{Mutation}
use Rattle.mutations.specs.Spelling.{protocol}
use Rattle.mutations.specs.Parts.{u32_of, u64_of, parts_of}

-- a clear goes forward
abbrev pub clear_at : ℕ → Bytes → Bytes → Result Mutation WireFault
clear_at at begin end = if is_below begin end then Ok (ClearRange begin end) else Err (Backwards at)

abbrev pub atomic_at : ℕ → ℕ → Bytes → Bytes → Result Mutation WireFault
atomic_at at code key param = do
  op ← found_or (Code at code) (op_of_code code)
  Ok (Atomic op key param)

-- the mutation of a code and two strings that stand at a place of the batch
unfoldable pub mutation_of : ℕ → ℕ → Bytes → Bytes → Result Mutation WireFault
mutation_of at zero first second = Ok (Set first second)
mutation_of at (suc zero) first second = clear_at at first second
mutation_of at (suc (suc n)) first second = atomic_at at (suc (suc n)) first second

-- the mutation at the front, which stands at a place of the batch, and the bytes after it
unfoldable pub mutation_at : ℕ → Bytes → Result (Mutation × Bytes) WireFault
mutation_at at bytes = do
  parts ← found_or (Short at) (parts_of bytes)
  mutation ← mutation_of at parts.code parts.first parts.second
  Ok (mutation, parts.rest)

-- The mutations that are the last bytes of a batch of `total` bytes, at most `most` of them. A
-- mutation stands at the number of bytes before it.
unfoldable pub mutations_at : ℕ → ℕ → Bytes → Result (List Mutation) WireFault
mutations_at most total [] = Ok []
mutations_at zero total (b ∷ bs) = Ok []
mutations_at (suc most) total (b ∷ bs) = do
  first ← mutation_at (total - length (b ∷ bs)) (b ∷ bs)
  others ← mutations_at most total first.1
  Ok (first.0 ∷ others)

-- the fault of what stands before the mutations, if it has one
abbrev pub header_fault : Bytes → Option WireFault
header_fault bytes =
    if nat_lt (length bytes) 12 then Some (Short 0)
    else if u64_of (take 8 bytes) == protocol then
    (if u32_of (take 4 (drop 8 bytes)) == length bytes - 12 then None
    else Some (Length (u32_of (take 4 (drop 8 bytes))) (length bytes - 12)))
    else Some (Protocol (u64_of (take 8 bytes)))

-- a reading, unless there is a fault before it
abbrev pub unless_fault : {A : Type 0} → Option WireFault → Result A WireFault → Result A WireFault
unless_fault None read = read
unless_fault (Some fault) read = Err fault

-- The list that the bytes spell, or the first fault. Each mutation has a byte at least, so there
-- are no more of them than bytes.
abbrev pub decoded : Bytes → Result (List Mutation) WireFault
decoded bytes =
    unless_fault (header_fault bytes) (mutations_at (length bytes) (length bytes) (drop 12 bytes))

-- what a call answered, seen by `view`, is what the reading gives, unless memory ran out
abbrev pub Gives : {X Y : Type 0} → (X → Y) → Result X WireFault → Result Y WireFault → Type 0
Gives view answer reading = GivesBut NoMemory view answer reading

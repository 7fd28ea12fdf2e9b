-- The bytes of a batch: the number 7101, the length of the rest, and the mutations one after the
-- other.
use Rattle.std.specs.Prelude.{◌≡◌, ℕ, ◌-◌, ◌<◌, ◌^◌, min, true, List, ◌++◌, length}
use Rattle.std.specs.List.{flat_map, AllByRecursion}
use Rattle.std.specs.Int.{w32, w64, to_le_bytes}
use Rattle.fb_bytes.specs.Bytes.{Bytes, is_below}
use Rattle.atomic_ops.specs.Codes.{code_of}
use Rattle.mutations.specs.declared.mutation.Mutation.{Mutation}
use Rattle.mutations.specs.declared.mutation.Mutation.TheVariants.{Set, ClearRange, Atomic}

-- a number in four bytes or eight, the lowest byte first
unfoldable pub u32_bytes : ℕ → Bytes
u32_bytes n = to_le_bytes w32 n

unfoldable pub u64_bytes : ℕ → Bytes
u64_bytes n = to_le_bytes w64 n

-- the number that stands for a kind of mutation
abbrev pub mutation_code : Mutation → ℕ
mutation_code (Set key value) = 0
mutation_code (ClearRange begin end) = 1
mutation_code (Atomic op key param) = code_of op

-- the two strings of a mutation: key and value, begin and end, or key and parameter
abbrev pub first_string : Mutation → Bytes
first_string (Set key value) = key
first_string (ClearRange begin end) = begin
first_string (Atomic op key param) = key

abbrev pub second_string : Mutation → Bytes
second_string (Set key value) = value
second_string (ClearRange begin end) = end
second_string (Atomic op key param) = param

-- a code, the lengths of two strings, and the strings
abbrev pub parts_spelling : ℕ → Bytes → Bytes → Bytes
parts_spelling code first second =
    u32_bytes code ++ u32_bytes (length first) ++ u32_bytes (length second) ++ first ++ second

abbrev pub mutation_spelling : Mutation → Bytes
mutation_spelling m = parts_spelling (mutation_code m) (first_string m) (second_string m)

-- the mutation bytes of a batch
abbrev pub mutations_spelling : List Mutation → Bytes
mutations_spelling muts = flat_map mutation_spelling muts

-- the number of mutation bytes, up to the greatest count of 128 bits
abbrev pub counted_bytes : List Mutation → ℕ
counted_bytes muts = min (length (mutations_spelling muts)) (2 ^ 128 - 1)

-- the number that each batch begins with
abbrev pub protocol : ℕ
protocol = 7101

-- mutation bytes behind that number and their length
abbrev pub framed : Bytes → Bytes
framed body = u64_bytes protocol ++ u32_bytes (length body) ++ body

abbrev pub batch_spelling : List Mutation → Bytes
batch_spelling muts = framed (mutations_spelling muts)

-- a clear has its begin below its end
abbrev pub IsForward : Mutation → Type 0
IsForward (Set key value) = Unit {0}
IsForward (ClearRange begin end) = is_below begin end ≡ true
IsForward (Atomic op key param) = Unit {0}

-- what has a spelling
pub record HasSpelling (muts : List Mutation) : Type 0 where
  pub few : length (mutations_spelling muts) < 2 ^ 32
  pub forward : AllByRecursion IsForward muts

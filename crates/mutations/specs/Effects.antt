-- What mutations leave at a key, and what they touch.
use Rattle.std.specs.Prelude.{ℕ, Bool, not, List, [], ◌∷◌, Option, Some, None, if◌then◌else◌}
use Rattle.fb_bytes.specs.Bytes.{Bytes, is_below, is_same}
use Rattle.fb_bytes.specs.declared.KeyRange.{KeyRange}
use Rattle.fb_bytes.specs.Keys.{holds, is_backwards}
use Rattle.atomic_ops.specs.Operation.{operation}
use Rattle.mutations.specs.declared.mutation.Mutation.{Mutation}
use Rattle.mutations.specs.declared.mutation.Mutation.TheVariants.{Set, ClearRange, Atomic}

-- the range of a clear
abbrev pub range_of : Bytes → Bytes → KeyRange
range_of begin end = record { begin = begin; end = end }

-- what a mutation leaves at a key, by the value before; the limit is that of a value which an
-- operation appends to
abbrev pub effect : ℕ → Mutation → Bytes → Option Bytes → Option Bytes
effect limit (Set k value) key old = if is_same k key then Some value else old
effect limit (ClearRange begin end) key old = if holds (range_of begin end) key then None else old
effect limit (Atomic op k param) key old =
    if is_same k key then operation op old param limit else old

-- what mutations leave at a key, one after the other
abbrev pub effects : ℕ → List Mutation → Bytes → Option Bytes → Option Bytes
effects limit [] key old = old
effects limit (m ∷ ms) key old = effects limit ms key (effect limit m key old)

-- the mutation names the key, whether or not it changes the value there
abbrev pub touches_key : Mutation → Bytes → Bool
touches_key (Set k value) key = is_same k key
touches_key (ClearRange begin end) key = holds (range_of begin end) key
touches_key (Atomic op k param) key = is_same k key

-- the later and the earlier of two keys
abbrev pub later : Bytes → Bytes → Bytes
later a b = if is_below a b then b else a

abbrev pub earlier : Bytes → Bytes → Bytes
earlier a b = if is_below b a then b else a

-- the intersection of two ranges; without a common key its begin isn't below its end
abbrev pub common : KeyRange → KeyRange → KeyRange
common a b = range_of (later a.begin b.begin) (earlier a.end b.end)

-- the mutation names a key of the range
abbrev pub touches : Mutation → KeyRange → Bool
touches (Set key value) range = holds range key
touches (ClearRange begin end) range = not (is_backwards (common (range_of begin end) range))
touches (Atomic op key param) range = holds range key

-- Futures with their blocks, tasks and joins, in the order of their numbers.
use Rattle.std.specs.Prelude.{ℕ, ◌+◌, Bool, true, false, not, ◌&&◌, ◌||◌, List, [], ◌∷◌, ◌++◌, map}
use Rattle.std.specs.Prelude.{max, ◌==◌, if◌then◌else◌}
use Rattle.std.specs.List.{filter}
use Rattle.task_kinds.specs.Tasks.{SeenTask}
pub use Rattle.task_futures.specs.declared.part.Part.{Part}

-- A future; `joins` are the blocks that fall when it is set.
pub record SeenFuture : Type 0 where
  pub number : ℕ
  pub blocks : List ℕ
  pub callbacks : List SeenTask
  pub joins : List Part

abbrev pub fresh_with : ℕ → List ℕ → SeenFuture
fresh_with number blocks = record { number = number; blocks = blocks; callbacks = []; joins = [] }

-- ---- numbers

abbrev pub greatest_number : List SeenFuture → ℕ
greatest_number [] = 0
greatest_number (f ∷ fs) = max f.number (greatest_number fs)

-- one past the greatest, or 1
abbrev pub next_number : List SeenFuture → ℕ
next_number fs = greatest_number fs + 1

abbrev pub greatest_block : List ℕ → ℕ
greatest_block [] = 0
greatest_block (b ∷ bs) = max b (greatest_block bs)

abbrev pub next_block : List ℕ → ℕ
next_block bs = greatest_block bs + 1

-- ---- one future

abbrev pub is_made : ℕ → List SeenFuture → Bool
is_made number [] = false
is_made number (f ∷ fs) = f.number == number || is_made number fs

abbrev pub are_made : List ℕ → List SeenFuture → Bool
are_made [] fs = true
are_made (p ∷ ps) fs = is_made p fs && are_made ps fs

-- the open blocks of the future with a number
abbrev pub blocks_of : ℕ → List SeenFuture → List ℕ
blocks_of number [] = []
blocks_of number (f ∷ fs) = if f.number == number then f.blocks else blocks_of number fs

abbrev pub is_some_block : List ℕ → Bool
is_some_block [] = false
is_some_block (b ∷ bs) = true

-- it isn't set
abbrev pub is_open : ℕ → List SeenFuture → Bool
is_open number fs = is_some_block (blocks_of number fs)

abbrev pub next_block_of : ℕ → List SeenFuture → ℕ
next_block_of number fs = next_block (blocks_of number fs)

-- the list where the future with a number is changed
abbrev pub changed : ℕ → (SeenFuture → SeenFuture) → List SeenFuture → List SeenFuture
changed number change [] = []
changed number change (f ∷ fs) =
    if f.number == number then change f ∷ fs else f ∷ changed number change fs

-- ---- what is added

abbrev pub with_fresh : List SeenFuture → List SeenFuture
with_fresh fs = fs ++ fresh_with (next_number fs) [] ∷ []

abbrev pub and_block : SeenFuture → SeenFuture
and_block f =
    record {
      number = f.number;
      blocks = f.blocks ++ next_block f.blocks ∷ [];
      callbacks = f.callbacks;
      joins = f.joins;
    }

abbrev pub with_block : ℕ → List SeenFuture → List SeenFuture
with_block number fs = changed number and_block fs

abbrev pub and_callback : SeenTask → SeenFuture → SeenFuture
and_callback task f =
    record {
      number = f.number;
      blocks = f.blocks;
      callbacks = f.callbacks ++ task ∷ [];
      joins = f.joins;
    }

abbrev pub with_callback : ℕ → SeenTask → List SeenFuture → List SeenFuture
with_callback number task fs = changed number (and_callback task) fs

-- ---- joins

-- the blocks of a join: one for each part that isn't set, counted on from a number
abbrev pub join_blocks : ℕ → List ℕ → List SeenFuture → List ℕ
join_blocks block [] fs = []
join_blocks block (p ∷ ps) fs =
    if is_open p fs then block ∷ join_blocks (block + 1) ps fs else join_blocks block ps fs

-- those of them that fall with one part
abbrev pub links_of : ℕ → ℕ → ℕ → List ℕ → List SeenFuture → List Part
links_of part join block [] fs = []
links_of part join block (p ∷ ps) fs =
    if is_open p fs
    then (if p == part
    then record { join = join; block = block } ∷ links_of part join (block + 1) ps fs
    else links_of part join (block + 1) ps fs) else links_of part join block ps fs

abbrev pub linked : List ℕ → List SeenFuture → SeenFuture → SeenFuture
linked parts fs f =
    record {
      number = f.number;
      blocks = f.blocks;
      callbacks = f.callbacks;
      joins = f.joins ++ links_of f.number (next_number fs) 1 parts fs;
    }

abbrev pub joined : List ℕ → List SeenFuture → List SeenFuture
joined parts fs =
    map (linked parts fs) fs ++ fresh_with (next_number fs) (join_blocks 1 parts fs) ∷ []

-- ---- unblocking

abbrev pub is_part : ℕ → ℕ → Part → Bool
is_part number block part = part.join == number && part.block == block

-- the block is one of these
abbrev pub falls : List Part → ℕ → ℕ → Bool
falls [] number block = false
falls (p ∷ ps) number block = is_part number block p || falls ps number block

abbrev pub left : List Part → ℕ → List ℕ → List ℕ
left pending number blocks = filter (λ b. not (falls pending number b)) blocks

-- A future that is set passes its joins on, and keeps none. Parts have lesser numbers than joins,
-- so one way through the list settles all.
abbrev pub kept_joins : List ℕ → List Part → List Part
kept_joins [] joins = []
kept_joins (b ∷ bs) joins = joins

abbrev pub passed_on : List ℕ → List Part → List Part → List Part
passed_on [] joins pending = pending ++ joins
passed_on (b ∷ bs) joins pending = pending

abbrev pub settled : List Part → SeenFuture → SeenFuture
settled pending f =
    record {
      number = f.number;
      blocks = left pending f.number f.blocks;
      callbacks = f.callbacks;
      joins = kept_joins (left pending f.number f.blocks) f.joins;
    }

abbrev pub settle : List Part → List SeenFuture → List SeenFuture
settle pending [] = []
settle pending (f ∷ fs) =
    settled pending f ∷ settle (passed_on (left pending f.number f.blocks) f.joins pending) fs

abbrev pub unblocked : ℕ → ℕ → List SeenFuture → List SeenFuture
unblocked number block fs = settle (record { join = number; block = block } ∷ []) fs

-- the tasks of those that are open before and set after
abbrev pub becomes_set : List ℕ → List ℕ → Bool
becomes_set before after = is_some_block before && not (is_some_block after)

abbrev pub newly_set : List SeenFuture → List SeenFuture → List SeenTask
newly_set [] gs = []
newly_set (f ∷ fs) [] = []
newly_set (f ∷ fs) (g ∷ gs) =
    (if becomes_set f.blocks g.blocks then f.callbacks else []) ++ newly_set fs gs

abbrev pub due_of : ℕ → ℕ → List SeenFuture → List SeenTask
due_of number block fs = newly_set fs (unblocked number block fs)

-- ---- taking out

abbrev pub unjoined : ℕ → SeenFuture → SeenFuture
unjoined number f =
    record {
      number = f.number;
      blocks = f.blocks;
      callbacks = f.callbacks;
      joins = filter (λ p. not (p.join == number)) f.joins;
    }

abbrev pub without_number : ℕ → List SeenFuture → List SeenFuture
without_number number fs = map (unjoined number) (filter (λ f. not (f.number == number)) fs)

abbrev pub without_newest : List SeenFuture → List SeenFuture
without_newest fs = without_number (greatest_number fs) fs

-- Single steps of a list of futures.
use Rattle.std.specs.Prelude.{ℕ, ◌+◌, List, [], ◌∷◌, map}
use Rattle.std.specs.Prelude.{◌==◌, if◌then◌else◌}
use Rattle.task_futures.specs.declared.part.Part.{Part}
use Rattle.task_futures.specs.Futures.{SeenFuture, left}

-- where it stands
abbrev pub place_of : ℕ → List SeenFuture → ℕ
place_of number [] = 0
place_of number (f ∷ fs) = if f.number == number then 0 else place_of number fs + 1

-- without the blocks that fall
abbrev pub cleared_by : List Part → SeenFuture → SeenFuture
cleared_by pending f =
    record {
      number = f.number;
      blocks = left pending f.number f.blocks;
      callbacks = f.callbacks;
      joins = f.joins;
    }

-- the first passes its joins on to the others, where it is set
abbrev pub first_settled : List ℕ → SeenFuture → List SeenFuture → List SeenFuture
first_settled [] f fs =
    record { number = f.number; blocks = []; callbacks = f.callbacks; joins = [] } ∷ map
    (cleared_by f.joins) fs
first_settled (b ∷ bs) f fs = f ∷ fs

abbrev pub head_settled : List SeenFuture → List SeenFuture
head_settled [] = []
head_settled (f ∷ fs) = first_settled f.blocks f fs

-- The changes of one future, as the list of futures makes them.
use Rattle.std.specs.Prelude.{◌≡◌, ℕ, ◌-◌, ◌<◌, ◌≤◌, Bool, false, not, nat_lt, ◌&&◌, ◌||◌, ◌==◌}
use Rattle.std.specs.Prelude.{List, [], ◌∷◌, ◌++◌, length, take, drop, map, min, Option, Some, None}
use Rattle.std.specs.Prelude.{if◌then◌else◌}
use Rattle.std.specs.List.{filter, prefix_len}
use Rattle.task_futures.specs.Futures.{SeenFuture, Part, is_part, is_open, is_some_block, links_of}

-- without the block of a part
abbrev pub cleared : Part → SeenFuture → SeenFuture
cleared part f =
    record {
      number = f.number;
      blocks = filter (λ b. not (is_part f.number b part)) f.blocks;
      callbacks = f.callbacks;
      joins = f.joins;
    }

abbrev pub emptied : SeenFuture → SeenFuture
emptied f = record { number = f.number; blocks = f.blocks; callbacks = f.callbacks; joins = [] }

-- it has this number and isn't set
abbrev pub is_open_one : ℕ → SeenFuture → Bool
is_open_one number f = f.number == number && is_some_block f.blocks

-- with one more link, where it has this number, if that is open
abbrev pub and_link : Bool → ℕ → Part → SeenFuture → SeenFuture
and_link open_ number link f =
    record {
      number = f.number;
      blocks = f.blocks;
      callbacks = f.callbacks;
      joins = if open_ && f.number == number then f.joins ++ link ∷ [] else f.joins;
    }

-- all but the last
abbrev pub front : List Part → List Part
front links = take (length links - 1) links

-- without its last link, where it has this number, if that is open
abbrev pub less_link : Bool → ℕ → SeenFuture → SeenFuture
less_link open_ number f =
    record {
      number = f.number;
      blocks = f.blocks;
      callbacks = f.callbacks;
      joins = if open_ && f.number == number then front f.joins else f.joins;
    }

abbrev pub with_link : ℕ → Part → List SeenFuture → List SeenFuture
with_link number link fs = map (and_link (is_open number fs) number link) fs

abbrev pub without_link : ℕ → List SeenFuture → List SeenFuture
without_link number fs = map (less_link (is_open number fs) number) fs

-- a link less for each of these parts, the last one first
abbrev pub unlinked : List ℕ → List SeenFuture → List SeenFuture
unlinked [] fs = fs
unlinked (p ∷ ps) fs = without_link p (unlinked ps fs)

-- with the links for these parts, from a block on
abbrev pub linked_by : ℕ → ℕ → List ℕ → List SeenFuture → SeenFuture → SeenFuture
linked_by join block parts all f =
    record {
      number = f.number;
      blocks = f.blocks;
      callbacks = f.callbacks;
      joins = f.joins ++ links_of f.number join block parts all;
    }

abbrev pub is_lesser : ℕ → SeenFuture → Bool
is_lesser number f = nat_lt f.number number

-- how many at the front have lesser numbers
abbrev pub lesser_count : ℕ → List SeenFuture → ℕ
lesser_count number fs = prefix_len (is_lesser number) fs

-- ---- the next future of which a block falls

-- the lesser of the numbers from a bound on, of the one so far and of a part's
abbrev pub nearer : ℕ → Option ℕ → ℕ → Option ℕ
nearer bound None join = if nat_lt join bound then None else Some join
nearer bound (Some n) join = if nat_lt join bound then Some n else Some (min n join)

abbrev pub nearest_onto : ℕ → Option ℕ → List Part → Option ℕ
nearest_onto bound o [] = o
nearest_onto bound o (p ∷ ps) = nearest_onto bound (nearer bound o p.join) ps

-- the least number of these parts from a bound on
abbrev pub nearest : ℕ → List Part → Option ℕ
nearest bound ps = nearest_onto bound None ps

-- one of these is of the future with this number
abbrev pub is_number_of : ℕ → List Part → Bool
is_number_of number [] = false
is_number_of number (p ∷ ps) = p.join == number || is_number_of number ps

-- none of these futures has a part
abbrev pub AreSpared : List Part → List SeenFuture → Type 0
AreSpared ps [] = Unit {0}
AreSpared ps (f ∷ fs) = (is_number_of f.number ps ≡ false) × AreSpared ps fs

-- the place of the next future of which a block may fall; those from the first on and before it
-- are spared, and without a place all are
pub record IsNextPlace (ps : List Part) (first : ℕ) (fs : List SeenFuture) (next : ℕ) : Type 0 where
  pub behind : first ≤ next
  pub within : next < length fs
  pub spared : AreSpared ps (take (next - first) (drop first fs))

abbrev pub IsNext : List Part → ℕ → List SeenFuture → Option ℕ → Type 0
IsNext ps first fs None = AreSpared ps (drop first fs)
IsNext ps first fs (Some next) = IsNextPlace ps first fs next

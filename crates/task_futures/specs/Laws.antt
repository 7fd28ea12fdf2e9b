-- What each list of futures keeps that the calls make, and what follows from it.
use Rattle.std.specs.Prelude.{◌≡◌, ◌<◌, ◌&&◌, ◌||◌, ◌==◌, ℕ, Bool, false, List, [], ◌∷◌}
use Rattle.task_kinds.specs.Tasks.{SeenTask}
use Rattle.task_futures.specs.Futures.{SeenFuture, Part, with_fresh, with_block, with_callback}
use Rattle.task_futures.specs.Futures.{joined, unblocked, due_of, without_newest}

-- all of these have greater numbers
abbrev pub ArePast : ℕ → List SeenFuture → Type 0
ArePast number [] = Unit {0}
ArePast number (f ∷ fs) = (number < f.number) × ArePast number fs

-- the list is in the order of the numbers
abbrev pub AreRising : List SeenFuture → Type 0
AreRising [] = Unit {0}
AreRising (f ∷ fs) = ArePast f.number fs × AreRising fs

-- these are blocks of joins with greater numbers
abbrev pub ArePartsPast : ℕ → List Part → Type 0
ArePartsPast number [] = Unit {0}
ArePartsPast number (p ∷ ps) = (number < p.join) × ArePartsPast number ps

-- each join has a greater number than its parts
abbrev pub AreForward : List SeenFuture → Type 0
AreForward [] = Unit {0}
AreForward (f ∷ fs) = ArePartsPast f.number f.joins × AreForward fs

-- where no block is open, no block of a join waits
abbrev pub HasPassedOn : List ℕ → List Part → Type 0
HasPassedOn [] joins = joins ≡ []
HasPassedOn (b ∷ bs) joins = Unit {0}

-- the blocks of joins have fallen for each future that is set
abbrev pub HavePassedOn : List SeenFuture → Type 0
HavePassedOn [] = Unit {0}
HavePassedOn (f ∷ fs) = HasPassedOn f.blocks f.joins × HavePassedOn fs

pub record AreFutures (fs : List SeenFuture) : Type 0 where
  pub rising : AreRising fs
  pub forward : AreForward fs
  pub passed_on : HavePassedOn fs

-- each call keeps that
pub record AreKept (fs : List SeenFuture) : Type 0 where
  pub fresh : AreFutures (with_fresh fs)
  pub block : (number : ℕ) → AreFutures (with_block number fs)
  pub on_set : (number : ℕ) (task : SeenTask) → AreFutures (with_callback number task fs)
  pub join : (parts : List ℕ) → AreFutures (joined parts fs)
  pub unblock : (number block : ℕ) → AreFutures (unblocked number block fs)
  pub drop_newest : AreFutures (without_newest fs)

abbrev pub is_one_of : ℕ → List ℕ → Bool
is_one_of block [] = false
is_one_of block (b ∷ bs) = block == b || is_one_of block bs

-- the future with this number has this block open
abbrev pub has_block : ℕ → ℕ → List SeenFuture → Bool
has_block number block [] = false
has_block number block (f ∷ fs) =
    (number == f.number && is_one_of block f.blocks) || has_block number block fs

-- the unblocking changes nothing, and nothing is due
pub record ChangesNothing (number block : ℕ) (fs : List SeenFuture) : Type 0 where
  pub same : unblocked number block fs ≡ fs
  pub none : due_of number block fs ≡ []

pub record FuturesLaw : Type 0 where
  pub empty : AreFutures []
  pub kept : (fs : List SeenFuture) → AreFutures fs → AreKept fs
  -- of a block that isn't open
  pub unknown : (number block : ℕ) (fs : List SeenFuture) → AreFutures fs
      → has_block number block fs ≡ false → ChangesNothing number block fs

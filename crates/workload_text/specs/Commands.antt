-- What a command of the operator keeps.
use Rattle.std.specs.Prelude.{◌≡◌, ◌<◌, ◌≤◌, ℕ, Bool, true, false, not, ◌&&◌, ◌||◌, [], ◌∷◌, length}
use Rattle.std.specs.Prelude.{nat_eq, nat_le, List, Option, Some, None}
use Rattle.std.specs.List.{list_all, AllByRecursion-prop}
use Rattle.std.specs.Coded.{×_prop, le_prop}
use Rattle.std.proofs.Math.Bool.{Bool-set}
use Rattle.block_frame.specs.Profiles.{key_limit_of}
use Rattle.fb_bytes.specs.Bytes.{Bytes, is_below}
use Rattle.fb_bytes.specs.declared.KeyRange.{KeyRange}
use Rattle.fb_bytes.specs.Keys.{is_backwards, is_past_user, BeginPast, AreSeparate, AreRanges}
use Rattle.fb_bytes.specs.Limits.{most_number}
use Rattle.workload_text.specs.declared.command.Command.{Command}
use Rattle.workload_text.specs.declared.command.Command.TheVariants.{Open, Dump}
use Rattle.workload_text.specs.declared.command.Command.TheVariants.{Cut, Seal, Backup}
use Rattle.workload_text.specs.declared.command.Command.TheVariants.{Snapshot}
use Rattle.workload_text.specs.declared.command.Command.TheVariants.{Discontinue, Abort}
use Rattle.workload_text.specs.declared.command.Command.TheVariants.{Pause, Resume, Wait, Status}
use Rattle.workload_text.specs.declared.command.Command.TheVariants.{Expire, Restore, Dr, Switch}
use Rattle.workload_text.specs.declared.command.Command.TheVariants.{Lag}

-- ---- names

abbrev pub is_digit : ℕ → Bool
is_digit byte = nat_le 48 byte && nat_le byte 57

-- a letter of either case
abbrev pub is_letter : ℕ → Bool
is_letter byte = (nat_le 65 byte && nat_le byte 90) || (nat_le 97 byte && nat_le byte 122)

-- a byte of a name: a digit, a letter, `_` or `-`
abbrev pub is_name_byte : ℕ → Bool
is_name_byte byte = is_digit byte || is_letter byte || nat_eq byte 95 || nat_eq byte 45

-- the name begins with a byte other than `-`
abbrev pub begins_well : Bytes → Bool
begins_well [] = false
begins_well (byte ∷ name) = not (nat_eq byte 45)

-- the form of a container's name and of a tag: 1 to 32 bytes of a name, not beginning with `-`
unfoldable pub is_container_name : Bytes → Bool
is_container_name name = begins_well name && nat_le (length name) 32 && list_all is_name_byte name

-- ---- commands

-- both ends of a range are within a limit on keys
abbrev pub is_short : ℕ → KeyRange → Bool
is_short limit range = nat_le (length range.begin) limit && nat_le (length range.end) limit

-- the ranges of a job, of which there is one at least, are within a limit on keys
pub record AreJobRanges (limit : ℕ) (ranges : List KeyRange) : Type 0 where
  pub some : 0 < length ranges
  pub are_ranges : AreRanges ranges
  pub short : list_all (is_short limit) ranges ≡ true

-- an opened job has names, and ranges within a limit on keys
pub record IsOpening (limit : ℕ) (tag container : Bytes) (ranges : List KeyRange) : Type 0 where
  pub tag_named : is_container_name tag ≡ true
  pub container_named : is_container_name container ≡ true
  pub ranges_allowed : AreJobRanges limit ranges

-- a piece is a range of user keys, and its ends are within a limit on keys
pub record IsPiece (limit : ℕ) (piece : KeyRange) : Type 0 where
  pub forward : is_backwards piece ≡ false
  pub user : is_past_user piece ≡ false
  pub begin : length piece.begin ≤ limit
  pub end : length piece.end ≤ limit

-- no version, or one that a text can say
abbrev pub is_version : Option ℕ → Bool
is_version None = true
is_version (Some version) = nat_le version most_number

-- the command may be given, where keys have such a limit
abbrev pub IsWithin : ℕ → Command → Type 0
IsWithin limit (Open tag side container ranges) = IsOpening limit tag container ranges
IsWithin limit (Dump tag piece) = (is_container_name tag ≡ true) × IsPiece limit piece
IsWithin limit (Cut tag) = is_container_name tag ≡ true
IsWithin limit (Seal tag) = is_container_name tag ≡ true
IsWithin limit (Backup tag side container continuous ranges) =
    IsOpening limit tag container ranges
IsWithin limit (Snapshot tag) = is_container_name tag ≡ true
IsWithin limit (Discontinue tag) = is_container_name tag ≡ true
IsWithin limit (Abort tag) = is_container_name tag ≡ true
IsWithin limit Pause = Unit {0}
IsWithin limit Resume = Unit {0}
IsWithin limit (Wait tag) = is_container_name tag ≡ true
IsWithin limit (Status tag) = is_container_name tag ≡ true
IsWithin limit (Expire container cutoff wanted force) =
    (is_container_name container ≡ true) × (nat_le cutoff most_number ≡ true)
    × (nat_le wanted most_number ≡ true)
IsWithin limit (Restore tag side container version) =
    (is_container_name tag ≡ true) × (is_container_name container ≡ true)
    × (is_version version ≡ true)
IsWithin limit (Dr tag side ranges) =
    (is_container_name tag ≡ true) × AreJobRanges limit ranges
IsWithin limit (Switch tag) = is_container_name tag ≡ true
IsWithin limit (Lag tag) = is_container_name tag ≡ true

-- the command may be given in a run with such blocks
abbrev pub IsCommand : ℕ → Command → Type 0
IsCommand block = IsWithin (key_limit_of block)

-- ---- each of these facts has one proof

BeginPast-prop : (key : Bytes) (ranges : List KeyRange) → IsProp (BeginPast key ranges)
BeginPast-prop key [] = λ a b i. tt
BeginPast-prop key (range ∷ ranges) = Bool-set (is_below key range.begin) true

AreSeparate-prop : (ranges : List KeyRange) → IsProp (AreSeparate ranges)
AreSeparate-prop [] = λ a b i. tt
AreSeparate-prop (range ∷ ranges) =
    λ a b i. (
      Bool-set _ _ a.0 b.0 i,
      BeginPast-prop range.end ranges a.1 b.1 i,
      AreSeparate-prop ranges a.2 b.2 i,
    )

AreRanges-prop : (ranges : List KeyRange) → IsProp (AreRanges ranges)
AreRanges-prop ranges = λ a b i. record {
  separate = AreSeparate-prop ranges a.separate b.separate i;
  user = AllByRecursion-prop (λ range. is_past_user range ≡ false)
      (λ range. Bool-set (is_past_user range) false) ranges a.user b.user i;
  few = le_prop a.few b.few i;
}

pub AreJobRanges-prop : (limit : ℕ) (ranges : List KeyRange) → IsProp (AreJobRanges limit ranges)
AreJobRanges-prop limit ranges = λ a b i. record {
  some = le_prop a.some b.some i;
  are_ranges = AreRanges-prop ranges a.are_ranges b.are_ranges i;
  short = Bool-set _ _ a.short b.short i;
}

pub IsOpening-prop : (limit : ℕ) (tag container : Bytes) (ranges : List KeyRange)
    → IsProp (IsOpening limit tag container ranges)
IsOpening-prop limit tag container ranges = λ a b i. record {
  tag_named = Bool-set _ _ a.tag_named b.tag_named i;
  container_named = Bool-set _ _ a.container_named b.container_named i;
  ranges_allowed = AreJobRanges-prop limit ranges a.ranges_allowed b.ranges_allowed i;
}

pub IsPiece-prop : (limit : ℕ) (piece : KeyRange) → IsProp (IsPiece limit piece)
IsPiece-prop limit piece = λ a b i. record {
  forward = Bool-set _ _ a.forward b.forward i;
  user = Bool-set _ _ a.user b.user i;
  begin = le_prop a.begin b.begin i;
  end = le_prop a.end b.end i;
}

Unit-prop : IsProp (Unit {0})
Unit-prop = λ a b i. tt

pub IsWithin-prop : (limit : ℕ) (command : Command) → IsProp (IsWithin limit command)
IsWithin-prop limit (Open tag side container ranges) = IsOpening-prop limit tag container ranges
IsWithin-prop limit (Dump tag piece) = ×_prop (Bool-set _ _) (IsPiece-prop limit piece)
IsWithin-prop limit (Cut tag) = Bool-set _ _
IsWithin-prop limit (Seal tag) = Bool-set _ _
IsWithin-prop limit (Backup tag side container continuous ranges) =
    IsOpening-prop limit tag container ranges
IsWithin-prop limit (Snapshot tag) = Bool-set _ _
IsWithin-prop limit (Discontinue tag) = Bool-set _ _
IsWithin-prop limit (Abort tag) = Bool-set _ _
IsWithin-prop limit Pause = Unit-prop
IsWithin-prop limit Resume = Unit-prop
IsWithin-prop limit (Wait tag) = Bool-set _ _
IsWithin-prop limit (Status tag) = Bool-set _ _
IsWithin-prop limit (Expire container cutoff wanted force) =
    λ a b i. (
      Bool-set _ _ a.0 b.0 i,
      Bool-set _ _ a.1 b.1 i,
      Bool-set _ _ a.2 b.2 i,
    )
IsWithin-prop limit (Restore tag side container version) =
    λ a b i. (
      Bool-set _ _ a.0 b.0 i,
      Bool-set _ _ a.1 b.1 i,
      Bool-set _ _ a.2 b.2 i,
    )
IsWithin-prop limit (Dr tag side ranges) = ×_prop (Bool-set _ _) (AreJobRanges-prop limit ranges)
IsWithin-prop limit (Switch tag) = Bool-set _ _
IsWithin-prop limit (Lag tag) = Bool-set _ _

pub IsCommand-prop : (block : ℕ) (command : Command) → IsProp (IsCommand block command)
IsCommand-prop block command = IsWithin-prop (key_limit_of block) command

-- A walk along ranges and noted pieces side by side.
use Rattle.std.specs.Prelude.{◌≡◌, ℕ, ◌≤◌, List, None, length, drop}
use Rattle.fb_bytes.specs.declared.KeyRange.{KeyRange}
use Rattle.fb_bytes.specs.Keys.{BeginPast, AreSeparate}
use Rattle.snapshot_plan.specs.declared.file_map.Noted.{Noted}
use Rattle.snapshot_plan.specs.Pieces.{ArePieces, outside, gap_in}
use Rattle.snapshot_plan.specs.Noted.{pieces_of}

-- The pieces from one place on hold the whole range, and those in front of a later place hold no
-- key past it.
pub record Reaches (noted : List Noted) (range : KeyRange) (from place : ℕ) : Type 0 where
  pub within : place ≤ length noted
  pub whole : outside (pieces_of (drop from noted)) range ≡ None
  pub pieces : ArePieces (pieces_of (drop place noted))
  pub rest : (ranges : List KeyRange) → BeginPast range.end ranges → AreSeparate ranges
      → gap_in ranges (pieces_of (drop place noted)) ≡ gap_in ranges (pieces_of (drop from noted))

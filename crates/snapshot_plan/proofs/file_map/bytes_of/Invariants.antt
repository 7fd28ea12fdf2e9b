use Rattle.std.proofs.Common.{◌≡◌, ◌≤◌, drop}
use Rattle.snapshot_plan.specs.Noted.{bytes_of, most_bytes}
use Rattle.snapshot_plan.proofs.file_map.bytes_of.Given as goal

abbrev pub invariant-noted : goal.invariant-noted
invariant-noted l = (bytes_of l.bytes (drop l.one-index l.noted) ≡ bytes_of 0 l.noted) × (l.bytes ≤ most_bytes)

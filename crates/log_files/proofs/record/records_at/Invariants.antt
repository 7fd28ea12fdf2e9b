use Rattle.std.proofs.Common.{◌+◌, ◌≤◌, length}
use Rattle.log_files.specs.Reading.{records_at}
use Rattle.log_files.specs.inner.Seen.{records_from}
use Rattle.log_files.proofs.Records.{RowsSoFar}
use Rattle.log_files.proofs.record.records_at.Given as goal

abbrev pub invariant-rows : goal.invariant-rows
invariant-rows l = record { within : length l.rest ≤ length l.bytes; so_far : RowsSoFar (records_from l.records.items) l.end l.rest (records_at (length l.bytes + 1) l.end l.bytes) }

abbrev pub decreases-rows : goal.decreases-rows
decreases-rows l = length l.rest

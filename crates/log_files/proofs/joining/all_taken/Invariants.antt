use Rattle.std.proofs.Common.{◌≡◌, drop}
use Rattle.log_files.specs.Reading.{all_taken}
use Rattle.log_files.specs.inner.Seen.{so_far, records_from}
use Rattle.log_files.proofs.joining.all_taken.Given as goal

abbrev pub invariant-loop-row : goal.invariant-loop-row
invariant-loop-row l = all_taken l.end (so_far l.batched) (records_from (drop l.row-index l.records)) ≡ all_taken l.end (so_far l.fn.batched) (records_from l.records)

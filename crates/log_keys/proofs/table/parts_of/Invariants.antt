use Rattle.std.proofs.Common.{◌+◌, ◌*◌, ◌^◌, ◌≤◌, length}
use Rattle.mutations.specs.Cutting.{pieces_of}
use Rattle.log_keys.specs.inner.Parts.{rows_from}
use Rattle.log_keys.proofs.Cutting.{PartsSoFar}
use Rattle.log_keys.proofs.table.parts_of.Given as goal

abbrev pub invariant-parts : goal.invariant-parts
invariant-parts l = record {
  few : l.number * l.part + length l.rest ≤ 2 ^ 32 * l.part;
  so_far : PartsSoFar l.part l.rows.items l.job l.version l.number l.rest (rows_from l.job l.version 0 (pieces_of l.part l.batch));
}

abbrev pub decreases-parts : goal.decreases-parts
decreases-parts l = length l.rest

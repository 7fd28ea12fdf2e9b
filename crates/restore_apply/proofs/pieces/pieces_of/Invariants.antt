use Rattle.std.proofs.Common.{◌≡◌, ◌<◌, ◌++◌, length}
use Rattle.std.specs.List.{AllByRecursion}
use Rattle.restore_apply.specs.inner.Pieces.{pieces_at}
use Rattle.restore_apply.proofs.pieces.pieces_of.Given as goal

abbrev pub invariant-loop-at : goal.invariant-loop-at
invariant-loop-at l = record {
  same : l.pieces.items ++ pieces_at l.files l.at-iterator.rest.items ≡ pieces_at l.files l.fn.order.items;
  places : AllByRecursion (λ at. at.place < length l.files) l.at-iterator.rest.items;
  whole : l.at-iterator.rest.len ≡ length l.at-iterator.rest.items;
}

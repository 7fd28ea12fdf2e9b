use Rattle.std.proofs.Common.{◌≡◌, ◌+◌, ◌<◌, ◌^◌, ◌++◌, drop, length}
use Rattle.range_files.specs.Grammar.{pairs_text, end_text}
use Rattle.range_files.specs.Reading.{unrisen}
use Rattle.range_files.proofs.block.unrisen.Given as goal

abbrev pub invariant-loop-pair : goal.invariant-loop-pair
invariant-loop-pair l = record {
  same : unrisen l.last l.at (drop l.pair-index l.pairs) l.end ≡ unrisen l.key l.place l.pairs l.end;
  fits : l.at + length (pairs_text (drop l.pair-index l.pairs) ++ end_text l.end) < 2 ^ 64;
}

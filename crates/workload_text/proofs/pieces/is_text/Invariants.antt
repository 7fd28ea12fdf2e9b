use Rattle.std.proofs.Common.{◌≡◌, ◌&&◌, drop}
use Rattle.std.specs.List.{list_all}
use Rattle.workload_text.specs.Texts.{is_text_byte}
use Rattle.workload_text.proofs.pieces.is_text.Given as goal

abbrev pub invariant-loop-byte : goal.invariant-loop-byte
invariant-loop-byte l =
    (l.are_text && list_all is_text_byte (drop l.byte-index l.line)) ≡ list_all is_text_byte l.line

use Rattle.std.proofs.Common.{◌≡◌, take, string_bytes}
use Rattle.fb_bytes.specs.Words.{letters_of}
use Rattle.fb_bytes.proofs.word.print_bytes.Given as goal

abbrev pub invariant-loop-byte : goal.invariant-loop-byte
invariant-loop-byte l = string_bytes l.word ≡ letters_of (take l.byte-index l.bytes)

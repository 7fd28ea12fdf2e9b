use Rattle.std.proofs.Common.{◌≡◌, ◌-◌, ◌≤◌, length, drop}
use Rattle.fb_bytes.specs.Words.{letters}
use Rattle.fb_bytes.proofs.Letters.{with_front}
use Rattle.fb_bytes.proofs.word.read_letters.Given as goal

abbrev pub invariant-letters : goal.invariant-letters
invariant-letters l = record {
  within : l.at ≤ length l.word;
  same : letters 0 0 l.word ≡ with_front l.bytes.items (letters 0 l.at (drop l.at l.word));
}

abbrev pub decreases-letters : goal.decreases-letters
decreases-letters l = length l.word - l.at

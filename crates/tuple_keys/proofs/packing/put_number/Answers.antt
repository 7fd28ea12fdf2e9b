use Rattle.std.proofs.Common.{rules}
use Rattle.tuple_keys.specs.Spelling.{digits}
use Rattle.tuple_keys.proofs.packing.put_number.Goals as goal

pub returns-then-negative : goal.returns-then-negative
unfolding digits
returns-then-negative c = search rules

pub returns-else-negative : goal.returns-else-negative
unfolding digits
returns-else-negative c = search rules

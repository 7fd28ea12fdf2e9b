use Rattle.std.proofs.Common.{◌≡◌, drop}
use Rattle.fb_bytes.specs.Options.{first_place, first_place_from}
use Rattle.mutations.specs.Transactions.{is_key_long}
use Rattle.mutations.proofs.tx_fault.first_long_key.Given as goal

-- the first place among the operations is the first one from here on
abbrev pub invariant-loop-index : goal.invariant-loop-index
invariant-loop-index l = first_place (is_key_long l.limit) l.ops ≡ first_place_from l.index (is_key_long l.limit) (drop l.index l.ops)

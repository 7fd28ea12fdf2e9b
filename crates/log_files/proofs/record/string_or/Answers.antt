use Rattle.std.proofs.Common.{arith, sym}
use Rattle.block_frame.proofs.Strings.{string_size}
use Rattle.log_files.proofs.record.string_or.Goals as goal

pub returns-clause-shorter : goal.returns-clause-shorter
returns-clause-shorter c = let a = string_size c.args.bytes.now (c.in-Some.string.now, c.in-Some.rest.now) (sym c.in-Some.ensures) in omega arith

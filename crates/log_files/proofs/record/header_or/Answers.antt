use Rattle.std.proofs.Common.{arith, sym}
use Rattle.block_frame.proofs.Strings.{header_size}
use Rattle.log_files.proofs.record.header_or.Goals as goal

pub returns-clause-within : goal.returns-clause-within
returns-clause-within c = let a = header_size c.args.bytes.now (c.in-Some.found, c.in-Some.rest.now) (sym c.in-Some.ensures) in omega arith

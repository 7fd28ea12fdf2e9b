use Rattle.std.proofs.Common.{◌+◌, length, arith, sym}
use Rattle.block_frame.proofs.Strings.{header_size}
use Rattle.range_files.proofs.Steps.{string_or_size}
use Rattle.range_files.proofs.block.structure.Goals as goal

pub string_or-requires : goal.string_or-requires
string_or-requires c = let a = header_size c.args.bytes.now (c.in-Some.found, c.in-Some.rest.now) (sym c.in-Some.ensures) in omega arith

pub items_at-requires : goal.items_at-requires
items_at-requires c =
    let a = header_size c.args.bytes.now (c.in-Some.found, c.in-Some.rest.now) (sym c.in-Some.ensures) in
    let b = string_or_size (c.args.base + length c.args.bytes.now) c.in-Some.rest.now (c.in_ok-begin.begin, c.in_ok-begin.rest.now) c.in_ok-begin.ensures.ok in
    omega arith

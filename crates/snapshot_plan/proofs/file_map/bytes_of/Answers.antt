use Rattle.std.proofs.Common.{◌+◌, ◌<◌, arith}
use Rattle.snapshot_plan.proofs.Manifests.{bytes_past}
use Rattle.snapshot_plan.proofs.file_map.bytes_of.Goals as goal

pub returns-then-one-bytes-clause-past : goal.returns-then-one-bytes-clause-past
returns-then-one-bytes-clause-past c = λ _.
    let past : 9223372036854775807 < c.noted.bytes + c.one-item.result.file.bytes = omega arith in
    bytes_past c.args.noted.now c.noted.one-index c.noted.bytes 9223372036854775807 c.one-item.result c.noted-test.true c.one-item.is c.noted.invariant.0 past

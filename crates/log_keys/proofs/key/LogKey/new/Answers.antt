use Rattle.log_keys.specs.Keys.{Key, Fits}
use Rattle.log_keys.proofs.KeyOrder.{key_is, is_key}
use Rattle.log_keys.proofs.key.LogKey.new.Goals as goal

pub invariant_of-result : goal.invariant_of-result
invariant_of-result c =
    let key : Key = record { job = c.args.job; version = c.args.version; part = c.args.part } in
    let fits : Fits key = record { job = c.ranges.job.fits; version = c.ranges.version.fits; part = c.ranges.part.fits } in
    is_key c.in_ok-bytes.bytes key fits c.in_ok-bytes.ensures

pub returns : goal.returns
returns c =
    let key : Key = record { job = c.args.job; version = c.args.version; part = c.args.part } in
    let fits : Fits key = record { job = c.ranges.job.fits; version = c.ranges.version.fits; part = c.ranges.part.fits } in
    key_is c.in_ok-bytes.bytes key fits c.in_ok-bytes.ensures

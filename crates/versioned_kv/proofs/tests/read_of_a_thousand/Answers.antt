use Rattle.std.proofs.Common.{◌^◌, ◌≤◌, ◌<◌, length, arith}
use Rattle.versioned_kv.specs.Chains.{rows_of}
use Rattle.versioned_kv.specs.Digits.{digits}
use Rattle.versioned_kv.proofs.DigitsOf.{digits_law}
use Rattle.versioned_kv.proofs.tests.read_of_a_thousand.Goals as goal

pub returns : goal.returns
returns g c =
    let keys = length c.args.store.now.chains in
    let versions = length (rows_of c.args.store.now.chains c.args.key.now) in
    let few_keys : keys < 2 ^ 10 = omega arith in
    let few_versions : versions < 2 ^ 2 = omega arith in
    let ten : digits keys ≤ 10 = (digits_law keys).least 10 few_keys in
    let two : digits versions ≤ 2 = (digits_law versions).least 2 few_versions in
    let taken = c.read.ensures.steps in
    omega arith

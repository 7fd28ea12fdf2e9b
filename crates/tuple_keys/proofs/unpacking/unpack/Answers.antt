use Rattle.std.proofs.Common.{arith}
use Rattle.tuple_keys.proofs.Loops.{is_found, is_only, is_err}
use Rattle.tuple_keys.specs.Reading.{reading}
use Rattle.tuple_keys.proofs.unpacking.unpack.Goals as goal

pub returns-clause-found : goal.returns-clause-found
returns-clause-found c = is_found c.args.bytes.now c.elements_of.result (λ i. omega (arith, c.type_inv.bytes i)) c.elements_of.ensures

pub returns-clause-only : goal.returns-clause-only
returns-clause-only c = λ es fits is. is_only c.args.bytes.now c.elements_of.result es c.elements_of.ensures fits is

pub returns-clause-err : goal.returns-clause-err
returns-clause-err c = is_err c.elements_of.result (reading c.args.bytes.now) c.elements_of.ensures

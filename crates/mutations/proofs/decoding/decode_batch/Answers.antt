use Rattle.std.proofs.Common.{arith}
use Rattle.std.proofs.lemmas.Result.{err_from_is_err_and}
use Rattle.mutations.proofs.Spellings.{is_found, spelled_is_read, none_spelled, body_decides}
use Rattle.mutations.proofs.decoding.decode_batch.Goals as goal

pub returns-in_err-body-clause-only : goal.returns-in_err-body-clause-only
returns-in_err-body-clause-only c =
    let p = err_from_is_err_and c.from_residual.result c.from_residual.ensures.1 in
    rw (p.1, p.2) (none_spelled c.args.bytes.now c.in_err-body.field-0.0 c.in_err-body.ensures.err)

pub returns-clause-found : goal.returns-clause-found
returns-clause-found c =
    is_found c.args.bytes.now c.read_mutations.result (λ i. omega (arith, c.type_inv.bytes i)) (body_decides c.args.bytes.now c.in_ok-body.body.now c.read_mutations.result c.in_ok-body.ensures.ok.0 c.in_ok-body.ensures.ok.1 c.read_mutations.ensures)

pub returns-clause-only : goal.returns-clause-only
returns-clause-only c =
    spelled_is_read c.args.bytes.now c.read_mutations.result (body_decides c.args.bytes.now c.in_ok-body.body.now c.read_mutations.result c.in_ok-body.ensures.ok.0 c.in_ok-body.ensures.ok.1 c.read_mutations.ensures)

use Rattle.std.proofs.Common.{◌<◌, length}
use Rattle.std.proofs.lemmas.Result.{err_from_is_err_and}
use Rattle.mutations.proofs.Loop.{begins, goes_on, fails, is_done, has_some, has_none}
use Rattle.mutations.proofs.decoding.read_mutations.Goals as goal

pub loop-rest-init : goal.loop-rest-init
loop-rest-init c = rw c.new-muts.ensures (begins c.args.total c.args.bytes.now c.requires)

pub returns-in_err-mutation : goal.returns-in_err-mutation
returns-in_err-mutation c =
    let p = err_from_is_err_and c.from_residual.result c.from_residual.ensures.1 in
    let some : 0 < length c.loop-rest.rest.now = has_some _ _ c.is_empty.ensures c.loop-rest-test.true in
    rw (p.1, p.2) (fails c.loop-rest.muts c.args.total c.loop-rest.rest.now _ c.in_err-mutation.field-0.0 c.loop-rest.invariant some c.in_err-mutation.ensures.gives)

pub loop-rest-preserved : goal.loop-rest-preserved
loop-rest-preserved c =
    let some : 0 < length c.loop-rest.rest.now = has_some _ _ c.is_empty.ensures c.loop-rest-test.true in
    rw c.in_ok-push.ensures.ok (goes_on c.loop-rest.muts c.args.total c.loop-rest.rest.now _ c.in_ok-mutation.mutation c.in_ok-mutation.after.now c.loop-rest.invariant some c.in_ok-mutation.ensures.gives c.in_ok-mutation.ensures.shorter)

pub returns : goal.returns
returns c = is_done c.loop-rest.muts c.args.total c.loop-rest.rest.now _ c.loop-rest.invariant (has_none _ _ c.is_empty.ensures c.loop-rest-test.false)

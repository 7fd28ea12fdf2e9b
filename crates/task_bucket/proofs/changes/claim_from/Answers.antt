use Rattle.std.proofs.Common.{arith, length, subst, sym, ap}
use Rattle.task_bucket.specs.inner.Held.{AreCounted}
use Rattle.task_bucket.proofs.Claiming.{whole}
use Rattle.task_bucket.proofs.changes.claim_from.Goals as goal

pub returns-clause-kept : goal.returns-clause-kept
returns-clause-kept c =
    subst (AreCounted c.claim_in.new.free) (sym (whole c.args.held.now.len c.claim_in.new.held c.args.held.now.items (omega (arith, c.args.held.now.ok.0)) (omega (arith, ap length c.deref_mut.ensures.value)))) c.claim_in.ensures.kept

use Rattle.std.proofs.Common.{◌+◌, ◌*◌, ◌≤◌, length, subst}
use Rattle.versioned_kv.specs.Chains.{rows_of}
use Rattle.versioned_kv.specs.Applied.{Contents}
use Rattle.versioned_kv.specs.Digits.{digits}
use Rattle.versioned_kv.proofs.DigitsOf.{by_digits}
use Rattle.versioned_kv.proofs.store.Store.read.Goals as goal

pub returns-in_err-value-clause-steps : goal.returns-in_err-value-clause-steps
returns-in_err-value-clause-steps g c = subst (λ (s : Contents). c.value.new.steps ≤ c.args.steps.now + (2 * digits (length s.chains) + 2 * digits (length (rows_of s.chains c.args.key.now)) + 4)) c.self.view_is (by_digits (length c.self.inside.chains) (length (rows_of c.self.inside.chains c.args.key.now)) c.args.steps.now c.value.new.steps c.value.ensures.steps)

pub returns-clause-steps : goal.returns-clause-steps
returns-clause-steps g c = subst (λ (s : Contents). c.value.new.steps ≤ c.args.steps.now + (2 * digits (length s.chains) + 2 * digits (length (rows_of s.chains c.args.key.now)) + 4)) c.self.view_is (by_digits (length c.self.inside.chains) (length (rows_of c.self.inside.chains c.args.key.now)) c.args.steps.now c.value.new.steps c.value.ensures.steps)

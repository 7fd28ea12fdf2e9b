use Rattle.std.proofs.Common.{List, sym, subst, arith}
use Rattle.versioned_kv.specs.Chains.{Chain}
use Rattle.versioned_kv.specs.inner.Queued.{IsWhole}
use Rattle.versioned_kv.specs.Applied.{Contents, Holds}
use Rattle.versioned_kv.proofs.Forgets.{holds_kept}
use Rattle.versioned_kv.proofs.Queues.{due_all}
use Rattle.versioned_kv.proofs.Whole.{whole_fallen}
use Rattle.versioned_kv.proofs.store.Store.forget.Goals as goal

pub forget-requires-clause-due : goal.forget-requires-clause-due
forget-requires-clause-due c = due_all c.self.inside.oldest c.max-self-inside.result c.self.inside.queue c.self.inside.chains c.self.invariant.sound.in_order (omega arith) c.self.invariant.queued.kept

pub invariant_of-self : goal.invariant_of-self
invariant_of-self c =
    let s = c.self.inside in
    let oldest = c.max-self-inside.result in
    subst (λ (chains : List Chain). IsWhole s.versions.items oldest chains c.forget.new.queue) (sym c.forget.ensures.chains)
    (whole_fallen s.oldest oldest s.versions.items s.chains s.queue c.forget.new.queue c.self.invariant (omega arith) c.forget.ensures.falls)

pub returns-clause-holds : goal.returns-clause-holds
returns-clause-holds c = λ entries h.
    let s = c.self.inside in
    let oldest = c.max-self-inside.result in
    let before : Holds (record { limit = s.limit; oldest = s.oldest; versions = s.versions.items; chains = s.chains }) entries = subst (λ (x : Contents). Holds x entries) (sym c.self.view_is) h in
    subst (λ (chains : List Chain). Holds (record { limit = s.limit; oldest = oldest; versions = s.versions.items; chains = chains }) entries) (sym c.forget.ensures.chains) (holds_kept s.limit s.oldest oldest s.versions.items s.chains entries c.self.invariant.sound.in_order (omega arith) before)

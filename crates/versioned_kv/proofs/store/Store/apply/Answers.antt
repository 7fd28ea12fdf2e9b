use Rattle.std.proofs.Common.{◌≡◌, ℕ, List, sym, ap, ◌∙◌, subst, arith}
use Rattle.mutations.specs.declared.mutation.Mutation.{Mutation}
use Rattle.mutations.specs.Effects.{effects}
use Rattle.versioned_kv.specs.Chains.{Chain, value_at}
use Rattle.versioned_kv.specs.inner.Queued.{IsWhole}
use Rattle.versioned_kv.specs.Applied.{Contents, Holds, IsPast, with_entry}
use Rattle.versioned_kv.specs.Touched.{touched, RowsStay, WritesAt}
use Rattle.versioned_kv.proofs.Touches.{writes_at}
use Rattle.versioned_kv.proofs.Holding.{pop_back, upto_past, cut_back, holds_more}
use Rattle.versioned_kv.proofs.Queues.{order_more, upto_more}
use Rattle.versioned_kv.proofs.Whole.{past_queue, upto_queue, whole_more, none_yet, whole_undone}
use Rattle.versioned_kv.proofs.store.Store.apply.Goals as goal

pub write-requires-clause-upto : goal.write-requires-clause-upto
write-requires-clause-upto c =
    let past = subst (λ (x : Contents). IsPast c.args.version x.versions) (sym c.self.view_is) c.requires in
    upto_past c.args.version c.self.inside.versions.items c.self.inside.chains past c.self.invariant.sound.known

pub invariant_of-self-in-Ok : goal.invariant_of-self-in-Ok
invariant_of-self-in-Ok c =
    let s = c.self.inside in
    let past = subst (λ (x : Contents). IsPast c.args.version x.versions) (sym c.self.view_is) c.requires in
    let noted = c.write.ensures.noted (none_yet c.args.version s.oldest s.versions.items s.chains s.queue c.self.invariant past) in
    subst (λ (versions : List ℕ). IsWhole versions s.oldest c.write.new.chains c.write.new.queue) (sym c.in_ok-push.ensures.items)
    (whole_more c.args.version s.oldest s.versions.items s.chains c.write.new.chains s.queue c.write.new.queue c.self.invariant past c.write.ensures.extends c.write.ensures.notes noted)

pub cut-requires-clause-noted : goal.cut-requires-clause-noted
cut-requires-clause-noted c =
    let s = c.self.inside in
    let past = subst (λ (x : Contents). IsPast c.args.version x.versions) (sym c.self.view_is) c.requires in
    c.write.ensures.noted (none_yet c.args.version s.oldest s.versions.items s.chains s.queue c.self.invariant past)

pub cut-requires-clause-order : goal.cut-requires-clause-order
cut-requires-clause-order c =
    let s = c.self.inside in
    let past = subst (λ (x : Contents). IsPast c.args.version x.versions) (sym c.self.view_is) c.requires in
    order_more c.args.version s.queue c.write.new.queue c.self.invariant.queued.in_order (upto_queue c.args.version s.queue (past_queue c.args.version s.versions.items s.queue past c.self.invariant.queued.of)) c.write.ensures.notes

pub cut-requires-clause-newest : goal.cut-requires-clause-newest
cut-requires-clause-newest c =
    let s = c.self.inside in
    let past = subst (λ (x : Contents). IsPast c.args.version x.versions) (sym c.self.view_is) c.requires in
    upto_more c.args.version s.queue c.write.new.queue (upto_queue c.args.version s.queue (past_queue c.args.version s.versions.items s.queue past c.self.invariant.queued.of)) c.write.ensures.notes

pub invariant_of-self-in-Err : goal.invariant_of-self-in-Err
invariant_of-self-in-Err c =
    let s = c.self.inside in
    let past = subst (λ (x : Contents). IsPast c.args.version x.versions) (sym c.self.view_is) c.requires in
    let versions : c.pop.new.self.items ≡ s.versions.items = pop_back c.pop.result s.versions.items c.pop.new.self.items c.args.version (sym c.in_ok-push.ensures.items ∙ c.pop.ensures.items) (c.pop.ensures.variant.1 (omega (arith, c.in_ok-push.ensures.len))) in
    let chains : c.cut.new.chains ≡ s.chains = c.cut.ensures.chains ∙ cut_back c.args.version s.versions.items s.chains c.write.new.chains c.self.invariant.sound.in_order past c.self.invariant.sound.known c.write.ensures.extends in
    subst (λ (vs : List ℕ). IsWhole vs s.oldest c.cut.new.chains c.cut.new.queue) (sym versions)
    (subst (λ (cs : List Chain). IsWhole s.versions.items s.oldest cs c.cut.new.queue) (sym chains)
    (whole_undone c.args.version s.oldest s.versions.items s.chains s.queue c.write.new.queue c.cut.new.queue c.self.invariant past c.write.ensures.notes c.cut.ensures.notes c.cut.ensures.older))

pub returns-in-Ok-clause-ok : goal.returns-in-Ok-clause-ok
returns-in-Ok-clause-ok c = λ entries h.
    let s = c.self.inside in
    let past = subst (λ (x : Contents). IsPast c.args.version x.versions) (sym c.self.view_is) c.requires in
    let told = λ (key : List ℕ). c.in-Ok.ensures.ok key ∙ ap (λ (muts : List Mutation). effects s.limit muts key (value_at s.chains key c.args.version)) c.as_slice.ensures in
    subst (λ (versions : List ℕ). Holds (record { limit = s.limit; oldest = s.oldest; versions = versions; chains = c.write.new.chains }) (with_entry entries c.args.version c.args.mutations.now)) (sym c.in_ok-push.ensures.items)
    (holds_more s.limit s.oldest s.versions.items s.chains c.write.new.chains c.args.version c.args.mutations.now c.self.invariant.sound.in_order (upto_past c.args.version s.versions.items s.chains past c.self.invariant.sound.known) past c.write.ensures.extends told entries (subst (λ (x : Contents). Holds x entries) (sym c.self.view_is) h))

pub returns-in-Err-clause-err : goal.returns-in-Err-clause-err
returns-in-Err-clause-err c =
    let s = c.self.inside in
    let past = subst (λ (x : Contents). IsPast c.args.version x.versions) (sym c.self.view_is) c.requires in
    let versions : c.pop.new.self.items ≡ s.versions.items = pop_back c.pop.result s.versions.items c.pop.new.self.items c.args.version (sym c.in_ok-push.ensures.items ∙ c.pop.ensures.items) (c.pop.ensures.variant.1 (omega (arith, c.in_ok-push.ensures.len))) in
    let chains : c.cut.new.chains ≡ s.chains = c.cut.ensures.chains ∙ cut_back c.args.version s.versions.items s.chains c.write.new.chains c.self.invariant.sound.in_order past c.self.invariant.sound.known c.write.ensures.extends in
    let made = λ (vs : List ℕ) (cs : List Chain). let x : Contents = record { limit = s.limit; oldest = s.oldest; versions = vs; chains = cs } in x in
    ap (λ (vs : List ℕ). made vs c.cut.new.chains) versions ∙ ap (λ (cs : List Chain). made s.versions.items cs) chains ∙ c.self.view_is

pub returns-in-Ok-clause-rows : goal.returns-in-Ok-clause-rows
returns-in-Ok-clause-rows c =
    let s = c.self.inside in
    let past = subst (λ (x : Contents). IsPast c.args.version x.versions) (sym c.self.view_is) c.requires in
    cut_back c.args.version s.versions.items s.chains c.write.new.chains c.self.invariant.sound.in_order past c.self.invariant.sound.known c.write.ensures.extends ∙ ap (λ (x : Contents). x.chains) c.self.view_is

pub returns-in-Ok-clause-written : goal.returns-in-Ok-clause-written
returns-in-Ok-clause-written c =
    let s = c.self.inside in
    let past = subst (λ (x : Contents). IsPast c.args.version x.versions) (sym c.self.view_is) c.requires in
    let stay : RowsStay (touched c.args.mutations.now) s.chains c.write.new.chains = subst (λ (muts : List Mutation). RowsStay (touched muts) s.chains c.write.new.chains) c.as_slice.ensures c.in-Ok.ensures.others in
    subst (λ (x : Contents). WritesAt (touched c.args.mutations.now) x.chains c.write.new.chains) c.self.view_is
    (writes_at c.args.version s.versions.items s.chains c.write.new.chains (touched c.args.mutations.now) c.self.invariant.sound.in_order past c.self.invariant.sound.known c.write.ensures.extends stay)

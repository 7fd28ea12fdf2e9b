use Rattle.std.proofs.Common.{Some, None, Err, ap, sym, refl, ◌∙◌, inl, inr}
use Rattle.mutations.specs.Transactions.{writes_of}
use Rattle.database.specs.declared.commit_fault.CommitFault.TheVariants.{TooOld, NotCommitted}
use Rattle.database.proofs.Answers.{own_fault, age_old, age_young, conflict_found, answer_is, if_ok, if_err}
use Rattle.database.proofs.db.Db.version_for.Goals as goal

pub returns-in-Some-clause-err : goal.returns-in-Some-clause-err
returns-in-Some-clause-err c =
    let old = c.self.inside in
    let answer = answer_is _ _ c.args.versions.now c.args.tx.now.read c.args.tx.now.ops.now old.logs.items (Some c.in-Some.fault) _ _ _ c.self.view_is
    (own_fault old.profile.block old.profile.key old.profile.value c.args.tx.now.ops.now c.as_slice.result.now (Some c.in-Some.fault) old.profile.keys old.profile.values c.as_slice.ensures c.in-Some.ensures) refl refl refl refl in
    elim c.of_transaction.ensures [ inl starved ↦ inl starved | inr met ↦ inr (answer ∙ ap Err (sym met)) ]

pub returns-in-Some-lock-clause-err : goal.returns-in-Some-lock-clause-err
returns-in-Some-lock-clause-err c =
    let old = c.self.inside in
    inr (answer_is _ _ c.args.versions.now c.args.tx.now.read c.args.tx.now.ops.now old.logs.items None (Some c.in-Some-lock.uid) _ _ c.self.view_is
    (own_fault old.profile.block old.profile.key old.profile.value c.args.tx.now.ops.now c.as_slice.result.now None old.profile.keys old.profile.values c.as_slice.ensures c.in_default.ensures)
    (sym c.self.invariant.lock_is ∙ c.in-Some-lock.is) refl refl refl)

pub returns-then-tx-oldest-clause-err : goal.returns-then-tx-oldest-clause-err
returns-then-tx-oldest-clause-err c =
    let old = c.self.inside in
    inr (answer_is _ _ c.args.versions.now c.args.tx.now.read c.args.tx.now.ops.now old.logs.items None None (Some (TooOld c.args.tx.now.read c.oldest_at-oldest.result)) _ c.self.view_is
    (own_fault old.profile.block old.profile.key old.profile.value c.args.tx.now.ops.now c.as_slice.result.now None old.profile.keys old.profile.values c.as_slice.ensures c.in_default.ensures)
    (sym c.self.invariant.lock_is ∙ c.in_default-lock.is)
    (age_old c.args.versions.now.now c.args.tx.now.read c.oldest_at-oldest.result c.oldest_at-oldest.ensures c.if-tx-oldest.true) refl refl)

pub returns-in-Some-first_conflict-clause-err : goal.returns-in-Some-first_conflict-clause-err
returns-in-Some-first_conflict-clause-err c =
    let old = c.self.inside in
    inr (answer_is _ _ c.args.versions.now c.args.tx.now.read c.args.tx.now.ops.now old.logs.items None None None (Some (NotCommitted c.in-Some-first_conflict.version)) c.self.view_is
    (own_fault old.profile.block old.profile.key old.profile.value c.args.tx.now.ops.now c.as_slice.result.now None old.profile.keys old.profile.values c.as_slice.ensures c.in_default.ensures)
    (sym c.self.invariant.lock_is ∙ c.in_default-lock.is)
    (age_young c.args.versions.now.now c.args.tx.now.read c.oldest_at-oldest.result c.oldest_at-oldest.ensures c.if-tx-oldest.false)
    (conflict_found (writes_of c.args.tx.now.ops.now) c.args.tx.now.ops.now c.args.tx.now.read old.history c.as_slice-2.result.now (Some c.in-Some-first_conflict.version) c.as_slice-2.ensures c.in-Some-first_conflict.ensures) refl)

pub returns-clause-ok : goal.returns-clause-ok
returns-clause-ok c =
    let old = c.self.inside in
    let answer = answer_is _ _ c.args.versions.now c.args.tx.now.read c.args.tx.now.ops.now c.deref.result.now None None None None c.self.view_is
    (own_fault old.profile.block old.profile.key old.profile.value c.args.tx.now.ops.now c.as_slice.result.now None old.profile.keys old.profile.values c.as_slice.ensures c.in_default.ensures)
    (sym c.self.invariant.lock_is ∙ c.in_default-lock.is)
    (age_young c.args.versions.now.now c.args.tx.now.read c.oldest_at-oldest.result c.oldest_at-oldest.ensures c.if-tx-oldest.false)
    (conflict_found (writes_of c.args.tx.now.ops.now) c.args.tx.now.ops.now c.args.tx.now.read old.history c.as_slice-2.result.now None c.as_slice-2.ensures c.in_default-first_conflict.ensures) c.deref.ensures.value in
    if_ok _ _ (λ version e. answer ∙ e) c.version_taken.result c.version_taken.ensures.ok

pub returns-clause-err : goal.returns-clause-err
returns-clause-err c =
    let old = c.self.inside in
    let answer = answer_is _ _ c.args.versions.now c.args.tx.now.read c.args.tx.now.ops.now c.deref.result.now None None None None c.self.view_is
    (own_fault old.profile.block old.profile.key old.profile.value c.args.tx.now.ops.now c.as_slice.result.now None old.profile.keys old.profile.values c.as_slice.ensures c.in_default.ensures)
    (sym c.self.invariant.lock_is ∙ c.in_default-lock.is)
    (age_young c.args.versions.now.now c.args.tx.now.read c.oldest_at-oldest.result c.oldest_at-oldest.ensures c.if-tx-oldest.false)
    (conflict_found (writes_of c.args.tx.now.ops.now) c.args.tx.now.ops.now c.args.tx.now.read old.history c.as_slice-2.result.now None c.as_slice-2.ensures c.in_default-first_conflict.ensures) c.deref.ensures.value in
    if_err _ _ (λ fault e. elim e [ inl starved ↦ inl starved | inr met ↦ inr (answer ∙ met) ]) c.version_taken.result c.version_taken.ensures.err

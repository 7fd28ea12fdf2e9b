use Rattle.std.proofs.Common.{◌≡◌, ℕ, ◌-◌, List, length, Some, None, ap, ◌∙◌, subst, arith}
use Rattle.std.specs.List.{slice_get}
use Rattle.std.proofs.lemmas.Bool.{ltb-true, lt-ltb, false≢true}
use Rattle.versioned_kv.specs.Applied.{Contents}
use Rattle.versioned_kv.proofs.Holding.{back_from, back_past, none_back}
use Rattle.versioned_kv.proofs.store.Store.can_retract.Goals as goal

pub returns-in-Some : goal.returns-in-Some
returns-in-Some c =
    let versions : c.deref.result.now ≡ c.args.self.now.versions = c.deref.ensures.value ∙ ap (λ (s : Contents). s.versions) c.self.view_is in
    let oldest : c.self.inside.oldest ≡ c.args.self.now.oldest = ap (λ (s : Contents). s.oldest) c.self.view_is in
    let newest : Some c.in-Some.newest.now ≡ slice_get c.args.self.now.versions (length c.args.self.now.versions - 1) = subst (λ (xs : List ℕ). Some c.in-Some.newest.now ≡ slice_get xs (length xs - 1)) versions c.in-Some.ensures.value in (
      λ t. let past = ltb-true c.self.inside.oldest c.in-Some.newest.now t in back_from c.args.self.now c.in-Some.newest.now newest (omega arith),
      λ r. let past = back_past c.args.self.now c.in-Some.newest.now newest r in lt-ltb c.self.inside.oldest c.in-Some.newest.now (omega arith),
    )

pub returns-in-None : goal.returns-in-None
returns-in-None c =
    let versions : c.deref.result.now ≡ c.args.self.now.versions = c.deref.ensures.value ∙ ap (λ (s : Contents). s.versions) c.self.view_is in
    let none : None ≡ slice_get c.args.self.now.versions (length c.args.self.now.versions - 1) = subst (λ (xs : List ℕ). None ≡ slice_get xs (length xs - 1)) versions c.in-None.ensures.value in
    (λ t. absurd (false≢true t), λ r. absurd (none_back c.args.self.now none r))

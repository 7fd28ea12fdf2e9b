use Rattle.std.proofs.Common.{◌≡◌, ℕ, ◌<◌, List, [], ◌∷◌, ◌++◌, sym, ap, ◌∙◌, subst, arith}
use Rattle.versioned_kv.specs.Chains.{Chain}
use Rattle.std.specs.List.{AllByRecursion}
use Rattle.fb_bytes.specs.Options.{IsIn}
use Rattle.versioned_kv.specs.Edits.{without}
use Rattle.versioned_kv.specs.inner.Sound.{AreVersions, AreOf}
use Rattle.versioned_kv.specs.inner.Queued.{Touch, IsWhole}
use Rattle.versioned_kv.specs.Applied.{Contents, Holds}
use Rattle.versioned_kv.proofs.Cuts.{upto_last}
use Rattle.versioned_kv.proofs.Holding.{snoc_same, holds_back}
use Rattle.versioned_kv.proofs.Whole.{newest_queue, newest_noted, whole_back}
use Rattle.versioned_kv.proofs.store.Store.retract.Goals as goal

pub cut-requires-clause-upto : goal.cut-requires-clause-upto
cut-requires-clause-upto c =
    let split = c.in-Some.ensures.items in
    upto_last c.in-Some.version c.pop.new.self.items c.self.inside.chains (subst AreVersions split c.self.invariant.sound.versions_rise) (subst (λ (versions : List ℕ). AreOf versions c.self.inside.chains) split c.self.invariant.sound.known)

pub cut-requires-clause-noted : goal.cut-requires-clause-noted
cut-requires-clause-noted c =
    let s = c.self.inside in
    let same = snoc_same c.pop.new.self.items c.requires.0 c.in-Some.version c.requires.1 (sym c.in-Some.ensures.items ∙ ap (λ (x : Contents). x.versions) c.self.view_is ∙ c.requires.2) in
    let newest : c.in-Some.version ≡ c.requires.1 = same.1 in
    let oldest : s.oldest ≡ c.args.self.now.oldest = ap (λ (x : Contents). x.oldest) c.self.view_is in
    let live : c.args.self.now.oldest < c.requires.1 = c.requires.3 in
    newest_noted c.in-Some.version s.oldest s.versions.items s.chains s.queue c.self.invariant (omega arith)

pub cut-requires-clause-newest : goal.cut-requires-clause-newest
cut-requires-clause-newest c =
    let split = c.in-Some.ensures.items in
    newest_queue c.in-Some.version c.pop.new.self.items c.self.inside.queue (subst AreVersions split c.self.invariant.sound.versions_rise) (subst (λ (versions : List ℕ). AllByRecursion (λ (t : Touch). IsIn t.version versions) c.self.inside.queue) split c.self.invariant.queued.of)

pub invariant_of-self : goal.invariant_of-self
invariant_of-self c =
    let s = c.self.inside in
    subst (λ (chains : List Chain). IsWhole c.pop.new.self.items s.oldest chains c.cut.new.queue) (sym c.cut.ensures.chains)
    (whole_back c.in-Some.version s.oldest c.pop.new.self.items s.chains s.queue c.cut.new.queue (subst (λ (versions : List ℕ). IsWhole versions s.oldest s.chains s.queue) c.in-Some.ensures.items c.self.invariant) c.cut.ensures.notes c.cut.ensures.older)

pub returns-in-Some-clause-holds : goal.returns-in-Some-clause-holds
returns-in-Some-clause-holds c = λ entries entry h.
    let s = c.self.inside in
    let rest = c.pop.new.self.items in
    let version = c.in-Some.version in
    let split = c.in-Some.ensures.items in
    let same = snoc_same rest c.requires.0 version c.requires.1 (sym split ∙ ap (λ (x : Contents). x.versions) c.self.view_is ∙ c.requires.2) in
    let newest : version ≡ c.requires.1 = same.1 in
    let oldest : s.oldest ≡ c.args.self.now.oldest = ap (λ (x : Contents). x.oldest) c.self.view_is in
    let live : c.args.self.now.oldest < c.requires.1 = c.requires.3 in
    let upto = upto_last version rest s.chains (subst AreVersions split c.self.invariant.sound.versions_rise) (subst (λ (versions : List ℕ). AreOf versions s.chains) split c.self.invariant.sound.known) in
    subst (λ (chains : List Chain). Holds (record { limit = s.limit; oldest = s.oldest; versions = rest; chains = chains }) entries) (sym c.cut.ensures.chains)
    (holds_back s.limit s.oldest s.versions.items rest version s.chains c.self.invariant.sound.in_order upto split (omega arith) entries entry (subst (λ (x : Contents). Holds x (entries ++ entry ∷ [])) (sym c.self.view_is) h))

pub returns-in-Some-clause-rows : goal.returns-in-Some-clause-rows
returns-in-Some-clause-rows c = λ versions version split.
    let same = snoc_same c.pop.new.self.items versions c.in-Some.version version (sym c.in-Some.ensures.items ∙ ap (λ (x : Contents). x.versions) c.self.view_is ∙ split) in
    c.cut.ensures.chains ∙ ap (λ (v : ℕ). without v c.self.inside.chains) same.1 ∙ ap (λ (x : Contents). without version x.chains) c.self.view_is

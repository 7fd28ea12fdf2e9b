use Rattle.std.proofs.Common.{List, sym, ap, ◌∙◌, subst}
use Rattle.mutations.specs.Effects.{range_of}
use Rattle.versioned_kv.specs.Chains.{Chain}
use Rattle.versioned_kv.specs.inner.Chunks.{joined}
use Rattle.versioned_kv.specs.inner.Edits.{all_cleared, IsClearedUpto}
use Rattle.versioned_kv.specs.inner.Queued.{AreNoted}
use Rattle.versioned_kv.proofs.Places.{on_ok}
use Rattle.versioned_kv.proofs.Everywhere.{part_extends, all_value}
use Rattle.versioned_kv.proofs.Touches.{clear_stays}
use Rattle.versioned_kv.proofs.keys.Keys.clear.Goals as goal

pub returns-clause-extends : goal.returns-clause-extends
returns-clause-extends g c =
    let range = range_of c.args.begin.now c.args.end.now in
    part_extends range c.args.version c.args.self.now (joined c.clear.new.chunks.items) c.requires.chains c.requires.upto (subst (λ (x : List Chain). IsClearedUpto range c.args.version x (joined c.clear.new.chunks.items)) c.self.view_is c.clear.ensures.part)

pub returns-clause-ok : goal.returns-clause-ok
returns-clause-ok g c =
    let range = range_of c.args.begin.now c.args.end.now in
    on_ok c.clear.result
    (λ e key. all_value range c.args.version c.args.self.now (joined c.clear.new.chunks.items) key c.requires.chains (e ∙ ap (all_cleared range c.args.version) c.self.view_is))
    c.clear.ensures.ok

pub returns-clause-others : goal.returns-clause-others
returns-clause-others g c =
    let range = range_of c.args.begin.now c.args.end.now in
    clear_stays range c.args.version c.args.self.now (joined c.clear.new.chunks.items) (subst (λ (x : List Chain). IsClearedUpto range c.args.version x (joined c.clear.new.chunks.items)) c.self.view_is c.clear.ensures.part)

pub returns-clause-noted : goal.returns-clause-noted
returns-clause-noted g c = λ h. c.clear.ensures.noted (subst (λ (x : List Chain). AreNoted c.args.version x c.args.queue.now) (sym c.self.view_is) h)

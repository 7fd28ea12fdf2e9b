use Rattle.std.proofs.Common.{◌≡◌, suc, ◌+◌, sym, ◌∙◌, subst, arith}
use Rattle.mutations.specs.Effects.{range_of}
use Rattle.versioned_kv.specs.inner.Chains.{AreChains}
use Rattle.versioned_kv.specs.inner.Edits.{AreUpto, cleared_upto}
use Rattle.versioned_kv.proofs.Clears.{clears_none, clear_within, clear_step, clear_extends}
use Rattle.versioned_kv.proofs.Everywhere.{range_done}
use Rattle.versioned_kv.proofs.Queues.{notes_none, notes_more}
use Rattle.versioned_kv.proofs.table.edits.Table+Chain.clear.Goals as goal

pub loop-place-init : goal.loop-place-init
loop-place-init g c = record {
  cleared = let e = c.place_of-first.ensures.place in sym (clears_none (range_of c.args.begin.now c.args.end.now) c.args.version c.place_of-first.result c.args.self.now (omega arith));
  notes = notes_none c.args.version c.args.queue.now;
  noted = λ h. h;
}

pub clear_at-requires-clause-place : goal.clear_at-requires-clause-place
clear_at-requires-clause-place g c = let e = c.place_of-last.ensures.place in clear_within (range_of c.args.begin.now c.args.end.now) c.args.version c.loop-place.place c.args.self.now c.loop-place.self (omega arith) c.loop-place.invariant.cleared

pub clear_at-requires-clause-chains : goal.clear_at-requires-clause-chains
clear_at-requires-clause-chains g c = subst AreChains (sym c.loop-place.invariant.cleared) (clear_extends (range_of c.args.begin.now c.args.end.now) c.args.version c.loop-place.place c.args.self.now c.requires.chains c.requires.upto).chains

pub clear_at-requires-clause-upto : goal.clear_at-requires-clause-upto
clear_at-requires-clause-upto g c = subst (AreUpto c.args.version) (sym c.loop-place.invariant.cleared) (clear_extends (range_of c.args.begin.now c.args.end.now) c.args.version c.loop-place.place c.args.self.now c.requires.chains c.requires.upto).upto

pub returns-in_err-clear_at-clause-part : goal.returns-in_err-clear_at-clause-part
returns-in_err-clear_at-clause-part g c = record { place = c.loop-place.place; cleared = c.in_err-clear_at.ensures.err ∙ c.loop-place.invariant.cleared }

pub returns-in_err-clear_at-clause-notes : goal.returns-in_err-clear_at-clause-notes
returns-in_err-clear_at-clause-notes g c = notes_more c.args.version c.args.queue.now c.loop-place.queue c.clear_at.new.queue c.loop-place.invariant.notes c.clear_at.ensures.notes

pub returns-in_err-clear_at-clause-noted : goal.returns-in_err-clear_at-clause-noted
returns-in_err-clear_at-clause-noted g c = λ h. c.clear_at.ensures.noted (c.loop-place.invariant.noted h)

pub loop-place-preserved : goal.loop-place-preserved
loop-place-preserved g c =
    let range = range_of c.args.begin.now c.args.end.now in
    let first = c.place_of-first.ensures.place in
    let last = c.place_of-last.ensures.place in
    let next : suc c.loop-place.place ≡ c.loop-place.place + 1 = omega arith in
    record {
      cleared = subst (λ place. c.clear_at.new.self ≡ cleared_upto place range c.args.version c.args.self.now) next (clear_step range c.args.version c.loop-place.place c.args.self.now c.loop-place.self c.clear_at.new.self c.requires.chains (omega arith) (omega arith) c.loop-place.invariant.cleared c.in_ok-clear_at.ensures.ok);
      notes = notes_more c.args.version c.args.queue.now c.loop-place.queue c.clear_at.new.queue c.loop-place.invariant.notes c.clear_at.ensures.notes;
      noted = λ h. c.clear_at.ensures.noted (c.loop-place.invariant.noted h);
    }

pub returns-clause-part : goal.returns-clause-part
returns-clause-part g c = record { place = c.loop-place.place; cleared = c.loop-place.invariant.cleared }

pub returns-clause-ok : goal.returns-clause-ok
returns-clause-ok g c = let last = c.place_of-last.ensures.place in c.loop-place.invariant.cleared ∙ range_done (range_of c.args.begin.now c.args.end.now) c.args.version c.loop-place.place c.args.self.now c.requires.chains (omega arith)

pub returns-clause-notes : goal.returns-clause-notes
returns-clause-notes g c = c.loop-place.invariant.notes

pub returns-clause-noted : goal.returns-clause-noted
returns-clause-noted g c = c.loop-place.invariant.noted

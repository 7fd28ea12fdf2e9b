use Rattle.std.proofs.Common.{◌≡◌, None, map, subst, sym, ap, ◌∙◌}
use Rattle.task_bucket.specs.inner.Held.{AreCounted, free_count, lists_in, picked_place, asleep}
use Rattle.task_bucket.proofs.Claiming.{gone_back, asleep_woken, none_woken, none_left, place_picked, claims, claims_none}
use Rattle.task_bucket.proofs.changes.claim_due.Goals as goal
use Rattle.task_bucket.proofs.changes.claim_due.Goals.{In_default}

idle : (c : In_default) → free_count c.args.held.now ≡ 0
idle c = sym c.requires.kept.counted ∙ c.requires.none

none : (c : In_default) → None ≡ picked_place c.args.pick c.wake-woken.new.held
none c = sym c.in_default.is ∙ c.wake-woken.ensures.place

-- nothing was due
same : (c : In_default) → c.wake-woken.new.held ≡ c.args.held.now
same c = c.wake-woken.ensures.woken ∙ none_woken c.args.now c.args.held.now (idle c) (ap free_count (sym c.wake-woken.ensures.woken) ∙ none_left c.args.pick c.wake-woken.new.held (none c))

pub returns-in_default-clause-kept : goal.returns-in_default-clause-kept
returns-in_default-clause-kept c = subst (AreCounted c.args.free.now) (sym (same c)) c.requires.kept

pub returns-in_default-clause-answer : goal.returns-in_default-clause-answer
returns-in_default-clause-answer c =
    let back = gone_back c.args.now c.args.held.now c.wake-woken.new.held c.requires.kept.rising (idle c) c.wake-woken.ensures.woken in
    (claims_none c.args.now c.args.lease c.args.pick c.args.held.now c.wake-woken.new.held back (none c)).answer

pub returns-in_default-clause-ok : goal.returns-in_default-clause-ok
returns-in_default-clause-ok c =
    let back = gone_back c.args.now c.args.held.now c.wake-woken.new.held c.requires.kept.rising (idle c) c.wake-woken.ensures.woken in
    ap lists_in (same c) ∙ (claims_none c.args.now c.args.lease c.args.pick c.args.held.now c.wake-woken.new.held back (none c)).lists

pub lease_out-requires-clause-rising : goal.lease_out-requires-clause-rising
lease_out-requires-clause-rising c = (gone_back c.args.now c.args.held.now c.wake-woken.new.held c.requires.kept.rising (sym c.requires.kept.counted ∙ c.requires.none) c.wake-woken.ensures.woken).rising

pub lease_out-requires-clause-free : goal.lease_out-requires-clause-free
lease_out-requires-clause-free c =
    let back = gone_back c.args.now c.args.held.now c.wake-woken.new.held c.requires.kept.rising (sym c.requires.kept.counted ∙ c.requires.none) c.wake-woken.ensures.woken in
    (place_picked c.args.pick c.wake-woken.new.held c.in-Some.place back.rising (sym c.in-Some.is ∙ c.wake-woken.ensures.place)).some

pub returns-in-Err-clause-kept : goal.returns-in-Err-clause-kept
returns-in-Err-clause-kept c =
    let same = c.lease_again.ensures ∙ ap (map asleep) (c.in-Err.ensures.err ∙ c.wake-woken.ensures.woken) ∙ asleep_woken c.args.now c.args.held.now (sym c.requires.kept.counted ∙ c.requires.none) in
    subst (AreCounted c.args.free.now) (sym same) c.requires.kept

pub returns-in-Err-clause-err : goal.returns-in-Err-clause-err
returns-in-Err-clause-err c =
    c.lease_again.ensures ∙ ap (map asleep) (c.in-Err.ensures.err ∙ c.wake-woken.ensures.woken) ∙ asleep_woken c.args.now c.args.held.now (sym c.requires.kept.counted ∙ c.requires.none)

pub returns-clause-answer : goal.returns-clause-answer
returns-clause-answer c =
    let back = gone_back c.args.now c.args.held.now c.wake-woken.new.held c.requires.kept.rising (sym c.requires.kept.counted ∙ c.requires.none) c.wake-woken.ensures.woken in
    let one = place_picked c.args.pick c.wake-woken.new.held c.in-Some.place back.rising (sym c.in-Some.is ∙ c.wake-woken.ensures.place) in
    (claims c.args.now c.args.lease c.args.pick c.args.held.now c.wake-woken.new.held c.lease_out.new.held c.in-Some.place c.in-Ok.lease back one c.in-Ok.ensures.lease c.in-Ok.ensures.ok).answer

pub returns-clause-ok : goal.returns-clause-ok
returns-clause-ok c =
    let back = gone_back c.args.now c.args.held.now c.wake-woken.new.held c.requires.kept.rising (sym c.requires.kept.counted ∙ c.requires.none) c.wake-woken.ensures.woken in
    let one = place_picked c.args.pick c.wake-woken.new.held c.in-Some.place back.rising (sym c.in-Some.is ∙ c.wake-woken.ensures.place) in
    (claims c.args.now c.args.lease c.args.pick c.args.held.now c.wake-woken.new.held c.lease_out.new.held c.in-Some.place c.in-Ok.lease back one c.in-Ok.ensures.lease c.in-Ok.ensures.ok).lists

use Rattle.std.proofs.Common.{arith}
use Rattle.task_bucket.proofs.Claiming.{GoneBack, gone_none, place_picked, claims, claims_none}
use Rattle.task_bucket.proofs.changes.claim_free.Goals as goal

pub returns-in_default-clause-answer : goal.returns-in_default-clause-answer
returns-in_default-clause-answer c =
    let back : GoneBack c.args.now c.args.held.now c.args.held.now = gone_none c.args.now c.args.held.now c.requires.kept.rising (omega (arith, c.requires.any, c.requires.kept.counted)) in
    (claims_none c.args.now c.args.lease c.args.pick c.args.held.now c.args.held.now back c.in_default.ensures).answer

pub returns-in_default-clause-ok : goal.returns-in_default-clause-ok
returns-in_default-clause-ok c =
    let back : GoneBack c.args.now c.args.held.now c.args.held.now = gone_none c.args.now c.args.held.now c.requires.kept.rising (omega (arith, c.requires.any, c.requires.kept.counted)) in
    (claims_none c.args.now c.args.lease c.args.pick c.args.held.now c.args.held.now back c.in_default.ensures).lists

pub lease_out-requires-clause-free : goal.lease_out-requires-clause-free
lease_out-requires-clause-free c = (place_picked c.args.pick c.args.held.now c.in-Some.place c.requires.kept.rising c.in-Some.ensures).some

pub returns-clause-answer : goal.returns-clause-answer
returns-clause-answer c =
    let back : GoneBack c.args.now c.args.held.now c.args.held.now = gone_none c.args.now c.args.held.now c.requires.kept.rising (omega (arith, c.requires.any, c.requires.kept.counted)) in
    let one = place_picked c.args.pick c.args.held.now c.in-Some.place c.requires.kept.rising c.in-Some.ensures in
    (claims c.args.now c.args.lease c.args.pick c.args.held.now c.args.held.now c.lease_out.new.held c.in-Some.place c.in_ok-lease.lease back one c.in_ok-lease.ensures.lease c.in_ok-lease.ensures.ok).answer

pub returns-clause-ok : goal.returns-clause-ok
returns-clause-ok c =
    let back : GoneBack c.args.now c.args.held.now c.args.held.now = gone_none c.args.now c.args.held.now c.requires.kept.rising (omega (arith, c.requires.any, c.requires.kept.counted)) in
    let one = place_picked c.args.pick c.args.held.now c.in-Some.place c.requires.kept.rising c.in-Some.ensures in
    (claims c.args.now c.args.lease c.args.pick c.args.held.now c.args.held.now c.lease_out.new.held c.in-Some.place c.in_ok-lease.lease back one c.in_ok-lease.ensures.lease c.in_ok-lease.ensures.ok).lists

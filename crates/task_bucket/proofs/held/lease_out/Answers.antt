use Rattle.std.proofs.Common.{◌<◌, length, rules}
use Rattle.task_bucket.proofs.Claiming.{there, leases_out}
use Rattle.task_bucket.proofs.held.lease_out.Goals as goal

pub bounds-held-place : goal.bounds-held-place
bounds-held-place c = there c.args.held.now c.args.place c.requires.free

pub offset_bounds-held-place : goal.offset_bounds-held-place
offset_bounds-held-place c = let within : c.args.place < length c.args.held.now = there c.args.held.now c.args.place c.requires.free in search rules

pub returns-clause-rising : goal.returns-clause-rising
returns-clause-rising c = (leases_out c.args.until c.args.held.now c.args.place c.lease_out.new.self _ c.lease_out.result c.requires.rising c.requires.free c.lease_out.ensures.lease c.lease_out.ensures.ok c.lease_out.ensures.err).rising

pub returns-clause-lease : goal.returns-clause-lease
returns-clause-lease c = (leases_out c.args.until c.args.held.now c.args.place c.lease_out.new.self _ c.lease_out.result c.requires.rising c.requires.free c.lease_out.ensures.lease c.lease_out.ensures.ok c.lease_out.ensures.err).lease

pub returns-clause-ok : goal.returns-clause-ok
returns-clause-ok c = (leases_out c.args.until c.args.held.now c.args.place c.lease_out.new.self _ c.lease_out.result c.requires.rising c.requires.free c.lease_out.ensures.lease c.lease_out.ensures.ok c.lease_out.ensures.err).lists

pub returns-clause-count : goal.returns-clause-count
returns-clause-count c = (leases_out c.args.until c.args.held.now c.args.place c.lease_out.new.self _ c.lease_out.result c.requires.rising c.requires.free c.lease_out.ensures.lease c.lease_out.ensures.ok c.lease_out.ensures.err).count

use Rattle.std.proofs.Common.{sym, arith}
use Rattle.task_bucket.proofs.Finding.{first_there, first_other, first_none}
use Rattle.task_bucket.proofs.held.find.Goals as goal

pub returns-then-place-held : goal.returns-then-place-held
returns-then-place-held c = sym (first_none c.args.until c.args.uid c.args.held.now (omega (arith, c.if-place-held.true, c.place_of-place.ensures)))

pub returns-then-is_lease : goal.returns-then-is_lease
returns-then-is_lease c = sym (first_there c.args.until c.args.uid c.args.held.now c.place_of-place.result _ c.requires c.place_of-place.ensures c.if-place-held.false c.index-held-place.is (sym c.if-is_lease.ensures))

pub returns-else-is_lease : goal.returns-else-is_lease
returns-else-is_lease c = sym (first_other c.args.until c.args.uid c.args.held.now c.place_of-place.result _ c.requires c.place_of-place.ensures c.if-place-held.false c.index-held-place.is (sym c.if-is_lease.ensures))

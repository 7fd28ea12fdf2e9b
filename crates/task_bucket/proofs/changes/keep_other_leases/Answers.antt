use Rattle.std.proofs.Common.{◌<◌, Bool, length, sym, subst, ap, ◌∙◌, arith}
use Rattle.task_bucket.specs.declared.held.Held.{Held}
use Rattle.task_bucket.specs.inner.Held.{AreRising, held_is, lesser_count}
use Rattle.task_bucket.proofs.Finding.{lease_of_uid, out_none, out_there, out_other}
use Rattle.task_bucket.proofs.changes.keep_other_leases.Goals as goal

pub place_of-place-requires : goal.place_of-place-requires
place_of-place-requires c = subst AreRising (sym c.deref.ensures.value) c.requires

pub returns-then-place-len : goal.returns-then-place-len
returns-then-place-len c =
    let test : Held → Bool = held_is c.args.until c.args.uid in
    let place = c.place_of-place.ensures ∙ ap (lesser_count c.args.uid) c.deref.ensures.value in
    out_none c.args.uid test (lease_of_uid c.args.until c.args.uid) c.args.held.now.items (omega (arith, place, c.if-place-len.true, c.len.ensures, c.args.held.now.ok.0))

pub returns-then-is_lease : goal.returns-then-is_lease
returns-then-is_lease c =
    let test : Held → Bool = held_is c.args.until c.args.uid in
    let place = c.place_of-place.ensures ∙ ap (lesser_count c.args.uid) c.deref.ensures.value in
    let within : c.place_of-place.result < length c.args.held.now.items = omega (arith, c.if-place-len.false, c.len.ensures, c.args.held.now.ok.0) in
    c.take_out.ensures.items ∙ out_there c.args.uid test (lease_of_uid c.args.until c.args.uid) c.args.held.now.items c.place_of-place.result c.index.result.now c.requires place within (ap test (sym c.index.ensures) ∙ sym c.if-is_lease.ensures)

pub returns-else-is_lease : goal.returns-else-is_lease
returns-else-is_lease c =
    let test : Held → Bool = held_is c.args.until c.args.uid in
    let place = c.place_of-place.ensures ∙ ap (lesser_count c.args.uid) c.deref.ensures.value in
    let within : c.place_of-place.result < length c.args.held.now.items = omega (arith, c.if-place-len.false, c.len.ensures, c.args.held.now.ok.0) in
    out_other c.args.uid test (lease_of_uid c.args.until c.args.uid) c.args.held.now.items c.place_of-place.result c.index.result.now c.requires place within (ap test (sym c.index.ensures) ∙ sym c.if-is_lease.ensures)

use Rattle.std.proofs.Common.{◌<◌, Bool, eqb, length, sym, subst, ap, ◌∙◌, arith}
use Rattle.std.proofs.lemmas.Bool.{eq-eqb, ne_eqb}
use Rattle.task_bucket.specs.declared.held.Held.{Held}
use Rattle.task_bucket.specs.inner.Held.{AreRising, lesser_count}
use Rattle.task_bucket.proofs.Finding.{uid_of_uid, out_none, out_there, out_other}
use Rattle.task_bucket.proofs.changes.keep_other_uids.Goals as goal

pub place_of-place-requires : goal.place_of-place-requires
place_of-place-requires c = subst AreRising (sym c.deref.ensures.value) c.requires

pub returns-then-place-len-clause-items : goal.returns-then-place-len-clause-items
returns-then-place-len-clause-items c =
    let test : Held → Bool = λ h. eqb h.uid c.args.uid in
    let place = c.place_of-place.ensures ∙ ap (lesser_count c.args.uid) c.deref.ensures.value in
    out_none c.args.uid test (uid_of_uid c.args.uid) c.args.held.now.items (omega (arith, place, c.if-place-len.true, c.len.ensures, c.args.held.now.ok.0))

pub returns-then-index-uid-clause-items : goal.returns-then-index-uid-clause-items
returns-then-index-uid-clause-items c =
    let test : Held → Bool = λ h. eqb h.uid c.args.uid in
    let place = c.place_of-place.ensures ∙ ap (lesser_count c.args.uid) c.deref.ensures.value in
    let within : c.place_of-place.result < length c.args.held.now.items = omega (arith, c.if-place-len.false, c.len.ensures, c.args.held.now.ok.0) in
    c.take_out.ensures.items ∙ out_there c.args.uid test (uid_of_uid c.args.uid) c.args.held.now.items c.place_of-place.result c.index.result.now c.requires place within (ap test (sym c.index.ensures) ∙ eq-eqb c.index.result.now.uid c.args.uid c.if-index-uid.true)

pub returns-clause-items : goal.returns-clause-items
returns-clause-items c =
    let test : Held → Bool = λ h. eqb h.uid c.args.uid in
    let place = c.place_of-place.ensures ∙ ap (lesser_count c.args.uid) c.deref.ensures.value in
    let within : c.place_of-place.result < length c.args.held.now.items = omega (arith, c.if-place-len.false, c.len.ensures, c.args.held.now.ok.0) in
    out_other c.args.uid test (uid_of_uid c.args.uid) c.args.held.now.items c.place_of-place.result c.index.result.now c.requires place within (ap test (sym c.index.ensures) ∙ ne_eqb c.index.result.now.uid c.args.uid c.if-index-uid.false)

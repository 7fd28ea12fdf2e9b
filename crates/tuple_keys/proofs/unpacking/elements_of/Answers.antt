use Rattle.std.proofs.Common.{◌≡◌, arith, sym, refl, length, true, false, eqb}
use Rattle.std.proofs.lemmas.Bool.{eqb-true}
use Rattle.std.proofs.lemmas.List.{nil_from_length}
use Rattle.std.proofs.lemmas.Result.{err_from_is_err_and}
use Rattle.tuple_keys.specs.Reading.{reading}
use Rattle.tuple_keys.proofs.Loops.{reads_first, reads_on, reads_fail, reads_all}
use Rattle.tuple_keys.proofs.unpacking.elements_of.Goals as goal

pub loop-rest-init : goal.loop-rest-init
loop-rest-init c = rw c.new-tuple.ensures (reads_first c.args.bytes.now (λ i. omega (arith, c.type_inv.bytes i)))

pub overflow_sub-at : goal.overflow_sub-at
overflow_sub-at c = c.loop-rest.invariant.within

pub push-requires : goal.push-requires
push-requires c = (reads_on (length c.args.bytes.now) _ c.loop-rest.tuple c.loop-rest.rest.now c.in_ok-element.element c.in_ok-element.behind.now (reading c.args.bytes.now) refl c.in_ok-element.ensures c.loop-rest.invariant).small

pub loop-rest-smaller : goal.loop-rest-smaller
loop-rest-smaller c = (reads_on (length c.args.bytes.now) _ c.loop-rest.tuple c.loop-rest.rest.now c.in_ok-element.element c.in_ok-element.behind.now (reading c.args.bytes.now) refl c.in_ok-element.ensures c.loop-rest.invariant).shorter

pub loop-rest-preserved : goal.loop-rest-preserved
loop-rest-preserved c = rw c.in_ok-push.ensures.ok (reads_on (length c.args.bytes.now) _ c.loop-rest.tuple c.loop-rest.rest.now c.in_ok-element.element c.in_ok-element.behind.now (reading c.args.bytes.now) refl c.in_ok-element.ensures c.loop-rest.invariant).reads

pub returns-in_err-element : goal.returns-in_err-element
returns-in_err-element c =
    let p = err_from_is_err_and c.from_residual.result c.from_residual.ensures.1 in
    rw (p.1, p.2) (reads_fail (length c.args.bytes.now) _ c.loop-rest.tuple c.loop-rest.rest.now c.in_err-element.field-0.0 (reading c.args.bytes.now) (λ e. let t : false ≡ eqb (length c.loop-rest.rest.now) 0 = c.loop-rest-test.ensures in absurd (let u : eqb (length c.loop-rest.rest.now) 0 ≡ true = rw e refl in cc)) refl c.in_err-element.ensures c.loop-rest.invariant)

pub returns : goal.returns
returns c = reads_all (length c.args.bytes.now) c.loop-rest.tuple c.loop-rest.rest.now (reading c.args.bytes.now) (nil_from_length c.loop-rest.rest.now (eqb-true _ _ (sym c.loop-rest-test.ensures))) c.loop-rest.invariant

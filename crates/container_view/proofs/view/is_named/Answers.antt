use Rattle.std.proofs.Common.{◌≡◌, ◌∙◌, ◌||◌, Bool, ap, sym}
use Rattle.fb_bytes.specs.Bytes.{Bytes, is_same}
use Rattle.container_view.specs.Names.{is_named}
use Rattle.container_view.proofs.Stripped.{named_more, named_here}
use Rattle.container_view.proofs.view.is_named.Goals as goal

-- the test of two texts by their bytes
tested : (listed name x y : Bytes) (r b : Bool) → r ≡ is_same x y → x ≡ listed → y ≡ name → r ≡ b → is_same listed name ≡ b
tested listed name x y r b e p q h = sym (e ∙ (λ i. is_same (p i) (q i))) ∙ h

pub returns-then-is_same : goal.returns-then-is_same
returns-then-is_same c =
    sym (ap (λ xs. is_named xs c.args.name.now) (sym c.as_slice-listed-items.ensures)
    ∙ named_here c.as_slice-listed-items.result.now c.names.listed-index c.listed-item.result c.args.name.now c.names-test.true c.listed-item.is (tested _ _ _ _ c.is_same.result _ c.is_same.ensures c.as_bytes.ensures c.as_bytes-in-names.ensures.value c.if-is_same.true))

pub names-preserved : goal.names-preserved
names-preserved c =
    named_more c.as_slice-listed-items.result.now c.names.listed-index c.listed-item.result c.args.name.now c.names-test.true c.listed-item.is
    ∙ (λ i. c.names.invariant i || tested _ _ _ _ c.is_same.result _ c.is_same.ensures c.as_bytes.ensures c.as_bytes-in-names.ensures.value c.if-is_same.false i)

use Rattle.std.proofs.Common.{◌∙◌, ap, sym, inr, None, Some}
use Rattle.container_view.specs.Property.{property_in}
use Rattle.container_view.specs.declared.view.ViewFault.TheVariants as faults
use Rattle.container_view.specs.declared.view.FileFault.TheVariants as file_faults
use Rattle.container_view.proofs.Stripped.{unlisted, property_got, property_read}
use Rattle.container_view.proofs.view.get_property.Goals as goal

pub returns-then-not-is_named-clause-found : goal.returns-then-not-is_named-clause-found
returns-then-not-is_named-clause-found g c files told e =
    ap property_in (unlisted c.args.container.now c.args.property.now c.args.names.now files e (sym c.is_named.ensures ∙ c.if-not-is_named.true))

pub returns-in_default-clause-found : goal.returns-in_default-clause-found
returns-in_default-clause-found g c files told e =
    property_got c.args.container.now c.args.property.now c.in_ok-whole.whole files c.in_ok-bytes.field-0 c.in_ok-whole.ensures (c.in_ok-bytes.ensures.bytes files told)
    ∙ ap property_in c.in_default.is

pub returns-in_default-read_property-clause-damaged : goal.returns-in_default-read_property-clause-damaged
returns-in_default-read_property-clause-damaged g c =
    inr (inr (
      ap (λ name. faults.Damaged name file_faults.Property) c.in_ok-name.ensures,
      λ files told e.
          property_got c.args.container.now c.args.property.now c.in_ok-whole.whole files c.in_ok-bytes.field-0 c.in_ok-whole.ensures (c.in_ok-bytes.ensures.bytes files told)
          ∙ property_read c.in_ok-bytes.field-0 c.in-Some.bytes c.as_slice.result.now c.read_property.result None c.in-Some.is c.as_slice.ensures.same c.read_property.ensures c.in_default-read_property.is,
    ))

pub returns-clause-found : goal.returns-clause-found
returns-clause-found g c files told e =
    property_got c.args.container.now c.args.property.now c.in_ok-whole.whole files c.in_ok-bytes.field-0 c.in_ok-whole.ensures (c.in_ok-bytes.ensures.bytes files told)
    ∙ property_read c.in_ok-bytes.field-0 c.in-Some.bytes c.as_slice.result.now c.read_property.result (Some c.in-Some-read_property.number) c.in-Some.is c.as_slice.ensures.same c.read_property.ensures c.in-Some-read_property.is

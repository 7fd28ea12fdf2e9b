use Rattle.std.proofs.Common.{Some, ap, inr}
use Rattle.serde_json.specs.View.{view}
use Rattle.manifests.specs.declared.fault.ManifestFault.TheVariants.{Json}
use Rattle.manifests.specs.Reading.{found_or}
use Rattle.manifests.proofs.Manifests.{no_text, value_again}
use Rattle.manifests.proofs.reading.value_of.Goals as goal

pub returns-in_default-clause-err : goal.returns-in_default-clause-err
returns-in_default-clause-err c = inr (ap (found_or Json) (no_text c.args.bytes.now c.in_default.ensures.cases.0))

pub returns-in-Ok-from_str-clause-ok : goal.returns-in-Ok-from_str-clause-ok
returns-in-Ok-from_str-clause-ok c = value_again c.args.bytes.now c.in-Ok.text.now (Some (view c.in-Ok-from_str.value)) c.in-Ok.ensures.cases.1 c.in-Ok.ensures.cases.0 c.in-Ok-from_str.ensures.ok

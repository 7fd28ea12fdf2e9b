use Rattle.serde_json.specs.View.{view}
use Rattle.manifests.proofs.Manifests.{fields_made}
use Rattle.manifests.proofs.reading.fields_of.Goals as goal

pub returns-clause-ok : goal.returns-clause-ok
returns-clause-ok c = fields_made (view c.args.value.now) c.in_ok-begin.begin c.in_ok-end.end c.in_ok-files.files _ c.in_ok-bytes.bytes c.in_ok-begin.ensures c.in_ok-end.ensures c.in_ok-files.ensures.ok c.in_ok-format_or.ensures c.in_ok-bytes.ensures

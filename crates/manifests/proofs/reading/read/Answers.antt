use Rattle.std.proofs.lemmas.Result.{IfOk-weaker}
use Rattle.manifests.specs.Grammar.{ManifestText}
use Rattle.manifests.proofs.Manifests.{read_found, only_this}
use Rattle.manifests.proofs.reading.read.Goals as goal

pub returns-clause-found : goal.returns-clause-found
returns-clause-found c = IfOk-weaker c.read_checked.result _ (λ manifest. ManifestText c.args.name.now c.args.bytes.now manifest) (λ manifest e. read_found c.args.name.now c.args.bytes.now manifest e) c.read_checked.ensures.ok

pub returns-clause-only : goal.returns-clause-only
returns-clause-only c = λ m t. only_this c.args.name.now c.args.bytes.now m c.read_checked.result t c.read_checked.ensures.ok c.read_checked.ensures.err

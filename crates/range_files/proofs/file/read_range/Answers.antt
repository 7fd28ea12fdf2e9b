use Rattle.std.proofs.Common.{arith}
use Rattle.std.proofs.lemmas.Result.{IfOk-weaker}
use Rattle.range_files.specs.Grammar.{RangeFile}
use Rattle.range_files.proofs.Files.{read_found, only_this}
use Rattle.range_files.proofs.file.read_range.Goals as goal

pub returns-clause-found : goal.returns-clause-found
returns-clause-found c = IfOk-weaker c.read.result _ (λ body. RangeFile c.args.block c.args.bytes.now body.begin body.end body.pairs) (λ body e. read_found c.args.block c.args.bytes.now body (λ i. omega (arith, c.type_inv.bytes i)) e) c.read.ensures.ok

pub returns-clause-only : goal.returns-clause-only
returns-clause-only c = λ begin end pairs f. only_this c.args.block c.args.bytes.now begin end pairs c.read.result f c.read.ensures.ok c.read.ensures.err

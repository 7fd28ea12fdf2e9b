use Rattle.std.proofs.Common.{arith}
use Rattle.std.proofs.lemmas.Result.{IfOk-weaker}
use Rattle.range_files.specs.Grammar.{IsBlockAt}
use Rattle.range_files.proofs.Blocks.{block_found}
use Rattle.range_files.proofs.Files.{only_block}
use Rattle.range_files.proofs.block.read_block.Goals as goal

pub returns-clause-found : goal.returns-clause-found
returns-clause-found c = IfOk-weaker c.read.result _ (λ block. IsBlockAt c.args.header c.args.base c.args.bytes.now block.begin block.pairs block.end) (λ block e. block_found c.args.header c.args.base c.args.bytes.now block (λ i. omega (arith, c.type_inv.bytes i)) e) c.read.ensures.ok

pub returns-clause-only : goal.returns-clause-only
returns-clause-only c = λ begin pairs end at. only_block c.args.header c.args.base c.args.bytes.now begin pairs end c.read.result (omega arith) at c.read.ensures.ok c.read.ensures.err

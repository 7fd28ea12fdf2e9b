use Rattle.workload_text.proofs.Only.{found_so, only_so}
use Rattle.workload_text.proofs.reading.read_workload.Goals as goal

pub returns-clause-found : goal.returns-clause-found
returns-clause-found c = found_so c.args.run c.args.bytes.now c.read.result c.read.ensures.built

pub returns-clause-only : goal.returns-clause-only
returns-clause-only c = only_so c.args.run c.args.bytes.now c.read.result c.read.ensures.built

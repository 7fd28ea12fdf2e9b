use Rattle.task_kinds.proofs.Taken.{is_found, is_only}
use Rattle.task_kinds.proofs.tuples.from_tuple.Goals as goal

pub returns-clause-found : goal.returns-clause-found
returns-clause-found c = is_found c.args.tuple.now c.task_in.result c.task_in.ensures.ok

pub returns-clause-only : goal.returns-clause-only
returns-clause-only c = λ task is same. is_only c.args.tuple.now c.task_in.result task c.task_in.ensures.ok c.task_in.ensures.err is same

use Rattle.std.proofs.Common.{None, ap, ◌∙◌, arith}
use Rattle.task_bucket.specs.Lists.{has_uid, without_uid}
use Rattle.backup_core.proofs.Adds.{added_there, added_out}
use Rattle.backup_core.proofs.closing.add_dispatches.Goals as goal

pub take_back-requires : goal.take_back-requires
take_back-requires g c = ap (has_uid c.args.next_uid.now) (c.in-Err.ensures.refused.0 ∙ c.in_ok-add.ensures.lists) ∙ added_there c.args.next_uid.now None c.plain_task.result (g.B.Bucket.lists c.args.bucket.now)

pub returns-in-Err-clause-refused : goal.returns-in-Err-clause-refused
returns-in-Err-clause-refused g c = (
  c.take_back.ensures.lists ∙ ap (without_uid c.args.next_uid.now) (c.in-Err.ensures.refused.0 ∙ c.in_ok-add.ensures.lists) ∙ added_out c.args.next_uid.now None c.plain_task.result (g.B.Bucket.lists c.args.bucket.now) (c.requires.fresh c.args.next_uid.now (omega arith)),
  c.take_back.ensures.next,
)

use Rattle.std.proofs.Common.{None, ap, ◌∙◌, arith}
use Rattle.task_bucket.specs.Lists.{has_uid, without_uid}
use Rattle.backup_core.proofs.Adds.{added_there, added_out}
use Rattle.backup_core.proofs.backup.BackupJob.note_and_add.Goals as goal

pub take_back-requires : goal.take_back-requires
take_back-requires g c = ap (has_uid c.args.next_uid.now) c.in_ok-add.ensures.lists ∙ added_there c.args.next_uid.now None c.args.task (g.B.Bucket.lists c.args.bucket.now)

pub returns-in-Err-clause-refused : goal.returns-in-Err-clause-refused
returns-in-Err-clause-refused g c = (
  c.in-Err.ensures.err,
  c.take_back.ensures.lists ∙ ap (without_uid c.args.next_uid.now) c.in_ok-add.ensures.lists ∙ added_out c.args.next_uid.now None c.args.task (g.B.Bucket.lists c.args.bucket.now) (c.requires.fresh c.args.next_uid.now (omega arith)),
  c.take_back.ensures.next,
)

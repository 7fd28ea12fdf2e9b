use Rattle.std.proofs.Common.{◌+◌, ap, ◌∙◌, refl}
use Rattle.task_kinds.specs.Works.{BackupDispatch, BackupLogs}
use Rattle.task_bucket.specs.Lists.{has_uid, without_uid}
use Rattle.backup_core.specs.Tasks.{at_once}
use Rattle.backup_core.proofs.Adds.{second_there, first_there, both_out}
use Rattle.backup_core.proofs.backup.BackupJob.close_start.Goals as goal

pub take_back-requires : goal.take_back-requires
take_back-requires g c = ap (has_uid (c.args.next_uid.now + 1)) c.in_ok-add_dispatches.ensures.lists ∙ second_there c.number-number.result c.args.next_uid.now (at_once BackupDispatch) (at_once BackupLogs) (g.B.Bucket.lists c.args.bucket.now)

pub take_back-requires-in-Err : goal.take_back-requires-in-Err
take_back-requires-in-Err g c = ap (has_uid c.args.next_uid.now) (c.take_back.ensures.lists ∙ ap (without_uid (c.args.next_uid.now + 1)) c.in_ok-add_dispatches.ensures.lists) ∙ first_there c.number-number.result c.args.next_uid.now (at_once BackupDispatch) (at_once BackupLogs) (g.B.Bucket.lists c.args.bucket.now) c.requires.fresh

pub returns-in-Err-clause-refused : goal.returns-in-Err-clause-refused
returns-in-Err-clause-refused g c = (
  refl,
  c.in-Err.ensures.refused.1,
  c.in-Err.ensures.refused.0,
  c.take_back-in-Err.ensures.lists
      ∙ ap (without_uid c.args.next_uid.now) (c.take_back.ensures.lists ∙ ap (without_uid (c.args.next_uid.now + 1)) c.in_ok-add_dispatches.ensures.lists)
      ∙ both_out c.number-number.result c.args.next_uid.now (at_once BackupDispatch) (at_once BackupLogs) (g.B.Bucket.lists c.args.bucket.now) c.requires.fresh,
  c.take_back-in-Err.ensures.next,
)

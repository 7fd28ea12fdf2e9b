use Rattle.std.proofs.Common.{ap, ◌∙◌}
use Rattle.task_bucket.specs.Lists.{has_uid}
use Rattle.backup_core.proofs.Adds.{fresh_added}
use Rattle.backup_core.proofs.adding.add.Goals as goal

pub returns-clause-fresh : goal.returns-clause-fresh
returns-clause-fresh g c = λ uid le. ap (has_uid uid) c.in_ok-put.ensures.ok ∙ fresh_added c.args.next_uid.now c.args.until c.args.task (g.B.Bucket.lists c.args.bucket.now) c.requires uid le

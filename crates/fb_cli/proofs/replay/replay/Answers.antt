use Rattle.fb_cli.proofs.Replaying.{played}
use Rattle.fb_cli.proofs.replay.replay.Goals as goal

pub returns-in-Ok-clause-replays : goal.returns-in-Ok-clause-replays
returns-in-Ok-clause-replays g c = played _ _ c.in-Ok.workload c.play.result.report c.play.result.fault c.in-Ok.ensures c.play.ensures.fault c.play.ensures.reported c.play.ensures.run c.play.ensures.last c.play.ensures.front

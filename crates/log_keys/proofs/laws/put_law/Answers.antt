use Rattle.log_keys.proofs.LogLaws.{put_at}
use Rattle.log_keys.proofs.laws.put_law.Goals as goal

pub returns : goal.returns
returns c = put_at

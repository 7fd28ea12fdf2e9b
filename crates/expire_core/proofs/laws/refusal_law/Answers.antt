use Rattle.expire_core.proofs.Refusals.{refusal_law}
use Rattle.expire_core.proofs.laws.refusal_law.Goals as goal

pub returns : goal.returns
returns c = refusal_law

use Rattle.std.proofs.Common.{refl}
use Rattle.versioned_kv.proofs.laws.history_law.Goals as goal

pub returns : goal.returns
returns c = λ limit history version key. refl

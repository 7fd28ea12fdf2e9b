use Rattle.atomic_ops.proofs.ByteLemmas.{length-fitted, fitted_at}
use Rattle.atomic_ops.proofs.laws.fitting_laws.Goals as goal

pub returns : goal.returns
returns c = record { length = length-fitted; bytes = fitted_at }

use Rattle.versioned_kv.proofs.DigitsOf as digits
use Rattle.versioned_kv.proofs.laws.digits_law.Goals as goal

pub returns : goal.returns
returns c = digits.digits_law

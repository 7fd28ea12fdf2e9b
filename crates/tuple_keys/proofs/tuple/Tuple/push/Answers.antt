use Rattle.tuple_keys.proofs.Small.{AreSmall-push}
use Rattle.tuple_keys.proofs.tuple.Tuple.push.Goals as goal

pub invariant_of-self-2 : goal.invariant_of-self-2
invariant_of-self-2 c = rw c.in_ok-push.ensures.items (AreSmall-push _ _ c.self.invariant c.requires)

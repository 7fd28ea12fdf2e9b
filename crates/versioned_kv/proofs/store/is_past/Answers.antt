use Rattle.std.proofs.lemmas.Bool.{ltb-true, lt-ltb}
use Rattle.versioned_kv.proofs.Holding.{past_last, last_past}
use Rattle.versioned_kv.proofs.store.is_past.Goals as goal

pub returns-in-Some : goal.returns-in-Some
returns-in-Some c = (
  λ t. past_last c.args.version c.in-Some.newest.now c.args.versions.now c.requires c.in-Some.ensures.value (ltb-true c.in-Some.newest.now c.args.version t),
  λ past. lt-ltb c.in-Some.newest.now c.args.version (last_past c.args.version c.in-Some.newest.now c.args.versions.now c.in-Some.ensures.value past),
)

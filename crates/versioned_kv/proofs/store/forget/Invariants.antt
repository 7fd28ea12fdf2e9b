use Rattle.versioned_kv.proofs.store.forget.Given as goal

abbrev pub ghosts-forget_counted : goal.ghosts-forget_counted
ghosts-forget_counted a = record { name = a.blank.name; parts = a.blank.parts }

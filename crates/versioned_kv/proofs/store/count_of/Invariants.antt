use Rattle.versioned_kv.proofs.store.count_of.Given as goal

abbrev pub ghosts-count_of_counted : goal.ghosts-count_of_counted
ghosts-count_of_counted a = record { name = a.blank.name; parts = a.blank.parts }

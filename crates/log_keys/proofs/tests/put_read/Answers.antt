use Rattle.log_keys.proofs.tests.put_read.Goals as goal

pub put_batch-requires-clause-read : goal.put_batch-requires-clause-read
put_batch-requires-clause-read c = (c.in_ok-_muts._muts, record { has = c.in_ok-_muts.ensures.found.0; are = c.in_ok-_muts.ensures.found.1 })

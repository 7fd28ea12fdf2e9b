use Rattle.database.proofs.InStep.{kept_more, kept_same}
use Rattle.database.proofs.Logged.{named_below}
use Rattle.std.proofs.Common.{◌∙◌}
use Rattle.database.proofs.keeping.put_kept.Goals as goal

pub put_logs-requires-clause-below : goal.put_logs-requires-clause-below
put_logs-requires-clause-below c = named_below c.args.entry.version c.args.history.now c.args.keys.now c.requires.kept.2.named c.requires.past

pub returns-in-Ok-clause-kept : goal.returns-in-Ok-clause-kept
returns-in-Ok-clause-kept c block lock k =
    kept_more c.newest_law.ensures block c.args.history.now c.put_entry.new.history lock c.args.logs.now c.args.keys.now c.put_logs.new.keys c.args.store.now c.put_entry.new.store c.args.entry
    c.in-Ok.ensures.ok c.in_ok-put_logs.ensures.ok c.requires.past c.in_order.ensures c.put_entry.ensures.holds c.put_entry.ensures.same.0 k

pub returns-in-Err-clause-kept : goal.returns-in-Err-clause-kept
returns-in-Err-clause-kept c block lock k =
    kept_same block c.args.history.now c.put_entry.new.history lock c.args.logs.now c.args.keys.now c.retract.new.self c.args.store.now c.put_entry.new.store
    c.in-Err.ensures.err (c.retract.ensures ∙ c.in_ok-put_logs.ensures.back) c.put_entry.ensures.holds c.put_entry.ensures.same.0 k

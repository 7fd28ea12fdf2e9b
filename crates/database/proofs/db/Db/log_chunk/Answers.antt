use Rattle.std.proofs.Common.{◌≡◌, Some, ap, ◌∙◌}
use Rattle.mutations.specs.declared.batch.LogChunk.{LogChunk}
use Rattle.mutations.specs.Histories.{logged}
use Rattle.log_keys.specs.Logs.{batches_between}
use Rattle.database.specs.Logs.{JobLog, log_of}
use Rattle.database.specs.Commits.{Database}
use Rattle.database.proofs.Answers.{if_ok}
use Rattle.database.proofs.InStep.{chunk_is}
use Rattle.database.proofs.db.Db.log_chunk.Goals as goal

pub returns-clause-batches : goal.returns-clause-batches
returns-clause-batches c =
    let old = c.self.inside in
    let db = c.args.self.now in
    if_ok (λ (chunk : LogChunk). chunk ≡ record { begin = c.args.begin; end = c.args.end; batches = batches_between c.args.job c.args.begin c.args.end old.keys })
    (λ (chunk : LogChunk). (log : JobLog) → log_of db.logs c.args.job ≡ Some log → chunk.batches ≡ logged db.history log.ranges c.args.begin c.args.end)
    (λ (chunk : LogChunk) e log h. ap (λ (x : LogChunk). x.batches) e
    ∙ chunk_is old.profile.block db.history old.history old.lock db.logs old.logs.items old.keys old.store c.args.job c.args.begin c.args.end c.requires.0 log
    (ap (λ (d : Database). d.history) c.self.view_is) (ap (λ (d : Database). d.logs) c.self.view_is) c.self.invariant c.requires.1 c.requires.2 h)
    c.join.result c.join.ensures

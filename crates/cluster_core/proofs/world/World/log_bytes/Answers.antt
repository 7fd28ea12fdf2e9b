use Rattle.std.proofs.Common.{◌≡◌, ◌+◌, Some, IfOk, slice_get, ap, sym, ◌∙◌, subst}
use Rattle.fb_bytes.specs.Bytes.{Bytes}
use Rattle.backup_core.specs.Backups.{BackupJob}
use Rattle.cluster_core.specs.declared.job.Job.TheVariants as types
use Rattle.cluster_core.specs.World.{Seen}
use Rattle.cluster_core.specs.Sound.{Sound}
use Rattle.cluster_core.proofs.commands.Cut.{number_fits, has_log, chunk_batches, chunk_writable, chunk_text}
use Rattle.cluster_core.proofs.world.World.log_bytes.Goals as goal

pub overflow_add-number : goal.overflow_add-number
overflow_add-number g c = record { fits = number_fits c.self.inside.jobs.items c.args.place c.self.inside.jobs.len c.self.inside.jobs.cap (types.Backup c.args.backup.now) (subst (λ (seen : Seen). slice_get seen.state.jobs c.args.place ≡ Some (types.Backup c.args.backup.now)) (sym c.self.view_is) c.requires.at) c.self.inside.jobs.ok c.self.inside.jobs.small }

pub log_chunk-requires : goal.log_chunk-requires
log_chunk-requires g c =
    let sound = subst (λ (seen : Seen). Sound seen.workload seen.state) c.self.view_is c.self.invariant.sound in
    has_log c.side.result c.args.self.now.state.jobs c.args.place c.args.backup.now c.db-db.result.now.logs sound.jobs.numbered c.requires.at c.side.ensures c.requires.running c.db-db.ensures.logs c.next.result (c.next.ensures ∙ ap (λ (h : BackupJob). h.next) c.job.ensures) (sound.jobs.each c.args.place (types.Backup c.args.backup.now) c.requires.at).erased

pub write_log_at-requires : goal.write_log_at-requires
write_log_at-requires g c =
    let batches = chunk_batches c.args.self.now.state c.side.result c.args.place c.args.backup.now c.db-db.result.now.logs c.db-db.result.now.history c.next.result (c.self.inside.versions.now + 1) c.in_ok-chunk.chunk.begin c.in_ok-chunk.chunk.end c.in_ok-chunk.chunk.batches (subst (λ (seen : Seen). Sound seen.workload seen.state) c.self.view_is c.self.invariant.sound).jobs.numbered c.requires.at c.side.ensures c.requires.running c.db-db.ensures.logs c.db-db.ensures.history c.in_ok-chunk.ensures.begin c.in_ok-chunk.ensures.end c.in_ok-chunk.ensures.batches in
    let begin : c.in_ok-chunk.chunk.begin ≡ c.args.backup.now.job.next = c.in_ok-chunk.ensures.begin ∙ c.next.ensures ∙ ap (λ (h : BackupJob). h.next) c.job.ensures in
    let block : c.self.inside.workload.settings.block ≡ c.args.self.now.workload.settings.block = ap (λ (seen : Seen). seen.workload.settings.block) c.self.view_is in
    let sound = subst (λ (seen : Seen). Sound seen.workload seen.state) c.self.view_is c.self.invariant.sound in
    chunk_writable c.args.self.now.workload c.args.self.now.state c.args.place c.args.backup.now c.self.inside.workload.settings.block c.in_ok-chunk.chunk.begin c.in_ok-chunk.chunk.end c.in_ok-chunk.chunk.batches sound c.requires.at c.requires.running block begin batches

pub returns : goal.returns
returns g c =
    let batches = chunk_batches c.args.self.now.state c.side.result c.args.place c.args.backup.now c.db-db.result.now.logs c.db-db.result.now.history c.next.result (c.self.inside.versions.now + 1) c.in_ok-chunk.chunk.begin c.in_ok-chunk.chunk.end c.in_ok-chunk.chunk.batches (subst (λ (seen : Seen). Sound seen.workload seen.state) c.self.view_is c.self.invariant.sound).jobs.numbered c.requires.at c.side.ensures c.requires.running c.db-db.ensures.logs c.db-db.ensures.history c.in_ok-chunk.ensures.begin c.in_ok-chunk.ensures.end c.in_ok-chunk.ensures.batches in
    let begin : c.in_ok-chunk.chunk.begin ≡ c.args.backup.now.job.next = c.in_ok-chunk.ensures.begin ∙ c.next.ensures ∙ ap (λ (h : BackupJob). h.next) c.job.ensures in
    let block : c.self.inside.workload.settings.block ≡ c.args.self.now.workload.settings.block = ap (λ (seen : Seen). seen.workload.settings.block) c.self.view_is in
    let end = c.in_ok-chunk.ensures.end ∙ ap (λ (seen : Seen). seen.state.time + 1) c.self.view_is in
    subst (λ (text : Bytes). IfOk c.write_log_at.result (λ bytes. bytes ≡ text)) (chunk_text c.args.self.now.workload c.args.self.now.state c.args.backup.now c.self.inside.workload.settings.block c.in_ok-chunk.chunk.begin c.in_ok-chunk.chunk.end c.in_ok-chunk.chunk.batches block begin end batches) c.write_log_at.ensures.text

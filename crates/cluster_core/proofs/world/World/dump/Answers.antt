use Rattle.std.proofs.Common.{ap}
use Rattle.cluster_core.specs.World.{Seen}
use Rattle.cluster_core.proofs.commands.Dump.{dump_begun, dump_filed}
use Rattle.cluster_core.proofs.world.World.dump.Goals as goal

pub range_name-requires-after_bounds : goal.range_name-requires-after_bounds
range_name-requires-after_bounds g c κs within = dump_begun c.self.inside.workload _ c.args.self.now c.args.place c.args.backup.now c.job.result.now c.self.invariant.sound (ap (λ (s : Seen). s.state) c.self.view_is) c.requires.at c.job.ensures

pub returns-clause-file : goal.returns-clause-file
returns-clause-file g c = dump_filed c.args.self.now c.filing.result c.args.place c.args.backup.now c.args.piece.now c.in_ok-copy-2.field-0 c.job.result.now c.in_ok-name.name c.in_ok-copy.field-0 c.in_ok-bytes.bytes c.side.result c.self.inside.versions.now c.len.result c.filing.ensures c.job.ensures c.in_ok-name.ensures.name c.in_ok-copy.ensures c.side.ensures c.in_ok-bytes.ensures (ap (λ (s : Seen). s.state.time) c.self.view_is) c.len.ensures c.in_ok-copy-2.ensures

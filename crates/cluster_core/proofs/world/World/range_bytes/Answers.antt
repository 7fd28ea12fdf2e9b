use Rattle.std.proofs.Common.{◌≤◌, ap, subst, sym}
use Rattle.cluster_core.specs.World.{Seen}
use Rattle.cluster_core.proofs.commands.Dump.{piece_written}
use Rattle.cluster_core.proofs.world.World.range_bytes.Goals as goal

pub write_range_at-requires : goal.write_range_at-requires
write_range_at-requires g c = piece_written c.self.inside.workload _ c.args.self.now c.args.side c.args.piece.now c.db.result.now.block c.db.result.now.history c.in_ok-copy.field-0 c.in_ok-copy-2.field-0 c.in_ok-pairs.pairs c.self.invariant.sound (ap (λ (s : Seen). s.workload) c.self.view_is) (ap (λ (s : Seen). s.state) c.self.view_is) c.requires c.db.ensures.block c.db.ensures.history c.in_ok-pairs.ensures.pairs c.in_ok-copy.ensures c.in_ok-copy-2.ensures

pub dump-requires : goal.dump-requires
dump-requires g c = record { oldest = subst (λ (seen : Seen). c.db.result.now.oldest ≤ seen.state.time) (sym c.self.view_is) c.db.ensures.oldest }

use Rattle.std.proofs.Common.{◌≡◌, ◌++◌, drop, map}
use Rattle.snapshot_plan.specs.Plans.{key_of, cuts, cut_before}
use Rattle.snapshot_plan.proofs.plan.push_pieces.Given as goal

abbrev pub invariant-each : goal.invariant-each
invariant-each l = l.pieces.items ++ cut_before (cuts l.shard l.place (map key_of (drop l.place l.own))) (record { begin = l.begin; end = l.range.end }) ≡ l.initial.pieces.items ++ cut_before (cuts l.shard 0 (map key_of l.own)) l.range

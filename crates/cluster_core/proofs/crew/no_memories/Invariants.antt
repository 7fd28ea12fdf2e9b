use Rattle.std.proofs.Common.{◌≡◌, ◌≤◌, replicate, None}
use Rattle.cluster_core.proofs.crew.no_memories.Given as goal

abbrev pub invariant-agents : goal.invariant-agents
invariant-agents l = (l.memories.items ≡ replicate l._agent None) × (l._agent ≤ l.count)

use Rattle.std.proofs.Common.{◌≡◌, ℕ, suc, replicate, Option, None, ap, ◌∙◌, arith}
use Rattle.cluster_core.specs.Agents.{Memory}
use Rattle.cluster_core.proofs.crew.no_memories.Goals as goal

pub returns : goal.returns
returns c =
    let all : c.agents._agent ≡ suc c.args.last = omega (arith, c.agents.invariant.1, c.agents-test.false) in
    c.agents.invariant.0 ∙ ap (λ (n : ℕ). replicate {A = Option Memory} n None) all

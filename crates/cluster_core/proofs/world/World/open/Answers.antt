use Rattle.std.proofs.Common.{ap, ◌∙◌}
use Rattle.workload_text.specs.declared.Workload.{Workload}
use Rattle.cluster_core.specs.inner.Crew.{new_crew}
use Rattle.cluster_core.proofs.Worlds.{open_world}
use Rattle.cluster_core.proofs.world.World.open.Goals as goal

pub invariant_of-result : goal.invariant_of-result
invariant_of-result g c = open_world c.in-Ok.workload c.args.workload.now c.in-Ok.clients.items c.new-4.result.items c.in-Ok-new.crew c.new-2.result c.new-3.result c.profile_of-profile.result.block (g.V.Vault.files c.args.vault) (let laws = g.met.V.Vault g.world.𝓛 g.world.𝓜 g.world.𝓡 ((λ s x. x), (λ x. x), (λ x. x), λ x. x) in laws.ordered c.args.vault) c.in-Ok.ensures.0 c.in-Ok.ensures.1 c.new-4.ensures.items (c.in-Ok-new.ensures ∙ ap (λ (x : Workload). new_crew x.settings.agents) c.in-Ok.ensures.0) c.new-2.ensures c.new-3.ensures c.profile_of-profile.ensures

pub returns-clause-sound : goal.returns-clause-sound
returns-clause-sound g c = let world = open_world c.in-Ok.workload c.args.workload.now c.in-Ok.clients.items c.new-4.result.items c.in-Ok-new.crew c.new-2.result c.new-3.result c.profile_of-profile.result.block (g.V.Vault.files c.args.vault) (let laws = g.met.V.Vault g.world.𝓛 g.world.𝓜 g.world.𝓡 ((λ s x. x), (λ x. x), (λ x. x), λ x. x) in laws.ordered c.args.vault) c.in-Ok.ensures.0 c.in-Ok.ensures.1 c.new-4.ensures.items (c.in-Ok-new.ensures ∙ ap (λ (x : Workload). new_crew x.settings.agents) c.in-Ok.ensures.0) c.new-2.ensures c.new-3.ensures c.profile_of-profile.ensures in world.sound

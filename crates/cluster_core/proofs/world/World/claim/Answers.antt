use Rattle.std.proofs.Common.{refl}
use Rattle.cluster_core.specs.declared.event.Event.TheVariants as events
use Rattle.cluster_core.specs.events.Claim.{claim}
use Rattle.cluster_core.proofs.Crewing.{agent_leaves}
use Rattle.cluster_core.proofs.world.World.claim.Goals as goal

pub invariant_of-self : goal.invariant_of-self
invariant_of-self g c = agent_leaves c.self.inside.workload c.self.inside.clients.items c.self.inside.src c.self.inside.dst c.self.inside.versions (record { jobs = c.self.inside.jobs.items; place = c.self.inside.place; tickets = c.self.inside.tickets; crew = c.self.inside.crew }) (g.V.Vault.files c.self.inside.vault) (λ settings state. claim settings state c.args.agent c.args.pick) (events.Claim c.args.agent c.args.pick) c.claim.new.self c.claim.result (λ w. refl) c.claim.ensures.ok c.claim.ensures.err c.self.invariant

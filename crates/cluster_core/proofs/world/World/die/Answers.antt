use Rattle.cluster_core.specs.declared.event.Event.TheVariants as events
use Rattle.cluster_core.specs.inner.World.{state_of}
use Rattle.cluster_core.proofs.Crewing.{agent_world}
use Rattle.cluster_core.proofs.world.World.die.Goals as goal

pub invariant_of-self : goal.invariant_of-self
invariant_of-self g c = agent_world c.self.inside.workload c.self.inside.clients.items c.self.inside.src c.self.inside.dst c.self.inside.versions (record { jobs = c.self.inside.jobs.items; place = c.self.inside.place; tickets = c.self.inside.tickets; crew = c.self.inside.crew }) (g.V.Vault.files c.self.inside.vault) (events.Die c.args.agent) c.die.new.self c.die.result (c.die.ensures (state_of c.self.inside.clients.items c.self.inside.src c.self.inside.dst c.self.inside.versions (record { jobs = c.self.inside.jobs.items; place = c.self.inside.place; tickets = c.self.inside.tickets; crew = c.self.inside.crew }) (g.V.Vault.files c.self.inside.vault))) c.self.invariant

use Rattle.cluster_core.proofs.Worlds.{begin_world}
use Rattle.cluster_core.proofs.world.World.begin.Goals as goal

pub invariant_of-self : goal.invariant_of-self
invariant_of-self g c = begin_world c.self.inside.workload c.self.inside.src c.self.inside.dst c.self.inside.versions (record { jobs = c.self.inside.jobs.items; place = c.self.inside.place; tickets = c.self.inside.tickets; crew = c.self.inside.crew }) (g.V.Vault.files c.self.inside.vault) c.self.inside.clients.items c.deref_mut.result.now c.begin_client.new.clients c.self.inside.clients.len c.args.number c.begin_client.result c.self.invariant c.deref_mut.ensures.value c.self.inside.clients.ok.0 c.begin_client.auto.clients c.begin_client.ensures

use Rattle.cluster_core.proofs.Worlds.{tick_world}
use Rattle.cluster_core.proofs.world.World.tick.Goals as goal

pub invariant_of-self : goal.invariant_of-self
invariant_of-self g c = tick_world c.self.inside.workload c.self.inside.src c.self.inside.dst c.self.inside.versions (record { jobs = c.self.inside.jobs.items; place = c.self.inside.place; tickets = c.self.inside.tickets; crew = c.self.inside.crew }) (g.V.Vault.files c.self.inside.vault) c.self.inside.clients.items c.args.n c.in-Some.version c.later.result c.self.invariant c.later.ensures c.in-Some.is

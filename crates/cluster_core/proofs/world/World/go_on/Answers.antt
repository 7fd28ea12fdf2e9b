use Rattle.std.proofs.Common.{ℕ, ◌<◌, length, sym, subst}
use Rattle.cluster_core.specs.World.{Seen}
use Rattle.cluster_core.specs.inner.World.{state_of}
use Rattle.cluster_core.proofs.plans.Operator.{gone_world}
use Rattle.cluster_core.proofs.world.World.go_on.Goals as goal

pub invariant_of-self : goal.invariant_of-self
invariant_of-self g c = gone_world c.self.inside.workload c.self.inside.src c.self.inside.dst c.self.inside.versions (state_of c.self.inside.clients.items c.self.inside.src c.self.inside.dst c.self.inside.versions (record { jobs = c.self.inside.jobs.items; place = c.self.inside.place; tickets = c.self.inside.tickets; crew = c.self.inside.crew }) (g.V.Vault.files c.self.inside.vault)) c.next_place-self-inside.result (c.next_place-self-inside.ensures (subst (λ (n : ℕ). c.self.inside.place < n) (sym c.len.ensures) (subst (λ (seen : Seen). seen.state.place < length seen.workload.operator) (sym c.self.view_is) c.requires))) c.self.invariant

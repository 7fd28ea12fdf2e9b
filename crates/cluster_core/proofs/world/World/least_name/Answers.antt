use Rattle.std.proofs.Common.{subst}
use Rattle.cluster_core.specs.World.{Seen}
use Rattle.cluster_core.specs.inner.World.{IsListed, state_of}
use Rattle.cluster_core.proofs.plans.Start.{listed_first}
use Rattle.std.proofs.Common.{None}
use Rattle.cluster_core.proofs.plans.Start.{none_listed}
use Rattle.cluster_core.proofs.world.World.least_name.Goals as goal

pub returns-in-Ok-clause-listed : goal.returns-in-Ok-clause-listed
returns-in-Ok-clause-listed g c =
    subst (λ (seen : Seen). IsListed seen.state c.args.container.now c.in_ok-name-in-Ok.name) c.self.view_is
    (listed_first (state_of c.self.inside.clients.items c.self.inside.src c.self.inside.dst c.self.inside.versions (record { jobs = c.self.inside.jobs.items; place = c.self.inside.place; tickets = c.self.inside.tickets; crew = c.self.inside.crew }) (g.V.Vault.files c.self.inside.vault)) c.args.container.now c.in-Ok.names c.in_ok-name-in-Ok.name c.in-Ok.ensures.names c.in_ok-name-in-Ok.ensures)

pub returns-in-Err-NoContainer-clause-listed : goal.returns-in-Err-NoContainer-clause-listed
returns-in-Err-NoContainer-clause-listed g c =
    subst (λ (seen : Seen). IsListed seen.state c.args.container.now None) c.self.view_is
    (none_listed (state_of c.self.inside.clients.items c.self.inside.src c.self.inside.dst c.self.inside.versions (record { jobs = c.self.inside.jobs.items; place = c.self.inside.place; tickets = c.self.inside.tickets; crew = c.self.inside.crew }) (g.V.Vault.files c.self.inside.vault)) c.args.container.now (c.list_names.ensures.none search))

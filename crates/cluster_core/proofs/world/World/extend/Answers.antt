use Rattle.std.proofs.Common.{subst, refl}
use Rattle.cluster_core.specs.declared.event.Event.TheVariants as events
use Rattle.cluster_core.specs.events.Extend.{extend}
use Rattle.cluster_core.specs.State.{State}
use Rattle.cluster_core.specs.World.{Seen}
use Rattle.cluster_core.specs.inner.World.{Desk, state_of, AgentSteps}
use Rattle.cluster_core.proofs.Crewing.{agent_leaves, agent_answered, agent_starved}
use Rattle.cluster_core.proofs.world.World.extend.Goals as goal
use Rattle.cluster_core.proofs.world.World.extend.Goals.{in-Ok, in-Err}

pub invariant_of-self : goal.invariant_of-self
invariant_of-self g c = agent_leaves c.self.inside.workload c.self.inside.clients.items c.self.inside.src c.self.inside.dst c.self.inside.versions (record { jobs = c.self.inside.jobs.items; place = c.self.inside.place; tickets = c.self.inside.tickets; crew = c.self.inside.crew }) (g.V.Vault.files c.self.inside.vault) (λ settings state. extend settings state c.args.agent) (events.Extend c.args.agent) c.extend.new.self c.extend.result (λ w. refl) c.extend.ensures.ok c.extend.ensures.err c.self.invariant

pub returns-clause-step : goal.returns-clause-step
returns-clause-step g c =
    let desk : Desk = record { jobs = c.self.inside.jobs.items; place = c.self.inside.place; tickets = c.self.inside.tickets; crew = c.self.inside.crew } in
    let new : State = state_of c.self.inside.clients.items c.self.inside.src c.self.inside.dst c.self.inside.versions (record desk { crew = c.extend.new.self }) (g.V.Vault.files c.self.inside.vault) in
    subst (λ (seen : Seen). AgentSteps seen.workload seen.state (events.Extend c.args.agent) c.match-extend.result new) c.self.view_is
    (elim c.match-extend.branch [
      | in-Ok w ↦ agent_answered c.self.inside.workload c.self.inside.clients.items c.self.inside.src c.self.inside.dst c.self.inside.versions desk (g.V.Vault.files c.self.inside.vault) (λ settings state. extend settings state c.args.agent) (events.Extend c.args.agent) c.extend.new.self w.in-Ok.answer c.match-extend.result (λ s. refl) w.result-is w.in-Ok.ensures.ok
      | in-Err w ↦ agent_starved c.self.inside.workload c.self.inside.clients.items c.self.inside.src c.self.inside.dst c.self.inside.versions desk (g.V.Vault.files c.self.inside.vault) (events.Extend c.args.agent) c.extend.new.self c.match-extend.result w.result-is w.in-Err.ensures.err
    ])

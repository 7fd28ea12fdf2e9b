use Rattle.std.proofs.Common.{◌≡◌, ℕ, ◌<◌, length, slice_set, Ok, ap, sym, subst, ◌∙◌}
use Rattle.cluster_core.specs.declared.event.Answer.TheVariants as answers
use Rattle.cluster_core.specs.declared.event.Event.TheVariants as events
use Rattle.cluster_core.specs.declared.plan.Plan.TheVariants as plans
use Rattle.cluster_core.specs.Jobs.{Job, terms_of}
use Rattle.cluster_core.specs.Moves.{Fine, moved, Silent}
use Rattle.cluster_core.specs.commands.Abort.{with_abort}
use Rattle.cluster_core.specs.Step.{step}
use Rattle.cluster_core.specs.inner.Plans.{IsPlan, IsSafe}
use Rattle.cluster_core.specs.World.{Seen}
use Rattle.cluster_core.specs.inner.World.{state_of, IsWorld}
use Rattle.cluster_core.proofs.plans.Abort.{abort_world, abort_state}
use Rattle.cluster_core.proofs.commands.Jobs.{got}
use Rattle.cluster_core.proofs.world.World.abort.Goals as goal

pub invariant_of-self : goal.invariant_of-self
invariant_of-self g c =
    let plan = subst (λ (seen : Seen). IsPlan seen.workload seen.state (plans.Abort c.args.place)) (sym c.self.view_is) c.requires.plan in
    let safe = subst (λ (seen : Seen). IsSafe seen.state (plans.Abort c.args.place)) (sym c.self.view_is) c.requires.safe in
    let room = subst (λ (n : ℕ). c.self.inside.place < n) (sym c.len.ensures) (subst (λ (seen : Seen). seen.state.place < length seen.workload.operator) (sym c.self.view_is) c.requires.room) in
    let here : c.index_mut.result.now ≡ safe.0 = got c.self.inside.jobs.items c.args.place safe.0 c.index_mut.result.now safe.1 (c.index_mut.ensures.value) in
    let side : c.side-side.result ≡ (terms_of safe.0).side = c.side-side.ensures ∙ ap (λ (j : Job). (terms_of j).side) (got c.self.inside.jobs.items c.args.place safe.0 c.index.result.now safe.1 (c.index.ensures)) in
    let job : c.abort.new.self ≡ with_abort safe.0 = c.abort.ensures ∙ ap with_abort here in
    subst (λ (j : Job). IsWorld c.self.inside.workload c.end_log.new.src c.end_log.new.dst c.self.inside.versions (state_of c.self.inside.clients.items c.end_log.new.src c.end_log.new.dst c.self.inside.versions (record { jobs = slice_set c.self.inside.jobs.items c.args.place j; place = c.next_place-self-inside.result; tickets = c.self.inside.tickets; crew = c.self.inside.crew }) (g.V.Vault.files c.self.inside.vault))) (sym job)
    (abort_world c.self.inside.workload c.side-side.result c.self.inside.src c.self.inside.dst c.end_log.new.src c.end_log.new.dst c.self.inside.versions c.self.inside.clients.items (record { jobs = c.self.inside.jobs.items; place = c.self.inside.place; tickets = c.self.inside.tickets; crew = c.self.inside.crew }) (g.V.Vault.files c.self.inside.vault) c.args.place c.next_place-self-inside.result safe.0 c.end_log.ensures.src c.end_log.ensures.dst (c.next_place-self-inside.ensures room) c.self.invariant plan safe.1 side)

pub returns-clause-step : goal.returns-clause-step
returns-clause-step g c =
    let plan = subst (λ (seen : Seen). IsPlan seen.workload seen.state (plans.Abort c.args.place)) (sym c.self.view_is) c.requires.plan in
    let safe = subst (λ (seen : Seen). IsSafe seen.state (plans.Abort c.args.place)) (sym c.self.view_is) c.requires.safe in
    let room = subst (λ (n : ℕ). c.self.inside.place < n) (sym c.len.ensures) (subst (λ (seen : Seen). seen.state.place < length seen.workload.operator) (sym c.self.view_is) c.requires.room) in
    let here : c.index_mut.result.now ≡ safe.0 = got c.self.inside.jobs.items c.args.place safe.0 c.index_mut.result.now safe.1 (c.index_mut.ensures.value) in
    let side : c.side-side.result ≡ (terms_of safe.0).side = c.side-side.ensures ∙ ap (λ (j : Job). (terms_of j).side) (got c.self.inside.jobs.items c.args.place safe.0 c.index.result.now safe.1 (c.index.ensures)) in
    let job : c.abort.new.self ≡ with_abort safe.0 = c.abort.ensures ∙ ap with_abort here in
    subst (λ (seen : Seen). step seen.workload seen.state events.Command (Fine Silent) ≡ moved (Ok answers.Done) (state_of c.self.inside.clients.items c.end_log.new.src c.end_log.new.dst c.self.inside.versions (record { jobs = slice_set c.self.inside.jobs.items c.args.place c.abort.new.self; place = c.next_place-self-inside.result; tickets = c.self.inside.tickets; crew = c.self.inside.crew }) (g.V.Vault.files c.self.inside.vault))) c.self.view_is
    (subst (λ (j : Job). step c.self.inside.workload (state_of c.self.inside.clients.items c.self.inside.src c.self.inside.dst c.self.inside.versions (record { jobs = c.self.inside.jobs.items; place = c.self.inside.place; tickets = c.self.inside.tickets; crew = c.self.inside.crew }) (g.V.Vault.files c.self.inside.vault)) events.Command (Fine Silent) ≡ moved (Ok answers.Done) (state_of c.self.inside.clients.items c.end_log.new.src c.end_log.new.dst c.self.inside.versions (record { jobs = slice_set c.self.inside.jobs.items c.args.place j; place = c.next_place-self-inside.result; tickets = c.self.inside.tickets; crew = c.self.inside.crew }) (g.V.Vault.files c.self.inside.vault))) (sym job)
    (abort_state c.self.inside.workload c.side-side.result c.self.inside.src c.self.inside.dst c.end_log.new.src c.end_log.new.dst c.self.inside.versions c.self.inside.clients.items (record { jobs = c.self.inside.jobs.items; place = c.self.inside.place; tickets = c.self.inside.tickets; crew = c.self.inside.crew }) (g.V.Vault.files c.self.inside.vault) c.args.place c.next_place-self-inside.result safe.0 c.end_log.ensures.src c.end_log.ensures.dst (c.next_place-self-inside.ensures room) plan safe.1))

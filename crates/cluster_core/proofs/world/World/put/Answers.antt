use Rattle.std.proofs.Common.{◌≡◌, ℕ, ◌+◌, ◌<◌, List, length, Option, slice_set, Ok, Err, ◌⊎◌, ap, sym, subst, ◌∙◌}
use Rattle.fb_bytes.specs.Bytes.{Bytes}
use Rattle.fb_outside.specs.declared.File.{File}
use Rattle.cluster_core.specs.declared.event.Answer.TheVariants as answers
use Rattle.cluster_core.specs.declared.event.Event.TheVariants as events
use Rattle.cluster_core.specs.declared.event.StepFault.TheVariants.{VaultFault, NoMemory}
use Rattle.cluster_core.specs.declared.plan.Plan.TheVariants as plans
use Rattle.cluster_core.specs.inner.Filed.{changed}
use Rattle.cluster_core.specs.Jobs.{Job}
use Rattle.cluster_core.specs.Moves.{Fine, Starved, moved, Silent}
use Rattle.cluster_core.specs.Step.{step}
use Rattle.cluster_core.specs.inner.Plans.{IsPlan, IsSafe}
use Rattle.cluster_core.specs.State.{State, with_put}
use Rattle.cluster_core.specs.World.{Seen}
use Rattle.cluster_core.specs.inner.World.{IsWorld, state_of}
use Rattle.cluster_core.proofs.plans.Put.{put_files, failed_files, put_world, put_done, failed_step, failed_world}
use Rattle.cluster_core.proofs.Filings.{filed, unfiled, ahead_there}
use Rattle.std.proofs.lemmas.Result.{err_from_is_err_and}
use Rattle.cluster_core.proofs.plans.Start.{starved_step}
use Rattle.cluster_core.proofs.world.World.put.Goals as goal

pub go_ahead-requires-clause-at : goal.go_ahead-requires-clause-at
go_ahead-requires-clause-at g c =
    let safe = subst (λ (seen : Seen). IsSafe seen.state (plans.Put c.args.filing)) (sym c.self.view_is) c.requires.safe in
    (safe.job, safe.at)

pub go_ahead-requires-clause-can : goal.go_ahead-requires-clause-can
go_ahead-requires-clause-can g c =
    let safe = subst (λ (seen : Seen). IsSafe seen.state (plans.Put c.args.filing)) (sym c.self.view_is) c.requires.safe in
    safe.can

pub invariant_of-self-in-Ok : goal.invariant_of-self-in-Ok
invariant_of-self-in-Ok g c =
    let old : State = state_of c.self.inside.clients.items c.self.inside.src c.self.inside.dst c.self.inside.versions (record { jobs = c.self.inside.jobs.items; place = c.self.inside.place; tickets = c.self.inside.tickets; crew = c.self.inside.crew }) (g.V.Vault.files c.self.inside.vault) in
    let plan = subst (λ (seen : Seen). IsPlan seen.workload seen.state (plans.Put c.args.filing)) (sym c.self.view_is) c.requires.plan in
    let safe = subst (λ (seen : Seen). IsSafe seen.state (plans.Put c.args.filing)) (sym c.self.view_is) c.requires.safe in
    let room = subst (λ (n : ℕ). c.self.inside.place < n) (sym c.len.ensures) (subst (λ (seen : Seen). seen.state.place < length seen.workload.operator) (sym c.self.view_is) c.requires.room) in
    let files = put_files c.args.filing.whole c.as_slice.result.now (g.V.Vault.files c.self.inside.vault) (g.V.Vault.files c.put.new.self) c.in-Ok.ensures.put c.put.ensures.silent ∙ ap (λ (b : Bytes). with_put c.args.filing.whole b (g.V.Vault.files c.self.inside.vault)) c.as_slice.ensures.same in
    let jobs : c.settle.new.jobs.items ≡ slice_set c.self.inside.jobs.items c.args.filing.place (changed c.args.filing.change safe.job) = filed c.self.inside.jobs.items c.go_ahead.new.jobs.items c.settle.new.jobs.items c.args.filing.place c.args.filing.change c.in_ok-snapshot.snapshot safe.job c.in_ok-snapshot.ensures.ok safe.at c.settle.ensures in
    subst (λ (js : List Job). IsWorld c.self.inside.workload c.self.inside.src c.self.inside.dst c.self.inside.versions (record old { jobs = js; place = c.next_place-self-inside.result; tickets = c.self.inside.tickets + 1; files = g.V.Vault.files c.put.new.self })) (sym jobs)
    (put_world c.self.inside.workload c.self.inside.src c.self.inside.dst c.self.inside.versions old c.args.filing c.next_place-self-inside.result (g.V.Vault.files c.put.new.self) c.self.invariant plan safe (c.next_place-self-inside.ensures room) files)

pub returns-in-Ok-clause-step : goal.returns-in-Ok-clause-step
returns-in-Ok-clause-step g c =
    let old : State = state_of c.self.inside.clients.items c.self.inside.src c.self.inside.dst c.self.inside.versions (record { jobs = c.self.inside.jobs.items; place = c.self.inside.place; tickets = c.self.inside.tickets; crew = c.self.inside.crew }) (g.V.Vault.files c.self.inside.vault) in
    let plan = subst (λ (seen : Seen). IsPlan seen.workload seen.state (plans.Put c.args.filing)) (sym c.self.view_is) c.requires.plan in
    let safe = subst (λ (seen : Seen). IsSafe seen.state (plans.Put c.args.filing)) (sym c.self.view_is) c.requires.safe in
    let room = subst (λ (n : ℕ). c.self.inside.place < n) (sym c.len.ensures) (subst (λ (seen : Seen). seen.state.place < length seen.workload.operator) (sym c.self.view_is) c.requires.room) in
    let files = put_files c.args.filing.whole c.as_slice.result.now (g.V.Vault.files c.self.inside.vault) (g.V.Vault.files c.put.new.self) c.in-Ok.ensures.put c.put.ensures.silent ∙ ap (λ (b : Bytes). with_put c.args.filing.whole b (g.V.Vault.files c.self.inside.vault)) c.as_slice.ensures.same in
    let jobs : c.settle.new.jobs.items ≡ slice_set c.self.inside.jobs.items c.args.filing.place (changed c.args.filing.change safe.job) = filed c.self.inside.jobs.items c.go_ahead.new.jobs.items c.settle.new.jobs.items c.args.filing.place c.args.filing.change c.in_ok-snapshot.snapshot safe.job c.in_ok-snapshot.ensures.ok safe.at c.settle.ensures in
    let new : State = record old { jobs = c.settle.new.jobs.items; place = c.next_place-self-inside.result; tickets = c.self.inside.tickets + 1; files = g.V.Vault.files c.put.new.self } in (
      Fine Silent,
      subst (λ (seen : Seen). step seen.workload seen.state events.Command (Fine Silent) ≡ moved (Ok (answers.Placed c.args.filing.whole)) new) c.self.view_is
          (put_done c.self.inside.workload old c.args.filing c.next_place-self-inside.result (g.V.Vault.files c.put.new.self) plan safe (c.next_place-self-inside.ensures room) files
          ∙ ap (λ (js : List Job). moved (Ok (answers.Placed c.args.filing.whole)) (record old { jobs = js; place = c.next_place-self-inside.result; tickets = c.self.inside.tickets + 1; files = g.V.Vault.files c.put.new.self })) (sym jobs)),
    )

pub invariant_of-self-in-Err-Failed : goal.invariant_of-self-in-Err-Failed
invariant_of-self-in-Err-Failed g c =
    let old : State = state_of c.self.inside.clients.items c.self.inside.src c.self.inside.dst c.self.inside.versions (record { jobs = c.self.inside.jobs.items; place = c.self.inside.place; tickets = c.self.inside.tickets; crew = c.self.inside.crew }) (g.V.Vault.files c.self.inside.vault) in
    let plan = subst (λ (seen : Seen). IsPlan seen.workload seen.state (plans.Put c.args.filing)) (sym c.self.view_is) c.requires.plan in
    let safe = subst (λ (seen : Seen). IsSafe seen.state (plans.Put c.args.filing)) (sym c.self.view_is) c.requires.safe in
    let files = subst (λ (b : Bytes). (g.V.Vault.files c.put.new.self ≡ g.V.Vault.files c.self.inside.vault) ⊎ (g.V.Vault.files c.put.new.self ≡ with_put c.args.filing.whole b (g.V.Vault.files c.self.inside.vault))) c.as_slice.ensures.same (failed_files c.args.filing.whole c.as_slice.result.now (g.V.Vault.files c.self.inside.vault) (g.V.Vault.files c.put.new.self) (c.put.ensures.failed (c.in-Err-Failed.is ∙ ap Err c.in-Err-Failed.field-0-is)) c.put.ensures.silent) in
    let jobs : c.take_back.new.jobs.items ≡ c.self.inside.jobs.items = unfiled c.self.inside.jobs.items c.go_ahead.new.jobs.items c.take_back.new.jobs.items c.args.filing.place c.args.filing.change c.in_ok-snapshot.snapshot c.in_ok-snapshot.ensures.ok c.take_back.ensures in
    subst (λ (js : List Job). IsWorld c.self.inside.workload c.self.inside.src c.self.inside.dst c.self.inside.versions (record old { jobs = js; files = g.V.Vault.files c.put.new.self })) (sym jobs)
    (failed_world c.self.inside.workload c.self.inside.src c.self.inside.dst c.self.inside.versions old c.args.filing (g.V.Vault.files c.put.new.self) c.self.invariant plan safe files)

pub returns-in-Err-Failed-clause-step : goal.returns-in-Err-Failed-clause-step
returns-in-Err-Failed-clause-step g c =
    let old : State = state_of c.self.inside.clients.items c.self.inside.src c.self.inside.dst c.self.inside.versions (record { jobs = c.self.inside.jobs.items; place = c.self.inside.place; tickets = c.self.inside.tickets; crew = c.self.inside.crew }) (g.V.Vault.files c.self.inside.vault) in
    let plan = subst (λ (seen : Seen). IsPlan seen.workload seen.state (plans.Put c.args.filing)) (sym c.self.view_is) c.requires.plan in
    let safe = subst (λ (seen : Seen). IsSafe seen.state (plans.Put c.args.filing)) (sym c.self.view_is) c.requires.safe in
    let files = subst (λ (b : Bytes). (g.V.Vault.files c.put.new.self ≡ g.V.Vault.files c.self.inside.vault) ⊎ (g.V.Vault.files c.put.new.self ≡ with_put c.args.filing.whole b (g.V.Vault.files c.self.inside.vault))) c.as_slice.ensures.same (failed_files c.args.filing.whole c.as_slice.result.now (g.V.Vault.files c.self.inside.vault) (g.V.Vault.files c.put.new.self) (c.put.ensures.failed (c.in-Err-Failed.is ∙ ap Err c.in-Err-Failed.field-0-is)) c.put.ensures.silent) in
    let jobs : c.take_back.new.jobs.items ≡ c.self.inside.jobs.items = unfiled c.self.inside.jobs.items c.go_ahead.new.jobs.items c.take_back.new.jobs.items c.args.filing.place c.args.filing.change c.in_ok-snapshot.snapshot c.in_ok-snapshot.ensures.ok c.take_back.ensures in
    let new : State = record old { jobs = c.take_back.new.jobs.items; files = g.V.Vault.files c.put.new.self } in
    let s = failed_step c.self.inside.workload old c.args.filing (g.V.Vault.files c.put.new.self) plan safe files in (
      s.0,
      subst (λ (seen : Seen). step seen.workload seen.state events.Command s.0 ≡ moved (Err VaultFault) new) c.self.view_is
          (s.1 ∙ ap (λ (js : List Job). moved (Err VaultFault) (record old { jobs = js; files = g.V.Vault.files c.put.new.self })) (sym jobs)),
    )

pub invariant_of-self : goal.invariant_of-self
invariant_of-self g c =
    let old : State = state_of c.self.inside.clients.items c.self.inside.src c.self.inside.dst c.self.inside.versions (record { jobs = c.self.inside.jobs.items; place = c.self.inside.place; tickets = c.self.inside.tickets; crew = c.self.inside.crew }) (g.V.Vault.files c.self.inside.vault) in
    subst (λ (js : List Job). IsWorld c.self.inside.workload c.self.inside.src c.self.inside.dst c.self.inside.versions (record old { jobs = js })) (sym c.in_err-snapshot.ensures.err) c.self.invariant

pub settle-requires-clause-at : goal.settle-requires-clause-at
settle-requires-clause-at g c =
    (_, ahead_there c.self.inside.jobs.items c.args.filing.place c.args.filing.change c.in_ok-snapshot.snapshot c.go_ahead.new.jobs.items c.in_ok-snapshot.ensures.ok)

pub take_back-requires : goal.take_back-requires
take_back-requires g c = record { at = (_, ahead_there c.self.inside.jobs.items c.args.filing.place c.args.filing.change c.in_ok-snapshot.snapshot c.go_ahead.new.jobs.items c.in_ok-snapshot.ensures.ok) }

pub take_back-requires-in-Err-NoMemory : goal.take_back-requires-in-Err-NoMemory
take_back-requires-in-Err-NoMemory g c = record { at = (_, ahead_there c.self.inside.jobs.items c.args.filing.place c.args.filing.change c.in_ok-snapshot.snapshot c.go_ahead.new.jobs.items c.in_ok-snapshot.ensures.ok) }

pub invariant_of-self-in-Err-NoMemory : goal.invariant_of-self-in-Err-NoMemory
invariant_of-self-in-Err-NoMemory g c =
    let old : State = state_of c.self.inside.clients.items c.self.inside.src c.self.inside.dst c.self.inside.versions (record { jobs = c.self.inside.jobs.items; place = c.self.inside.place; tickets = c.self.inside.tickets; crew = c.self.inside.crew }) (g.V.Vault.files c.self.inside.vault) in
    let jobs : c.take_back-in-Err-NoMemory.new.jobs.items ≡ c.self.inside.jobs.items = unfiled c.self.inside.jobs.items c.go_ahead.new.jobs.items c.take_back-in-Err-NoMemory.new.jobs.items c.args.filing.place c.args.filing.change c.in_ok-snapshot.snapshot c.in_ok-snapshot.ensures.ok c.take_back-in-Err-NoMemory.ensures in
    let files : g.V.Vault.files c.put.new.self ≡ g.V.Vault.files c.self.inside.vault = c.put.ensures.no_memory (c.in-Err-NoMemory.is ∙ ap Err c.in-Err-NoMemory.field-0-is) in
    subst (λ (js : List Job). IsWorld c.self.inside.workload c.self.inside.src c.self.inside.dst c.self.inside.versions (record old { jobs = js; files = g.V.Vault.files c.put.new.self })) (sym jobs)
    (subst (λ (fs : Option (List File)). IsWorld c.self.inside.workload c.self.inside.src c.self.inside.dst c.self.inside.versions (record old { files = fs })) (sym files) c.self.invariant)

pub returns-clause-step : goal.returns-clause-step
returns-clause-step g c =
    let old : State = state_of c.self.inside.clients.items c.self.inside.src c.self.inside.dst c.self.inside.versions (record { jobs = c.self.inside.jobs.items; place = c.self.inside.place; tickets = c.self.inside.tickets; crew = c.self.inside.crew }) (g.V.Vault.files c.self.inside.vault) in
    let jobs : c.take_back-in-Err-NoMemory.new.jobs.items ≡ c.self.inside.jobs.items = unfiled c.self.inside.jobs.items c.go_ahead.new.jobs.items c.take_back-in-Err-NoMemory.new.jobs.items c.args.filing.place c.args.filing.change c.in_ok-snapshot.snapshot c.in_ok-snapshot.ensures.ok c.take_back-in-Err-NoMemory.ensures in
    let files : g.V.Vault.files c.put.new.self ≡ g.V.Vault.files c.self.inside.vault = c.put.ensures.no_memory (c.in-Err-NoMemory.is ∙ ap Err c.in-Err-NoMemory.field-0-is) in
    let new : State = record old { jobs = c.take_back-in-Err-NoMemory.new.jobs.items; files = g.V.Vault.files c.put.new.self } in (
      Starved,
      subst (λ (seen : Seen). step seen.workload seen.state events.Command Starved ≡ moved (Err NoMemory) new) c.self.view_is
          (ap (λ (fs : Option (List File)). moved (Err NoMemory) (record old { files = fs })) (sym files)
          ∙ ap (λ (js : List Job). moved (Err NoMemory) (record old { jobs = js; files = g.V.Vault.files c.put.new.self })) (sym jobs)),
    )

pub returns-in_err-snapshot-clause-step : goal.returns-in_err-snapshot-clause-step
returns-in_err-snapshot-clause-step g c =
    let old : State = state_of c.self.inside.clients.items c.self.inside.src c.self.inside.dst c.self.inside.versions (record { jobs = c.self.inside.jobs.items; place = c.self.inside.place; tickets = c.self.inside.tickets; crew = c.self.inside.crew }) (g.V.Vault.files c.self.inside.vault) in
    let same : record old { jobs = c.go_ahead.new.jobs.items } ≡ old = ap (λ (js : List Job). record old { jobs = js }) c.in_err-snapshot.ensures.err in
    let p = err_from_is_err_and c.from_residual.result c.from_residual.ensures.1 in
    starved_step c.args.self.now.workload c.args.self.now.state (record old { jobs = c.go_ahead.new.jobs.items }) c.from_residual.result (p.1 ∙ ap Err p.2) (same ∙ ap (λ (s : Seen). s.state) c.self.view_is)

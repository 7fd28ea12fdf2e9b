use Rattle.std.proofs.Common.{◌≡◌, ◌++◌, length, take, drop, Ok, ap, subst, ◌∙◌}
use Rattle.cluster_core.specs.Moves.{moved}
use Rattle.cluster_core.specs.State.{State}
use Rattle.cluster_core.specs.events.Commit.{commit}
use Rattle.cluster_core.specs.World.{Seen}
use Rattle.cluster_core.specs.inner.World.{Desk, state_of}
use Rattle.workload_text.specs.declared.Side.TheVariants.{Src, Dst}
use Rattle.cluster_core.proofs.Worlds.{commit_leaves_world, commit_done, commit_refused}
use Rattle.cluster_core.proofs.world.World.commit.Goals as goal

pub invariant_of-self : goal.invariant_of-self
invariant_of-self g c = commit_leaves_world c.self.inside.workload c.self.inside.src c.self.inside.dst c.commit_client.new.src c.commit_client.new.dst c.self.inside.versions c.commit_client.new.versions (record { jobs = c.self.inside.jobs.items; place = c.self.inside.place; tickets = c.self.inside.tickets; crew = c.self.inside.crew }) (g.V.Vault.files c.self.inside.vault) c.self.inside.clients.items c.deref_mut.result.now c.commit_client.new.clients c.self.inside.clients.len c.args.number c.commit_client.result c.self.invariant c.deref_mut.ensures.value c.self.inside.clients.ok.0 c.commit_client.auto.clients c.commit_client.ensures.blocks c.commit_client.ensures.logs c.commit_client.ensures.pace (c.commit_client.ensures.src_oldest, c.commit_client.ensures.dst_oldest) c.commit_client.ensures.ok c.commit_client.ensures.err

pub invariant_of-self-2 : goal.invariant_of-self-2
invariant_of-self-2 g c = commit_leaves_world c.self.inside.workload c.self.inside.src c.self.inside.dst c.commit_client.new.src c.commit_client.new.dst c.self.inside.versions c.commit_client.new.versions (record { jobs = c.self.inside.jobs.items; place = c.self.inside.place; tickets = c.self.inside.tickets; crew = c.self.inside.crew }) (g.V.Vault.files c.self.inside.vault) c.self.inside.clients.items c.deref_mut.result.now c.commit_client.new.clients c.self.inside.clients.len c.args.number c.commit_client.result c.self.invariant c.deref_mut.ensures.value c.self.inside.clients.ok.0 c.commit_client.auto.clients c.commit_client.ensures.blocks c.commit_client.ensures.logs c.commit_client.ensures.pace (c.commit_client.ensures.src_oldest, c.commit_client.ensures.dst_oldest) c.commit_client.ensures.ok c.commit_client.ensures.err

pub commit_client-requires-clause-src : goal.commit_client-requires-clause-src
commit_client-requires-clause-src g c = (c.self.invariant.sound.databases.histories Src).past

pub commit_client-requires-clause-dst : goal.commit_client-requires-clause-dst
commit_client-requires-clause-dst g c = (c.self.invariant.sound.databases.histories Dst).past

pub returns-clause-step : goal.returns-clause-step
returns-clause-step g c =
    let desk : Desk = record { jobs = c.self.inside.jobs.items; place = c.self.inside.place; tickets = c.self.inside.tickets; crew = c.self.inside.crew } in
    let files = g.V.Vault.files c.self.inside.vault in
    let new : State = state_of (take c.self.inside.clients.len (c.commit_client.new.clients ++ drop (length c.commit_client.new.clients) c.self.inside.clients.items)) c.commit_client.new.src c.commit_client.new.dst c.commit_client.new.versions desk files in
    subst (λ (seen : Seen). commit seen.workload.settings seen.state c.args.number ≡ moved (Ok c.in-Ok.answer) new) c.self.view_is
    (commit_done c.self.inside.workload c.self.inside.src c.self.inside.dst c.commit_client.new.src c.commit_client.new.dst c.self.inside.versions c.commit_client.new.versions desk files c.self.inside.clients.items c.deref_mut.result.now c.commit_client.new.clients c.self.inside.clients.len c.args.number c.in-Ok.answer c.self.invariant c.deref_mut.ensures.value c.self.inside.clients.ok.0 c.commit_client.auto.clients c.in-Ok.ensures.ok)

pub returns-in-Err-clause-step : goal.returns-in-Err-clause-step
returns-in-Err-clause-step g c =
    let desk : Desk = record { jobs = c.self.inside.jobs.items; place = c.self.inside.place; tickets = c.self.inside.tickets; crew = c.self.inside.crew } in (
      c.in-Err.ensures.fault,
      commit_refused c.self.inside.src c.self.inside.dst c.commit_client.new.src c.commit_client.new.dst c.self.inside.versions c.commit_client.new.versions desk (g.V.Vault.files c.self.inside.vault) c.self.inside.clients.items c.deref_mut.result.now c.commit_client.new.clients c.self.inside.clients.len c.deref_mut.ensures.value c.self.inside.clients.ok.0 c.commit_client.auto.clients c.in-Err.ensures.err
          ∙ ap (λ (seen : Seen). seen.state) c.self.view_is,
    )

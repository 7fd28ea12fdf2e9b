-- What the agents' part of the world does, as the events of agents.
use Rattle.std.specs.Prelude.{◌≡◌, ℕ, ◌+◌, Bool, true, false, ◌||◌, List, [], ◌∷◌, Option, Some, None, Result, Ok, Err, ◌⊎◌, IfOk, OnErr, slice_set, if◌then◌else◌, refl}
use Rattle.std.specs.declared.alloc.AllocError.{AllocError}
use Rattle.std.proofs.Common.{ap, sym, ◌∙◌, subst, inl, inr}
use Rattle.fb_outside.specs.declared.File.{File}
use Rattle.versioned_kv.specs.declared.Versions.{Versions}
use Rattle.task_bucket.specs.declared.Lease.{Lease}
use Rattle.task_bucket.specs.declared.LeaseFault.{LeaseFault}
use Rattle.task_bucket.specs.declared.LeaseFault.TheVariants as faults
use Rattle.task_bucket.specs.Lists.{Lists, any_of, is_lease, is_leased}
use Rattle.task_bucket.specs.Leases.{retimed, extended_in, extended, after_extend}
use Rattle.workload_text.specs.declared.Settings.{Settings}
use Rattle.workload_text.specs.declared.Workload.{Workload}
use Rattle.database.specs.Commits.{Database}
use Rattle.client_core.specs.Clients.{ClientState}
use Rattle.cluster_core.specs.declared.event.Answer.{Answer}
use Rattle.cluster_core.specs.declared.event.Answer.TheVariants.{Until, Interrupted}
use Rattle.cluster_core.specs.declared.event.Event.{Event}
use Rattle.cluster_core.specs.declared.event.StepFault.{StepFault}
use Rattle.cluster_core.specs.declared.event.StepFault.TheVariants.{NoMemory}
use Rattle.cluster_core.specs.Agents.{Memory, memory_at}
use Rattle.cluster_core.specs.State.{State}
use Rattle.cluster_core.specs.Moves.{Fine, Silent, Moved, moved}
use Rattle.cluster_core.specs.Sound.{Sound}
use Rattle.cluster_core.specs.Step.{event_gives}
use Rattle.cluster_core.specs.events.Extend.{extend, extend_lease, extend_with}
use Rattle.cluster_core.specs.inner.Crew.{Crew}
use Rattle.cluster_core.specs.inner.Crewed.{with_crew, Crews, Extends}
use Rattle.cluster_core.specs.inner.World.{Desk, state_of, IsWorld, AgentSteps}
use Rattle.cluster_core.proofs.Relied.{known}
use Rattle.cluster_core.proofs.Steps.{event_keeps}

-- ---- an extend

-- what the agents' part knows of an extend: the memory that it found, and its lease
pub record IsHeld (agent : ℕ) (old : Crew) (memory : Memory) (held : Lease) : Type 0 where
  pub seen : List (Option Memory)
  pub seen_is : seen ≡ old.agents
  pub found : Option Memory
  pub found_is : found ≡ memory_at seen agent
  pub some : found ≡ Some memory
  pub lease : held ≡ memory.lease

held_at : (agent : ℕ) (old : Crew) (memory : Memory) (held : Lease) → IsHeld agent old memory held → memory_at old.agents agent ≡ Some memory
held_at agent old memory held h = ap (λ (xs : List (Option Memory)). memory_at xs agent) (sym h.seen_is) ∙ sym h.found_is ∙ h.some

extend_done : (s : Settings) (w : State) (agent : ℕ) (memory : Memory) (lease : Lease) → memory_at w.agents agent ≡ Some memory → extended memory.lease (w.time + s.lease) w.bucket ≡ Some lease → extend s w agent ≡ moved (Ok (Until (w.time + s.lease))) (record w { bucket = after_extend memory.lease (w.time + s.lease) w.bucket; agents = slice_set w.agents agent (Some (record memory { lease = lease })) })
extend_done s w agent memory lease at is = ap (extend_with s w agent) at ∙ ap (extend_lease s w agent memory) is

pub extends : (agent now length : ℕ) (old : Crew) (memory after : Memory) (held lease : Lease) (bucket : Lists) (agents : List (Option Memory)) → IsHeld agent old memory held → extended held (now + length) old.bucket ≡ Some lease → bucket ≡ after_extend held (now + length) old.bucket → after ≡ record memory { lease = lease } → agents ≡ slice_set old.agents agent (Some after) → Extends agent now length old (Until (now + length)) (record old { bucket = bucket; agents = agents })
extends agent now length old memory after held lease bucket agents h is b m a s w l t =
    let until : w.time + s.lease ≡ now + length = ap (λ (n : ℕ). n + s.lease) t ∙ ap (λ (n : ℕ). now + n) l in
    extend_done s (with_crew old w) agent memory lease (held_at agent old memory held h) (ap (λ (n : ℕ). extended memory.lease n old.bucket) until ∙ ap (λ (x : Lease). extended x (now + length) old.bucket) (sym h.lease) ∙ is)
    ∙ ap (λ (n : ℕ). moved (Ok (Until n)) (record (with_crew old w) { bucket = after_extend memory.lease n old.bucket; agents = slice_set old.agents agent (Some (record memory { lease = lease })) })) until
    ∙ ap (λ (x : Lists). moved (Ok (Until (now + length))) (record (with_crew old w) { bucket = x; agents = slice_set old.agents agent (Some (record memory { lease = lease })) })) (ap (λ (x : Lease). after_extend x (now + length) old.bucket) (sym h.lease) ∙ sym b)
    ∙ ap (λ (xs : List (Option Memory)). moved (Ok (Until (now + length))) (record (with_crew old w) { bucket = bucket; agents = xs })) (ap (λ (x : Memory). slice_set old.agents agent (Some x)) (sym m) ∙ sym a)

-- a lease that isn't held isn't extended
not_extended : (until uid new : ℕ) (leases : List Lease) → any_of (is_lease until uid) leases ≡ false → extended_in until uid new leases ≡ None
not_extended until uid new [] h = refl
not_extended until uid new (l ∷ ls) h = go (is_lease until uid l) h (not_extended until uid new ls)
  where
    go : (b : Bool) → (b || any_of (is_lease until uid) ls) ≡ false → (any_of (is_lease until uid) ls ≡ false → extended_in until uid new ls ≡ None) → (if b then Some (retimed new l) else extended_in until uid new ls) ≡ None
    go true q rest = cc
    go false q rest = rest q

pub extend_gone : (agent now length uid : ℕ) (old : Crew) (memory : Memory) (held : Lease) (bucket : Lists) (fault : LeaseFault) → IsHeld agent old memory held → (fault ≡ faults.Interrupted held.uid → is_leased held.until held.uid old.bucket ≡ false) → (fault ≡ faults.Interrupted held.uid) ⊎ (fault ≡ faults.NoMemory) → fault ≡ faults.Interrupted uid → bucket ≡ old.bucket → Extends agent now length old (Interrupted held.uid) (record old { bucket = bucket })
extend_gone agent now length uid old memory held bucket fault h gone (inr e) f b s w l t = let q = sym f ∙ e in cc
extend_gone agent now length uid old memory held bucket fault h gone (inl e) f b s w l t =
    ap (extend_with s (with_crew old w) agent) (held_at agent old memory held h)
    ∙ ap (extend_lease s (with_crew old w) agent memory) (ap (λ (x : Lease). extended x (w.time + s.lease) old.bucket) (sym h.lease) ∙ not_extended held.until held.uid (w.time + s.lease) old.bucket.leased (gone e))
    ∙ ap (λ (n : ℕ). moved (Ok (Interrupted n)) (with_crew old w)) (ap (λ (x : Lease). x.uid) (sym h.lease))
    ∙ ap (λ (x : Lists). moved (Ok (Interrupted held.uid)) (record (with_crew old w) { bucket = x })) (sym b)

-- ---- an event of an agent is a step of the world

-- it leaves a world
pub agent_world : (p : Workload) (clients : List ClientState) (src dst : Database) (v : Versions) (desk : Desk) (files : Option (List File)) (e : Event) (new : Crew) (answer : Answer) → event_gives p (state_of clients src dst v desk files) (Fine Silent) e ≡ moved (Ok answer) (state_of clients src dst v (record desk { crew = new }) files) → IsWorld p src dst v (state_of clients src dst v desk files) → IsWorld p src dst v (state_of clients src dst v (record desk { crew = new }) files)
agent_world p clients src dst v desk files e new answer done h = record {
  src_block = h.src_block;
  dst_block = h.dst_block;
  pace = h.pace;
  src_oldest = h.src_oldest;
  dst_oldest = h.dst_oldest;
  src_logs = h.src_logs;
  dst_logs = h.dst_logs;
  sound = subst (λ (m : Moved). Sound p m.state) done (event_keeps known p (state_of clients src dst v desk files) (Fine Silent) e h.sound);
}

-- whatever comes of it
pub agent_leaves : (p : Workload) (clients : List ClientState) (src dst : Database) (v : Versions) (desk : Desk) (files : Option (List File)) (event : Settings → State → Moved) (e : Event) (new : Crew) (result : Result Answer AllocError) → ((w : State) → event_gives p w (Fine Silent) e ≡ event p.settings w) → IfOk result (λ answer. Crews event v.now p.settings.lease desk.crew answer new) → OnErr result (new ≡ desk.crew) → IsWorld p src dst v (state_of clients src dst v desk files) → IsWorld p src dst v (state_of clients src dst v (record desk { crew = new }) files)
agent_leaves p clients src dst v desk files event e new (Ok answer) is ok err h = agent_world p clients src dst v desk files e new answer (is (state_of clients src dst v desk files) ∙ ok p.settings (state_of clients src dst v desk files) refl refl) h
agent_leaves p clients src dst v desk files event e new (Err fault) is ok err h = subst (λ (x : Crew). IsWorld p src dst v (state_of clients src dst v (record desk { crew = x }) files)) (sym err) h

pub agent_answered : (p : Workload) (clients : List ClientState) (src dst : Database) (v : Versions) (desk : Desk) (files : Option (List File)) (event : Settings → State → Moved) (e : Event) (new : Crew) (answer : Answer) (told : Result Answer StepFault) → ((w : State) → event_gives p w (Fine Silent) e ≡ event p.settings w) → told ≡ Ok answer → Crews event v.now p.settings.lease desk.crew answer new → AgentSteps p (state_of clients src dst v desk files) e told (state_of clients src dst v (record desk { crew = new }) files)
agent_answered p clients src dst v desk files event e new answer told is t ok = subst (λ (r : Result Answer StepFault). AgentSteps p (state_of clients src dst v desk files) e r (state_of clients src dst v (record desk { crew = new }) files)) (sym t) (is (state_of clients src dst v desk files) ∙ ok p.settings (state_of clients src dst v desk files) refl refl)

pub agent_starved : (p : Workload) (clients : List ClientState) (src dst : Database) (v : Versions) (desk : Desk) (files : Option (List File)) (e : Event) (new : Crew) (told : Result Answer StepFault) → told ≡ Err NoMemory → new ≡ desk.crew → AgentSteps p (state_of clients src dst v desk files) e told (state_of clients src dst v (record desk { crew = new }) files)
agent_starved p clients src dst v desk files e new told t same = subst (λ (r : Result Answer StepFault). AgentSteps p (state_of clients src dst v desk files) e r (state_of clients src dst v (record desk { crew = new }) files)) (sym t) (refl, ap (λ (x : Crew). state_of clients src dst v (record desk { crew = x }) files) same)

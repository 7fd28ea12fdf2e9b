-- The event begin.
use Rattle.std.specs.Prelude.{◌≡◌, ℕ, List, Option, Some, None, refl}
use Rattle.std.proofs.Common.{arith, inl}
use Rattle.fb_bytes.specs.Options.{◌>>=◌}
use Rattle.workload_text.specs.declared.Workload.{Workload}
use Rattle.client_core.specs.Clients.{ClientState, begun_client, next_ops}
use Rattle.cluster_core.specs.State.{State, client_at, put_client}
use Rattle.cluster_core.specs.events.Begin.{begin_with}
use Rattle.mutations.specs.declared.TxOp.{TxOp}
use Rattle.std.specs.Prelude.{◌≡◌, ℕ, List, Option, Some, None, refl}
use Rattle.std.proofs.Common.{ap, ◌∙◌, arith}
use Rattle.client_core.specs.Clients.{ClientState, begun_at, begun_client, next_ops}
use Rattle.cluster_core.specs.State.{State, client_at, put_client}
use Rattle.client_core.proofs.Relied.{begin_law}
use Rattle.cluster_core.specs.Sound.{IsClientSound, Sound, ground_of}
use Rattle.cluster_core.proofs.Lists.{scripts_put, each_put}
use Rattle.cluster_core.proofs.Touching.{Touches, same}

pub begin_touches : (pace : ℕ) (w : State) (n : ℕ) (o : Option ClientState) → Touches pace w (begin_with w n o)
begin_touches pace w n None = same pace w _
begin_touches pace w n (Some client) = record { starved = λ e. cc; since = omega arith; upto = omega arith; src = inl refl; dst = inl refl; sides = inl refl; jobs = inl refl; files = inl refl }

-- one client begins, and all else stands
begun_keeps : (p : Workload) (w : State) (n : ℕ) (c : ClientState) → client_at w.clients n ≡ Some c → begun_client w.time c ≡ Some (record c { begun = Some w.time }) → Sound p w → Sound p (record w { clients = put_client w.clients n (record c { begun = Some w.time }) })
begun_keeps p w n c at is h = record {
  clock = h.clock;
  databases = h.databases;
  clients = record {
    scripts_are = scripts_put w.clients n c (record c { begun = Some w.time }) at refl ∙ h.clients.scripts_are;
    each = each_put (λ m d. IsClientSound p.settings w.time w.jobs w.src w.dst m d) w.clients n c (record c { begun = Some w.time }) at
        (let k = h.clients.each n c at in record { sound = begin_law (ground_of p.settings c.script.side w.jobs w.src w.dst) w.time n c (record c { begun = Some w.time }) k.sound is; apart = k.apart })
        (λ m d _ e. h.clients.each m d e);
  };
  jobs = h.jobs;
  agents = h.agents;
  containers = h.containers;
}

begin_keeps : (p : Workload) (w : State) (n : ℕ) (c : ClientState) (begun : Option ℕ) (ops : Option (List TxOp)) → client_at w.clients n ≡ Some c → c.begun ≡ begun → next_ops c ≡ ops → Sound p w → Sound p (begin_with w n (begun_at w.time c begun ops)).state
begin_keeps p w n c None (Some ops) at b o h = begun_keeps p w n c at (ap (λ (x : Option ℕ). begun_at w.time c x (next_ops c)) b ∙ ap (begun_at w.time c None) o) h
begin_keeps p w n c None None at b o h = h
begin_keeps p w n c (Some read) ops at b o h = h

pub begin_of_keeps : (p : Workload) (w : State) (n : ℕ) (o : Option ClientState) → client_at w.clients n ≡ o → Sound p w → Sound p (begin_with w n (o >>= begun_client w.time)).state
begin_of_keeps p w n None at h = h
begin_of_keeps p w n (Some c) at h = begin_keeps p w n c c.begun (next_ops c) at refl refl h

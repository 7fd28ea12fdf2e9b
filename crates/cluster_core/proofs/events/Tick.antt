-- The event tick.
use Rattle.std.specs.Prelude.{◌≡◌, ℕ, ◌+◌, ◌≤◌, Bool, true, false, Ok, Err, nat_lt, refl}
use Rattle.std.proofs.Common.{arith, inl, cond}
use Rattle.std.proofs.lemmas.Bool.{ltb-false}
use Rattle.mutations.specs.declared.Entry.{Entry}
use Rattle.workload_text.specs.declared.Workload.{Workload}
use Rattle.database.specs.Commits.{most_version}
use Rattle.cluster_core.specs.declared.event.Answer.TheVariants.{Version}
use Rattle.cluster_core.specs.declared.event.StepFault.TheVariants.{VersionsSpent}
use Rattle.cluster_core.specs.declared.job.Job.TheVariants as types
use Rattle.cluster_core.specs.State.{State, history_on}
use Rattle.cluster_core.specs.Moves.{moved}
use Rattle.cluster_core.specs.events.Tick.{tick}
use Rattle.cluster_core.specs.Sound.{Sound}
use Rattle.client_core.proofs.Lists.{All-weaker}
use Rattle.cluster_core.proofs.Grown.{each_sound, each_kept, job_grown, stored_grown, waits}
use Rattle.cluster_core.proofs.Holding.{agents_later}
use Rattle.cluster_core.proofs.Known.{Known}
use Rattle.cluster_core.proofs.Touching.{Touches, same}
use Rattle.cluster_core.proofs.Waiting.{no_more, clients_wait}

pub tick_touches : (w : State) (n : ℕ) → Touches n w (tick w n)
tick_touches w n = go (nat_lt most_version (w.time + n))
  where
    go : (b : Bool) → Touches n w (cond b (moved (Err (VersionsSpent w.time)) w) (moved (Ok (Version (w.time + n))) (record w { time = w.time + n })))
    go true = same n w _
    go false = record { starved = λ e. cc; since = omega arith; upto = omega arith; src = inl refl; dst = inl refl; sides = inl refl; jobs = inl refl; files = inl refl }

-- time goes on, and all else stands
pub sound_later : (k : Known) (p : Workload) (w : State) (later : ℕ) → w.time ≤ later → later ≤ most_version → Sound p w → Sound p (record w { time = later })
sound_later k p w later le m h = record {
  clock = record { bound = m; tickets = h.clock.tickets };
  databases = record {
    histories = λ t. let q = h.databases.histories t in record { rising = q.rising; past = All-weaker (λ (x : Entry). x.version ≤ w.time) (λ (x : Entry). x.version ≤ later) (history_on t w) (λ x r. omega arith) q.past };
    within = h.databases.within;
  };
  clients = clients_wait p.settings p.clients w.time later w.jobs w.jobs w.src w.dst w.clients le (no_more w.jobs w.jobs (λ side. refl)) h.clients;
  jobs = record {
    each = each_sound p.settings.block later w.tickets w.src w.dst w.jobs (λ n x e. let j = h.jobs.each n (types.Backup x) e in job_grown p.settings.block w.time later w.tickets w.tickets (history_on x.side w) (history_on x.side w) x le (itself w.tickets) j.logged j);
    apart = h.jobs.apart;
    numbered = h.jobs.numbered;
  };
  agents = agents_later k p.settings.agents w.time later w.uids w.bucket w.agents w.jobs le h.agents;
  containers = λ files e.
      let s = h.containers files e in
      record { ordered = s.ordered; each = each_kept p.settings.block later w.tickets w.src w.dst files w.jobs (λ n x f. stored_grown k p.settings.block w.time later w.tickets w.tickets (history_on x.side w) (history_on x.side w) files x (waits p.settings.block w.time later (history_on x.side w) x le) (itself w.tickets) (s.each n (types.Backup x) f)) };
}
  where
    itself : (n : ℕ) → n ≤ n
    itself n = omega arith

pub tick_keeps : (k : Known) (p : Workload) (w : State) (n : ℕ) → Sound p w → Sound p (tick w n).state
tick_keeps k p w n h = go (nat_lt most_version (w.time + n)) refl
  where
    go : (b : Bool) → nat_lt most_version (w.time + n) ≡ b → Sound p (cond b (moved (Err (VersionsSpent w.time)) w) (moved (Ok (Version (w.time + n))) (record w { time = w.time + n }))).state
    go true e = h
    go false e = sound_later k p w (w.time + n) (let l : w.time ≤ w.time + n = omega arith in l) (ltb-false most_version (w.time + n) e) h

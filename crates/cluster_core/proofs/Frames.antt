-- The ways in which a step of the operator changes a state, each of which keeps what is sound.
use Rattle.std.specs.Prelude.{◌≡◌, ℕ, ◌+◌, ◌≤◌, Bool, true, false, List, Option, Some, None, slice_get, slice_set, refl}
use Rattle.std.specs.List.{AllByRecursion}
use Rattle.std.proofs.Common.{ap, sym, ◌∙◌, inl, inr, arith, subst}
use Rattle.fb_bytes.specs.Bytes.{Bytes, is_same}
use Rattle.fb_outside.specs.declared.File.{File}
use Rattle.fb_outside.specs.Files.{file_of, with_file}
use Rattle.file_names.specs.Reading.{name_of}
use Rattle.container_view.specs.Contents.{file_grammars}
use Rattle.container_view.specs.Files.{whole_name}
use Rattle.container_view.specs.Honest.{IsHonestFile, listed_by}
use Rattle.workload_text.specs.declared.Workload.{Workload}
use Rattle.database.specs.Commits.{most_version}
use Rattle.task_bucket.specs.Lists.{Lists}
use Rattle.backup_core.specs.Backups.{Terms, BackupJob}
use Rattle.cluster_core.specs.Agents.{Memory}
use Rattle.cluster_core.specs.Jobs.{Job, terms_of}
use Rattle.cluster_core.specs.declared.job.Job.TheVariants as types
use Rattle.cluster_core.specs.Backups.{Backup}
use Rattle.cluster_core.specs.State.{State, history_on, with_job, with_put}
use Rattle.cluster_core.specs.commands.Shared.{gone_on}
use Rattle.cluster_core.specs.Sound.{IsDrawn, BackupSound, IsStored, JobSound, JobStored, AreApart, AgentsSound, AreContainersSound, Sound, view_of, source_of}
use Rattle.cluster_core.proofs.Lists.{get_set_same, get_set_other, same_or_other}
use Rattle.cluster_core.proofs.All.{each_set}
use Rattle.cluster_core.proofs.Known.{Known}
use Rattle.cluster_core.proofs.Holding.{agents_among, fits_set}
use Rattle.cluster_core.proofs.Grown.{each_sound, each_kept, job_grown, stored_grown, waits}
use Rattle.cluster_core.proofs.Waiting.{job_goes_on, clients_wait}
use Rattle.cluster_core.proofs.Puts.{IsFresh, stored_put, stored_elsewhere, fresh_is_spare}

-- ---- the operator goes on

pub sound_gone : (p : Workload) (w : State) → Sound p w → Sound p (gone_on w)
sound_gone p w h = record { clock = h.clock; databases = h.databases; clients = h.clients; jobs = h.jobs; agents = h.agents; containers = h.containers }

-- ---- the bucket and the agents change

pub sound_held : (p : Workload) (w : State) (bucket : Lists) (agents : List (Option Memory)) → AgentsSound p.settings.agents w.time w.uids bucket agents w.jobs → Sound p w → Sound p (record w { bucket = bucket; agents = agents })
sound_held p w bucket agents a h = record { clock = h.clock; databases = h.databases; clients = h.clients; jobs = h.jobs; agents = a; containers = h.containers }

-- ---- agents are paused, or claim again

pub sound_paused : (p : Workload) (w : State) (paused : Bool) → Sound p w → Sound p (record w { paused = paused })
sound_paused p w paused h = record { clock = h.clock; databases = h.databases; clients = h.clients; jobs = h.jobs; agents = h.agents; containers = h.containers }

-- ---- a ticket is drawn

pub sound_drawn : (k : Known) (p : Workload) (w : State) → w.tickets ≤ most_version → Sound p w → Sound p (record w { tickets = w.tickets + 1 })
sound_drawn k p w d h = record {
  clock = record { bound = h.clock.bound; tickets = omega arith };
  databases = h.databases;
  clients = h.clients;
  jobs = record {
    each = each_sound p.settings.block w.time (w.tickets + 1) w.src w.dst w.jobs (λ place job e. let j = h.jobs.each place (types.Backup job) e in job_grown p.settings.block w.time w.time w.tickets (w.tickets + 1) (history_on job.side w) (history_on job.side w) job (same w.time) (more w.tickets) j.logged j);
    apart = h.jobs.apart;
    numbered = h.jobs.numbered;
  };
  agents = h.agents;
  containers = λ files e.
      let s = h.containers files e in
      record { ordered = s.ordered; each = each_kept p.settings.block w.time (w.tickets + 1) w.src w.dst files w.jobs (λ place job at. stored_grown k p.settings.block w.time w.time w.tickets (w.tickets + 1) (history_on job.side w) (history_on job.side w) files job (waits p.settings.block w.time w.time (history_on job.side w) job (same w.time)) (more w.tickets) (s.each place (types.Backup job) at)) };
}
  where
    same : (n : ℕ) → n ≤ n
    same n = omega arith

    more : (n : ℕ) → n ≤ n + 1
    more n = omega arith

-- ---- a file is put

-- what a put into a job's container owes
pub record IsGood (p : Workload) (w : State) (job : Backup) (name bytes : Bytes) (files : List File) : Type 0 where
  pub honest : (st : IsStored p.settings.block w.time w.tickets (history_on job.side w) files job) → IsHonestFile file_grammars (source_of p.settings.block w.time (history_on job.side w) job) st.honest.folder name bytes (name_of name)
  pub lists : (names : List Bytes) → listed_by file_grammars (name_of name) bytes ≡ Some names → AllByRecursion (IsDrawn w.tickets) names

file_put : (whole bytes : Bytes) (o : Option (List File)) (files : List File) → with_put whole bytes o ≡ Some files → (before : List File) × (o ≡ Some before) × (with_file before whole bytes ≡ files)
file_put whole bytes None files e = cc
file_put whole bytes (Some before) files e = (before, refl, some_is (with_file before whole bytes) files e)
  where
    some_is : (a b : List File) → Some a ≡ Some b → a ≡ b
    some_is a b q = cc

stored_each : (k : Known) (p : Workload) (w : State) (place : ℕ) (job : Backup) (name bytes : Bytes) (files : List File) → Sound p w → slice_get w.jobs place ≡ Some (types.Backup job) → IsFresh w.tickets name → AreContainersSound (view_of p.settings.block w) files → IsGood p w job name bytes files → (m : ℕ) (x : Backup) → slice_get w.jobs m ≡ Some (types.Backup x) → IsStored p.settings.block w.time w.tickets (history_on x.side w) (with_file files (whole_name job.container name) bytes) x
stored_each k p w place job name bytes files h at fresh s good m x e =
    elim (same_or_other place m) [
      | inl i ↦
          let same : job ≡ x = some_is job x (sym at ∙ ap (slice_get w.jobs) i ∙ e) in
          let st = s.each place (types.Backup job) at in
          subst (λ (y : Backup). IsStored p.settings.block w.time w.tickets (history_on y.side w) (with_file files (whole_name job.container name) bytes) y) same
          (stored_put k p.settings.block w.time w.tickets (history_on job.side w) files job name bytes s.ordered (fresh_is_spare k p.settings.block w.time w.tickets (history_on job.side w) files job name fresh (h.jobs.each place (types.Backup job) at).noted st) st (good.honest st) good.lists)
      | inr d ↦ stored_elsewhere k p.settings.block w.time w.tickets (history_on x.side w) files x (whole_name job.container name) bytes (k.files.apart job.container x.container name (h.jobs.each place (types.Backup job) at).named (h.jobs.each m (types.Backup x) e).named (not_same job.container x.container (λ t. d (h.jobs.apart place m job x at e t)))) (s.each m (types.Backup x) e)
    ]
  where
    some_is : (a b : Backup) → Some (types.Backup a) ≡ Some (types.Backup b) → a ≡ b
    some_is a b q = cc

    not_same : (a b : Bytes) → (is_same a b ≡ true → ⊥) → is_same a b ≡ false
    not_same a b f = go (is_same a b) refl
      where
        go : (t : Bool) → is_same a b ≡ t → is_same a b ≡ false
        go true q = absurd (f q)
        go false q = q

pub sound_filed : (k : Known) (p : Workload) (w : State) (place : ℕ) (job : Backup) (name bytes : Bytes) → Sound p w → slice_get w.jobs place ≡ Some (types.Backup job) → IsFresh w.tickets name → ((files : List File) → w.files ≡ Some files → IsGood p w job name bytes files) → Sound p (record w { files = with_put (whole_name job.container name) bytes w.files })
sound_filed k p w place job name bytes h at fresh good = record {
  clock = h.clock;
  databases = h.databases;
  clients = h.clients;
  jobs = h.jobs;
  agents = h.agents;
  containers = λ files e.
      let b = file_put (whole_name job.container name) bytes w.files files e in
      let s = h.containers b.0 b.1 in
      subst (λ (fs : List File). AreContainersSound (view_of p.settings.block w) fs) b.2
      (record { ordered = k.files.ordered b.0 (whole_name job.container name) bytes s.ordered; each = each_kept p.settings.block w.time w.tickets w.src w.dst (with_file b.0 (whole_name job.container name) bytes) w.jobs (stored_each k p w place job name bytes b.0 h at fresh s (good b.0 b.1)) });
}

-- the file is there then
pub put_there : (k : Known) (whole bytes : Bytes) (o : Option (List File)) (files : List File) → with_put whole bytes o ≡ Some files → file_of files whole ≡ Some bytes
put_there k whole bytes o files e =
    let b = file_put whole bytes o files e in
    subst (λ (fs : List File). file_of fs whole ≡ Some bytes) b.2 (k.files.put_same b.0 whole bytes)

-- ---- a job changes

-- the backups before a change of one that keeps its container
before_set : (jobs : List Job) (place : ℕ) (old new : Backup) → slice_get jobs place ≡ Some (types.Backup old) → new.container ≡ old.container → (m : ℕ) (x : Backup) → slice_get (slice_set jobs place (types.Backup new)) m ≡ Some (types.Backup x) → (y : Backup) × (slice_get jobs m ≡ Some (types.Backup y)) × (x.container ≡ y.container)
before_set jobs place old new at c m x e =
    elim (same_or_other place m) [
      | inl i ↦
          let here : slice_get (slice_set jobs place (types.Backup new)) m ≡ Some (types.Backup new) = subst (λ (n : ℕ). slice_get (slice_set jobs place (types.Backup new)) n ≡ Some (types.Backup new)) i (get_set_same jobs place (types.Backup old) (types.Backup new) at) in
          (old, subst (λ (n : ℕ). slice_get jobs n ≡ Some (types.Backup old)) i at, ap (λ (y : Backup). y.container) (backup_is x new (sym e ∙ here)) ∙ c)
      | inr d ↦ (x, sym (get_set_other jobs place m (types.Backup new) d) ∙ e, refl)
    ]
  where
    backup_is : (a b : Backup) → Some (types.Backup a) ≡ Some (types.Backup b) → a ≡ b
    backup_is a b q = cc

-- two backups at one place, before and after, have one container
apart_set : (jobs : List Job) (place : ℕ) (old new : Backup) → slice_get jobs place ≡ Some (types.Backup old) → new.container ≡ old.container → AreApart jobs → AreApart (slice_set jobs place (types.Backup new))
apart_set jobs place old new at c h a b first second e f s =
    let x = before_set jobs place old new at c a first e in
    let y = before_set jobs place old new at c b second f in
    h a b x.0 y.0 x.1 y.1 (ap (λ (z : Bytes). is_same z y.0.container) (sym x.2) ∙ ap (is_same first.container) (sym y.2) ∙ s)

pub sound_changed : (k : Known) (p : Workload) (w : State) (place : ℕ) (old : Backup) (hand : BackupJob) → Sound p w → slice_get w.jobs place ≡ Some (types.Backup old) → hand.terms ≡ old.job.terms → BackupSound p.settings.block w.time w.tickets (history_on old.side w) (record old { job = hand }) → ((files : List File) → w.files ≡ Some files → IsStored p.settings.block w.time w.tickets (history_on old.side w) files (record old { job = hand })) → Sound p (with_job place (types.Backup (record old { job = hand })) w)
sound_changed k p w place old hand h at t j s = record {
  clock = h.clock;
  databases = h.databases;
  clients = clients_wait p.settings p.clients w.time w.time w.jobs (slice_set w.jobs place (types.Backup (record old { job = hand }))) w.src w.dst w.clients (let s : w.time ≤ w.time = omega arith in s) (job_goes_on w.jobs place old hand at t) h.clients;
  jobs = record {
    each = each_set (λ m x. JobSound p.settings.block w.time w.tickets w.src w.dst x) w.jobs place (types.Backup old) (types.Backup (record old { job = hand })) at j (λ m x d e. h.jobs.each m x e);
    apart = apart_set w.jobs place old (record old { job = hand }) at refl h.jobs.apart;
    numbered = each_set (λ m x. (terms_of x).number ≡ 1 + m) w.jobs place (types.Backup old) (types.Backup (record old { job = hand })) at (ap (λ (x : Terms). x.number) t ∙ h.jobs.numbered place (types.Backup old) at) (λ m x d e. h.jobs.numbered m x e);
  };
  agents = agents_among k p.settings.agents w.time w.uids w.bucket w.agents w.jobs (slice_set w.jobs place (types.Backup (record old { job = hand }))) (fits_set w.jobs place old hand at t) h.agents;
  containers = λ files e.
      let f = h.containers files e in
      record { ordered = f.ordered; each = each_set (λ m x. JobStored p.settings.block w.time w.tickets w.src w.dst files x) w.jobs place (types.Backup old) (types.Backup (record old { job = hand })) at (s files e) (λ m x d g. f.each m x g) };
}

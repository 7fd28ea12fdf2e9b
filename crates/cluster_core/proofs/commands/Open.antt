-- The command open.
use Rattle.std.specs.Prelude.{◌≡◌, ℕ, ◌+◌, ◌++◌, Bool, true, false, cond, List, [], ◌∷◌, Option, Some, None, Err, nat_lt, slice_get, refl}
use Rattle.std.specs.Prelude.{◌≤◌, ◌⊎◌}
use Rattle.cluster_core.specs.declared.job.Job.TheVariants as types
use Rattle.cluster_core.specs.Backups.{Backup}
use Rattle.cluster_core.specs.Jobs.{terms_of, started, is_container}
use Rattle.cluster_core.proofs.Waiting.{job_more, clients_wait}
use Rattle.cluster_core.proofs.Started.{started_backup}
use Rattle.std.proofs.Common.{subst, arith, inl, inr}
use Rattle.fb_bytes.specs.Bytes.{Bytes}
use Rattle.fb_bytes.specs.declared.KeyRange.{KeyRange}
use Rattle.container_view.specs.Files.{whole_name}
use Rattle.workload_text.specs.declared.Settings.{Settings}
use Rattle.workload_text.specs.declared.Side.{Side}
use Rattle.workload_text.specs.declared.Workload.{Workload}
use Rattle.cluster_core.specs.declared.event.StepFault.TheVariants.{VersionsSpent}
use Rattle.cluster_core.specs.declared.refusal.Refusal.TheVariants.{TagBusy}
use Rattle.cluster_core.specs.Jobs.{Job, newest, started_in}
use Rattle.cluster_core.specs.State.{State, history_on}
use Rattle.cluster_core.specs.Moves.{names_said, Luck, Fine, FailsOld, FailsNew, Starved, moved}
use Rattle.cluster_core.specs.commands.Shared.{done, refuses}
use Rattle.cluster_core.specs.commands.Open.{new_backup, new_job, starts, names_listed, open_over, open_listed, open_untaken, is_busy, open_job}
use Rattle.mutations.specs.declared.Entry.{Entry}
use Rattle.std.specs.Prelude.{◌≡◌, ℕ, zero, suc, ◌+◌, ◌^◌, ◌<◌, ◌≤◌, Bool, true, false, cond, List, [], ◌∷◌, ◌++◌, length, map, Option, Some, None, nat_lt, slice_get, Err, refl}
use Rattle.std.specs.List.{AllByRecursion}
use Rattle.std.proofs.Common.{ap, sym, ◌∙◌, inl, inr, arith, subst}
use Rattle.std.proofs.lemmas.Bool.{ltb-false}
use Rattle.fb_bytes.specs.Bytes.{Bytes, is_same}
use Rattle.fb_bytes.proofs.Order.{same_eq}
use Rattle.fb_outside.specs.declared.File.{File}
use Rattle.fb_outside.specs.Files.{file_of}
use Rattle.mutations.specs.Clipping.{all_clipped}
use Rattle.mutations.specs.Spelling.{mutations_spelling}
use Rattle.file_names.specs.Spelling.{expired_text}
use Rattle.container_view.specs.Contents.{file_grammars}
use Rattle.container_view.specs.Changes.{no_files}
use Rattle.container_view.specs.Files.{whole_name, name_in, renamed, inside, folder_of}
use Rattle.container_view.specs.Names.{names_inside}
use Rattle.container_view.specs.Property.{property_in}
use Rattle.block_frame.specs.Profiles.{key_limit_of}
use Rattle.workload_text.specs.Commands.{IsOpening}
use Rattle.database.specs.Commits.{most_version}
use Rattle.cluster_core.specs.declared.event.StepFault.TheVariants.{VersionsSpent}
use Rattle.cluster_core.specs.declared.refusal.Refusal.TheVariants.{TagBusy}
use Rattle.cluster_core.specs.Jobs.{Job, newest, started_in}
use Rattle.cluster_core.specs.State.{State, history_on}
use Rattle.cluster_core.specs.Moves.{names_said, Luck, Fine, FailsOld, FailsNew, Starved, moved}
use Rattle.cluster_core.specs.commands.Shared.{done, refuses}
use Rattle.cluster_core.specs.Sound.{IsOrdered, AreLoggable, BackupSound, IsStored, JobSound, JobStored, AreApart, Sound}
use Rattle.client_core.proofs.Lists.{All-weaker}
use Rattle.cluster_core.proofs.All.{each_more}
use Rattle.cluster_core.proofs.Paces.{pace_forward}
use Rattle.cluster_core.proofs.Holding.{agents_later, agents_among, fits_more}
use Rattle.cluster_core.proofs.Known.{Known}
use Rattle.cluster_core.proofs.Grown.{each_sound, each_kept, job_grown, stored_grown, waits}
use Rattle.cluster_core.proofs.Frames.{sound_gone}
use Rattle.cluster_core.proofs.Touching.{Touches, same, gone}

starts_touches : (s : Settings) (w : State) (tag : Bytes) (side : Side) (container : Bytes) (ranges : List KeyRange) → Touches s.pace w (starts s w tag side container ranges)
starts_touches s w tag side container ranges = go _
  where
    go : (b : Bool) → Touches s.pace w (cond b (moved (Err (VersionsSpent w.time)) w) (done (record w { time = w.time + s.pace; jobs = w.jobs ++ new_job (length w.jobs + 1) tag side container ranges (w.time + s.pace) ∷ [] })))
    go true = same s.pace w _
    go false = record {
      starved = λ e. cc;
      since = omega arith;
      upto = omega arith;
      src = inl refl;
      dst = inl refl;
      sides = inl refl;
      jobs = inr (inr (record { job = new_job (length w.jobs + 1) tag side container ranges (w.time + s.pace); is = refl }));
      files = inl refl;
    }

over_touches : (s : Settings) (w : State) (tag : Bytes) (side : Side) (container : Bytes) (ranges : List KeyRange) (names : List Bytes) → Touches s.pace w (open_over s w tag side container ranges names)
over_touches s w tag side container ranges [] = starts_touches s w tag side container ranges
over_touches s w tag side container ranges (name ∷ names) = gone s.pace w _

listed_touches : (s : Settings) (w : State) (tag : Bytes) (side : Side) (container : Bytes) (ranges : List KeyRange) (luck : Luck) → Touches s.pace w (open_listed s w tag side container ranges luck)
listed_touches s w tag side container ranges (Fine said) = over_touches s w tag side container ranges (names_listed container w.files (names_said said))
listed_touches s w tag side container ranges FailsOld = same s.pace w _
listed_touches s w tag side container ranges FailsNew = same s.pace w _
listed_touches s w tag side container ranges Starved = same s.pace w _

untaken_touches : (s : Settings) (w : State) (tag : Bytes) (side : Side) (container : Bytes) (ranges : List KeyRange) (luck : Luck) (o : Option Job) → Touches s.pace w (open_untaken s w tag side container ranges luck o)
untaken_touches s w tag side container ranges luck (Some job) = gone s.pace w _
untaken_touches s w tag side container ranges luck None = listed_touches s w tag side container ranges luck

pub open_touches : (s : Settings) (w : State) (tag : Bytes) (side : Side) (container : Bytes) (ranges : List KeyRange) (luck : Luck) → Touches s.pace w (open_job s w tag side container ranges luck)
open_touches s w tag side container ranges luck = go (is_busy (newest tag w.jobs))
  where
    go : (b : Bool) → Touches s.pace w (cond b (refuses (TagBusy tag) w) (open_untaken s w tag side container ranges luck (started_in container w.jobs)))
    go true = gone s.pace w _
    go false = untaken_touches s w tag side container ranges luck (started_in container w.jobs)

no_names : {X : Type 0} (f : X → Bytes) (xs : List X) → map f xs ≡ [] → xs ≡ []
no_names f [] e = refl
no_names f (x ∷ xs) e = cc

first_none : (o : Option Bytes) (bytes : Bytes) (rest : List File) → renamed o bytes ++ rest ≡ [] → (o ≡ None) × (rest ≡ [])
first_none None bytes rest e = (refl, e)
first_none (Some name) bytes rest e = cc

-- none of its names has a file
none_there : (k : Known) (container name bytes : Bytes) (files : List File) → inside container files ≡ [] → file_of files (whole_name container name) ≡ Some bytes → ⊥
none_there k container name bytes [] e f = cc
none_there k container name bytes (file ∷ files) e f = go (is_same file.name (whole_name container name)) refl f (none_there k container name bytes files)
  where
    go : (b : Bool) → is_same file.name (whole_name container name) ≡ b → cond b (Some file.bytes) (file_of files (whole_name container name)) ≡ Some bytes → (inside container files ≡ [] → file_of files (whole_name container name) ≡ Some bytes → ⊥) → ⊥
    go true s f rest =
        let n = (first_none (name_in container file.name) file.bytes (inside container files) e).0 in
        let i = ap (name_in container) (same_eq file.name (whole_name container name) s) ∙ k.files.whole_in container name in
        let q = sym n ∙ i in
        cc
    go false s f rest = rest (first_none (name_in container file.name) file.bytes (inside container files) e).1 f

empty_stored : (k : Known) (block now tickets version number : ℕ) (history : List Entry) (files : List File) (tag : Bytes) (side : Side) (container : Bytes) (ranges : List KeyRange) → IsOrdered version history → names_inside container files ≡ [] → IsStored block version tickets history files (new_backup number tag side container ranges version)
empty_stored k block now tickets version number history files tag side container ranges o e =
    let none : inside container files ≡ [] = no_names (λ file. file.name) (inside container files) e in
    record {
      honest = record {
        folder = no_files;
        decoded = ap (folder_of file_grammars) none;
        honest = record { rising = o.rising; past = o.past; ranges = λ file i. absurd i; logs = λ file i. absurd i; manifests = λ file i. absurd i };
        expired = (None, ap (λ (fs : List File). property_in (file_of fs expired_text)) none);
      };
      there = tt;
      listed = λ name bytes names f l. absurd (none_there k container name bytes files none f);
    }

nothing_logged : (version now : ℕ) (ranges : List KeyRange) (history : List Entry) → now < version → AllByRecursion (λ (x : Entry). x.version ≤ now) history → AreLoggable ranges version history
nothing_logged version now ranges history l a = All-weaker (λ (x : Entry). x.version ≤ now) (λ (x : Entry). version ≤ x.version → length (mutations_spelling (all_clipped ranges x.muts)) < 2 ^ 32) history (λ x h b. absurd (omega arith)) a

new_sound : (block now tickets version number : ℕ) (history : List Entry) (tag : Bytes) (side : Side) (container : Bytes) (ranges : List KeyRange) → IsOpening (key_limit_of block) tag container ranges → now < version → AllByRecursion (λ (x : Entry). x.version ≤ now) history → BackupSound block version tickets history (new_backup number tag side container ranges version)
new_sound block now tickets version number history tag side container ranges i l a = record {
  named = i.container_named;
  ranges = i.ranges_allowed.are_ranges;
  some = i.ranges_allowed.some;
  pieces = tt;
  inside = λ key e. cc;
  noted = tt;
  distinct = tt;
  snapshot = let e : 0 ≤ version = omega arith in e;
  begun = let e : version ≤ version = omega arith in e;
  erased = let e : version ≤ version = omega arith in e;
  next = let e : version ≤ version + 1 = omega arith in e;
  logged = λ e. nothing_logged version now ranges history l a;
}

-- no backup has the container
none_in : (container : Bytes) (jobs : List Job) → started_in container jobs ≡ None → (place : ℕ) (backup : Backup) → slice_get jobs place ≡ Some (types.Backup backup) → is_same backup.container container ≡ true → ⊥
none_in container [] e zero backup at s = cc
none_in container [] e (suc n) backup at s = cc
none_in container (x ∷ xs) e zero backup at s = go (is_container container (started (terms_of x))) refl e
  where
    go : (b : Bool) → is_container container (started (terms_of x)) ≡ b → cond b (Some x) (started_in container xs) ≡ None → ⊥
    go true t q = cc
    go false t q =
        let same : x ≡ types.Backup backup = cc in
        let here : is_container container (started (terms_of x)) ≡ true = ap (λ (y : Job). is_container container (started (terms_of y))) same ∙ ap (is_container container) (started_backup backup) ∙ s in
        let u = sym here ∙ t in
        cc
none_in container (x ∷ xs) e (suc n) backup at s = go (is_container container (started (terms_of x))) refl e (none_in container xs)
  where
    go : (b : Bool) → is_container container (started (terms_of x)) ≡ b → cond b (Some x) (started_in container xs) ≡ None → (started_in container xs ≡ None → (place : ℕ) (y : Backup) → slice_get xs place ≡ Some (types.Backup y) → is_same y.container container ≡ true → ⊥) → ⊥
    go true t q rest = cc
    go false t q rest = rest q n backup at s

same_sym : (a b : Bytes) → is_same a b ≡ true → is_same b a ≡ true
same_sym a b h = let e = same_eq a b h in subst (λ (x : Bytes). is_same x a ≡ true) e (subst (λ (x : Bytes). is_same a x ≡ true) (sym e) h)

pub past_end : {X : Type 0} (xs : List X) (m : ℕ) (x : X) → slice_get xs m ≡ Some x → m < length xs
past_end [] zero x e = cc
past_end [] (suc m) x e = cc
past_end (y ∷ ys) zero x e = omega arith
past_end (y ∷ ys) (suc m) x e = let l = past_end ys m x e in omega arith

-- the backups before one job more
before_more : (jobs : List Job) (new : Backup) (m : ℕ) (x : Backup) → slice_get (jobs ++ types.Backup new ∷ []) m ≡ Some (types.Backup x) → ((x ≡ new) × (m ≡ length jobs)) ⊎ (slice_get jobs m ≡ Some (types.Backup x))
before_more [] new zero x e = inl ((let same : new ≡ x = cc in sym same), refl)
before_more [] new (suc m) x e = cc
before_more (y ∷ ys) new zero x e = inr e
before_more (y ∷ ys) new (suc m) x e = elim (before_more ys new m x e) [ inl h ↦ inl (h.0, ap suc h.1) | inr h ↦ inr h ]

apart_more : (jobs : List Job) (new : Backup) → started_in new.container jobs ≡ None → AreApart jobs → AreApart (jobs ++ types.Backup new ∷ [])
apart_more jobs new none h a b first second e f s =
    elim (before_more jobs new a first e) [
      | inl i ↦ elim (before_more jobs new b second f) [
        | inl j ↦ i.1 ∙ sym j.1
        | inr g ↦ absurd (none_in new.container jobs none b second g (same_sym new.container second.container (ap (λ (y : Backup). is_same y.container second.container) (sym i.0) ∙ s)))
      ]
      | inr d ↦ elim (before_more jobs new b second f) [
        | inl j ↦ absurd (none_in new.container jobs none a first d (ap (λ (y : Backup). is_same first.container y.container) (sym j.0) ∙ s))
        | inr g ↦ h a b first second d g s
      ]
    ]

sound_more : (k : Known) (p : Workload) (w : State) (tag : Bytes) (side : Side) (container : Bytes) (ranges : List KeyRange) (version : ℕ) → Sound p w → w.time < version → version ≤ most_version → IsOpening (key_limit_of p.settings.block) tag container ranges → started_in container w.jobs ≡ None → ((files : List File) → w.files ≡ Some files → names_inside container files ≡ []) → Sound p (record w { time = version; jobs = w.jobs ++ new_job (length w.jobs + 1) tag side container ranges version ∷ [] })
sound_more k p w tag side container ranges version h l m i none empty =
    let le : w.time ≤ version = omega arith in
    let later : (t : Side) → IsOrdered version (history_on t w) = λ t. let q = h.databases.histories t in record { rising = q.rising; past = All-weaker (λ (x : Entry). x.version ≤ w.time) (λ (x : Entry). x.version ≤ version) (history_on t w) (λ x r. omega arith) q.past } in
    record {
      clock = record { bound = m; tickets = h.clock.tickets };
      databases = record { histories = later; within = h.databases.within };
      clients = clients_wait p.settings p.clients w.time version w.jobs (w.jobs ++ new_job (length w.jobs + 1) tag side container ranges version ∷ []) w.src w.dst w.clients le (job_more w.jobs (new_job (length w.jobs + 1) tag side container ranges version)) h.clients;
      jobs = record {
        each = each_more (λ n x. JobSound p.settings.block version w.tickets w.src w.dst x) w.jobs (new_job (length w.jobs + 1) tag side container ranges version)
            (new_sound p.settings.block w.time w.tickets version (length w.jobs + 1) (history_on side w) tag side container ranges i l (h.databases.histories side).past)
            (each_sound p.settings.block version w.tickets w.src w.dst w.jobs (λ n x e. let j = h.jobs.each n (types.Backup x) e in job_grown p.settings.block w.time version w.tickets w.tickets (history_on x.side w) (history_on x.side w) x le (same w.tickets) j.logged j));
        apart = apart_more w.jobs (new_backup (length w.jobs + 1) tag side container ranges version) none h.jobs.apart;
        numbered = each_more (λ n x. (terms_of x).number ≡ 1 + n) w.jobs (new_job (length w.jobs + 1) tag side container ranges version) (let e : length w.jobs + 1 ≡ 1 + length w.jobs = omega arith in e) h.jobs.numbered;
      };
      agents = agents_among k p.settings.agents version w.uids w.bucket w.agents w.jobs (w.jobs ++ new_job (length w.jobs + 1) tag side container ranges version ∷ []) (fits_more w.jobs (new_job (length w.jobs + 1) tag side container ranges version)) (agents_later k p.settings.agents w.time version w.uids w.bucket w.agents w.jobs le h.agents);
      containers = λ files e.
          let s = h.containers files e in
          record {
            ordered = s.ordered;
            each = each_more (λ n x. JobStored p.settings.block version w.tickets w.src w.dst files x) w.jobs (new_job (length w.jobs + 1) tag side container ranges version)
                (empty_stored k p.settings.block w.time w.tickets version (length w.jobs + 1) (history_on side w) files tag side container ranges (later side) (empty files e))
                (each_kept p.settings.block version w.tickets w.src w.dst files w.jobs (λ n x f. stored_grown k p.settings.block w.time version w.tickets w.tickets (history_on x.side w) (history_on x.side w) files x (waits p.settings.block w.time version (history_on x.side w) x le) (same w.tickets) (s.each n (types.Backup x) f)));
          };
    }
  where
    same : (n : ℕ) → n ≤ n
    same n = omega arith

starts_keeps : (k : Known) (p : Workload) (w : State) (tag : Bytes) (side : Side) (container : Bytes) (ranges : List KeyRange) → Sound p w → IsOpening (key_limit_of p.settings.block) tag container ranges → started_in container w.jobs ≡ None → ((files : List File) → w.files ≡ Some files → names_inside container files ≡ []) → Sound p (starts p.settings w tag side container ranges).state
starts_keeps k p w tag side container ranges h i none empty = go (nat_lt most_version (w.time + p.settings.pace)) refl
  where
    go : (b : Bool) → nat_lt most_version (w.time + p.settings.pace) ≡ b → Sound p (cond b (moved (Err (VersionsSpent w.time)) w) (done (record w { time = w.time + p.settings.pace; jobs = w.jobs ++ new_job (length w.jobs + 1) tag side container ranges (w.time + p.settings.pace) ∷ [] }))).state
    go true e = h
    go false e =
        let pace : 1 ≤ p.settings.pace = pace_forward p in
        let l : w.time < w.time + p.settings.pace = omega arith in
        sound_gone p (record w { time = w.time + p.settings.pace; jobs = w.jobs ++ new_job (length w.jobs + 1) tag side container ranges (w.time + p.settings.pace) ∷ [] })
        (sound_more k p w tag side container ranges (w.time + p.settings.pace) h l (ltb-false most_version (w.time + p.settings.pace) e) i none empty)

over_keeps : (k : Known) (p : Workload) (w : State) (tag : Bytes) (side : Side) (container : Bytes) (ranges : List KeyRange) (names said : List Bytes) → Sound p w → IsOpening (key_limit_of p.settings.block) tag container ranges → started_in container w.jobs ≡ None → names_listed container w.files said ≡ names → Sound p (open_over p.settings w tag side container ranges names).state
over_keeps k p w tag side container ranges [] said h i none e = starts_keeps k p w tag side container ranges h i none (λ files f. subst (λ (o : Option (List File)). names_listed container o said ≡ []) f e)
over_keeps k p w tag side container ranges (name ∷ names) said h i none e = sound_gone p w h

listed_keeps : (k : Known) (p : Workload) (w : State) (tag : Bytes) (side : Side) (container : Bytes) (ranges : List KeyRange) (luck : Luck) → Sound p w → IsOpening (key_limit_of p.settings.block) tag container ranges → started_in container w.jobs ≡ None → Sound p (open_listed p.settings w tag side container ranges luck).state
listed_keeps k p w tag side container ranges (Fine said) h i none = over_keeps k p w tag side container ranges (names_listed container w.files (names_said said)) (names_said said) h i none refl
listed_keeps k p w tag side container ranges FailsOld h i none = h
listed_keeps k p w tag side container ranges FailsNew h i none = h
listed_keeps k p w tag side container ranges Starved h i none = h

untaken_keeps : (k : Known) (p : Workload) (w : State) (tag : Bytes) (side : Side) (container : Bytes) (ranges : List KeyRange) (luck : Luck) (o : Option Job) → Sound p w → IsOpening (key_limit_of p.settings.block) tag container ranges → started_in container w.jobs ≡ o → Sound p (open_untaken p.settings w tag side container ranges luck o).state
untaken_keeps k p w tag side container ranges luck (Some job) h i e = sound_gone p w h
untaken_keeps k p w tag side container ranges luck None h i e = listed_keeps k p w tag side container ranges luck h i e

pub open_keeps : (k : Known) (p : Workload) (w : State) (tag : Bytes) (side : Side) (container : Bytes) (ranges : List KeyRange) (luck : Luck) → Sound p w → IsOpening (key_limit_of p.settings.block) tag container ranges → Sound p (open_job p.settings w tag side container ranges luck).state
open_keeps k p w tag side container ranges luck h i = go (is_busy (newest tag w.jobs))
  where
    go : (b : Bool) → Sound p (cond b (refuses (TagBusy tag) w) (open_untaken p.settings w tag side container ranges luck (started_in container w.jobs))).state
    go true = sound_gone p w h
    go false = untaken_keeps k p w tag side container ranges luck (started_in container w.jobs) h i refl

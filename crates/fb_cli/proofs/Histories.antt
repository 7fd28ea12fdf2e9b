-- What a sound end says of the report's histories and of its jobs' containers.
use Rattle.std.specs.Prelude.{◌≡◌, ℕ, zero, suc, List, [], ◌∷◌, ◌++◌, map, Option, Some, slice_get, refl}
use Rattle.std.proofs.Common.{ap, sym, ◌∙◌, subst}
use Rattle.mutations.specs.declared.Entry.{Entry}
use Rattle.workload_text.specs.declared.ClientScript.{ClientScript}
use Rattle.fb_bytes.specs.Bytes.{Bytes}
use Rattle.fb_bytes.specs.declared.KeyRange.{KeyRange}
use Rattle.workload_text.specs.declared.Side.{Side}
use Rattle.workload_text.specs.declared.Side.TheVariants.{Src, Dst}
use Rattle.workload_text.specs.declared.Settings.{Settings}
use Rattle.workload_text.specs.declared.Workload.{Workload}
use Rattle.client_core.specs.Clients.{ClientState, Told, told_of}
use Rattle.client_core.specs.Legal.{entries_by, IsLegal}
use Rattle.cluster_core.specs.State.{State, on_side, opening}
use Rattle.cluster_core.specs.Sound.{IsOrdered, other_side, IsClientSound, Sound}
use Rattle.cluster_core.specs.declared.Job.TheVariants as types
use Rattle.cluster_core.specs.Backups.{Backup}
use Rattle.cluster_core.specs.declared.Job.{Job}
use Rattle.cluster_core.specs.Jobs.{JobTold, job_told, started, range_on, ranges_on}
use Rattle.cluster_core.proofs.Started.{started_backup}
use Rattle.cluster_core.specs.Laws.{FaithfulLaw}
use Rattle.container_view.specs.Contents.{file_grammars}
use Rattle.container_view.specs.Honest.{IsFaithfulStore}
use Rattle.report_text.specs.declared.RunReport.{RunReport}
use Rattle.fb_outside.specs.declared.File.{File}
use Rattle.workload_text.specs.declared.ScheduleLine.{ScheduleLine}
use Rattle.fb_cli.specs.Runs.{Tells, schedule_of, ranges_told, HasHistory, AreFaithful, IsRun}
use Rattle.fb_cli.specs.Causes.{RoseInEach}
use Rattle.fb_cli.specs.Outside.{store_change}
use Rattle.fb_cli.proofs.KeptElsewhere.{kept_elsewhere}
use Rattle.fb_cli.proofs.Counting.{causes_of}

-- the client of a script that stands in the list of scripts
record Found (clients : List ClientState) (place : ℕ) (script : ClientScript) : Type 0 where
  client : ClientState
  at : slice_get clients place ≡ Some client
  script_is : client.script ≡ script

find_client : (clients : List ClientState) (place : ℕ) (script : ClientScript) → slice_get (map (λ (client : ClientState). client.script) clients) place ≡ Some script → Found clients place script
find_client [] zero script h = cc
find_client [] (suc n) script h = cc
find_client (c ∷ cs) zero script h = record { client = c; at = refl; script_is = cc }
find_client (c ∷ cs) (suc n) script h = let f : Found cs n script = find_client cs n script h in record { client = f.client; at = f.at; script_is = f.script_is }

told_at : (clients : List ClientState) (place : ℕ) (client : ClientState) (told : Told) → slice_get clients place ≡ Some client → slice_get (map told_of clients) place ≡ Some told → told_of client ≡ told
told_at [] zero client told h e = cc
told_at [] (suc n) client told h e = cc
told_at (c ∷ cs) zero client told h e = let k : c ≡ client = cc in let f : told_of c ≡ told = cc in ap told_of (sym k) ∙ f
told_at (c ∷ cs) (suc n) client told h e = told_at cs n client told h e

-- the ranges of the machine's jobs are those that are told
ranges_are : (side : Side) (jobs : List Job) → ranges_told side (map job_told jobs) ≡ ranges_on side jobs
ranges_are side [] = refl
ranges_are side (types.Backup backup ∷ jobs) = ap (λ (rs : List (List KeyRange)). range_on side (types.Backup backup) ++ rs) (ranges_are side jobs)

-- what is said of a client, by its script and outcomes
abbrev Says : Settings → ℕ → ClientScript → Told → List (List KeyRange) → List Entry → List Entry → Type 0
Says settings place script told logged src dst =
    (told.script ≡ script)
    × IsLegal (record { block = settings.block; pace = settings.pace; tries = settings.tries; logged = logged; history = on_side script.side src dst }) (suc place) script.txns told.outcomes
    × (entries_by (suc place) (on_side (other_side script.side) src dst) ≡ [])

each_client : (p : Workload) (w : State) (place : ℕ) (script : ClientScript) (told : Told) → Sound p w → slice_get p.clients place ≡ Some script → slice_get (map told_of w.clients) place ≡ Some told → Says p.settings place script told (ranges_on script.side w.jobs) w.src w.dst
each_client p w place script told h s o =
    let f : Found w.clients place script = find_client w.clients place script (ap (λ (xs : List ClientScript). slice_get xs place) h.clients.scripts_are ∙ s) in
    let k : IsClientSound p.settings w.time w.jobs w.src w.dst (suc place) f.client = h.clients.each (suc place) f.client f.at in
    let P : ClientScript → Told → Type 0 = λ x t. Says p.settings place x t (ranges_on x.side w.jobs) w.src w.dst in
    subst (λ (t : Told). P script t) (told_at w.clients place f.client told f.at o)
    (subst (λ (x : ClientScript). P x (told_of f.client)) f.script_is (refl, k.sound.legal, k.apart))

-- a report of a sound state has its histories right
has_history : (workload : Workload) (w : State) (report : RunReport) → Sound workload w → report.src ≡ w.src → report.dst ≡ w.dst → report.outcomes ≡ map told_of w.clients → report.jobs ≡ map job_told w.jobs → report.end ≡ w.time → HasHistory workload report
has_history workload w report h src dst outcomes jobs end = record {
  src = subst (λ (t : ℕ). IsOrdered t report.src) (sym end) (subst (λ (xs : List Entry). IsOrdered w.time xs) (sym src) (h.databases.histories Src));
  dst = subst (λ (t : ℕ). IsOrdered t report.dst) (sym end) (subst (λ (xs : List Entry). IsOrdered w.time xs) (sym dst) (h.databases.histories Dst));
  clients = λ place script told s o.
      subst (λ (rs : List (List KeyRange)). Says workload.settings place script told rs report.src report.dst) (sym (ap (ranges_told script.side) jobs ∙ ranges_are script.side w.jobs))
      (subst (λ (ys : List Entry). Says workload.settings place script told (ranges_on script.side w.jobs) report.src ys) (sym dst)
      (subst (λ (xs : List Entry). Says workload.settings place script told (ranges_on script.side w.jobs) xs w.dst) (sym src)
      (each_client workload w place script told h s (ap (λ (ts : List Told). slice_get ts place) (sym outcomes) ∙ o))));
}

-- ---- containers

-- the job of what is told
record FoundJob (jobs : List Job) (place : ℕ) (told : JobTold) : Type 0 where
  job : Job
  at : slice_get jobs place ≡ Some job
  told_is : job_told job ≡ told

find_job : (jobs : List Job) (place : ℕ) (told : JobTold) → slice_get (map job_told jobs) place ≡ Some told → FoundJob jobs place told
find_job [] zero told h = cc
find_job [] (suc n) told h = cc
find_job (x ∷ xs) zero told h = record { job = x; at = refl; told_is = some_is (job_told x) told h }
  where
    some_is : (a b : JobTold) → Some a ≡ Some b → a ≡ b
    some_is a b q = cc
find_job (x ∷ xs) (suc n) told h = let f : FoundJob xs n told = find_job xs n told h in record { job = f.job; at = f.at; told_is = f.told_is }

-- a container is faithful to these histories, in these ranges
abbrev IsFaithfulTo : ℕ → List File → List Entry → List Entry → ℕ → Side → List KeyRange → Bytes → Type 0
IsFaithfulTo block files src dst end side ranges container = IsFaithfulStore file_grammars (record { history = on_side side src dst; now = end; ranges = ranges; block = block }) container files

-- what is told of a backup names its container and its ranges
told_backup : (block : ℕ) (files : List File) (src dst : List Entry) (end : ℕ) (backup : Backup) (told : JobTold) (container : Bytes) (ranges : List KeyRange) → job_told (types.Backup backup) ≡ told → started told.terms ≡ Some container → told.terms.ranges ≡ Some ranges → IsFaithfulTo block files src dst end backup.side backup.job.terms.ranges backup.container → IsFaithfulTo block files src dst end told.terms.side ranges container
told_backup block files src dst end backup told container ranges t c r f =
    let there : backup.container ≡ container = some_is backup.container container (sym (started_backup backup) ∙ ap (λ (x : JobTold). started x.terms) t ∙ c) in
    let inside : backup.job.terms.ranges ≡ ranges = some_is backup.job.terms.ranges ranges (ap (λ (x : JobTold). x.terms.ranges) t ∙ r) in
    let side : backup.side ≡ told.terms.side = ap (λ (x : JobTold). x.terms.side) t in
    subst (λ (x : Side). IsFaithfulTo block files src dst end x ranges container) side
    (subst (λ (x : List KeyRange). IsFaithfulTo block files src dst end backup.side x container) inside
    (subst (λ (x : Bytes). IsFaithfulTo block files src dst end backup.side backup.job.terms.ranges x) there f))
  where
    some_is : {X : Type 0} (a b : X) → Some a ≡ Some b → a ≡ b
    some_is a b q = cc

job_faithful : FaithfulLaw → (p : Workload) (w : State) (files : List File) (place : ℕ) (job : Job) (told : JobTold) (container : Bytes) (ranges : List KeyRange) → Sound p w → w.files ≡ Some files → slice_get w.jobs place ≡ Some job → job_told job ≡ told → started told.terms ≡ Some container → told.terms.ranges ≡ Some ranges → IsFaithfulTo p.settings.block files w.src w.dst w.time told.terms.side ranges container
job_faithful law p w files place (types.Backup backup) told container ranges h f at t c r = told_backup p.settings.block files w.src w.dst w.time backup told container ranges t c r (law p w files h f place backup at)

-- in a sound state the containers of the report's jobs are faithful to its histories
are_faithful : FaithfulLaw → (p : Workload) (w : State) (files' : Option (List File)) (report : RunReport) → Sound p w → report.src ≡ w.src → report.dst ≡ w.dst → report.jobs ≡ map job_told w.jobs → report.end ≡ w.time → files' ≡ w.files → AreFaithful p.settings.block files' report
are_faithful law p w files' report h src dst jobs end stored files f place told at container ranges c r =
    let j : FoundJob w.jobs place told = find_job w.jobs place told (ap (λ (js : List JobTold). slice_get js place) (sym jobs) ∙ at) in
    let k : IsFaithfulTo p.settings.block files w.src w.dst w.time told.terms.side ranges container = job_faithful law p w files place j.job told container ranges h (sym stored ∙ f) j.at j.told_is c r in
    subst (λ (n : ℕ). IsFaithfulTo p.settings.block files report.src report.dst n told.terms.side ranges container) (sym end)
    (subst (λ (ys : List Entry). IsFaithfulTo p.settings.block files report.src ys w.time told.terms.side ranges container) (sym dst)
    (subst (λ (xs : List Entry). IsFaithfulTo p.settings.block files xs w.dst w.time told.terms.side ranges container) (sym src) k))

-- ---- the report

told_by : (workload begun ended : Workload) (files files' : Option (List File)) (f f' : ℕ) (final : State) (report : RunReport) (schedule : List ScheduleLine) → FaithfulLaw → begun ≡ workload → Tells workload (opening workload files) report.lines final → schedule_of report.lines ≡ schedule → RoseInEach report.lines f f' → schedule ≡ workload.schedule → report.commands ≡ [] → ended ≡ begun → report.src ≡ final.src → report.dst ≡ final.dst → report.outcomes ≡ map told_of final.clients → report.jobs ≡ map job_told final.jobs → report.end ≡ final.time → files' ≡ final.files → Sound ended final → IsRun workload (store_change files files' f f') report
told_by workload begun ended files files' f f' final report schedule law b r l k s n e src dst outcomes jobs end stored sound =
    let h : Sound workload final = subst (λ (x : Workload). Sound x final) (e ∙ b) sound in
    record {
      told = record {
        final = final;
        run = r;
        schedule = l ∙ s;
        commands = n;
        src = src;
        dst = dst;
        outcomes = outcomes;
        jobs = jobs;
        end = end;
        stored = stored;
      };
      history = has_history workload final report h src dst outcomes jobs end;
      faithful = are_faithful law workload final files' report h src dst jobs end stored;
      elsewhere = kept_elsewhere workload final files files' report r jobs stored;
      causes = causes_of report.lines f f' k;
    }

-- a run over the whole schedule, told by its report
pub tells : (workload begun ended : Workload) (files files' : Option (List File)) (f f' a c : ℕ) (old final : State) (report : RunReport) (schedule : List ScheduleLine) → FaithfulLaw → begun ≡ workload → old ≡ opening workload files → a ≡ f → f' ≡ c → Tells begun old report.lines final → schedule_of report.lines ≡ schedule → RoseInEach report.lines a c → schedule ≡ workload.schedule → report.commands ≡ [] → ended ≡ begun → report.src ≡ final.src → report.dst ≡ final.dst → report.outcomes ≡ map told_of final.clients → report.jobs ≡ map job_told final.jobs → report.end ≡ final.time → files' ≡ final.files → Sound ended final → IsRun workload (store_change files files' f f') report
tells workload begun ended files files' f f' a c old final report schedule law b o before after r l k s n e src dst outcomes jobs end stored sound =
    told_by workload begun ended files files' f f' final report schedule law b
    (subst (λ (x : Workload). Tells x (opening workload files) report.lines final) b (subst (λ (w : State). Tells begun w report.lines final) o r))
    l
    (subst (λ (n : ℕ). RoseInEach report.lines n f') before (subst (λ (n : ℕ). RoseInEach report.lines a n) (sym after) k))
    s n e src dst outcomes jobs end stored sound

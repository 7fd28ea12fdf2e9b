-- Fronts of a schedule that were played.
use Rattle.std.specs.Prelude.{◌≡◌, ℕ, zero, suc, ◌+◌, ◌<◌, ◌≤◌, List, [], ◌∷◌, ◌++◌, length, take, drop, slice_get, Option, Some, is_some, refl}
use Rattle.std.proofs.Common.{ap, sym, ◌∙◌, arith, subst, get_or}
use Rattle.std.proofs.lemmas.List.{take-append-drop}
use Rattle.std.proofs.Math.Seq.{drop-cons}
use Rattle.fb_outside.specs.declared.File.{File}
use Rattle.fb_outside.specs.Faults.{Rose, Counts}
use Rattle.workload_text.specs.declared.ScheduleLine.{ScheduleLine}
use Rattle.workload_text.specs.declared.Workload.{Workload}
use Rattle.cluster_core.specs.Elsewhere.{told_of, KeepsElsewhere}
use Rattle.cluster_core.specs.declared.Job.{Job}
use Rattle.cluster_core.specs.declared.Job.TheVariants as types
use Rattle.cluster_core.specs.Laws.{FaithfulLaw}
use Rattle.cluster_core.specs.Sound.{Sound}
use Rattle.cluster_core.specs.Drain.{DrainRun}
use Rattle.cluster_core.specs.State.{State, opening}
use Rattle.cluster_core.proofs.Draining.{drain_run}
use Rattle.cluster_core.proofs.Elsewhere.{kept_trans, elsewhere_law}
use Rattle.report_text.specs.declared.EventLine.{EventLine}
use Rattle.fb_cli.specs.Causes.{RoseInEach}
use Rattle.fb_cli.specs.declared.fault.Fault.{Fault}
use Rattle.fb_cli.specs.declared.fault.Fault.TheVariants.{VaultFault, NoMemory}
use Rattle.fb_cli.specs.Faults.{fault_of}
use Rattle.fb_cli.specs.Fronts.{Starves, PlaysFront, LeavesFront}
use Rattle.fb_cli.specs.Outside.{Store, store_change}
use Rattle.fb_cli.specs.Replays.{IsUnplayed, OwesStore}
use Rattle.fb_cli.specs.Runs.{TellsTurns, Tells, schedule_of}
use Rattle.fb_cli.proofs.Counting.{each_later, each_after, each_more, causes_of}
use Rattle.fb_cli.proofs.KeptElsewhere.{run_kept}
use Rattle.fb_cli.proofs.Turns.{run_more, lines_more}

-- ---- where the steps end

-- the lines so far
pub front_at : (p : Workload) (old new : State) (schedule : List ScheduleLine) (i : ℕ) (lines : List EventLine) (a c : ℕ) → Tells p old lines new → schedule_of lines ≡ take i schedule → RoseInEach lines a c → PlaysFront p old schedule new a c
front_at p old new schedule i lines a c r l k = record {
  told = lines;
  rest = drop i schedule;
  front = sym (take-append-drop i schedule) ∙ ap (λ (xs : List ScheduleLine). xs ++ drop i schedule) (sym l);
  middle = new;
  run = r;
  turns = [];
  stopped = refl;
  drain = λ n. absurd (n refl);
  causes = causes_of lines a c k;
}

-- at a line for which there was no memory
pub starved_front : (p q : Workload) (old middle new : State) (schedule : List ScheduleLine) (i : ℕ) (d : ScheduleLine) (lines : List EventLine) (a b c : ℕ) → q ≡ p → Tells p old lines middle → schedule_of lines ≡ take i schedule → RoseInEach lines a b → Starves q middle (get_or schedule i d) new → i < length schedule → b ≤ c → PlaysFront p old schedule new a c
starved_front p q old middle new schedule i d lines a b c e r l k s lt h = record {
  told = lines;
  rest = drop i schedule;
  front = sym (take-append-drop i schedule) ∙ ap (λ (xs : List ScheduleLine). xs ++ drop i schedule) (sym l);
  middle = middle;
  run = r;
  turns = s.turns;
  stopped = subst (λ (x : Workload). DrainRun x middle s.turns new) e s.run;
  drain = λ n. ap (λ (xs : List ScheduleLine). slice_get xs 0) (drop-cons schedule i d lt) ∙ ap Some (s.drain n);
  causes = causes_of lines a c (each_after lines a b c k h);
}

-- at a step that there was no memory to note
pub step_front : (p q : Workload) (old middle new : State) (schedule : List ScheduleLine) (i : ℕ) (d : ScheduleLine) (lines : List EventLine) (line : EventLine) (a b c : ℕ) → q ≡ p → Tells p old lines middle → schedule_of lines ≡ take i schedule → RoseInEach lines a b → TellsTurns q middle line new → i < length schedule → line.line ≡ get_or schedule i d → Counts b c (fault_of line.reply ≡ Some VaultFault) → PlaysFront p old schedule new a c
step_front p q old middle new schedule i d lines line a b c e r l k step lt told counts =
    front_at p old new schedule (i + 1) (lines ++ line ∷ []) a c
    (run_more p q old middle new lines (lines ++ line ∷ []) line refl e r step)
    (lines_more lines (lines ++ line ∷ []) line schedule i d refl l lt told)
    (each_more lines line a b c k counts)

-- ---- what is left in the store

-- a list of jobs
abbrev the_jobs : List Job → List Job
the_jobs jobs = jobs

no_job : (place : ℕ) (job : Job) → slice_get (the_jobs []) place ≡ Some job → ⊥
no_job zero job e = cc
no_job (suc n) job e = cc

-- nothing was played
pub nothing_front : (workload : Workload) (files files' : Option (List File)) (f f' : ℕ) → files' ≡ files → f' ≡ f → LeavesFront workload (store_change files files' f f')
nothing_front workload files files' f f' same count = record {
  final = opening workload files;
  played = record {
    told = [];
    rest = workload.schedule;
    front = refl;
    middle = opening workload files;
    run = refl;
    turns = [];
    stopped = refl;
    drain = λ n. absurd (n refl);
    causes = causes_of [] f f' (let h : f ≤ f' = omega arith in h);
  };
  stored = same;
  faithful = λ told e place job at. absurd (no_job place (types.Backup job) at);
  elsewhere = λ name o. ap (λ (fs : Option (List File)). told_of fs name) same;
}

opened_front : (p q : Workload) (old from final : State) (schedule all : List ScheduleLine) (a c f f' : ℕ) → q ≡ p → old ≡ from → schedule ≡ all → a ≡ f → f' ≡ c → PlaysFront q old schedule final a c → PlaysFront p from all final f f'
opened_front p q old from final schedule all a c f f' b o s before after k =
    subst (λ (x : Workload). PlaysFront x from all final f f') b
    (subst (λ (x : State). PlaysFront q x all final f f') o
    (subst (λ (x : List ScheduleLine). PlaysFront q old x final f f') s
    (subst (λ (n : ℕ). PlaysFront q old schedule final n f') before
    (subst (λ (n : ℕ). PlaysFront q old schedule final a n) (sym after) k))))

-- what a front kept
front_kept : (p : Workload) (old new : State) (schedule : List ScheduleLine) (a c : ℕ) → PlaysFront p old schedule new a c → KeepsElsewhere old new
front_kept p old new schedule a c k =
    kept_trans old k.middle new (run_kept p old k.middle k.told k.run)
    (elsewhere_law.run p k.middle new k.turns (drain_run p k.middle new k.turns k.stopped))

-- a front was played
pub leaves_front : (workload begun ended : Workload) (files files' : Option (List File)) (f f' a c : ℕ) (old final : State) (schedule : List ScheduleLine) → FaithfulLaw → begun ≡ workload → old ≡ opening workload files → a ≡ f → f' ≡ c → PlaysFront begun old schedule final a c → schedule ≡ workload.schedule → ended ≡ begun → files' ≡ final.files → Sound ended final → LeavesFront workload (store_change files files' f f')
leaves_front workload begun ended files files' f f' a c old final schedule law b o before after k s e stored sound =
    let h : Sound workload final = subst (λ (x : Workload). Sound x final) (e ∙ b) sound in
    let front : PlaysFront workload (opening workload files) workload.schedule final f f' = opened_front workload begun old (opening workload files) final schedule workload.schedule a c f f' b o s before after k in
    let kept : KeepsElsewhere (opening workload files) final = front_kept workload (opening workload files) final workload.schedule f f' front in
    record {
      final = final;
      played = front;
      stored = stored;
      faithful = λ told e place job at. law workload final told h (sym stored ∙ e) place job at;
      elsewhere = λ name o. ap (λ (fs : Option (List File)). told_of fs name) stored ∙ kept.same name o;
    }

-- what a replay owes to the store, by the front that was played
pub owes : (workload : Workload) (store : Store) (fault : Option Fault) → LeavesFront workload store → (fault ≡ Some VaultFault → Rose store.faults_before store.faults_after) → (IsUnplayed fault → ⊥) → OwesStore store fault
owes workload store fault k rose made =
    let kept : KeepsElsewhere (opening workload store.before) k.final = front_kept workload (opening workload store.before) k.final workload.schedule store.faults_before store.faults_after k.played in
    record {
      telling = ap is_some k.stored ∙ kept.telling;
      count = record { later = each_later k.played.told store.faults_before store.faults_after k.played.causes.each; rose = rose };
      same = λ u. absurd (made u);
    }

-- the same where there was no memory
pub starved_owes : (workload : Workload) (store : Store) (fault : Option Fault) → LeavesFront workload store → fault ≡ Some NoMemory → OwesStore store fault
starved_owes workload store fault k e = owes workload store fault k (λ q. cc) (λ u. subst IsUnplayed e u)

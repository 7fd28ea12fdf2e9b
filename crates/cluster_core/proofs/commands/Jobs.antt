-- The newest job with a tag, which a command asks for.
use Rattle.std.specs.Prelude.{◌≡◌, ℕ, zero, suc, ◌+◌, ◌<◌, Bool, true, false, cond, List, [], ◌∷◌, length, Option, Some, None, slice_get, slice_index_or, option_map, if◌then◌else◌, refl}
use Rattle.std.proofs.Common.{ap, sym, ◌∙◌, arith}
use Rattle.cluster_core.specs.declared.job.Job.TheVariants as types
use Rattle.task_kinds.specs.States.{has_ended}
use Rattle.task_kinds.specs.declared.JobState.{JobState}
use Rattle.cluster_core.specs.Backups.{FoundBackup}
use Rattle.cluster_core.specs.Jobs.{terms_of, with_backup, on_backup}
use Rattle.std.proofs.lemmas.Option.{get_or_from_slice_get}
use Rattle.fb_bytes.specs.Bytes.{Bytes}
use Rattle.workload_text.specs.declared.Workload.{Workload}
use Rattle.cluster_core.specs.Jobs.{Job}
use Rattle.cluster_core.specs.State.{State}
use Rattle.cluster_core.specs.commands.Shared.{refuses}
use Rattle.cluster_core.specs.Sound.{Sound}
use Rattle.std.specs.Prelude.{◌≡◌, ℕ, ◌+◌, Bool, true, false, cond, List, [], ◌∷◌, Option, Some, None, slice_get, refl}
use Rattle.std.proofs.Common.{arith}
use Rattle.cluster_core.specs.declared.refusal.Refusal.TheVariants.{WrongState}
use Rattle.cluster_core.specs.Jobs.{Job, Found, newest, state_of_job}
use Rattle.cluster_core.specs.State.{State}
use Rattle.cluster_core.specs.Moves.{Moved}
use Rattle.cluster_core.specs.commands.Shared.{refuses, on_running, on_found}
use Rattle.std.specs.Prelude.{◌≡◌, ℕ, zero, suc, ◌<◌, Bool, false, List, [], ◌∷◌, length, Option, Some, None, option_map, slice_get, refl}
use Rattle.std.proofs.Common.{ap, sym, ◌∙◌, get_or}
use Rattle.cluster_core.specs.declared.plan.Running.TheVariants.{At}
use Rattle.cluster_core.specs.Jobs.{Job, Found, newest}
use Rattle.cluster_core.specs.inner.Plans.{IsRunning}
use Rattle.cluster_core.specs.Sound.{Sound}
use Rattle.cluster_core.proofs.commands.Open.{past_end}
use Rattle.std.specs.Prelude.{◌≡◌, ℕ, zero, suc, ◌+◌, ◌<◌, Bool, true, false, List, [], ◌∷◌, length, Option, Some, None, slice_get, if◌then◌else◌, refl}
use Rattle.std.proofs.Common.{ap, sym, ◌∙◌, arith, cond}
use Rattle.fb_bytes.specs.Bytes.{Bytes, is_same}
use Rattle.mutations.specs.Transactions.{◌or_else◌}
use Rattle.cluster_core.specs.declared.refusal.Refusal.TheVariants.{WrongState}
use Rattle.cluster_core.specs.Jobs.{Job, Found, newest_from, newest, state_of_job}
use Rattle.cluster_core.specs.State.{State}
use Rattle.cluster_core.specs.Moves.{Moved}
use Rattle.cluster_core.specs.commands.Shared.{refuses, on_running, on_found}
use Rattle.cluster_core.specs.Sound.{Sound}
use Rattle.cluster_core.proofs.Frames.{sound_gone}
use Rattle.cluster_core.proofs.Touching.{Touches, gone}

pub same_job : (jobs : List Job) (place : ℕ) (job found : Job) → slice_get jobs place ≡ Some job → found ≡ slice_index_or jobs place found → found ≡ job
same_job jobs place job found at e = e ∙ get_or_from_slice_get jobs place job found at

pub found_there : (jobs : List Job) (place : ℕ) (job found : Job) → slice_get jobs place ≡ Some job → found ≡ slice_index_or jobs place found → slice_get jobs place ≡ Some found
found_there jobs place job found at e = at ∙ ap (λ (x : Job). Some x) (sym (same_job jobs place job found at e))

pub found_runs : (jobs : List Job) (place : ℕ) (job found : Job) → slice_get jobs place ≡ Some job → found ≡ slice_index_or jobs place found → has_ended (state_of_job job) ≡ false → has_ended (state_of_job found) ≡ false
found_runs jobs place job found at e r = ap (λ (x : Job). has_ended (state_of_job x)) (same_job jobs place job found at e) ∙ r

running_touches : (pace : ℕ) (w : State) (f : Found → Moved) (found : Found) → Touches pace w (f found) → Touches pace w (on_running w f found)
running_touches pace w f found k = go (has_ended (state_of_job found.job))
  where
    go : (b : Bool) → Touches pace w (cond b (refuses (WrongState (state_of_job found.job)) w) (f found))
    go true = gone pace w _
    go false = k

-- the job that is found stands at its place
found_at : (from : ℕ) (tag : Bytes) (jobs : List Job) (found : Found) → newest_from from tag jobs ≡ Some found → (n : ℕ) × (found.place ≡ from + n) × (slice_get jobs n ≡ Some found.job)
found_at from tag [] found e = cc
found_at from tag (job ∷ jobs) found e = go (newest_from (from + 1) tag jobs) refl e (found_at (from + 1) tag jobs)
  where
    here : (b : Bool) → cond b (Some (record { place = from; job = job })) None ≡ Some found → (n : ℕ) × (found.place ≡ from + n) × (slice_get (job ∷ jobs) n ≡ Some found.job)
    here true q = let same : record { place = from; job = job } ≡ found = some_is (record { place = from; job = job }) found q in (0, ap (λ (x : Found). x.place) (sym same) ∙ omega arith, ap (λ (x : Found). Some x.job) same)
      where
        some_is : (a b : Found) → Some a ≡ Some b → a ≡ b
        some_is a b r = cc
    here false q = cc

    go : (o : Option Found) → newest_from (from + 1) tag jobs ≡ o → o or_else (if is_same (terms_of job).tag tag then Some (record { place = from; job = job }) else None) ≡ Some found → ((f : Found) → newest_from (from + 1) tag jobs ≡ Some f → (n : ℕ) × (f.place ≡ from + 1 + n) × (slice_get jobs n ≡ Some f.job)) → (n : ℕ) × (found.place ≡ from + n) × (slice_get (job ∷ jobs) n ≡ Some found.job)
    go (Some f) q r rest = let same : f ≡ found = cc in let t = rest found (q ∙ ap (λ (x : Found). Some x) same) in (suc t.0, (let u = t.1 in omega arith), t.2)
    go None q r rest = here (is_same (terms_of job).tag tag) r

pub newest_at : (tag : Bytes) (jobs : List Job) (found : Found) → newest tag jobs ≡ Some found → slice_get jobs found.place ≡ Some found.job
newest_at tag jobs found e = let t = found_at 0 tag jobs found e in ap (slice_get jobs) (t.1 ∙ omega arith) ∙ t.2

pub job_touches : (pace : ℕ) (w : State) (tag : Bytes) (f : Found → Moved) (o : Option Found) → newest tag w.jobs ≡ o → ((found : Found) → slice_get w.jobs found.place ≡ Some found.job → Touches pace w (f found)) → Touches pace w (on_found w tag f o)
job_touches pace w tag f None e k = gone pace w _
job_touches pace w tag f (Some found) e k = running_touches pace w f found (k found (newest_at tag w.jobs found e))

pub some_is : {X : Type 0} (a b : X) → Some a ≡ Some b → a ≡ b
some_is a b e = cc

-- what stands at a place that there is
pub got : {X : Type 0} (xs : List X) (n : ℕ) (x y : X) → slice_get xs n ≡ Some x → y ≡ get_or xs n y → y ≡ x
got [] zero x y e g = cc
got [] (suc n) x y e g = cc
got (z ∷ zs) zero x y e g = g ∙ some_is z x e
got (z ∷ zs) (suc n) x y e g = got zs n x y e g

-- a place that is found has a job, which is the newest one with the tag
pub newest_is : (tag : Bytes) (jobs : List Job) (place : ℕ) → Some place ≡ option_map (λ (found : Found). found.place) (newest tag jobs) → (job : Job) × (slice_get jobs place ≡ Some job) × (newest tag jobs ≡ Some (record { place = place; job = job }))
newest_is tag jobs place e = go (newest tag jobs) refl e
  where
    go : (o : Option Found) → newest tag jobs ≡ o → Some place ≡ option_map (λ (found : Found). found.place) o → (job : Job) × (slice_get jobs place ≡ Some job) × (newest tag jobs ≡ Some (record { place = place; job = job }))
    go None q r = cc
    go (Some found) q r =
        let same : place ≡ found.place = cc in
        (found.job, ap (slice_get jobs) same ∙ newest_at tag jobs found q, q ∙ ap (λ (n : ℕ). Some (record { place = n; job = found.job })) (sym same))

pub newest_in : (tag : Bytes) (jobs : List Job) (place : ℕ) → Some place ≡ option_map (λ (found : Found). found.place) (newest tag jobs) → place < length jobs
newest_in tag jobs place e = let n = newest_is tag jobs place e in past_end jobs place n.0 n.1

pub found_is : (tag : Bytes) (sliced items jobs : List Job) (place : ℕ) (job : Job) → Some place ≡ option_map (λ (found : Found). found.place) (newest tag sliced) → sliced ≡ items → items ≡ jobs → job ≡ get_or items place job → Some (record { place = place; job = job }) ≡ newest tag jobs
found_is tag sliced items jobs place job e s i g =
    let n = newest_is tag sliced place e in
    let same : job ≡ n.0 = got items place n.0 job (ap (λ (js : List Job). slice_get js place) (sym s) ∙ n.1) g in
    ap (λ (j : Job). Some (record { place = place; job = j })) same ∙ sym n.2 ∙ ap (newest tag) (s ∙ i)

-- the newest job with the tag that hasn't ended
pub running_at : (tag : Bytes) (w : State) (place : ℕ) (job : Job) (state : JobState) (ended : Bool) → Some (record { place = place; job = job }) ≡ newest tag w.jobs → state ≡ state_of_job job → ended ≡ has_ended state → ended ≡ false → IsRunning w tag (At place)
running_at tag w place job state ended e s a f = (job, newest_at tag w.jobs (record { place = place; job = job }) (sym e), sym (a ∙ ap has_ended s) ∙ f, sym e)

-- a command of backups, by what is found
pub backup_touches : (pace : ℕ) (w : State) (f : FoundBackup → Moved) (found : Found) → slice_get w.jobs found.place ≡ Some found.job → ((x : FoundBackup) → slice_get w.jobs x.place ≡ Some (types.Backup x.backup) → Touches pace w (f x)) → Touches pace w (on_backup f found)
backup_touches pace w f found at k = go found.job at
  where
    go : (job : Job) → slice_get w.jobs found.place ≡ Some job → Touches pace w (with_backup f found.place job)
    go (types.Backup b) e = k (record { place = found.place; backup = b }) e

pub backup_keeps : (p : Workload) (w : State) (f : FoundBackup → Moved) (found : Found) → slice_get w.jobs found.place ≡ Some found.job → has_ended (state_of_job found.job) ≡ false → ((x : FoundBackup) → slice_get w.jobs x.place ≡ Some (types.Backup x.backup) → has_ended x.backup.job.state ≡ false → Sound p (f x).state) → Sound p (on_backup f found).state
backup_keeps p w f found at r k = go found.job at r
  where
    go : (job : Job) → slice_get w.jobs found.place ≡ Some job → has_ended (state_of_job job) ≡ false → Sound p (with_backup f found.place job).state
    go (types.Backup b) e s = k (record { place = found.place; backup = b }) e s

running_keeps : (p : Workload) (w : State) (f : Found → Moved) (found : Found) → Sound p w → (has_ended (state_of_job found.job) ≡ false → Sound p (f found).state) → Sound p (on_running w f found).state
running_keeps p w f found h next = go (has_ended (state_of_job found.job)) refl
  where
    go : (b : Bool) → has_ended (state_of_job found.job) ≡ b → Sound p (cond b (refuses (WrongState (state_of_job found.job)) w) (f found)).state
    go true e = sound_gone p w h
    go false e = next e

pub job_keeps : (p : Workload) (w : State) (tag : Bytes) (f : Found → Moved) (o : Option Found) → newest tag w.jobs ≡ o → Sound p w → ((found : Found) → slice_get w.jobs found.place ≡ Some found.job → has_ended (state_of_job found.job) ≡ false → Sound p (f found).state) → Sound p (on_found w tag f o).state
job_keeps p w tag f None e h next = sound_gone p w h
job_keeps p w tag f (Some found) e h next = running_keeps p w f found h (next found (newest_at tag w.jobs found e))

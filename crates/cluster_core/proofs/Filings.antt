-- A change in parts is the whole change, and one that is taken back leaves the jobs as they were.
use Rattle.std.proofs.Common.{◌≡◌, ℕ, zero, suc, List, [], ◌∷◌, Some, slice_set, refl, sym, ap, ◌∙◌}
use Rattle.std.specs.Prelude.{slice_get}
use Rattle.backup_core.specs.Backups.{BackupJob}
use Rattle.backup_core.proofs.Noting.{undo_law}
use Rattle.cluster_core.specs.declared.change.Change.{Change}
use Rattle.cluster_core.specs.declared.change.Change.TheVariants.{Dump, Cut, Seal}
use Rattle.cluster_core.specs.declared.job.Job.TheVariants as types
use Rattle.cluster_core.specs.Backups.{Backup}
use Rattle.cluster_core.specs.Jobs.{Job}
use Rattle.cluster_core.specs.inner.Filed.{changed, changed_backup, ahead, backup_ahead, settled, settled_backup, taken_back, backup_back, snapshot_of, IsAhead}

whole_backup : (change : Change) (b : Backup) → settled_backup change (backup_ahead change b) ≡ changed_backup change b
whole_backup (Dump piece now file) b = refl
whole_backup (Cut now) b = refl
whole_backup Seal b = refl

whole : (change : Change) (job : Job) → settled change (ahead change job) ≡ changed change job
whole change (types.Backup b) = ap (λ (x : Backup). types.Backup x) (whole_backup change b)

undone_backup : (change : Change) (b : Backup) → backup_back change b.job.snapshot (backup_ahead change b) ≡ b
undone_backup (Dump piece now file) b = ap (λ (j : BackupJob). record b { job = j }) (undo_law b.job piece now file)
undone_backup (Cut now) b = refl
undone_backup Seal b = refl

undone : (change : Change) (job : Job) → taken_back change (snapshot_of job) (ahead change job) ≡ job
undone change (types.Backup b) = ap (λ (x : Backup). types.Backup x) (undone_backup change b)

set_there : (jobs : List Job) (place : ℕ) (old new : Job) → slice_get jobs place ≡ Some old → slice_get (slice_set jobs place new) place ≡ Some new
set_there [] place old new e = absurd cc
set_there (x ∷ xs) zero old new e = refl
set_there (x ∷ xs) (suc place) old new e = set_there xs place old new e

set_twice : (jobs : List Job) (place : ℕ) (a b : Job) → slice_set (slice_set jobs place a) place b ≡ slice_set jobs place b
set_twice [] place a b = refl
set_twice (x ∷ xs) zero a b = refl
set_twice (x ∷ xs) (suc place) a b = ap (λ ys. x ∷ ys) (set_twice xs place a b)

set_same : (jobs : List Job) (place : ℕ) (job : Job) → slice_get jobs place ≡ Some job → slice_set jobs place job ≡ jobs
set_same [] place job e = refl
set_same (x ∷ xs) zero job e = let same : x ≡ job = cc in ap (λ y. y ∷ xs) (sym same)
set_same (x ∷ xs) (suc place) job e = ap (λ ys. x ∷ ys) (set_same xs place job e)

-- the job at the place after it went ahead
pub ahead_there : (old : List Job) (place : ℕ) (change : Change) (snapshot : ℕ) (new : List Job) → (a : IsAhead old place change snapshot new) → slice_get new place ≡ Some (ahead change a.job)
ahead_there old place change snapshot new a = ap (λ (js : List Job). slice_get js place) a.set ∙ set_there old place a.job (ahead change a.job) a.at

some_is : (a b : Job) → Some a ≡ Some b → a ≡ b
some_is a b e = cc

pub filed : (old middle new : List Job) (place : ℕ) (change : Change) (snapshot : ℕ) (job : Job) → IsAhead old place change snapshot middle → slice_get old place ≡ Some job → ((x : Job) → slice_get middle place ≡ Some x → new ≡ slice_set middle place (settled change x)) → new ≡ slice_set old place (changed change job)
filed old middle new place change snapshot job a at rest =
    rest (ahead change a.job) (ahead_there old place change snapshot middle a)
    ∙ ap (λ (js : List Job). slice_set js place (settled change (ahead change a.job))) a.set
    ∙ set_twice old place (ahead change a.job) (settled change (ahead change a.job))
    ∙ ap (slice_set old place) (whole change a.job ∙ ap (changed change) (some_is a.job job (sym a.at ∙ at)))

pub unfiled : (old middle new : List Job) (place : ℕ) (change : Change) (snapshot : ℕ) → IsAhead old place change snapshot middle → ((x : Job) → slice_get middle place ≡ Some x → new ≡ slice_set middle place (taken_back change snapshot x)) → new ≡ old
unfiled old middle new place change snapshot a rest =
    rest (ahead change a.job) (ahead_there old place change snapshot middle a)
    ∙ ap (λ (js : List Job). slice_set js place (taken_back change snapshot (ahead change a.job))) a.set
    ∙ set_twice old place (ahead change a.job) (taken_back change snapshot (ahead change a.job))
    ∙ ap (slice_set old place) (ap (λ (n : ℕ). taken_back change n (ahead change a.job)) a.before ∙ undone change a.job)
    ∙ set_same old place a.job a.at

-- The logs of jobs, found by the numbers of the jobs.
use Rattle.std.specs.Prelude.{◌≡◌, ℕ, zero, suc, ◌+◌, ◌<◌, Bool, true, false, not, List, [], ◌∷◌, length, Option, Some, None, slice_get, if◌then◌else◌, refl}
use Rattle.std.specs.List.{AllByRecursion}
use Rattle.std.proofs.Common.{ap, sym, ◌∙◌, arith, subst, cond}
use Rattle.std.proofs.lemmas.Bool.{eq-eqb, ne_eqb}
use Rattle.task_kinds.specs.States.{has_ended}
use Rattle.workload_text.specs.declared.Side.{Side}
use Rattle.workload_text.specs.declared.Side.TheVariants.{Src, Dst}
use Rattle.database.specs.declared.JobLog.{JobLog}
use Rattle.database.specs.Logs.{log_of, without_log}
use Rattle.backup_core.specs.Backups.{unless_ended}
use Rattle.cluster_core.specs.declared.job.Job.TheVariants as types
use Rattle.cluster_core.specs.Backups.{Backup}
use Rattle.cluster_core.specs.Jobs.{Job, terms_of, is_on, log_on, with_front, logs_of}
use Rattle.cluster_core.specs.Sound.{AreNumbered}

pub next_numbered : (number : ℕ) (x : Job) (xs : List Job) → AreNumbered number (x ∷ xs) → AreNumbered (number + 1) xs
next_numbered number x xs h place job e = h (suc place) job e ∙ omega arith

-- what a backup logs that hasn't ended
abbrev pub log_for : Backup → JobLog
log_for backup = record { job = backup.job.terms.number; ranges = backup.job.terms.ranges; begin = backup.job.begin; erased = backup.job.erased }

own_side : (side t : Side) → side ≡ t → is_on side t ≡ true
own_side Src Src e = refl
own_side Src Dst e = cc
own_side Dst Src e = cc
own_side Dst Dst e = refl

pub own_log : (side : Side) (backup : Backup) → side ≡ backup.side → has_ended backup.job.state ≡ false → log_on side (types.Backup backup) ≡ Some (log_for backup)
own_log side backup s r =
    ap (λ (b : Bool). if b then unless_ended (has_ended backup.job.state) (log_for backup) else None) (own_side side backup.side s)
    ∙ ap (λ (b : Bool). unless_ended b (log_for backup)) r

-- a log has its job's number
pub log_number : (side : Side) (job : Job) (log : JobLog) → log_on side job ≡ Some log → log.job ≡ (terms_of job).number
log_number side (types.Backup backup) log e = go (is_on side backup.side) (has_ended backup.job.state) e
  where
    some_is : (a b : JobLog) → Some a ≡ Some b → a ≡ b
    some_is a b q = cc

    go : (on ended : Bool) → (if on then unless_ended ended (log_for backup) else None) ≡ Some log → log.job ≡ backup.job.terms.number
    go true true q = cc
    go true false q = ap (λ (l : JobLog). l.job) (sym (some_is (log_for backup) log q))
    go false ended q = cc

pub all_front : (P : JobLog → Type 0) (o : Option JobLog) (logs : List JobLog) → ((log : JobLog) → o ≡ Some log → P log) → AllByRecursion P logs → AllByRecursion P (with_front o logs)
all_front P None logs f a = a
all_front P (Some log) logs f a = (f log refl, a)

-- the numbers of logs count on
pub all_higher : (side : Side) (low number : ℕ) (jobs : List Job) → AreNumbered number jobs → low < number → AllByRecursion (λ log. low < log.job) (logs_of side jobs)
all_higher side low number [] n l = tt
all_higher side low number (x ∷ xs) n l =
    all_front (λ log. low < log.job) (log_on side x) (logs_of side xs)
    (λ log e. let a = log_number side x log e in let b = n zero x refl in omega arith)
    (all_higher side low (number + 1) xs (next_numbered number x xs n) (omega arith))

pub all_lower : (side : Side) (number high : ℕ) (jobs : List Job) → AreNumbered number jobs → high ≡ number + length jobs → AllByRecursion (λ log. log.job < high) (logs_of side jobs)
all_lower side number high [] n h = tt
all_lower side number high (x ∷ xs) n h =
    all_front (λ log. log.job < high) (log_on side x) (logs_of side xs)
    (λ log e. let a = log_number side x log e in let b = n zero x refl in omega arith)
    (all_lower side (number + 1) high xs (next_numbered number x xs n) (h ∙ omega arith))

-- ---- the log of a number

-- a log in front that is another job's isn't looked at
behind : (o : Option JobLog) (rest : List JobLog) (number : ℕ) → ((log : JobLog) → o ≡ Some log → log.job ≡ number → ⊥) → log_of (with_front o rest) number ≡ log_of rest number
behind (Some log) rest number d = ap (λ (b : Bool). if b then Some log else log_of rest number) (ne_eqb log.job number (d log refl))
behind None rest number d = refl

in_front : (log : JobLog) (rest : List JobLog) (number : ℕ) → log.job ≡ number → log_of (log ∷ rest) number ≡ Some log
in_front log rest number e = ap (λ (b : Bool). if b then Some log else log_of rest number) (eq-eqb log.job number e)

pub log_found : (side : Side) (number : ℕ) (jobs : List Job) (place : ℕ) (job : Job) (log : JobLog) → AreNumbered number jobs → slice_get jobs place ≡ Some job → log_on side job ≡ Some log → log_of (logs_of side jobs) (number + place) ≡ Some log
log_found side number [] zero job log n at l = cc
log_found side number [] (suc place) job log n at l = cc
log_found side number (x ∷ xs) zero job log n at l =
    let same : x ≡ job = cc in
    let here : log_on side x ≡ Some log = ap (log_on side) same ∙ l in
    ap (λ (o : Option JobLog). log_of (with_front o (logs_of side xs)) (number + zero)) here
    ∙ in_front log (logs_of side xs) (number + zero) (log_number side x log here ∙ n zero x refl)
log_found side number (x ∷ xs) (suc place) job log n at l =
    let e : number + 1 + place ≡ number + suc place = omega arith in
    behind (log_on side x) (logs_of side xs) (number + suc place) (λ y h d. let a = log_number side x y h in let b = n zero x refl in omega arith)
    ∙ subst (λ (m : ℕ). log_of (logs_of side xs) m ≡ Some log) e (log_found side (number + 1) xs place job log (next_numbered number x xs n) at l)

-- ---- without the log of a number

without_higher : (job : ℕ) (logs : List JobLog) → AllByRecursion (λ log. job < log.job) logs → without_log job logs ≡ logs
without_higher job [] a = refl
without_higher job (log ∷ logs) a = ap (λ (b : Bool). cond (not b) (log ∷ without_log job logs) (without_log job logs)) (ne_eqb log.job job (λ e. let l = a.0 in absurd (omega arith))) ∙ ap (λ (ls : List JobLog). log ∷ ls) (without_higher job logs a.1)

-- a log in front is dropped where it is the job's
pub dropped : (number : ℕ) (o : Option JobLog) (logs : List JobLog) → ((log : JobLog) → o ≡ Some log → log.job ≡ number) → AllByRecursion (λ l. number < l.job) logs → without_log number (with_front o logs) ≡ logs
dropped number (Some log) logs f a = ap (λ (b : Bool). cond (not b) (log ∷ without_log number logs) (without_log number logs)) (eq-eqb log.job number (f log refl)) ∙ without_higher number logs a
dropped number None logs f a = without_higher number logs a

pub kept_in_front : (o : Option JobLog) (job : ℕ) (logs : List JobLog) → ((log : JobLog) → o ≡ Some log → log.job ≡ job → ⊥) → without_log job (with_front o logs) ≡ with_front o (without_log job logs)
kept_in_front (Some log) job logs d = ap (λ (b : Bool). cond (not b) (log ∷ without_log job logs) (without_log job logs)) (ne_eqb log.job job (d log refl))
kept_in_front None job logs d = refl

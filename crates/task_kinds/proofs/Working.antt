-- Each task has a work, and a work says all of a task but its job, its future and its block.
use Rattle.std.proofs.Common.{◌≡◌, ℕ, Option, Some, refl, subst}
use Rattle.task_kinds.specs.declared.kind.Kind.{Kind}
use Rattle.task_kinds.specs.declared.kind.Kind.TheVariants as kinds
use Rattle.task_kinds.specs.declared.params.Params.{Params}
use Rattle.task_kinds.specs.declared.params.Params.TheVariants.{Nothing, Piece, Snapshot, Span, File, Range}
use Rattle.task_kinds.specs.Kinds.{shape_of}
use Rattle.task_kinds.specs.Params.{shape_in}
use Rattle.task_kinds.specs.Works.{BackupStart, BackupDispatch, BackupRange, BackupManifest, BackupLogs, BackupLog, BackupErase, BackupFinish, RestoreStart, RestoreDispatch, RestoreRange, RestoreLog, RestoreApply, RestoreComplete, DrStart, DrCopy, DrLogs, DrLog, DrApply, DrErase, DrFinish, Work, OfBackup, OfRestore, OfDr, work_with, work_of, task_as, task_for, future_in, block_in}
use Rattle.task_kinds.specs.Laws.{WorkLaw}

-- ---- a work from parameters of its shape

abbrev Gives : Option Work → Type 0
Gives o = (work : Work) × (o ≡ Some work)

each : (k : Kind) (p : Params) → shape_in p ≡ shape_of k → Gives (work_with k p)
each kinds.BackupStart Nothing e = (OfBackup BackupStart, refl)
each kinds.BackupDispatch Nothing e = (OfBackup BackupDispatch, refl)
each kinds.BackupRange (Piece s r f b) e = (OfBackup (BackupRange s r), refl)
each kinds.BackupManifest (Snapshot s) e = (OfBackup (BackupManifest s), refl)
each kinds.BackupLogs Nothing e = (OfBackup BackupLogs, refl)
each kinds.BackupLog (Span v w f b) e = (OfBackup (BackupLog v w), refl)
each kinds.BackupErase Nothing e = (OfBackup BackupErase, refl)
each kinds.BackupFinish Nothing e = (OfBackup BackupFinish, refl)
each kinds.RestoreStart Nothing e = (OfRestore RestoreStart, refl)
each kinds.RestoreDispatch Nothing e = (OfRestore RestoreDispatch, refl)
each kinds.RestoreRange (File n f b) e = (OfRestore (RestoreRange n), refl)
each kinds.RestoreLog (File n f b) e = (OfRestore (RestoreLog n), refl)
each kinds.RestoreApply Nothing e = (OfRestore RestoreApply, refl)
each kinds.RestoreComplete Nothing e = (OfRestore RestoreComplete, refl)
each kinds.DrStart Nothing e = (OfDr DrStart, refl)
each kinds.DrCopy (Range r f b) e = (OfDr (DrCopy r), refl)
each kinds.DrLogs Nothing e = (OfDr DrLogs, refl)
each kinds.DrLog (Span v w f b) e = (OfDr (DrLog v w), refl)
each kinds.DrApply Nothing e = (OfDr DrApply, refl)
each kinds.DrErase Nothing e = (OfDr DrErase, refl)
each kinds.DrFinish Nothing e = (OfDr DrFinish, refl)
each _ _ e = absurd cc

-- ---- the task from its work

some_is : (x y : Work) → (let o : Option Work = Some x in o) ≡ Some y → x ≡ y
some_is x y e = cc

-- the task of these parameters is the one for that work
abbrev IsFor : ℕ → Kind → Params → Work → Type 0
IsFor job k p work = task_as job k p ≡ task_for job (future_in p) (block_in p) work

is_for : (job : ℕ) (k : Kind) (p : Params) (x y : Work) → IsFor job k p x → (let o : Option Work = Some x in o) ≡ Some y → IsFor job k p y
is_for job k p x y h e = subst (IsFor job k p) (some_is x y e) h

only : (job : ℕ) (k : Kind) (p : Params) (work : Work) → work_with k p ≡ Some work → IsFor job k p work
only job kinds.BackupStart Nothing x e = is_for job kinds.BackupStart Nothing (OfBackup BackupStart) x refl e
only job kinds.BackupDispatch Nothing x e = is_for job kinds.BackupDispatch Nothing (OfBackup BackupDispatch) x refl e
only job kinds.BackupRange (Piece s r f b) x e = is_for job kinds.BackupRange (Piece s r f b) (OfBackup (BackupRange s r)) x refl e
only job kinds.BackupManifest (Snapshot s) x e = is_for job kinds.BackupManifest (Snapshot s) (OfBackup (BackupManifest s)) x refl e
only job kinds.BackupLogs Nothing x e = is_for job kinds.BackupLogs Nothing (OfBackup BackupLogs) x refl e
only job kinds.BackupLog (Span v w f b) x e = is_for job kinds.BackupLog (Span v w f b) (OfBackup (BackupLog v w)) x refl e
only job kinds.BackupErase Nothing x e = is_for job kinds.BackupErase Nothing (OfBackup BackupErase) x refl e
only job kinds.BackupFinish Nothing x e = is_for job kinds.BackupFinish Nothing (OfBackup BackupFinish) x refl e
only job kinds.RestoreStart Nothing x e = is_for job kinds.RestoreStart Nothing (OfRestore RestoreStart) x refl e
only job kinds.RestoreDispatch Nothing x e = is_for job kinds.RestoreDispatch Nothing (OfRestore RestoreDispatch) x refl e
only job kinds.RestoreRange (File n f b) x e = is_for job kinds.RestoreRange (File n f b) (OfRestore (RestoreRange n)) x refl e
only job kinds.RestoreLog (File n f b) x e = is_for job kinds.RestoreLog (File n f b) (OfRestore (RestoreLog n)) x refl e
only job kinds.RestoreApply Nothing x e = is_for job kinds.RestoreApply Nothing (OfRestore RestoreApply) x refl e
only job kinds.RestoreComplete Nothing x e = is_for job kinds.RestoreComplete Nothing (OfRestore RestoreComplete) x refl e
only job kinds.DrStart Nothing x e = is_for job kinds.DrStart Nothing (OfDr DrStart) x refl e
only job kinds.DrCopy (Range r f b) x e = is_for job kinds.DrCopy (Range r f b) (OfDr (DrCopy r)) x refl e
only job kinds.DrLogs Nothing x e = is_for job kinds.DrLogs Nothing (OfDr DrLogs) x refl e
only job kinds.DrLog (Span v w f b) x e = is_for job kinds.DrLog (Span v w f b) (OfDr (DrLog v w)) x refl e
only job kinds.DrApply Nothing x e = is_for job kinds.DrApply Nothing (OfDr DrApply) x refl e
only job kinds.DrErase Nothing x e = is_for job kinds.DrErase Nothing (OfDr DrErase) x refl e
only job kinds.DrFinish Nothing x e = is_for job kinds.DrFinish Nothing (OfDr DrFinish) x refl e
only job _ _ x e = absurd cc

-- ---- the work of its task

again : (job future block : ℕ) (work : Work) → work_of (task_for job future block work) ≡ Some work
again job f b (OfBackup BackupStart) = refl
again job f b (OfBackup BackupDispatch) = refl
again job f b (OfBackup (BackupRange s r)) = refl
again job f b (OfBackup (BackupManifest s)) = refl
again job f b (OfBackup BackupLogs) = refl
again job f b (OfBackup (BackupLog v w)) = refl
again job f b (OfBackup BackupErase) = refl
again job f b (OfBackup BackupFinish) = refl
again job f b (OfRestore RestoreStart) = refl
again job f b (OfRestore RestoreDispatch) = refl
again job f b (OfRestore (RestoreRange n)) = refl
again job f b (OfRestore (RestoreLog n)) = refl
again job f b (OfRestore RestoreApply) = refl
again job f b (OfRestore RestoreComplete) = refl
again job f b (OfDr DrStart) = refl
again job f b (OfDr (DrCopy r)) = refl
again job f b (OfDr DrLogs) = refl
again job f b (OfDr (DrLog v w)) = refl
again job f b (OfDr DrApply) = refl
again job f b (OfDr DrErase) = refl
again job f b (OfDr DrFinish) = refl

pub work_law_holds : WorkLaw
work_law_holds = record {
  each = λ task h. each task.kind task.params h.shape;
  only = λ task work e. only task.job task.kind task.params work e;
  again = again;
}

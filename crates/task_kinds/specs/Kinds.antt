-- The table of kinds.
use Rattle.std.specs.Prelude.{ℕ, Bool, true, false, List, [], ◌∷◌, Option, Some, None, codes, ◌==◌}
use Rattle.std.specs.Prelude.{if◌then◌else◌}
use Rattle.task_kinds.specs.declared.kind.Kind.{Kind}
use Rattle.task_kinds.specs.declared.kind.Kind.TheVariants.{BackupStart, BackupDispatch}
use Rattle.task_kinds.specs.declared.kind.Kind.TheVariants.{BackupRange, BackupManifest, BackupLogs}
use Rattle.task_kinds.specs.declared.kind.Kind.TheVariants.{BackupLog, BackupErase, BackupFinish}
use Rattle.task_kinds.specs.declared.kind.Kind.TheVariants.{RestoreStart, RestoreDispatch}
use Rattle.task_kinds.specs.declared.kind.Kind.TheVariants.{RestoreRange, RestoreLog, RestoreApply}
use Rattle.task_kinds.specs.declared.kind.Kind.TheVariants.{RestoreComplete, DrStart, DrCopy}
use Rattle.task_kinds.specs.declared.kind.Kind.TheVariants.{DrLogs, DrLog, DrApply, DrErase}
use Rattle.task_kinds.specs.declared.kind.Kind.TheVariants.{DrFinish}
use Rattle.task_kinds.specs.declared.kind.Shape.{Shape}
use Rattle.task_kinds.specs.declared.kind.Shape.TheVariants as shapes

-- the number of a kind in tuples
abbrev pub code_of : Kind → ℕ
code_of BackupStart = 1
code_of BackupDispatch = 2
code_of BackupRange = 3
code_of BackupManifest = 4
code_of BackupLogs = 5
code_of BackupLog = 6
code_of BackupErase = 7
code_of BackupFinish = 8
code_of RestoreStart = 9
code_of RestoreDispatch = 10
code_of RestoreRange = 11
code_of RestoreLog = 12
code_of RestoreApply = 13
code_of RestoreComplete = 14
code_of DrStart = 15
code_of DrCopy = 16
code_of DrLogs = 17
code_of DrLog = 18
code_of DrApply = 19
code_of DrErase = 20
code_of DrFinish = 21

-- the word of a kind in reports
abbrev pub word_of : Kind → List ℕ
word_of BackupStart = codes "backup-start"
word_of BackupDispatch = codes "backup-dispatch"
word_of BackupRange = codes "backup-range"
word_of BackupManifest = codes "backup-manifest"
word_of BackupLogs = codes "backup-logs"
word_of BackupLog = codes "backup-log"
word_of BackupErase = codes "backup-erase"
word_of BackupFinish = codes "backup-finish"
word_of RestoreStart = codes "restore-start"
word_of RestoreDispatch = codes "restore-dispatch"
word_of RestoreRange = codes "restore-range"
word_of RestoreLog = codes "restore-log"
word_of RestoreApply = codes "restore-apply"
word_of RestoreComplete = codes "restore-complete"
word_of DrStart = codes "dr-start"
word_of DrCopy = codes "dr-copy"
word_of DrLogs = codes "dr-logs"
word_of DrLog = codes "dr-log"
word_of DrApply = codes "dr-apply"
word_of DrErase = codes "dr-erase"
word_of DrFinish = codes "dr-finish"

-- the take of these keeps something
abbrev pub takes_of : Kind → Bool
takes_of BackupRange = true
takes_of BackupManifest = true
takes_of BackupLog = true
takes_of RestoreRange = true
takes_of RestoreLog = true
takes_of DrCopy = true
takes_of DrLog = true
takes_of _ = false

-- what these took is placed as a file, or decoded, before the close
abbrev pub places_of : Kind → Bool
places_of BackupRange = true
places_of BackupManifest = true
places_of BackupLog = true
places_of RestoreRange = true
places_of RestoreLog = true
places_of _ = false

-- the parameters that the tasks of a kind have
abbrev pub shape_of : Kind → Shape
shape_of BackupRange = shapes.Piece
shape_of BackupManifest = shapes.Snapshot
shape_of BackupLog = shapes.Span
shape_of RestoreRange = shapes.File
shape_of RestoreLog = shapes.File
shape_of DrCopy = shapes.Range
shape_of DrLog = shapes.Span
shape_of _ = shapes.Nothing

-- all of them, in the order of their codes
abbrev pub kinds : List Kind
kinds = BackupStart ∷ BackupDispatch ∷ BackupRange ∷ BackupManifest ∷ BackupLogs ∷ BackupLog ∷
    BackupErase ∷ BackupFinish ∷ RestoreStart ∷ RestoreDispatch ∷ RestoreRange ∷ RestoreLog ∷
    RestoreApply ∷ RestoreComplete ∷ DrStart ∷ DrCopy ∷ DrLogs ∷ DrLog ∷ DrApply ∷ DrErase ∷
    DrFinish ∷ []

abbrev pub first_with : ℕ → List Kind → Option Kind
first_with code [] = None
first_with code (k ∷ ks) = if code_of k == code then Some k else first_with code ks

-- the kind with a code
abbrev pub kind_with : ℕ → Option Kind
kind_with code = first_with code kinds

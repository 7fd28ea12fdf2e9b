-- The one tuple of a task, and the task of a tuple.
use Rattle.std.specs.Prelude.{ℕ, ◌^◌, List, [], ◌∷◌, Option, Some, None, Result, Err}
use Rattle.std.specs.Prelude.{ℤ, pos, negsuc, nat_lt, nat_le, if◌then◌else◌}
use Rattle.fb_bytes.specs.Options.{◌>>=◌}
use Rattle.fb_bytes.specs.Results.{found_or}
use Rattle.fb_bytes.specs.declared.key_range.KeyRange.{KeyRange}
use Rattle.tuple_keys.specs.declared.element.Element.{Element}
use Rattle.tuple_keys.specs.declared.element.Element.TheVariants.{Bytes, Int}
use Rattle.task_kinds.specs.declared.kind.Kind.{Kind}
use Rattle.task_kinds.specs.declared.kind.Shape.{Shape}
use Rattle.task_kinds.specs.declared.kind.Shape.TheVariants as shapes
use Rattle.task_kinds.specs.declared.params.Params.{Params}
use Rattle.task_kinds.specs.declared.params.Params.TheVariants.{Nothing, Piece, Snapshot, Span}
use Rattle.task_kinds.specs.declared.params.Params.TheVariants.{File, Range}
use Rattle.task_kinds.specs.declared.fault.KindFault.{KindFault}
use Rattle.task_kinds.specs.declared.fault.KindFault.TheVariants as faults
use Rattle.task_kinds.specs.Kinds.{code_of, shape_of, kind_with}
use Rattle.task_kinds.specs.Tasks.{SeenTask}

abbrev pub number : ℕ → Element
number n = Int (pos n)

abbrev pub elements_of : Params → List Element
elements_of Nothing = []
elements_of (Piece snapshot range future block) =
    number snapshot ∷ Bytes range.begin ∷ Bytes range.end ∷ number future ∷ number block ∷ []
elements_of (Snapshot snapshot) = number snapshot ∷ []
elements_of (Span begin end future block) =
    number begin ∷ number end ∷ number future ∷ number block ∷ []
elements_of (File place future block) = number place ∷ number future ∷ number block ∷ []
elements_of (Range range future block) =
    Bytes range.begin ∷ Bytes range.end ∷ number future ∷ number block ∷ []

-- the kind's code, the job and the parameters
abbrev pub tuple_of : SeenTask → List Element
tuple_of task = number (code_of task.kind) ∷ number task.job ∷ elements_of task.params

-- ---- reading

-- the number in front, from 0 on and below 2 to the 63rd, and the elements behind it
abbrev pub number_at : List Element → Option (ℕ × List Element)
number_at (Int (pos n) ∷ es) = if nat_lt n (2 ^ 63) then Some (n, es) else None
number_at _ = None

abbrev pub bytes_at : List Element → Option (List ℕ × List Element)
bytes_at (Bytes bytes ∷ es) = Some (bytes, es)
bytes_at _ = None

-- nothing stands behind
abbrev pub ended : {A : Type 0} → List Element → A → Option A
ended [] x = Some x
ended (e ∷ es) x = None

-- two byte strings as the ends of a range, and the elements behind them
abbrev pub range_in : List Element → Option (KeyRange × List Element)
range_in es = do
  begin ← bytes_at es
  end ← bytes_at begin.1
  Some (record { begin = begin.0; end = end.0 }, end.1)

-- a future and a block, and nothing behind them
abbrev pub waiter_at : List Element → Option (ℕ × ℕ)
waiter_at es = do
  future ← number_at es
  block ← number_at future.1
  ended block.1 (future.0, block.0)

abbrev pub piece_at : List Element → Option Params
piece_at es = do
  snapshot ← number_at es
  range ← range_in snapshot.1
  waiter ← waiter_at range.1
  Some (Piece snapshot.0 range.0 waiter.0 waiter.1)

abbrev pub snapshot_at : List Element → Option Params
snapshot_at es = do
  snapshot ← number_at es
  ended snapshot.1 (Snapshot snapshot.0)

abbrev pub span_at : List Element → Option Params
span_at es = do
  begin ← number_at es
  end ← number_at begin.1
  waiter ← waiter_at end.1
  Some (Span begin.0 end.0 waiter.0 waiter.1)

abbrev pub file_at : List Element → Option Params
file_at es = do
  place ← number_at es
  waiter ← waiter_at place.1
  Some (File place.0 waiter.0 waiter.1)

abbrev pub range_at : List Element → Option Params
range_at es = do
  range ← range_in es
  waiter ← waiter_at range.1
  Some (Range range.0 waiter.0 waiter.1)

abbrev pub params_at : Shape → List Element → Option Params
params_at shapes.Nothing es = ended es Nothing
params_at shapes.Piece es = piece_at es
params_at shapes.Snapshot es = snapshot_at es
params_at shapes.Span es = span_at es
params_at shapes.File es = file_at es
params_at shapes.Range es = range_at es

-- a job's number, from 1 on
abbrev pub job_at : List Element → Option (ℕ × List Element)
job_at es = do
  job ← number_at es
  if nat_le 1 job.0 then Some job else None

abbrev pub rest_of : Kind → List Element → Option SeenTask
rest_of kind es = do
  job ← job_at es
  params ← params_at (shape_of kind) job.1
  Some (record { job = job.0; kind = kind; params = params })

abbrev pub task_with : ℤ → Option Kind → List Element → Result SeenTask KindFault
task_with code None es = Err (faults.Kind code)
task_with code (Some kind) es = found_or (faults.Params kind) (rest_of kind es)

abbrev pub kind_of : ℤ → Option Kind
kind_of (pos n) = kind_with n
kind_of (negsuc n) = None

-- the task that a tuple is, else what is wrong with it
abbrev pub task_of : List Element → Result SeenTask KindFault
task_of (Int code ∷ es) = task_with code (kind_of code) es
task_of _ = Err (faults.Kind (pos 0))

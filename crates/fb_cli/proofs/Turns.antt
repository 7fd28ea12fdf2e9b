-- Runs, an event line at a time.
use Rattle.std.specs.Prelude.{◌≡◌, ℕ, suc, ◌+◌, ◌-◌, ◌<◌, List, [], ◌∷◌, ◌++◌, map, length, take, slice_get, Option, Some, None, Ok, Err, refl}
use Rattle.std.proofs.Common.{ap, sym, ◌∙◌, arith, subst, get_or}
use Rattle.std.proofs.lemmas.List.{take_more}
use Rattle.workload_text.specs.declared.ScheduleLine.{ScheduleLine}
use Rattle.workload_text.specs.declared.Workload.{Workload}
use Rattle.cluster_core.specs.declared.DrainFault.TheVariants as drains
use Rattle.cluster_core.specs.declared.StepFault.{StepFault}
use Rattle.cluster_core.specs.declared.StepFault.TheVariants as steps
use Rattle.cluster_core.specs.State.{State}
use Rattle.report_text.specs.declared.EventAnswer.{EventAnswer}
use Rattle.report_text.specs.declared.EventAnswer.TheVariants.{Step, Drain}
use Rattle.report_text.specs.declared.EventLine.{EventLine}
use Rattle.fb_cli.specs.declared.fault.Fault.{Fault}
use Rattle.fb_cli.specs.declared.fault.Fault.TheVariants.{NoMemory}
use Rattle.fb_cli.specs.Faults.{refusal_of_step, fault_of, last_fault}
use Rattle.fb_cli.specs.Runs.{TellsTurns, Tells, schedule_of}
use Rattle.fb_cli.specs.Replays.{IsPlayed}

-- ---- one more line

Tells-snoc : (p : Workload) (old middle new : State) (lines : List EventLine) (line : EventLine) → Tells p old lines middle → TellsTurns p middle line new → Tells p old (lines ++ line ∷ []) new
Tells-snoc p old middle new [] line r k = (new, subst (λ (w : State). TellsTurns p w line new) (sym r) k, refl)
Tells-snoc p old middle new (l ∷ ls) line r k = (r.0, r.1, Tells-snoc p r.0 middle new ls line r.2 k)

map-snoc : {X Y : Type 0} (f : X → Y) (xs : List X) (x : X) → map f (xs ++ x ∷ []) ≡ map f xs ++ f x ∷ []
map-snoc f [] x = refl
map-snoc f (y ∷ ys) x = ap (λ zs. f y ∷ zs) (map-snoc f ys x)

-- the same where the longer list has a name, and the step was made of a workload of a name
pub run_more : (p q : Workload) (old middle new : State) (lines all : List EventLine) (line : EventLine) → all ≡ lines ++ line ∷ [] → q ≡ p → Tells p old lines middle → TellsTurns q middle line new → Tells p old all new
run_more p q old middle new lines all line a e r k =
    subst (λ (xs : List EventLine). Tells p old xs new) (sym a) (Tells-snoc p old middle new lines line r (subst (λ (x : Workload). TellsTurns x middle line new) e k))

-- what was pushed is what was to be kept
pub pushed : (lines all : List EventLine) (kept told : EventLine) → all ≡ lines ++ kept ∷ [] → kept ≡ told → all ≡ lines ++ told ∷ []
pushed lines all kept told a e = a ∙ ap (λ (x : EventLine). lines ++ x ∷ []) e

-- the schedule's lines so far
pub lines_more : (lines all : List EventLine) (told : EventLine) (schedule : List ScheduleLine) (i : ℕ) (d : ScheduleLine) → all ≡ lines ++ told ∷ [] → schedule_of lines ≡ take i schedule → i < length schedule → told.line ≡ get_or schedule i d → schedule_of all ≡ take (i + 1) schedule
lines_more lines all told schedule i d a h lt e =
    ap (map (λ (line : EventLine). line.line)) a
    ∙ map-snoc (λ (line : EventLine). line.line) lines told
    ∙ ap (λ (xs : List ScheduleLine). xs ++ told.line ∷ []) h
    ∙ ap (λ (x : ScheduleLine). take i schedule ++ x ∷ []) e
    ∙ sym (take_more schedule i d lt)

-- ---- the last answer

-- the refusal of an event line, where there is one
abbrev fault_at : Option EventLine → Option Fault
fault_at None = None
fault_at (Some line) = fault_of line.reply

last_is : (lines : List EventLine) → fault_at (slice_get lines (length lines - 1)) ≡ last_fault lines
last_is [] = refl
last_is (line ∷ []) = refl
last_is (line ∷ next ∷ rest) =
    ap (λ (n : ℕ). fault_at (slice_get (line ∷ next ∷ rest) n)) (let e : length (line ∷ next ∷ rest) - 1 ≡ suc (length (next ∷ rest) - 1) = omega arith in e)
    ∙ last_is (next ∷ rest)

pub some_last : (lines : List EventLine) (line : EventLine) → slice_get lines (length lines - 1) ≡ Some line → fault_of line.reply ≡ last_fault lines
some_last lines line e = ap fault_at (sym e) ∙ last_is lines

last-snoc : (lines : List EventLine) (line : EventLine) → last_fault (lines ++ line ∷ []) ≡ fault_of line.reply
last-snoc [] line = refl
last-snoc (x ∷ []) line = refl
last-snoc (x ∷ y ∷ ys) line = last-snoc (y ∷ ys) line

-- an answer but want of memory ends no replay before its end
played_step : (fault : StepFault) → (Some (refusal_of_step fault) ≡ Some NoMemory → ⊥) → IsPlayed (Some (refusal_of_step fault))
played_step steps.VaultFault h = tt
played_step (steps.VersionsSpent version) h = tt
played_step (steps.LogTooLarge bytes) h = tt
played_step steps.NoMemory h = absurd (h refl)

played_answer : (answer : EventAnswer) → (fault_of answer ≡ Some NoMemory → ⊥) → IsPlayed (fault_of answer)
played_answer (Step (Ok answer)) h = tt
played_answer (Step (Err fault)) h = played_step fault h
played_answer (Drain (Ok steps)) h = tt
played_answer (Drain (Err (drains.TurnsSpent turns))) h = tt
played_answer (Drain (Err (drains.Step fault))) h = played_step fault h

-- a run that is told was played to its end
played_lines : (p : Workload) (old new : State) (lines : List EventLine) → Tells p old lines new → IsPlayed (last_fault lines)
played_lines p old new [] r = tt
played_lines p old new (line ∷ []) r = let k = r.1 in played_answer line.reply k.memory
played_lines p old new (line ∷ next ∷ rest) r = played_lines p r.0 new (next ∷ rest) r.2

-- and its refusal is that of a replay which was played
pub played_fault : (p : Workload) (old new : State) (lines all : List EventLine) (fault : Option Fault) → Tells p old lines new → all ≡ lines → fault ≡ last_fault all → IsPlayed fault
played_fault p old new lines all fault r a f = subst IsPlayed (sym (f ∙ ap last_fault a)) (played_lines p old new lines r)

pub same_last : (lines all : List EventLine) (fault found : Option Fault) → all ≡ lines → fault ≡ last_fault all → fault ≡ found → last_fault lines ≡ found
same_last lines all fault found a f e = ap last_fault (sym a) ∙ sym f ∙ e

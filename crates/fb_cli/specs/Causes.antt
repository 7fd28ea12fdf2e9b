-- That each line of a report which says a fault of the store has its cause.
use Rattle.std.specs.Prelude.{◌≡◌, ℕ, ◌+◌, ◌≤◌, List, [], ◌∷◌, Some, Err, ◌⊎◌}
use Rattle.fb_outside.specs.Faults.{most_faults, Counts}
use Rattle.cluster_core.specs.declared.DrainFault.TheVariants as drains
use Rattle.cluster_core.specs.declared.StepFault.TheVariants as steps
use Rattle.report_text.specs.declared.EventAnswer.{EventAnswer}
use Rattle.report_text.specs.declared.EventAnswer.TheVariants.{Step, Drain}
use Rattle.report_text.specs.declared.EventLine.{EventLine}
use Rattle.fb_cli.specs.declared.fault.Fault.TheVariants.{VaultFault}
use Rattle.fb_cli.specs.Faults.{fault_of}

-- one for an answer that says a fault of the store, else none
abbrev pub vault_faults_of : EventAnswer → ℕ
vault_faults_of (Step (Err steps.VaultFault)) = 1
vault_faults_of (Drain (Err (drains.Step steps.VaultFault))) = 1
vault_faults_of answer = 0

-- how many of the event lines say a fault of the store
abbrev pub vault_faults : List EventLine → ℕ
vault_faults [] = 0
vault_faults (line ∷ rest) = vault_faults_of line.reply + vault_faults rest

-- The count is at least so much greater, or it stands at its end.
abbrev pub RoseBy : ℕ → ℕ → ℕ → Type 0
RoseBy faults before after = (before + faults ≤ after) ⊎ (most_faults ≤ after)

-- From event to event the store's count never fell, and it rose in each whose line says its fault.
abbrev pub RoseInEach : List EventLine → ℕ → ℕ → Type 0
RoseInEach [] before after = before ≤ after
RoseInEach (line ∷ rest) before after =
    (middle : ℕ)
    × Counts before middle (fault_of line.reply ≡ Some VaultFault)
    × RoseInEach rest middle after

-- Each of the event lines that says a fault of the store has its cause: the store's count rose in
-- that event, and so by as many as there are such lines.
pub record HaveCauses (lines : List EventLine) (before after : ℕ) : Type 0 where
  pub each : RoseInEach lines before after
  pub sum : RoseBy (vault_faults lines) before after

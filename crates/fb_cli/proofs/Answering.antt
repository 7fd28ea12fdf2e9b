-- What a line of a schedule is answered.
use Rattle.std.specs.Prelude.{◌≡◌, ℕ, List, [], ◌∷◌, Option, Some, None, Result, Ok, Err, IsErrOf, refl}
use Rattle.std.proofs.Common.{sym, subst}
use Rattle.fb_outside.specs.Faults.{Counts}
use Rattle.workload_text.specs.declared.ScheduleLine.{ScheduleLine}
use Rattle.workload_text.specs.declared.ScheduleLine.TheVariants as lines
use Rattle.workload_text.specs.declared.Workload.{Workload}
use Rattle.cluster_core.specs.declared.Answer.{Answer}
use Rattle.cluster_core.specs.declared.DrainFault.{DrainFault}
use Rattle.cluster_core.specs.declared.DrainFault.TheVariants as drains
use Rattle.cluster_core.specs.declared.Event.{Event}
use Rattle.cluster_core.specs.declared.StepFault.{StepFault}
use Rattle.cluster_core.specs.declared.StepFault.TheVariants as steps
use Rattle.cluster_core.specs.Drain.{DrainGives}
use Rattle.cluster_core.specs.Footprints.{Footprint}
use Rattle.cluster_core.specs.State.{State}
use Rattle.cluster_core.specs.Step.{Step, Turn}
use Rattle.cluster_core.proofs.Draining.{drain_run}
use Rattle.report_text.specs.declared.EventAnswer.{EventAnswer}
use Rattle.report_text.specs.declared.EventAnswer.TheVariants as answers
use Rattle.fb_cli.specs.declared.fault.Fault.{Fault}
use Rattle.fb_cli.specs.declared.fault.Fault.TheVariants.{VaultFault, NoMemory}
use Rattle.fb_cli.specs.Faults.{fault_of}
use Rattle.fb_cli.specs.Fronts.{Starves}
use Rattle.fb_cli.specs.Runs.{event_of, most_turns, TurnsTold, Answers}

-- ---- a step

pub step_answers : (p : Workload) (old new : State) (line : ScheduleLine) (event : Event) (answer : Result Answer StepFault) → event_of line ≡ Some event → Step p old event answer new → Answers p old line (answers.Step answer) new
step_answers p old new line event answer e step =
    let turns : List Turn = record { event = event; answer = answer } ∷ [] in
    record {
      turns = turns;
      told = subst (λ (o : Option Event). TurnsTold p old o (answers.Step answer) turns new) (sym e) refl;
      run = (new, step, refl);
    }

starved_is : (answer : Result Answer StepFault) → fault_of (answers.Step answer) ≡ Some NoMemory → answer ≡ Err steps.NoMemory
starved_is (Ok answer) h = cc
starved_is (Err steps.VaultFault) h = cc
starved_is (Err (steps.VersionsSpent version)) h = cc
starved_is (Err (steps.LogTooLarge bytes)) h = cc
starved_is (Err steps.NoMemory) h = refl

pub step_starves : (p : Workload) (most : ℕ) (old new : State) (line : ScheduleLine) (answer : Result Answer StepFault) → Footprint most old answer new → fault_of (answers.Step answer) ≡ Some NoMemory → Starves p old line new
step_starves p most old new line answer f h = record {
  turns = [];
  run = sym (f.starved (starved_is answer h));
  drain = λ n. absurd (n refl);
}

vault_is : (answer : Result Answer StepFault) → fault_of (answers.Step answer) ≡ Some VaultFault → IsErrOf answer steps.VaultFault
vault_is (Ok answer) h = cc
vault_is (Err steps.VaultFault) h = refl
vault_is (Err (steps.VersionsSpent version)) h = cc
vault_is (Err (steps.LogTooLarge bytes)) h = cc
vault_is (Err steps.NoMemory) h = cc

pub step_counts : (a c : ℕ) (answer : Result Answer StepFault) → Counts a c (IsErrOf answer steps.VaultFault) → Counts a c (fault_of (answers.Step answer) ≡ Some VaultFault)
step_counts a c answer k = record { later = k.later; rose = λ h. k.rose (vault_is answer h) }

-- ---- a drain

pub drain_answers : (p : Workload) (old new : State) (line : ScheduleLine) (result : Result ℕ DrainFault) → event_of line ≡ None → DrainGives p most_turns old result new → Answers p old line (answers.Drain result) new
drain_answers p old new line result e g = record {
  turns = g.turns;
  told = subst (λ (o : Option Event). TurnsTold p old o (answers.Drain result) g.turns new) (sym e) g.drains;
  run = drain_run p old new g.turns g.drains.run;
}

is_drain : (line : ScheduleLine) → event_of line ≡ None → line ≡ lines.Drain
is_drain (lines.Begin client) e = cc
is_drain (lines.Commit client) e = cc
is_drain (lines.Tick n) e = cc
is_drain (lines.Claim agent pick) e = cc
is_drain (lines.Extend agent) e = cc
is_drain (lines.Take agent) e = cc
is_drain (lines.Place agent) e = cc
is_drain (lines.Close agent) e = cc
is_drain (lines.Die agent) e = cc
is_drain lines.Op e = cc
is_drain lines.Drain e = refl

pub drain_starves : (p : Workload) (most : ℕ) (old new : State) (line : ScheduleLine) (result : Result ℕ DrainFault) → event_of line ≡ None → DrainGives p most old result new → Starves p old line new
drain_starves p most old new line result e g = record {
  turns = g.turns;
  run = g.drains.run;
  drain = λ n. is_drain line e;
}

vault_drain : (result : Result ℕ DrainFault) → fault_of (answers.Drain result) ≡ Some VaultFault → IsErrOf result (drains.Step steps.VaultFault)
vault_drain (Ok made) h = cc
vault_drain (Err (drains.TurnsSpent turns)) h = cc
vault_drain (Err (drains.Step steps.VaultFault)) h = refl
vault_drain (Err (drains.Step (steps.VersionsSpent version))) h = cc
vault_drain (Err (drains.Step (steps.LogTooLarge bytes))) h = cc
vault_drain (Err (drains.Step steps.NoMemory)) h = cc

pub drain_counts : (a c : ℕ) (result : Result ℕ DrainFault) → Counts a c (IsErrOf result (drains.Step steps.VaultFault)) → Counts a c (fault_of (answers.Drain result) ≡ Some VaultFault)
drain_counts a c result k = record { later = k.later; rose = λ h. k.rose (vault_drain result h) }

-- The refusals of a command: their statuses and their lines.
use Rattle.std.specs.Prelude.{ℕ, List, [], ◌∷◌, ◌++◌, Option, Some, None}
use Rattle.std.specs.Prelude.{codes, decimal, option_map}
use Rattle.fb_bytes.specs.Bytes.{Bytes}
use Rattle.cluster_core.specs.declared.DrainFault.{DrainFault}
use Rattle.cluster_core.specs.declared.DrainFault.TheVariants as drains
use Rattle.cluster_core.specs.declared.StepFault.{StepFault}
use Rattle.cluster_core.specs.declared.StepFault.TheVariants as steps
use Rattle.workload_text.specs.Faults.{kind_word}
use Rattle.report_text.specs.declared.EventAnswer.{EventAnswer}
use Rattle.report_text.specs.declared.EventLine.{EventLine}
use Rattle.report_text.specs.Events.{fault_in}
use Rattle.report_text.specs.Descriptions.{number_or_none}
use Rattle.report_text.specs.Faults.{file_fault_words}
use Rattle.report_text.specs.Lines.{behind}
use Rattle.fb_cli.specs.declared.fault.Fault.{Fault}
use Rattle.fb_cli.specs.declared.fault.Fault.TheVariants.{Usage, TextRefused}
use Rattle.fb_cli.specs.declared.fault.Fault.TheVariants.{SourceFault, SinkFault, VaultFault}
use Rattle.fb_cli.specs.declared.fault.Fault.TheVariants.{NotRestorable, Damaged, CannotExpire}
use Rattle.fb_cli.specs.declared.fault.Fault.TheVariants.{TurnsSpent, VersionsSpent, LogTooLarge}
use Rattle.fb_cli.specs.declared.fault.Fault.TheVariants.{NoMemory, NoContainer, Missing, NotBuilt}

-- the status that a command ends with
abbrev pub status_of : Option Fault → ℕ
status_of None = 0
status_of (Some Usage) = 1
status_of (Some (TextRefused line kind)) = 2
status_of (Some SourceFault) = 3
status_of (Some SinkFault) = 4
status_of (Some VaultFault) = 5
status_of (Some (NotRestorable low high)) = 6
status_of (Some (Damaged name fault)) = 7
status_of (Some (CannotExpire wanted left)) = 8
status_of (Some (TurnsSpent turns)) = 9
status_of (Some (VersionsSpent version)) = 10
status_of (Some NoMemory) = 12
status_of (Some NoContainer) = 13
status_of (Some (Missing name)) = 14
status_of (Some (NotBuilt line)) = 15
status_of (Some (LogTooLarge bytes)) = 19

-- the line of a refusal; two have none
abbrev pub refusal_line : Option Fault → Bytes
refusal_line None = []
refusal_line (Some Usage) = codes "refused usage\n"
refusal_line (Some (TextRefused line kind)) =
    codes "refused text " ++ (decimal line ++ (codes " " ++ (kind_word kind ++ codes "\n")))
refusal_line (Some SourceFault) = codes "refused source-fault\n"
refusal_line (Some SinkFault) = []
refusal_line (Some VaultFault) = codes "refused vault-fault\n"
refusal_line (Some (TurnsSpent turns)) =
    codes "refused turns-spent " ++ decimal turns ++ codes "\n"
refusal_line (Some (VersionsSpent version)) =
    codes "refused versions-spent " ++ decimal version ++ codes "\n"
refusal_line (Some (LogTooLarge bytes)) =
    codes "refused log-too-large " ++ decimal bytes ++ codes "\n"
refusal_line (Some (NotRestorable low high)) =
    codes "refused not-restorable "
    ++ (number_or_none low ++ (codes " " ++ (number_or_none high ++ codes "\n")))
refusal_line (Some (Damaged name fault)) =
    codes "refused damaged " ++ (name ++ behind (file_fault_words fault))
refusal_line (Some (CannotExpire wanted left)) =
    codes "refused cannot-expire "
    ++ (decimal wanted ++ (codes " " ++ (number_or_none left ++ codes "\n")))
refusal_line (Some NoMemory) = []
refusal_line (Some NoContainer) = codes "refused no-container\n"
refusal_line (Some (Missing name)) = codes "refused missing " ++ (name ++ codes "\n")
refusal_line (Some (NotBuilt line)) =
    codes "refused not-built " ++ decimal line ++ codes "\n"

-- the refusal of a command whose last step was refused so
abbrev pub refusal_of_step : StepFault → Fault
refusal_of_step steps.VaultFault = VaultFault
refusal_of_step (steps.VersionsSpent version) = VersionsSpent version
refusal_of_step (steps.LogTooLarge bytes) = LogTooLarge bytes
refusal_of_step steps.NoMemory = NoMemory

-- the refusal of a command whose last event was refused so
abbrev pub refusal_of_event : DrainFault → Fault
refusal_of_event (drains.TurnsSpent turns) = TurnsSpent turns
refusal_of_event (drains.Step fault) = refusal_of_step fault

-- the refusal of a command whose last event was answered so
abbrev pub fault_of : EventAnswer → Option Fault
fault_of reply = option_map refusal_of_event (fault_in reply)

-- the refusal by the answer of the last event; the answers before it have no say
abbrev pub last_fault : List EventLine → Option Fault
last_fault [] = None
last_fault (line ∷ []) = fault_of line.reply
last_fault (line ∷ next ∷ rest) = last_fault (next ∷ rest)

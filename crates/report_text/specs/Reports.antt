-- The bytes of a report.
use Rattle.std.specs.Prelude.{ℕ, Bool, List, [], ◌∷◌, ◌++◌, codes, decimal, if◌then◌else◌}
use Rattle.std.specs.List.{flat_map}
use Rattle.fb_bytes.specs.Bytes.{Bytes}
use Rattle.mutations.specs.declared.Entry.{Entry}
use Rattle.client_core.specs.Clients.{Told}
use Rattle.report_text.specs.declared.report.Report.{Report}
use Rattle.report_text.specs.declared.report.Report.TheVariants.{Run, Restored, Described}
use Rattle.report_text.specs.declared.report.Report.TheVariants.{Expired, Listed}
use Rattle.report_text.specs.declared.report.RunReport.{RunReport}
use Rattle.report_text.specs.Lines.{line}
use Rattle.report_text.specs.Events.{event_line}
use Rattle.report_text.specs.Commands.{operator_lines}
use Rattle.report_text.specs.Outcomes.{client_lines}
use Rattle.report_text.specs.Entries.{entry_lines}
use Rattle.report_text.specs.Jobs.{job_lines}
use Rattle.report_text.specs.Restores.{restored_text}
use Rattle.report_text.specs.Descriptions.{container_line, described_text}

-- what a brief report leaves out: the clients' tries and the entries of both databases
abbrev pub details : List Told → List Entry → List Entry → Bytes
details outcomes src dst =
    client_lines 1 outcomes ++ flat_map (entry_lines (codes "src")) src
    ++ flat_map (entry_lines (codes "dst")) dst

-- the newest version
abbrev pub end_line : ℕ → Bytes
end_line version = line (codes "end" ∷ decimal version ∷ [])

-- The events come first, or the operator's commands in a run; the jobs and the newest version last.
abbrev pub run_text : Bool → RunReport → Bytes
run_text brief run =
    flat_map event_line run.lines ++ operator_lines 1 run.commands
    ++ (if brief then [] else details run.outcomes run.src run.dst)
    ++ job_lines run.jobs ++ end_line run.end

abbrev pub report_text : Bool → Report → Bytes
report_text brief (Run run) = run_text brief run
report_text brief (Restored told) = restored_text told
report_text brief (Described told) = described_text told
report_text brief (Expired deleted) = line (codes "deleted" ∷ decimal deleted ∷ [])
report_text brief (Listed names) = flat_map container_line names

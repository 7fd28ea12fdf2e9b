-- The lines of the operator's commands in a run.
use Rattle.std.specs.Prelude.{ℕ, ◌+◌, List, [], ◌∷◌, ◌++◌, codes, decimal}
use Rattle.fb_bytes.specs.Bytes.{Bytes}
use Rattle.workload_text.specs.Kinds.{command_word}
use Rattle.report_text.specs.declared.report.CommandLine.{CommandLine}
use Rattle.report_text.specs.Lines.{line}
use Rattle.report_text.specs.Events.{answer_words}

-- a command, its place among the operator's from 1, and the last answer that it got
abbrev pub operator_line : ℕ → CommandLine → Bytes
operator_line number told =
    line (codes "op" ∷ decimal number ∷ command_word told.command ∷ codes "->"
    ∷ answer_words told.answer)

-- a line for each command, numbered on from a number
abbrev pub operator_lines : ℕ → List CommandLine → Bytes
operator_lines number [] = []
operator_lines number (told ∷ rest) =
    operator_line number told ++ operator_lines (number + 1) rest

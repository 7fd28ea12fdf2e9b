-- The workload that a text says, or its first bad line.
use Rattle.std.specs.Prelude.{ℕ, Bool, List, Result, Ok, Err, length, nat_lt, if◌then◌else◌}
use Rattle.fb_bytes.specs.Bytes.{Bytes}
use Rattle.workload_text.specs.declared.client_script.ClientScript.{ClientScript}
use Rattle.workload_text.specs.declared.command.Command.{Command}
use Rattle.workload_text.specs.declared.schedule.ScheduleLine.{ScheduleLine}
use Rattle.workload_text.specs.declared.text_fault.TextFault.{TextFault}
use Rattle.workload_text.specs.declared.text_fault.TextFault.TheVariants.{Refused}
use Rattle.workload_text.specs.declared.text_fault.TextKind.TheVariants.{Long}
use Rattle.workload_text.specs.declared.settings.Settings.{Settings}
use Rattle.workload_text.specs.declared.workload.Workload.{Workload}
use Rattle.workload_text.specs.Settings.{Numbers, set_by}
use Rattle.workload_text.specs.Sofar.{Sofar, at_start, closed, with_lines}
use Rattle.workload_text.specs.Texts.{lines_of}
use Rattle.workload_text.specs.Words.{◌>>=◌}

-- what a text says
pub record Built : Type 0 where
  pub settings : Numbers
  pub clients : List ClientScript
  pub operator : List Command
  pub schedule : List ScheduleLine

-- what a workload's settings say
abbrev pub numbers_of : Settings → Numbers
numbers_of s = record {
  block = s.block;
  pace = s.pace;
  lease = s.lease;
  rest = s.rest;
  shard = s.shard;
  span = s.span;
  tries = s.tries;
  agents = s.agents;
  steps = s.steps;
  deaths = s.deaths;
  stalls = s.stalls;
}

-- what a workload says
abbrev pub what : Workload → Built
what w = record {
  settings = numbers_of w.settings;
  clients = w.clients;
  operator = w.operator;
  schedule = w.schedule;
}

-- what lines say, where the last transaction and the last client are complete
abbrev pub whole_of : Sofar → Built
whole_of s = record {
  settings = set_by s.settings;
  clients = s.clients;
  operator = s.operator;
  schedule = s.schedule;
}

-- what lines say, behind the last of them
abbrev pub built_of : Sofar → Built
built_of s = whole_of (closed s)

-- the most bytes of a text
abbrev pub most_bytes : ℕ
most_bytes = 67108864

-- What a text says; in a run, where no schedule may come. Or its first bad line, with the first
-- reason, and line 0 where the text is too long.
abbrev pub built : Bool → Bytes → Result Built TextFault
built run text =
    if nat_lt most_bytes (length text) then Err (Refused 0 Long)
    else with_lines run 1 at_start (lines_of text) >>= λ s. Ok (built_of s)

use Rattle.std.proofs.Common.{◌≡◌, ◌++◌, drop}
use Rattle.workload_text.specs.Settings as spec
use Rattle.workload_text.proofs.setting.deaths_in.Given as goal

abbrev pub invariant-loop-setting : goal.invariant-loop-setting
invariant-loop-setting l = spec.deaths_in l.settings ≡ l.deaths.items ++ spec.deaths_in (drop l.setting-index l.settings)

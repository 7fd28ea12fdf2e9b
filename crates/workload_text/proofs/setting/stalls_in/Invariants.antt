use Rattle.std.proofs.Common.{◌≡◌, ◌++◌, drop}
use Rattle.workload_text.specs.Settings as spec
use Rattle.workload_text.proofs.setting.stalls_in.Given as goal

abbrev pub invariant-loop-setting : goal.invariant-loop-setting
invariant-loop-setting l = spec.stalls_in l.settings ≡ l.stalls.items ++ spec.stalls_in (drop l.setting-index l.settings)

use Rattle.std.proofs.Common.{◌≡◌, drop}
use Rattle.workload_text.specs.Settings as spec
use Rattle.workload_text.proofs.setting.number_in.Given as goal

abbrev pub invariant-loop-setting : goal.invariant-loop-setting
invariant-loop-setting l = spec.number_in l.kind l.settings ≡ spec.number_in l.kind (drop l.setting-index l.settings)

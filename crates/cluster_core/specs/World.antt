-- What contracts see of the world.
use Rattle.std.specs.Prelude.{ℕ}
use Rattle.workload_text.specs.declared.Workload.{Workload}
use Rattle.cluster_core.specs.State.{State}

pub record Seen : Type 0 where
  pub workload : Workload
  pub state : State
  -- the file store's counts of calls and of faults
  pub calls : ℕ
  pub faults : ℕ

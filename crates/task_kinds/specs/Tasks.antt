-- Tasks as contracts see them.
use Rattle.std.specs.Prelude.{◌≡◌, ℕ, ◌<◌, ◌≤◌, ◌^◌}
use Rattle.task_kinds.specs.declared.kind.Kind.{Kind}
use Rattle.task_kinds.specs.declared.params.Params.{Params}
use Rattle.task_kinds.specs.Kinds.{shape_of}
use Rattle.task_kinds.specs.Params.{shape_in, AreSmall}

pub record SeenTask : Type 0 where
  pub job : ℕ
  pub kind : Kind
  pub params : Params

-- what every task keeps: a job from 1 on, its kind's parameters, and numbers below 2 to the 63rd
pub record IsTask (task : SeenTask) : Type 0 where
  pub numbered : 1 ≤ task.job
  pub bounded : task.job < 2 ^ 63
  pub shape : shape_in task.params ≡ shape_of task.kind
  pub small : AreSmall task.params

-- What an expire is to do, by the names of a container's files alone.
use Rattle.std.specs.Prelude.{ℕ, max, Bool, true, not, ◌&&◌, List, Option, Some, None, unwrap_or}
use Rattle.std.specs.Prelude.{Result, Ok, Err, nat_lt, if◌then◌else◌}
use Rattle.fb_bytes.specs.Bytes.{Bytes}
use Rattle.container_view.specs.Bounds.{advertised_bounds}
use Rattle.container_view.specs.Description.{greatest_of}
use Rattle.container_view.specs.Names.{folder_named}
pub use Rattle.expire_core.specs.declared.planning.ExpirePlan.{ExpirePlan}
pub use Rattle.expire_core.specs.declared.planning.PlanFault.{PlanFault}
use Rattle.expire_core.specs.declared.planning.PlanFault.TheVariants.{CannotExpire}
use Rattle.expire_core.specs.Doomed.{doomed}

-- a property's number after an expire: the greater of the cutoff and the old one
abbrev pub raised : ℕ → Option ℕ → ℕ
raised cutoff number = max cutoff (unwrap_or number 0)

-- the greatest version that these names advertise, with this unreliable end
abbrev pub left_of : List Bytes → ℕ → Option ℕ
left_of names end = greatest_of (advertised_bounds (folder_named names end))

-- the greatest version that is left, if one is, is below the wanted one
abbrev pub is_short : ℕ → Option ℕ → Bool
is_short wanted None = true
is_short wanted (Some left) = nat_lt left wanted

-- the plan that leaves no version past this one, unless that is too little and isn't forced
abbrev pub plan_with : List Bytes → ℕ → ℕ → ℕ → Bool → Option ℕ → Result ExpirePlan PlanFault
plan_with names end cutoff wanted force left =
    if not force && is_short wanted left then Err (CannotExpire wanted left)
    else Ok (record { names = doomed cutoff names; unreliable = end })

-- the plan of an expire, with the number of the unreliable end as it is
abbrev pub planned : List Bytes → Option ℕ → ℕ → ℕ → Bool → Result ExpirePlan PlanFault
planned names unreliable cutoff wanted force =
    plan_with names (raised cutoff unreliable) cutoff wanted force
    (left_of names (raised cutoff unreliable))

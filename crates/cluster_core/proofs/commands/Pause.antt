-- The commands pause and resume.
use Rattle.std.specs.Prelude.{ℕ, Bool, refl}
use Rattle.std.proofs.Common.{arith, inl}
use Rattle.workload_text.specs.declared.Workload.{Workload}
use Rattle.cluster_core.specs.State.{State}
use Rattle.cluster_core.specs.commands.Pause.{set_paused}
use Rattle.cluster_core.specs.Sound.{Sound}
use Rattle.cluster_core.proofs.Frames.{sound_gone, sound_paused}
use Rattle.cluster_core.proofs.Touching.{Touches}

pub pause_touches : (pace : ℕ) (w : State) (paused : Bool) → Touches pace w (set_paused w paused)
pause_touches pace w paused = record { starved = λ e. cc; since = omega arith; upto = omega arith; src = inl refl; dst = inl refl; sides = inl refl; jobs = inl refl; files = inl refl }

pub pause_keeps : (p : Workload) (w : State) (paused : Bool) → Sound p w → Sound p (set_paused w paused).state
pause_keeps p w paused h = sound_gone p (record w { paused = paused }) (sound_paused p w paused h)

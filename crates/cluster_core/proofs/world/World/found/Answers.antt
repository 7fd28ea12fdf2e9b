use Rattle.std.proofs.Common.{◌<◌, length, ap, sym, ◌∙◌, arith}
use Rattle.cluster_core.specs.World.{Seen}
use Rattle.cluster_core.proofs.commands.Jobs.{newest_in, found_is}
use Rattle.cluster_core.proofs.world.World.found.Goals as goal

pub index-requires : goal.index-requires
index-requires g c =
    let l : c.in_ok-place.place < length c.deref.result.now = newest_in c.args.tag.now c.deref.result.now c.in_ok-place.place (sym c.in_ok-place.was ∙ c.newest.ensures) in
    omega (arith, c.deref.ensures.len)

pub returns : goal.returns
returns g c = found_is c.args.tag.now c.deref.result.now c.self.inside.jobs.items c.args.self.now.state.jobs c.in_ok-place.place c.index.result.now (sym c.in_ok-place.was ∙ c.newest.ensures) c.deref.ensures.value (ap (λ (s : Seen). s.state.jobs) c.self.view_is) c.index.ensures

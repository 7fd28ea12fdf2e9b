use Rattle.std.proofs.Common.{◌≡◌, map, take}
use Rattle.container_view.specs.inner.Listed.{reach_in, sizes_of}
use Rattle.container_view.specs.inner.Names.{snapshot_with}
use Rattle.container_view.proofs.describing.snapshots.Given as goal

abbrev pub invariant-manifests : goal.invariant-manifests
invariant-manifests l = l.list.items ≡ map (snapshot_with (reach_in l.runs) l.unreliable) (sizes_of (take l.manifest-index l.manifest-items))

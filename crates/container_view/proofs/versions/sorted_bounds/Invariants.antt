use Rattle.std.proofs.Common.{◌≡◌, take}
use Rattle.container_view.specs.Names.{folder_named}
use Rattle.container_view.specs.Bounds.{given_by}
use Rattle.container_view.specs.inner.Listed.{manifests_of}
use Rattle.container_view.proofs.versions.sorted_bounds.Given as goal

-- the bounds of the manifests so far
abbrev pub invariant-manifests : goal.invariant-manifests
invariant-manifests l = l.bounds ≡ given_by (folder_named l.sorted.names.now l.unreliable) (manifests_of (take l.manifest-index l.manifest-items))

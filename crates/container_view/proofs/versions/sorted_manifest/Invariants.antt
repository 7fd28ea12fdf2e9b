use Rattle.std.proofs.Common.{◌≡◌, take, option_map}
use Rattle.fb_bytes.specs.Options.{best_of}
use Rattle.container_view.specs.Advertised.{gives, manifest_beats}
use Rattle.container_view.specs.Names.{folder_named}
use Rattle.container_view.specs.inner.Names.{seen_manifest}
use Rattle.container_view.specs.inner.Listed.{manifests_of}
use Rattle.container_view.proofs.versions.sorted_manifest.Given as goal

-- the best of the manifests so far
abbrev pub invariant-manifests : goal.invariant-manifests
invariant-manifests l = option_map (λ x. (x.0.now, x.1)) l.best ≡ seen_manifest (best_of (gives (folder_named l.sorted.names.now l.unreliable) l.version) manifest_beats (manifests_of (take l.manifest-index l.manifest-items)))

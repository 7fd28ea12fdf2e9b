use Rattle.std.proofs.Common.{◌∙◌, ap, sym, take, option_map}
use Rattle.fb_bytes.specs.Options.{best_of}
use Rattle.container_view.specs.Advertised.{gives, manifest_beats}
use Rattle.container_view.specs.Bounds.{reached}
use Rattle.container_view.specs.Names.{logs_named, folder_named}
use Rattle.container_view.specs.inner.Names.{seen_manifest, better_manifest}
use Rattle.container_view.specs.inner.Listed.{reach_in, manifest_of, manifests_of}
use Rattle.container_view.proofs.Names.{better_last, better_told, manifests_more}
use Rattle.container_view.proofs.versions.sorted_manifest.Goals as goal

pub manifests-preserved : goal.manifests-preserved
manifests-preserved c =
    c.better_manifest-best.ensures
    ∙ ap (λ runs. better_manifest (reach_in runs) c.args.unreliable c.args.version (option_map (λ x. (x.0.now, x.1)) c.manifests.best) (manifest_of c.manifest-item.result)) c.deref.ensures.value
    ∙ better_told c.in_ok-runs.runs.items (logs_named c.args.sorted.now.names.now) c.in_ok-runs.ensures.same c.args.unreliable c.args.version (option_map (λ x. (x.0.now, x.1)) c.manifests.best) (manifest_of c.manifest-item.result)
    ∙ ap (λ best. better_manifest (reached (logs_named c.args.sorted.now.names.now)) c.args.unreliable c.args.version best (manifest_of c.manifest-item.result)) c.manifests.invariant
    ∙ better_last (folder_named c.args.sorted.now.names.now c.args.unreliable) c.args.version (manifests_of (take c.manifests.manifest-index c.deref-manifest-items.result.now)) (manifest_of c.manifest-item.result)
    ∙ ap (λ ms. seen_manifest (best_of (gives (folder_named c.args.sorted.now.names.now c.args.unreliable) c.args.version) manifest_beats ms)) (sym (manifests_more c.deref-manifest-items.result.now c.manifests.manifest-index c.manifest-item.result c.manifests-test.true c.manifest-item.is))

use Rattle.std.proofs.Common.{◌∙◌, ap, sym, take}
use Rattle.container_view.specs.Bounds.{wider, given_by, reached}
use Rattle.container_view.specs.Names.{logs_named, folder_named}
use Rattle.container_view.specs.inner.Names.{given_named}
use Rattle.container_view.specs.inner.Listed.{reach_in, manifest_of, manifests_of}
use Rattle.container_view.proofs.Names.{given_more, given_told, manifests_more}
use Rattle.container_view.proofs.versions.sorted_bounds.Goals as goal

pub manifests-preserved : goal.manifests-preserved
manifests-preserved c =
    c.wider-bounds.ensures
    ∙ ap (wider c.manifests.bounds) (c.given.ensures
    ∙ ap (λ runs. given_named (reach_in runs) c.args.unreliable (manifest_of c.manifest-item.result)) c.deref.ensures.value
    ∙ given_told c.in_ok-runs.runs.items (logs_named c.args.sorted.now.names.now) c.in_ok-runs.ensures.same c.args.unreliable (manifest_of c.manifest-item.result))
    ∙ ap (λ bounds. wider bounds (given_named (reached (logs_named c.args.sorted.now.names.now)) c.args.unreliable (manifest_of c.manifest-item.result))) c.manifests.invariant
    ∙ given_more (folder_named c.args.sorted.now.names.now c.args.unreliable) (manifests_of (take c.manifests.manifest-index c.deref-manifest-items.result.now)) (manifest_of c.manifest-item.result)
    ∙ ap (given_by (folder_named c.args.sorted.now.names.now c.args.unreliable)) (sym (manifests_more c.deref-manifest-items.result.now c.manifests.manifest-index c.manifest-item.result c.manifests-test.true c.manifest-item.is))

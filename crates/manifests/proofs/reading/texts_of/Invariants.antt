use Rattle.std.proofs.Common.{◌≡◌, drop}
use Rattle.serde_json.specs.View.{items_view}
use Rattle.manifests.specs.Reading.{texts_of}
use Rattle.manifests.proofs.Lists.{behind}
use Rattle.manifests.proofs.reading.texts_of.Given as goal

abbrev pub invariant-loop-item : goal.invariant-loop-item
invariant-loop-item l = behind l.texts.items (texts_of (items_view (drop l.item-index l.items))) ≡ texts_of (items_view l.items)

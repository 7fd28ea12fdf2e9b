use Rattle.std.proofs.Common.{ap, option_map}
use Rattle.manifests.specs.declared.Manifest.{Manifest}
use Rattle.container_view.specs.Contents.{range_content}
use Rattle.container_view.proofs.laws.contents_law.Goals as goal

pub returns : goal.returns
returns c = record {
  range = λ block begin end pairs w r. ap (option_map range_content) (c.written_is_read.ensures block begin end pairs w r);
  log = λ begin end block batches b w. c.written_is_read-2.ensures block begin end batches b w;
  manifest = λ name bytes m t. ap (option_map (λ (x : Manifest). x.files)) (c.manifest_is_read.ensures name bytes m t);
}

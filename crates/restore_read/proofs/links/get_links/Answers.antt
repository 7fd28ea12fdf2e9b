use Rattle.std.proofs.Common.{◌∙◌, arith}
use Rattle.fb_outside.proofs.Counts.{later}
use Rattle.container_view.specs.Files.{inside}
use Rattle.restore_read.specs.Reading as spec
use Rattle.restore_read.proofs.Loops.{goes_on, ends}
use Rattle.restore_read.proofs.links.get_links.Goals as goal

pub returns-in-Err-clause-err : goal.returns-in-Err-clause-err
returns-in-Err-clause-err g c files told =
    ends (spec.link_at (inside c.args.container.now files)) c.links.loaded c.as_slice-link-items.result.now _ c.links.link-index c.link-item.result c.in-Err.fault c.links-test.true c.link-item.is (c.links.invariant.all files told)
    (c.in-Err.ensures.err files (c.links.invariant.same ∙ told))

pub links-preserved : goal.links-preserved
links-preserved g c = record {
  same = c.in-Ok.ensures.same ∙ c.links.invariant.same;
  called = omega (arith, c.in-Ok.ensures.called);
  later = later _ _ _ _ c.links.invariant.later c.in-Ok.ensures.count;
  all = λ files told.
      goes_on (spec.link_at (inside c.args.container.now files)) c.links.loaded c.push.new.self c.as_slice-link-items.result.now _ c.links.link-index c.link-item.result c.in-Ok.link c.links-test.true c.link-item.is (c.in-Ok.ensures.ok files (c.links.invariant.same ∙ told)) c.in_ok-push.ensures.ok (c.links.invariant.all files told);
}

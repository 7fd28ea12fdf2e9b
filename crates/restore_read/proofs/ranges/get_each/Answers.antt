use Rattle.std.proofs.Common.{◌∙◌, arith}
use Rattle.fb_outside.proofs.Counts.{later}
use Rattle.container_view.specs.Files.{inside}
use Rattle.restore_read.specs.Reading as spec
use Rattle.restore_read.proofs.Loops.{goes_on, ends}
use Rattle.restore_read.proofs.ranges.get_each.Goals as goal

pub returns-in-Err-clause-err : goal.returns-in-Err-clause-err
returns-in-Err-clause-err g c files told =
    ends (spec.range_at (inside c.args.container.now files)) c.names.loaded c.as_slice-name-items.result.now _ c.names.name-index c.name-item.result c.in-Err.fault c.names-test.true c.name-item.is (c.names.invariant.all files told)
    (c.in-Err.ensures.err files (c.names.invariant.same ∙ told))

pub names-preserved : goal.names-preserved
names-preserved g c = record {
  same = c.in-Ok.ensures.same ∙ c.names.invariant.same;
  called = omega (arith, c.in-Ok.ensures.called);
  later = later _ _ _ _ c.names.invariant.later c.in-Ok.ensures.count;
  all = λ files told.
      goes_on (spec.range_at (inside c.args.container.now files)) c.names.loaded c.push.new.self c.as_slice-name-items.result.now _ c.names.name-index c.name-item.result c.in-Ok.file c.names-test.true c.name-item.is (c.in-Ok.ensures.ok files (c.names.invariant.same ∙ told)) c.in_ok-push.ensures.ok (c.names.invariant.all files told);
}

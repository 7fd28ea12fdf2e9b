use Rattle.container_view.proofs.Descriptions.{told}
use Rattle.container_view.proofs.describing.describe_names.Goals as goal

pub returns : goal.returns
returns c = told c.args.names.now c.in_ok-sorted.sorted c.in_ok-runs.runs.items c.args.unreliable c.args.expired c.unwrap_or-end.result c.in_ok-sorted.ensures.names c.in_ok-sorted.ensures.sorted c.in_ok-runs.ensures.same c.unwrap_or-end.ensures
    c.in_ok-snapshots.snapshots c.least_of-begin.result c.contiguous.result c.greatest_of.result c.in_ok-bounds.bounds c.least_of.result c.greatest_of-2.result c.deref.result.now c.deref-2.result.now
    c.in_ok-snapshots.ensures c.least_of-begin.ensures c.contiguous.ensures c.greatest_of.ensures c.in_ok-bounds.ensures c.least_of.ensures c.greatest_of-2.ensures
    c.deref.ensures.value c.deref-2.ensures.value

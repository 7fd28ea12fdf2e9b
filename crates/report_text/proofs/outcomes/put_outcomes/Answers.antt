use Rattle.report_text.proofs.Clients.{one_more_client}
use Rattle.report_text.proofs.outcomes.put_outcomes.Goals as goal

pub loop-index-preserved : goal.loop-index-preserved
loop-index-preserved c =
    one_more_client c.loop-index.out c.put_tries.new.out c.args.out.now c.loop-index.index c.args.outcomes.now (record { script = c.get.result.0.now; outcomes = c.get.result.1.now }) c.get.ensures c.loop-index.invariant
    (rw (c.as_slice.ensures, c.as_slice-in-loop-index.ensures) at c.in_ok-put_tries.ensures)

use Rattle.std.proofs.Common.{◌≡◌}
use Rattle.task_futures.specs.Futures.{unjoined}
use Rattle.fb_bytes.proofs.Mapped.{mapped}
use Rattle.task_futures.proofs.settling.unlink_all.Given as goal

abbrev pub invariant-loop-one : goal.invariant-loop-one
invariant-loop-one l = l.futures ≡ mapped (unjoined l.number) l.one-index l.initial.futures

use Rattle.std.proofs.Common.{sym, subst}
use Rattle.workload_text.specs.Sofar.{Sofar}
use Rattle.workload_text.specs.inner.Ready.{IsWhole}
use Rattle.workload_text.specs.inner.Seen.{sofar}
use Rattle.workload_text.proofs.Keeping.{closed_whole}
use Rattle.workload_text.proofs.building.workload_of.Goals as goal

pub whole-requires : goal.whole-requires
whole-requires c = subst (λ (s : Sofar). IsWhole s) (sym c.in_ok-close.ensures) (closed_whole (sofar c.args.reader) c.requires)

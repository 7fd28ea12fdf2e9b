use Rattle.std.proofs.Common.{sym}
use Rattle.workload_text.specs.inner.Seen.{sofar}
use Rattle.workload_text.proofs.Fitting.{there_fits}
use Rattle.workload_text.proofs.reader.Reader.take_event.Goals as goal

pub event_with-event-requires : goal.event_with-event-requires
event_with-event-requires c = there_fits (sofar c.args.self.now) c.args.kind c.args.n c.requires (sym c.if-not-is_there.ensures)

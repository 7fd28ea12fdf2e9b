use Rattle.std.proofs.Common.{◌+◌, Err, ap, subst}
use Rattle.std.specs.Option.{option_copied}
use Rattle.cluster_core.specs.declared.event.Answer.TheVariants.{Until, Interrupted}
use Rattle.cluster_core.specs.inner.Crew.{Crew}
use Rattle.cluster_core.specs.inner.Crewed.{Extends}
use Rattle.cluster_core.proofs.Crewing.{IsHeld, extends, extend_gone}
use Rattle.cluster_core.proofs.crew.Crew.extend.Goals as goal

pub returns-in-Ok-clause-ok : goal.returns-in-Ok-clause-ok
returns-in-Ok-clause-ok c =
    let old : Crew = record { bucket = c.self.inside.bucket; uids = c.self.inside.uids; paused = c.self.inside.paused; agents = c.self.inside.memories.items } in
    let held : IsHeld c.args.agent old c.in-Some.memory.now c.lease-held.result.now = record { seen = c.deref.result.now; seen_is = c.deref.ensures.value; found = option_copied c.memory_of.result; found_is = c.memory_of.ensures; some = ap option_copied c.in-Some.is; lease = c.lease-held.ensures } in
    subst (λ (crew : Crew). Extends c.args.agent c.args.now c.args.length crew (Until (c.args.now + c.args.length)) (record old { bucket = c.extend.new.self; agents = c.replace.new.memories.items })) c.self.view_is
    (extends c.args.agent c.args.now c.args.length old c.in-Some.memory.now c.with_lease-memory.result c.lease-held.result.now c.in-Ok.lease c.extend.new.self c.replace.new.memories.items held c.in-Ok.ensures.answer c.in-Ok.ensures.ok c.with_lease-memory.ensures c.replace.ensures)

pub returns-in-Err-Interrupted-clause-ok : goal.returns-in-Err-Interrupted-clause-ok
returns-in-Err-Interrupted-clause-ok c =
    let old : Crew = record { bucket = c.self.inside.bucket; uids = c.self.inside.uids; paused = c.self.inside.paused; agents = c.self.inside.memories.items } in
    let held : IsHeld c.args.agent old c.in-Some.memory.now c.lease-held.result.now = record { seen = c.deref.result.now; seen_is = c.deref.ensures.value; found = option_copied c.memory_of.result; found_is = c.memory_of.ensures; some = ap option_copied c.in-Some.is; lease = c.lease-held.ensures } in
    subst (λ (crew : Crew). Extends c.args.agent c.args.now c.args.length crew (Interrupted c.lease-held.result.now.uid) (record old { bucket = c.extend.new.self })) c.self.view_is
    (extend_gone c.args.agent c.args.now c.args.length _ old c.in-Some.memory.now c.lease-held.result.now c.extend.new.self c.in-Err-Interrupted.field-0 held (λ e. c.in-Err-Interrupted.ensures.interrupted.0 (ap Err e)) c.in-Err-Interrupted.ensures.err c.in-Err-Interrupted.field-0-is c.in-Err-Interrupted.ensures.unchanged)

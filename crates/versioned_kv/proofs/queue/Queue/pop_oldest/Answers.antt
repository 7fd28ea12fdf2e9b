use Rattle.std.proofs.Common.{◌≡◌, ◌<◌, List, length, Some, get_or, refl, ap, ◌∙◌, subst, arith}
use Rattle.std.specs.List.{slice_get}
use Rattle.versioned_kv.specs.inner.Queued.{Touch}
use Rattle.versioned_kv.proofs.Places.{read_at}
use Rattle.versioned_kv.proofs.Queues.{oldest_past}
use Rattle.versioned_kv.proofs.queue.Queue.pop_oldest.Goals as goal

pub returns-then-first-upto : goal.returns-then-first-upto
returns-then-first-upto c =
    let queue = c.args.self.now in
    let all : c.self.inside.touches.len ≡ length queue = c.self.inside.touches.ok.0 ∙ ap length c.self.view_is in
    let some : 0 < c.self.inside.touches.len = c.in_ok-first.ensures.variant.0 refl in
    let here : slice_get queue 0 ≡ Some c.in_ok-first.first.now = read_at queue queue 0 c.in_ok-first.first.now refl (omega arith) (subst (λ (ts : List Touch). c.in_ok-first.first.now ≡ get_or ts 0 c.in_ok-first.first.now) c.self.view_is c.in_ok-first.ensures.lookup) in
    (refl, oldest_past c.args.upto queue c.in_ok-first.first.now c.requires here c.if-first-upto.true)

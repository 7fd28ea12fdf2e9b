use Rattle.std.proofs.Common.{◌≡◌, ◌-◌, ◌<◌, List, length, Some, get_or, refl, ap, ◌∙◌, subst, arith}
use Rattle.std.specs.List.{slice_get}
use Rattle.versioned_kv.specs.inner.Queued.{Touch}
use Rattle.versioned_kv.proofs.Places.{read_at}
use Rattle.versioned_kv.proofs.Queues.{newest_gone}
use Rattle.versioned_kv.proofs.queue.Queue.pop_newest.Goals as goal

pub returns-then-last-version : goal.returns-then-last-version
returns-then-last-version c =
    let queue = c.args.self.now in
    let all : c.self.inside.touches.len ≡ length queue = c.self.inside.touches.ok.0 ∙ ap length c.self.view_is in
    let some : 0 < c.self.inside.touches.len = c.in_ok-last.ensures.variant.0 refl in
    let here : slice_get queue (length queue - 1) ≡ Some c.in_ok-last.last.now = subst (λ n. slice_get queue (n - 1) ≡ Some c.in_ok-last.last.now) all (read_at queue queue (c.self.inside.touches.len - 1) c.in_ok-last.last.now refl (omega arith) (subst (λ (ts : List Touch). c.in_ok-last.last.now ≡ get_or ts (c.self.inside.touches.len - 1) c.in_ok-last.last.now) c.self.view_is c.in_ok-last.ensures.lookup)) in
    (refl, newest_gone c.args.version queue c.in_ok-last.last.now c.requires.order c.requires.upto here (λ e. omega (arith, c.if-last-version.true)))

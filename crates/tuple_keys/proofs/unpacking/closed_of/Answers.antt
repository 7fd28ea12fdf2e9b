use Rattle.std.proofs.Common.{◌≡◌, ◌++◌, ◌∷◌, [], ◌∙◌, sym}
use Rattle.tuple_keys.proofs.Loops.{closed_on, next_shorter}
use Rattle.tuple_keys.proofs.unpacking.closed_of.Goals as goal

pub loop-byte-preserved : goal.loop-byte-preserved
loop-byte-preserved c =
    let e : c.push.new.self.items ≡ c.loop-byte.found.items ++ c.in-Some.byte ∷ [] = c.in_ok-push.ensures.items in
    rw e (sym (closed_on c.args.at c.loop-byte.found.items c.loop-byte.rest.now c.in-Some.byte c.in-Some.behind.now c.in-Some.ensures) ∙ c.loop-byte.invariant)

pub loop-byte-smaller : goal.loop-byte-smaller
loop-byte-smaller c = next_shorter c.loop-byte.rest.now c.in-Some.byte c.in-Some.behind.now c.in-Some.ensures

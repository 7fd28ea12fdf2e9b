use Rattle.std.proofs.Common.{arith, length, [], ◌∷◌, ap, sym, subst, ◌∙◌}
use Rattle.task_futures.specs.Futures.{Part, settle}
use Rattle.task_futures.specs.Laws.{AreFutures}
use Rattle.task_futures.proofs.Keeping.{all_kept}
use Rattle.task_futures.proofs.Linking.{whole}
use Rattle.task_futures.proofs.list_futures.ListFuturesFutures.unblock.Goals as goal

pub unblock-requires : goal.unblock-requires
unblock-requires c = subst AreFutures (sym c.deref_mut.ensures.value) c.self.invariant

pub invariant_of-self : goal.invariant_of-self
invariant_of-self c =
    let items = c.self.inside.futures.items in
    let part : Part = record { join = c.args.future; block = c.args.block } in
    let is_whole = whole c.self.inside.futures.len c.unblock.new.futures items (omega (arith, c.self.inside.futures.ok.0)) (omega (arith, ap length c.deref_mut.ensures.value)) in
    subst AreFutures (sym (is_whole ∙ c.unblock.ensures ∙ ap (settle (part ∷ [])) c.deref_mut.ensures.value)) ((all_kept items c.self.invariant).unblock c.args.future c.args.block)

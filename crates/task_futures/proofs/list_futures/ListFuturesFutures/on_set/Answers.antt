use Rattle.std.proofs.Common.{◌≡◌, set, arith, ap, ◌∙◌, sym, subst, length}
use Rattle.task_futures.specs.Futures.{and_callback, with_callback}
use Rattle.task_futures.specs.Laws.{AreRising, AreFutures}
use Rattle.task_futures.proofs.Keeping.{all_kept}
use Rattle.task_futures.proofs.Linking.{at_is, put_changed, place_within, made_open}
use Rattle.task_futures.proofs.list_futures.ListFuturesFutures.on_set.Goals as goal

pub place_of-at-requires : goal.place_of-at-requires
place_of-at-requires c = subst AreRising (sym c.deref.ensures.value) c.self.invariant.rising

pub index_mut-requires : goal.index_mut-requires
index_mut-requires c =
    let made = made_open c.args.future c.args.self.now c.requires in
    omega (
      arith,
      at_is c.args.future c.args.self.now c.self.inside.futures.items c.deref.result.now c.place_of-at.result c.self.invariant c.self.view_is c.deref.ensures.value c.place_of-at.ensures.place made,
      c.deref.ensures.len,
      ap length (c.deref.ensures.value ∙ c.self.view_is),
      place_within c.args.future c.args.self.now made,
    )

placed : (c : goal.In_ok-add_callback) → set c.self.inside.futures.items c.place_of-at.result c.add_callback.new.self ≡ with_callback c.args.future c.args.task c.args.self.now
placed c =
    let made = made_open c.args.future c.args.self.now c.requires in
    put_changed c.args.future (and_callback c.args.task) c.self.inside.futures.items c.args.self.now c.place_of-at.result c.index_mut.result.now c.add_callback.new.self made c.self.view_is
    (at_is c.args.future c.args.self.now c.self.inside.futures.items c.deref.result.now c.place_of-at.result c.self.invariant c.self.view_is c.deref.ensures.value c.place_of-at.ensures.place made)
    c.index_mut.ensures.value c.in_ok-add_callback.ensures.ok

pub invariant_of-self-2 : goal.invariant_of-self-2
invariant_of-self-2 c = subst AreFutures (sym (placed c)) ((all_kept c.args.self.now (subst AreFutures c.self.view_is c.self.invariant)).on_set c.args.future c.args.task)

pub returns-clause-ok : goal.returns-clause-ok
returns-clause-ok c = placed c

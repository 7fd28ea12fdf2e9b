use Rattle.std.proofs.Common.{◌≡◌, set, arith, ap, ◌∙◌, sym, subst, length}
use Rattle.task_futures.specs.Futures.{next_block, and_block, with_block}
use Rattle.task_futures.specs.Laws.{AreRising, AreFutures}
use Rattle.task_futures.proofs.Keeping.{all_kept}
use Rattle.task_futures.proofs.Linking.{at_is, put_changed, next_at, place_within}
use Rattle.task_futures.proofs.list_futures.ListFuturesFutures.block.Goals as goal

pub place_of-at-requires : goal.place_of-at-requires
place_of-at-requires c = subst AreRising (sym c.deref.ensures.value) c.self.invariant.rising

pub index_mut-requires : goal.index_mut-requires
index_mut-requires c =
    omega (
      arith,
      at_is c.args.future c.args.self.now c.self.inside.futures.items c.deref.result.now c.place_of-at.result c.self.invariant c.self.view_is c.deref.ensures.value c.place_of-at.ensures.place c.requires,
      c.deref.ensures.len,
      ap length (c.deref.ensures.value ∙ c.self.view_is),
      place_within c.args.future c.args.self.now c.requires,
    )

placed : (c : goal.In_ok-block) → set c.self.inside.futures.items c.place_of-at.result c.add_block.new.self ≡ with_block c.args.future c.args.self.now
placed c =
    put_changed c.args.future and_block c.self.inside.futures.items c.args.self.now c.place_of-at.result c.index_mut.result.now c.add_block.new.self c.requires c.self.view_is
    (at_is c.args.future c.args.self.now c.self.inside.futures.items c.deref.result.now c.place_of-at.result c.self.invariant c.self.view_is c.deref.ensures.value c.place_of-at.ensures.place c.requires)
    c.index_mut.ensures.value c.in_ok-block.ensures.ok

pub invariant_of-self-2 : goal.invariant_of-self-2
invariant_of-self-2 c = subst AreFutures (sym (placed c)) ((all_kept c.args.self.now (subst AreFutures c.self.view_is c.self.invariant)).block c.args.future)

pub returns-clause-answer : goal.returns-clause-answer
returns-clause-answer c =
    let at = at_is c.args.future c.args.self.now c.self.inside.futures.items c.deref.result.now c.place_of-at.result c.self.invariant c.self.view_is c.deref.ensures.value c.place_of-at.ensures.place c.requires in
    let blocks = next_at c.args.future c.self.inside.futures.items c.args.self.now c.place_of-at.result c.index_mut.result.now c.requires c.self.view_is at c.index_mut.ensures.value in
    let answer = c.in_ok-block.ensures.answer in
    (answer.0 ∙ ap next_block blocks, answer.1)

pub returns-clause-ok : goal.returns-clause-ok
returns-clause-ok c = placed c

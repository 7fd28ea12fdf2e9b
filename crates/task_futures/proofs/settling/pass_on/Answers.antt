use Rattle.std.proofs.Common.{◌≡◌, ◌+◌, ◌-◌, sym, ap, ◌∙◌, false, get_or, set, length, map}
use borrow.Rule.Slice.PartMut.{mid_of}
use Rattle.std.proofs.Math.ListN.{length-set}
use Rattle.task_futures.specs.Futures.{is_some_block}
use Rattle.task_futures.specs.inner.Futures.{cleared_by}
use Rattle.task_futures.specs.inner.Changes.{emptied}
use Rattle.task_futures.proofs.Finding.{rising_behind}
use Rattle.task_futures.proofs.Falling.{passes}
use Rattle.task_futures.proofs.Linking.{same_item}
use Rattle.task_futures.proofs.settling.pass_on.Goals as goal

pub clear_each-requires : goal.clear_each-requires
clear_each-requires c = rising_behind c.args.at (length (set c.args.futures.now c.args.at c.take_joins-joins.new.self) - (c.args.at + 1)) c.args.futures.now c.take_joins-joins.new.self c.requires.within c.requires.rising

pub returns : goal.returns
returns c =
    let fs = c.args.futures.now in
    let f = c.index-futures-at-2.result in
    let e = c.take_joins-joins.new.self in
    let one = same_item fs c.args.at c.index-futures-at.result f c.requires.within c.index-futures-at.is c.index-futures-at-2.is in
    let here : get_or fs c.args.at f ≡ f = sym c.index-futures-at-2.is in
    let shut : false ≡ is_some_block f.blocks = c.if-is_open.ensures ∙ ap (λ x. is_some_block x.blocks) (sym c.index-futures-at.is ∙ one) in
    let emp : e ≡ emptied f = c.take_joins-joins.ensures.emptied ∙ ap emptied here in
    let joins : c.deref.result.now ≡ f.joins = c.deref.ensures.value ∙ c.take_joins-joins.ensures.joins ∙ ap (λ x. x.joins) here in
    let long = ap (λ n. n - (c.args.at + 1)) (length-set fs c.args.at e) in
    let made = c.clear_each.ensures ∙ ap (λ ps. map (cleared_by ps) (mid_of (c.args.at + 1) (length (set fs c.args.at e) - (c.args.at + 1)) (set fs c.args.at e))) joins in
    passes c.args.at (length (set fs c.args.at e) - (c.args.at + 1)) fs c.clear_each.new.futures f e f c.requires.within c.index-futures-at-2.is shut emp long made

use Rattle.std.proofs.Common.{rules, nat_eq}
use Rattle.std.proofs.lemmas.Iterator.Search.{all_from_yields_List}
use Rattle.std.proofs.lemmas.Iterator.Splits.{YieldsList-from_slice_split}
use Rattle.fb_outside.specs.inner.Parts.{is_part}
use Rattle.fb_outside.proofs.parts.is_store_name.Goals as goal

pub returns : goal.returns
returns c =
    all_from_yields_List is_part _ _ c.all.result c.all.ensures.ran
    (YieldsList-from_slice_split _ (λ b. nat_eq b 47) c.args.name.now c.split.ensures.rest c.split.ensures.done c.split.ensures.closure (λ x b q k. search rules))
    (λ x b q k. search rules)

use Rattle.std.proofs.Common.{◌≡◌, refl, ◌∙◌, rules}
use Rattle.std.specs.Ordering.{nat_cmp}
use Rattle.std.proofs.lemmas.Iterator.Adapters.{YieldsList-from_rev_slice}
use Rattle.std.proofs.lemmas.Iterator.Search.{cmp_from_yields_List}
use Rattle.atomic_ops.proofs.NumberLemmas.{cmp-reverse}
use Rattle.atomic_ops.proofs.number.compare.Goals as goal

pub returns : goal.returns
returns c =
    cmp_from_yields_List (λ x y. y ≡ x) _ nat_cmp _ c.cmp.ensures.ran (YieldsList-from_rev_slice c.args.x.now cc) (λ it e. YieldsList-from_rev_slice c.args.y.now cc) (λ x y. refl)
    ∙ cmp-reverse c.args.x.now c.args.y.now (λ i. search rules) (λ i. search rules) c.requires

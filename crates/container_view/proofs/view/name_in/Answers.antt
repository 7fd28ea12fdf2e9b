use Rattle.std.proofs.Common.{◌≡◌, ◌∙◌, ◌∷◌, [], ◌++◌, ap, sym, option_map, Some, None, Option}
use Rattle.fb_bytes.specs.Bytes.{Bytes}
use Rattle.fb_bytes.specs.Options.{◌>>=◌}
use Rattle.file_names.specs.Reading.{after}
use Rattle.container_view.proofs.Stripped.{after_is, after_both}
use Rattle.container_view.proofs.view.name_in.Goals as goal

-- the bytes behind the first text
first : (container name text bytes : Bytes) (o : Option Bytes) → text ≡ container → bytes ≡ name → after text bytes ≡ o → (o >>= after (47 ∷ [])) ≡ after (container ++ 47 ∷ []) name
first container name text bytes o a b e = ap (λ x. x >>= after (47 ∷ [])) (sym e ∙ (λ i. after (a i) (b i))) ∙ after_both container (47 ∷ []) name

pub returns : goal.returns
returns c =
    after_is (47 ∷ []) c.in_ok-rest.rest.now c.strip_prefix-2.result c.strip_prefix-2.ensures.cases
    ∙ first c.args.container.now c.args.name.now c.as_str-2.result.now c.as_str.result.now (Some c.in_ok-rest.rest.now) c.as_str-2.ensures c.as_str.ensures (sym (after_is c.as_str-2.result.now c.as_str.result.now c.strip_prefix.result c.strip_prefix.ensures.cases) ∙ ap (option_map (λ x. x.now)) c.in_ok-rest.was)

pub returns-in_err-rest : goal.returns-in_err-rest
returns-in_err-rest c =
    ap (option_map (λ x. x.now)) c.from_residual.ensures
    ∙ first c.args.container.now c.args.name.now c.as_str-2.result.now c.as_str.result.now None c.as_str-2.ensures c.as_str.ensures (sym (after_is c.as_str-2.result.now c.as_str.result.now c.strip_prefix.result c.strip_prefix.ensures.cases) ∙ ap (option_map (λ x. x.now)) c.in_err-rest.was)

use Rattle.std.proofs.Common.{◌<◌, ◌&&◌, [], ◌∷◌, length, drop, sym, ap, ◌∙◌, arith, nat_eq}
use Rattle.std.specs.List.{starts_with}
use Rattle.std.proofs.lemmas.Bool.Decides.{nat_tests}
use Rattle.std.proofs.lemmas.List.{take_rest}
use Rattle.fb_outside.proofs.Folders.{under_folder}
use Rattle.fb_outside.proofs.files.is_under.Goals as goal

pub returns-then-starts_with : goal.returns-then-starts_with
returns-then-starts_with c =
    let some : 0 < length c.args.folder.now = grind (arith, nat_tests) in
    let rest = starts_with nat_eq (drop (length c.args.folder.now) c.args.name.now) (47 ∷ []) in
    let first = sym c.starts_with.ensures.value ∙ c.if-starts_with.true in
    let second = rw take_rest at c.starts_with-then-starts_with.ensures.value in
    second ∙ sym (under_folder c.args.folder.now c.args.name.now some ∙ ap (λ b. b && rest) first)

pub returns-else-starts_with : goal.returns-else-starts_with
returns-else-starts_with c =
    let some : 0 < length c.args.folder.now = grind (arith, nat_tests) in
    let rest = starts_with nat_eq (drop (length c.args.folder.now) c.args.name.now) (47 ∷ []) in
    let first = sym c.starts_with.ensures.value ∙ c.if-starts_with.false in
    c.if-starts_with.false ∙ sym (under_folder c.args.folder.now c.args.name.now some ∙ ap (λ b. b && rest) first)

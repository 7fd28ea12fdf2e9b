-- Names under a folder.
use Rattle.std.proofs.Common.{◌≡◌, ◌<◌, nat_eq, Bool, true, false, ◌&&◌, [], ◌∷◌, ◌++◌, length, drop, refl, sym, ap, ◌∙◌, arith}
use Rattle.std.specs.List.{starts_with}
use Rattle.fb_bytes.specs.Bytes.{Bytes}
use Rattle.fb_outside.specs.Files.{is_under}

and_group : (a b c : Bool) → ((a && b) && c) ≡ (a && (b && c))
and_group true b c = refl
and_group false b c = refl

-- a name begins with two pieces where it begins with the first and the rest begins with the second
starts_with_both : (first second name : Bytes) → starts_with nat_eq name (first ++ second) ≡ (starts_with nat_eq name first && starts_with nat_eq (drop (length first) name) second)
starts_with_both [] second name = refl
starts_with_both (byte ∷ first) second [] = refl
starts_with_both (byte ∷ first) second (letter ∷ name) =
    ap (λ b. nat_eq byte letter && b) (starts_with_both first second name)
    ∙ sym (and_group (nat_eq byte letter) (starts_with nat_eq name first) (starts_with nat_eq (drop (length first) name) second))

pub under_folder : (folder name : Bytes) → 0 < length folder → is_under folder name ≡ (starts_with nat_eq name folder && starts_with nat_eq (drop (length folder) name) (47 ∷ []))
under_folder [] name h = absurd (omega arith)
under_folder (byte ∷ folder) name h = starts_with_both (byte ∷ folder) (47 ∷ []) name

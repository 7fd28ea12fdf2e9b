-- The number of a property file is the one whose decimal text it is.
use Rattle.std.proofs.Common.{◌≡◌, ◌^◌, ◌≤◌, cond, ◌&&◌, [], ◌∷◌, ◌++◌, length, Some, None, refl, sym, ap, ◌∙◌, arith, nat_le, ◌==◌}
use Rattle.std.specs.Prelude.{decimal}
use Rattle.std.proofs.lemmas.Bool.{and_parts, le-leb, lt-ltb, leb-true, eqb-true}
use Rattle.std.proofs.lemmas.List.{append-nil}
use Rattle.fb_bytes.specs.Bytes.{Bytes}
use Rattle.fb_bytes.specs.Limits.{most_number}
use Rattle.fb_bytes.specs.Options.{◌>>=◌}
use Rattle.file_names.specs.Reading.{number_at}
use Rattle.file_names.proofs.Numbers.{cond_some, number_found, number_again}
use Rattle.container_view.specs.Property.{property_of, PropertyLaw}
use Rattle.fb_bytes.proofs.Options.{bind_some}

empty : (bytes : Bytes) → length bytes ≡ 0 → bytes ≡ []
empty [] e = refl
empty (b ∷ bs) e = absurd (omega arith)

pub property_law : PropertyLaw
unfolding property_of
property_law bytes n = (there, back)
  where
    there : property_of bytes ≡ Some n → (bytes ≡ decimal n) × (n ≤ most_number)
    there h =
        let x = bind_some (number_at bytes) _ n h in
        let t = cond_some (length x.0.1 == 0 && nat_le x.0.0 most_number) x.0.0 n x.2 in
        let p = and_parts _ _ t.0 in
        let f = number_found bytes x.0 x.1 in
        let rest = empty x.0.1 (eqb-true _ _ p.0) in
        let small : x.0.0 ≤ most_number = leb-true _ _ p.1 in
        (f.0 ∙ ap (λ r. decimal x.0.0 ++ r) rest ∙ append-nil (decimal x.0.0) ∙ ap decimal t.1, omega (arith, t.1, small))

    back : ((bytes ≡ decimal n) × (n ≤ most_number)) → property_of bytes ≡ Some n
    back h =
        let small = h.1 in
        ap property_of (h.0 ∙ sym (append-nil (decimal n)))
        ∙ ap (λ o. o >>= λ front. cond (length front.1 == 0 && nat_le front.0 most_number) (Some front.0) None) (number_again n [] (lt-ltb n (2 ^ 63) (omega arith)) tt)
        ∙ ap (λ b. cond b (Some n) None) (le-leb n most_number small)

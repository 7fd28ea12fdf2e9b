-- Plain bytes stand for themselves.
use Rattle.std.proofs.Common.{◌≡◌, true, [], ◌∷◌, refl, ap}
use Rattle.std.specs.List.{list_all}
use Rattle.std.proofs.lemmas.Bool.{and_parts}
use Rattle.fb_bytes.specs.Bytes.{Bytes}
use Rattle.fb_bytes.specs.Words.{is_plain, letters_of, printed}

letters_plain : (bytes : Bytes) → list_all is_plain bytes ≡ true → letters_of bytes ≡ bytes
letters_plain [] h = refl
letters_plain (byte ∷ bytes) h =
    let p = and_parts (is_plain byte) (list_all is_plain bytes) h in
    rw p.0 (ap (λ xs. byte ∷ xs) (letters_plain bytes p.1))

pub printed_plain : (bytes : Bytes) → (bytes ≡ [] → ⊥) → list_all is_plain bytes ≡ true → printed bytes ≡ bytes
printed_plain [] n h = absurd (n refl)
printed_plain (byte ∷ bytes) n h = letters_plain (byte ∷ bytes) h

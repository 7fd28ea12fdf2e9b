-- A container's name has no slash.
use Rattle.std.specs.Prelude.{◌≡◌, ℕ, Bool, true, false, not, ◌&&◌, ◌==◌, [], ◌∷◌, length, nat_le, refl}
use Rattle.std.specs.List.{list_all}
use Rattle.std.proofs.Common.{ap, sym, ◌∙◌}
use Rattle.std.proofs.lemmas.Bool.{and_parts, and_from, eqb-true}
use Rattle.fb_bytes.specs.Bytes.{Bytes}
use Rattle.container_view.specs.Files.{has_no_slash}
use Rattle.workload_text.specs.Commands.{is_name_byte, begins_well, is_container_name}

byte_no_slash : (byte : ℕ) → is_name_byte byte ≡ true → not (byte == 47) ≡ true
byte_no_slash byte h = go (byte == 47) refl
  where
    go : (b : Bool) → (byte == 47) ≡ b → not (byte == 47) ≡ true
    go true e = let n : byte ≡ 47 = eqb-true byte 47 e in absurd (let q = sym (ap is_name_byte n) ∙ h in cc)
    go false e = ap not e

all_no_slash : (name : Bytes) → list_all is_name_byte name ≡ true → has_no_slash name ≡ true
all_no_slash [] h = refl
all_no_slash (byte ∷ name) h =
    let parts = and_parts (is_name_byte byte) (list_all is_name_byte name) h in
    and_from (not (byte == 47)) (list_all (λ b. not (b == 47)) name) (byte_no_slash byte parts.0) (all_no_slash name parts.1)

pub no_slash : (name : Bytes) → is_container_name name ≡ true → has_no_slash name ≡ true
unfolding is_container_name
no_slash name h = all_no_slash name (and_parts (begins_well name && nat_le (length name) 32) (list_all is_name_byte name) h).1

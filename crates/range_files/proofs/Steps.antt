-- Steps that may meet a fault, and the string in front.
use Rattle.std.proofs.Common.{◌≡◌, ℕ, ◌+◌, ◌-◌, ◌^◌, ◌<◌, ◌++◌, length, Option, Some, None, Result, Ok, refl, ap}
use Rattle.fb_bytes.specs.Bytes.{Bytes, IsBytes}
use Rattle.block_frame.specs.Text.{string, string_at}
use Rattle.fb_bytes.proofs.Results.{found_or_ok}
use Rattle.block_frame.proofs.Strings.{IsString, string_found, string_again, string_size}
use Rattle.range_files.specs.declared.fault.BlockFault.{BlockFault}
use Rattle.range_files.specs.declared.fault.BlockFault.TheVariants.{Short}
use Rattle.range_files.specs.Reading.{found_or, unless, string_or}

pub unless_ok : {A : Type 0} (o : Option BlockFault) (r : Result A BlockFault) (x : A) → unless o r ≡ Ok x → (o ≡ None) × (r ≡ Ok x)
unless_ok None r x e = (refl, e)
unless_ok (Some fault) r x e = absurd cc

pub string_or_size : (t : ℕ) (bytes : Bytes) (x : Bytes × Bytes) → string_or t bytes ≡ Ok x → 4 + length x.0 + length x.1 ≡ length bytes
unfolding string_or
string_or_size t bytes x e = string_size bytes x (found_or_ok (Short (t - length bytes)) (string_at bytes) x e)

pub string_or_found : (t : ℕ) (bytes : Bytes) (x : Bytes × Bytes) → IsBytes bytes → string_or t bytes ≡ Ok x → IsString bytes x.0 x.1
unfolding string_or
string_or_found t bytes x fits e = string_found bytes x fits (found_or_ok (Short (t - length bytes)) (string_at bytes) x e)

pub string_or_again : (t : ℕ) (s rest : Bytes) → length s < 2 ^ 32 → string_or t (string s ++ rest) ≡ Ok (s, rest)
unfolding string_or
string_or_again t s rest lt = ap (found_or (Short (t - length (string s ++ rest)))) (string_again s rest lt)

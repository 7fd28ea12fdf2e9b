-- Reading a tuple from left to right, with the first fault that is met.
use Rattle.std.specs.Prelude.{ℕ, ◌+◌, ◌*◌, ◌-◌, ◌^◌, zero, suc, Bool, true, false, ◌&&◌, List, []}
use Rattle.std.specs.Prelude.{◌∷◌, length, take, drop, Option, Some, None, Result, Ok, Err, nat_lt}
use Rattle.std.specs.Prelude.{nat_le, ◌==◌, ℤ, pos, negsuc, if◌then◌else◌}
use Rattle.std.specs.Str.{is_utf8}
use Rattle.fb_bytes.specs.Bytes.{is_same}
use Rattle.fb_bytes.specs.Results.{◌>>=◌}
use Rattle.tuple_keys.specs.declared.element.Element.{Element}
use Rattle.tuple_keys.specs.declared.element.Element.TheVariants.{Null, Bytes, Text, Int}
use Rattle.tuple_keys.specs.declared.fault.TupleFault.{TupleFault}
use Rattle.tuple_keys.specs.declared.fault.TupleFault.TheVariants.{Code, Open, Spelling, NotText}
use Rattle.tuple_keys.specs.Spelling.{complement}

abbrev pub in_front : ℕ → Result (List ℕ × List ℕ) TupleFault → Result (List ℕ × List ℕ) TupleFault
in_front b (Ok x) = Ok (b ∷ x.0, x.1)
in_front b (Err e) = Err e

-- the bytes up to a zero that no ff follows, and what stands behind that zero
abbrev pub closed_at : ℕ → List ℕ → Result (List ℕ × List ℕ) TupleFault
closed_at at [] = Err (Open at)
closed_at at (zero ∷ []) = Ok ([], [])
closed_at at (zero ∷ c ∷ bytes) =
    if c == 255 then in_front 0 (closed_at at bytes) else Ok ([], c ∷ bytes)
closed_at at (suc b ∷ bytes) = in_front (suc b) (closed_at at bytes)

abbrev pub text_of : ℕ → List ℕ → Result (List ℕ) TupleFault
text_of at bytes = if is_utf8 bytes then Ok bytes else Err (NotText at)

-- the number that big-endian bytes stand for
abbrev pub value : List ℕ → ℕ
value [] = 0
value (b ∷ bytes) = b * 256 ^ length bytes + value bytes

-- the bytes of a magnitude, which those of a negative number are the complements of
abbrev pub turned : Bool → List ℕ → List ℕ
turned true bytes = complement bytes
turned false bytes = bytes

abbrev pub minus : ℕ → ℤ
minus zero = pos 0
minus (suc n) = negsuc n

abbrev pub signed : Bool → ℕ → ℤ
signed true n = minus n
signed false n = pos n

abbrev pub has_zero_in_front : List ℕ → Bool
has_zero_in_front [] = false
has_zero_in_front (b ∷ bytes) = b == 0

-- an integer of a sign, whose magnitude has that many bytes
abbrev pub int_at : ℕ → Bool → ℕ → List ℕ → Result (ℤ × List ℕ) TupleFault
int_at at negative count bytes =
    if nat_lt (length bytes) count then Err (Open at)
    else (if has_zero_in_front (turned negative (take count bytes)) then Err (Spelling at)
    else Ok (signed negative (value (turned negative (take count bytes))), drop count bytes))

-- the element that begins with a code, and what stands behind it
unfoldable pub coded_at : ℕ → ℕ → List ℕ → Result (Element × List ℕ) TupleFault
coded_at at code rest =
    if code == 0 then Ok (Null, rest)
    else (if code == 1 then (closed_at at rest >>= λ x. Ok (Bytes x.0, x.1))
    else (if code == 2
    then (closed_at at rest >>= λ x. text_of at x.0 >>= λ text. Ok (Text text, x.1))
    else (if nat_le 12 code && nat_le code 19
    then (int_at at true (20 - code) rest >>= λ x. Ok (Int x.0, x.1))
    else (if nat_le 20 code && nat_le code 28
    then (int_at at false (code - 20) rest >>= λ x. Ok (Int x.0, x.1))
    else Err (Code at)))))

-- The elements of the end of a text of that length, at most so many. An element has at least one
-- byte.
unfoldable pub elements_at : ℕ → ℕ → List ℕ → Result (List Element) TupleFault
elements_at total most [] = Ok []
elements_at total zero (code ∷ rest) = Err (Open (total - (length rest + 1)))
elements_at total (suc most) (code ∷ rest) =
    coded_at (total - (length rest + 1)) code rest >>= λ x. elements_at total most x.1
    >>= λ es. Ok (x.0 ∷ es)

-- all of the bytes
unfoldable pub reading : List ℕ → Result (List Element) TupleFault
reading bytes = elements_at (length bytes) (length bytes) bytes

-- the tuple behind a prefix, where the prefix is there
abbrev pub stripping : List ℕ → List ℕ → Result (Option (List Element)) TupleFault
stripping prefix key =
    if is_same (take (length prefix) key) prefix
    then (reading (drop (length prefix) key) >>= λ es. Ok (Some es)) else Ok None

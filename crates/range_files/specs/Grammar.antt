-- The grammar of range files, apart from reading and writing.
use Rattle.std.specs.Prelude.{◌≡◌, ℕ, ◌*◌, ◌^◌, ◌<◌, ◌≤◌, true, false, List, [], ◌∷◌, ◌++◌, length}
use Rattle.std.specs.Prelude.{Option, Some, None}
use Rattle.std.specs.List.{flat_map}
use Rattle.fb_bytes.specs.Bytes.{Bytes, is_below}
use Rattle.fb_bytes.specs.declared.Pair.{Pair}
use Rattle.block_frame.specs.Text.{header, string, IsPadding}

-- the number that each block of a range file begins with
abbrev pub format : ℕ
format = 1001

abbrev pub pair_text : Pair → Bytes
pair_text pair = string pair.key ++ string pair.value

abbrev pub pairs_text : List Pair → Bytes
pairs_text pairs = flat_map pair_text pairs

abbrev pub end_text : Option Bytes → Bytes
end_text None = []
end_text (Some end) = string end

-- a block up to its padding: its number, its begin key, its pairs, and the lone end key of the last
-- block
abbrev pub block_text : ℕ → Bytes → List Pair → Option Bytes → Bytes
block_text number begin pairs end =
    header number ++ (string begin ++ (pairs_text pairs ++ end_text end))

-- from this length on, a length begins with the byte that padding is made of
abbrev pub padding_like : ℕ
padding_like = 255 * 2 ^ 24

-- lengths are numbers of 32 bits, and behind the first key none begins with the byte ff, which
-- would be padding
abbrev pub LengthsFit : ℕ → List Pair → Option Bytes → Type 0
LengthsFit limit [] None = Unit {0}
LengthsFit limit [] (Some end) = length end < limit
LengthsFit limit (pair ∷ pairs) end =
    (length pair.key < limit) × (length pair.value < padding_like)
    × LengthsFit padding_like pairs end

-- each key is past the one before it
abbrev pub RiseFrom : Bytes → List Pair → Option Bytes → Type 0
RiseFrom last [] None = Unit {0}
RiseFrom last [] (Some end) = is_below last end ≡ true
RiseFrom last (pair ∷ pairs) end = (is_below last pair.key ≡ true) × RiseFrom pair.key pairs end

-- the key that ends a block
abbrev pub end_key : Pair → List Pair → Option Bytes → Bytes
end_key pair [] None = pair.key
end_key pair [] (Some end) = end
end_key pair (next ∷ pairs) end = end_key next pairs end

-- the keys rise strictly, none is below the begin key, and the end key is past the begin key
abbrev pub IsOrdered : Bytes → List Pair → Option Bytes → Type 0
IsOrdered begin [] None = ⊥
IsOrdered begin [] (Some end) = is_below begin end ≡ true
IsOrdered begin (pair ∷ pairs) end =
    (is_below pair.key begin ≡ false) × RiseFrom pair.key pairs end
    × (is_below begin (end_key pair pairs end) ≡ true)

-- the bytes are a block of this number with this begin key, these pairs and this lone end key
pub record IsBlock (number : ℕ) (text begin : Bytes) (pairs : List Pair)
    (end : Option Bytes) : Type 0 where
  pub padding : Bytes
  pub parts : text ≡ block_text number begin pairs end ++ padding
  pub padded : IsPadding padding
  pub begin_fits : length begin < 2 ^ 32
  pub lengths : LengthsFit (2 ^ 32) pairs end
  pub ordered : IsOrdered begin pairs end

-- the first key is the begin key, as in each block but the first
abbrev pub StartsAt : Bytes → List Pair → Type 0
StartsAt begin [] = Unit {0}
StartsAt begin (pair ∷ pairs) = pair.key ≡ begin

-- the bytes are a block whose header stands at this place of its file; at 0 it is the first one
pub record IsBlockAt (number place : ℕ) (text begin : Bytes) (pairs : List Pair)
    (end : Option Bytes) : Type 0 where
  pub is : IsBlock number text begin pairs end
  pub starts : 0 < place → StartsAt begin pairs

-- the text is a range file in blocks of this size, of the pairs between begin and end
pub data RangeFile : ℕ → Bytes → Bytes → Bytes → List Pair → Type 0 where
  -- the last block ends with the end key alone
  LastBlock : {size : ℕ} {text begin end : Bytes} {pairs : List Pair}
      → IsBlock format text begin pairs (Some end) → length text ≤ size
      → RangeFile size text begin end pairs
  -- an earlier block is full and ends with a pair, with which the next block begins and which
  -- counts there
  EarlierBlock : {size : ℕ} {text begin end : Bytes} {pairs : List Pair} (front rest : Bytes)
      (before others : List Pair) (pair : Pair) → text ≡ front ++ rest
      → pairs ≡ before ++ (pair ∷ others)
      → IsBlock format front begin (before ++ (pair ∷ [])) None → length front ≡ size
      → RangeFile size rest pair.key end (pair ∷ others) → RangeFile size text begin end pairs

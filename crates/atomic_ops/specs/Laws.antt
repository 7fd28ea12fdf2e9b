-- Laws of codes, of fitting, of bytes as numbers and of operations.
use Rattle.std.specs.Prelude.{◌≡◌, ◌≢◌, ℕ, ◌%◌, ◌^◌, ◌<◌, ◌≤◌, max, Bool, true, false, [], length}
use Rattle.std.specs.Prelude.{reverse, slice_index, unwrap_or, Option, Some, None, ◌⊎◌, IfSome}
use Rattle.std.specs.Prelude.{IsSomeAnd}
use Rattle.std.specs.Ordering.{nat_cmp}
use Rattle.std.specs.Cmp.Lexicographic.{slice_cmp}
use Rattle.atomic_ops.specs.declared.op.Op.{Op}
use Rattle.atomic_ops.specs.declared.op.Op.TheVariants.{Add, And, Or, Xor, AppendIfFits, Max, Min}
use Rattle.atomic_ops.specs.declared.op.Op.TheVariants.{ByteMin, ByteMax, MinV2, AndV2}
use Rattle.atomic_ops.specs.declared.op.Op.TheVariants.{CompareAndClear}
use Rattle.atomic_ops.specs.Bytes.{Bytes, IsBytes, fitted}
use Rattle.atomic_ops.specs.Codes.{code_of, word_of, op_of_code, op_of_word}
use Rattle.atomic_ops.specs.Numbers.{number, number_bytes}
use Rattle.atomic_ops.specs.Operation.{operation}

-- ---- codes and words

-- 0 and 1 are the codes of a set and a clear
abbrev pub CodeIsInTable : Type 0
CodeIsInTable = (op : Op) → (2 ≤ code_of op) × (code_of op ≤ 20)

-- a code is read as the one operation that has it
abbrev pub CodeGivesOp : Type 0
CodeGivesOp = (op : Op) → op_of_code (code_of op) ≡ Some op

abbrev pub OpHasCode : Type 0
OpHasCode = (code : ℕ) (op : Op) → op_of_code code ≡ Some op → code_of op ≡ code

-- a word is read as the one operation that has it
abbrev pub WordGivesOp : Type 0
WordGivesOp = (op : Op) → op_of_word (word_of op) ≡ Some op

abbrev pub OpHasWord : Type 0
OpHasWord = (word : Bytes) (op : Op) → op_of_word word ≡ Some op → word_of op ≡ word

-- ---- fitting

-- what is fitted to a length has it
abbrev pub FittedLength : Type 0
FittedLength = (old : Option Bytes) (n : ℕ) → length (fitted old n) ≡ n

-- at each place it has the old byte, or zero where the old string has none
abbrev pub FittedBytes : Type 0
FittedBytes =
    (old : Option Bytes) (n i : ℕ) → i < n
    → slice_index (fitted old n) i ≡ slice_index (unwrap_or old []) i

-- ---- bytes as numbers

-- n bytes are a number below 256 ^ n
abbrev pub NumberIsBelow : Type 0
NumberIsBelow = (bytes : Bytes) → IsBytes bytes → number bytes < 256 ^ length bytes

-- strings of one length are the same where their numbers are
abbrev pub NumberIsUnique : Type 0
NumberIsUnique =
    (x y : Bytes) → IsBytes x → IsBytes y → length x ≡ length y → number x ≡ number y → x ≡ y

-- numbers of one length compare as their bytes from the last one down
abbrev pub NumbersCompareFromLast : Type 0
NumbersCompareFromLast = (x y : Bytes) → IsBytes x → IsBytes y → length x ≡ length y
    → nat_cmp (number x) (number y) ≡ slice_cmp nat_cmp (reverse x) (reverse y)

-- n bytes of a number are n bytes, and that number modulo 256 ^ n
abbrev pub NumberBytesLength : Type 0
NumberBytesLength = (n x : ℕ) → length (number_bytes n x) ≡ n

abbrev pub NumberBytesAreBytes : Type 0
NumberBytesAreBytes = (n x : ℕ) → IsBytes (number_bytes n x)

abbrev pub NumberOfBytes : Type 0
NumberOfBytes = (n x : ℕ) → number (number_bytes n x) ≡ x % 256 ^ n

-- bytes are those of their number
abbrev pub BytesOfNumber : Type 0
BytesOfNumber = (bytes : Bytes) → IsBytes bytes → number_bytes (length bytes) (number bytes) ≡ bytes

-- ---- results

-- the operations whose result is as long as the parameter
abbrev pub has_param_length : Op → Bool
has_param_length Add = true
has_param_length And = true
has_param_length Or = true
has_param_length Xor = true
has_param_length AppendIfFits = false
has_param_length Max = true
has_param_length Min = true
has_param_length ByteMin = false
has_param_length ByteMax = false
has_param_length MinV2 = true
has_param_length AndV2 = true
has_param_length CompareAndClear = false

-- they leave the key there, with a value of that length: an empty one for an empty parameter
abbrev pub ResultHasParamLength : Type 0
ResultHasParamLength =
    (op : Op) (old : Option Bytes) (param : Bytes) (limit : ℕ) → has_param_length op ≡ true
    → IsSomeAnd (operation op old param limit) (λ left. length left ≡ length param)

-- no operation but an append leaves more bytes than the longer of what it is given
abbrev pub ResultIsNoLonger : Type 0
ResultIsNoLonger = (op : Op) (old : Option Bytes) (param : Bytes) (limit : ℕ) → op ≢ AppendIfFits
    → IfSome (operation op old param limit)
    (λ left. length left ≤ max (length (unwrap_or old [])) (length param))

-- an append leaves a value, and it goes past the limit only where the old one did
abbrev pub AppendIsLimited : Type 0
AppendIsLimited = (old : Option Bytes) (param : Bytes) (limit : ℕ)
    → IsSomeAnd (operation AppendIfFits old param limit)
    (λ left. length left ≤ max (length (unwrap_or old [])) limit)

-- a limit that holds for the old value, the parameter and an append holds for the result
abbrev pub ResultIsWithin : Type 0
ResultIsWithin =
    (op : Op) (old : Option Bytes) (param : Bytes) (limit : ℕ) → length (unwrap_or old []) ≤ limit
    → length param ≤ limit
    → IfSome (operation op old param limit) (λ left. length left ≤ limit)

-- bytes give bytes
abbrev pub ResultIsBytes : Type 0
ResultIsBytes =
    (op : Op) (old : Option Bytes) (param : Bytes) (limit : ℕ) → IsBytes (unwrap_or old [])
    → IsBytes param
    → IfSome (operation op old param limit) (λ left. IsBytes left)

-- the key is absent after a compare-and-clear of an absent key or of the very parameter, and after
-- nothing else
abbrev pub Clears : Type 0
Clears =
    (old : Option Bytes) (param : Bytes) (limit : ℕ) → (old ≡ None) ⊎ (old ≡ Some param)
    → operation CompareAndClear old param limit ≡ None

abbrev pub OnlyClears : Type 0
OnlyClears =
    (op : Op) (old : Option Bytes) (param : Bytes) (limit : ℕ) → operation op old param limit ≡ None
    → (op ≡ CompareAndClear) × ((old ≡ None) ⊎ (old ≡ Some param))

-- an absent key counts as an empty value, which an append that doesn't fit leaves there
abbrev pub AppendThatNeverFits : Type 0
AppendThatNeverFits =
    (param : Bytes) (limit : ℕ) → limit < length param
    → operation AppendIfFits None param limit ≡ Some []

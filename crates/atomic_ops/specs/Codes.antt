-- The code and the word of each operation.
use Rattle.std.specs.Prelude.{ℕ, List, [], ◌∷◌, find, nat_eq, codes, Option}
use Rattle.atomic_ops.specs.declared.op.Op.{Op}
use Rattle.atomic_ops.specs.declared.op.Op.TheVariants.{Add, And, Or, Xor, AppendIfFits, Max, Min}
use Rattle.atomic_ops.specs.declared.op.Op.TheVariants.{ByteMin, ByteMax, MinV2, AndV2}
use Rattle.atomic_ops.specs.declared.op.Op.TheVariants.{CompareAndClear}
use Rattle.atomic_ops.specs.Bytes.{Bytes, is_same}

-- the number that stands for an operation in a batch of mutations
abbrev pub code_of : Op → ℕ
code_of Add = 2
code_of And = 6
code_of Or = 7
code_of Xor = 8
code_of AppendIfFits = 9
code_of Max = 12
code_of Min = 13
code_of ByteMin = 16
code_of ByteMax = 17
code_of MinV2 = 18
code_of AndV2 = 19
code_of CompareAndClear = 20

-- the word that stands for an operation in a text
abbrev pub word_of : Op → Bytes
word_of Add = codes "add"
word_of And = codes "and"
word_of Or = codes "or"
word_of Xor = codes "xor"
word_of AppendIfFits = codes "append"
word_of Max = codes "max"
word_of Min = codes "min"
word_of ByteMin = codes "bytemin"
word_of ByteMax = codes "bytemax"
word_of MinV2 = codes "minv2"
word_of AndV2 = codes "andv2"
word_of CompareAndClear = codes "cac"

-- each operation once
abbrev pub every_op : List Op
every_op =
    Add ∷ And ∷ Or ∷ Xor ∷ AppendIfFits ∷ Max ∷ Min ∷ ByteMin ∷ ByteMax ∷ MinV2 ∷ AndV2
    ∷ CompareAndClear ∷ []

-- the operation of a code, if the code has one
abbrev pub op_of_code : ℕ → Option Op
op_of_code code = find (λ op. nat_eq (code_of op) code) every_op

-- the operation of a word, if the word is one
abbrev pub op_of_word : Bytes → Option Op
op_of_word word = find (λ op. is_same (word_of op) word) every_op

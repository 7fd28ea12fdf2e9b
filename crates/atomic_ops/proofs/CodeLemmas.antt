-- A code, and a word, is that of one operation.
use Rattle.std.proofs.Common.{◌≡◌, ℕ, ◌≤◌, Bool, true, false, cond, List, [], ◌∷◌, refl, lit≤}
use Rattle.std.specs.Prelude.{Some, find, nat_eq}
use Rattle.std.specs.Cmp.Lexicographic.{bytes_decides}
use Rattle.std.proofs.lemmas.Bool.{eqb-true}
use Rattle.atomic_ops.specs.declared.op.Op.{Op}
use Rattle.atomic_ops.specs.declared.op.Op.TheVariants.{Add, And, Or, Xor, AppendIfFits, Max, Min, ByteMin, ByteMax, MinV2, AndV2, CompareAndClear}
use Rattle.atomic_ops.specs.Bytes.{Bytes, is_same}
use Rattle.atomic_ops.specs.Codes.{code_of, word_of, every_op, op_of_code, op_of_word}

-- what is found passes
found_passes : {X : Type 0} (p : X → Bool) (xs : List X) (x : X) → find p xs ≡ Some x → p x ≡ true
found_passes p [] x e = cc
found_passes p (y ∷ ys) x e = by (p y) refl e (found_passes p ys x)
  where
    by : (b : Bool) → p y ≡ b → cond b (Some y) (find p ys) ≡ Some x → (find p ys ≡ Some x → p x ≡ true) → p x ≡ true
    by true h found rest = let same : y ≡ x = cc in rw (← same) h
    by false h found rest = rest found

pub code_is_in_table : (op : Op) → (2 ≤ code_of op) × (code_of op ≤ 20)
code_is_in_table Add = (lit≤ tt, lit≤ tt)
code_is_in_table And = (lit≤ tt, lit≤ tt)
code_is_in_table Or = (lit≤ tt, lit≤ tt)
code_is_in_table Xor = (lit≤ tt, lit≤ tt)
code_is_in_table AppendIfFits = (lit≤ tt, lit≤ tt)
code_is_in_table Max = (lit≤ tt, lit≤ tt)
code_is_in_table Min = (lit≤ tt, lit≤ tt)
code_is_in_table ByteMin = (lit≤ tt, lit≤ tt)
code_is_in_table ByteMax = (lit≤ tt, lit≤ tt)
code_is_in_table MinV2 = (lit≤ tt, lit≤ tt)
code_is_in_table AndV2 = (lit≤ tt, lit≤ tt)
code_is_in_table CompareAndClear = (lit≤ tt, lit≤ tt)

pub code_gives_op : (op : Op) → op_of_code (code_of op) ≡ Some op
code_gives_op Add = refl
code_gives_op And = refl
code_gives_op Or = refl
code_gives_op Xor = refl
code_gives_op AppendIfFits = refl
code_gives_op Max = refl
code_gives_op Min = refl
code_gives_op ByteMin = refl
code_gives_op ByteMax = refl
code_gives_op MinV2 = refl
code_gives_op AndV2 = refl
code_gives_op CompareAndClear = refl

pub word_gives_op : (op : Op) → op_of_word (word_of op) ≡ Some op
word_gives_op Add = refl
word_gives_op And = refl
word_gives_op Or = refl
word_gives_op Xor = refl
word_gives_op AppendIfFits = refl
word_gives_op Max = refl
word_gives_op Min = refl
word_gives_op ByteMin = refl
word_gives_op ByteMax = refl
word_gives_op MinV2 = refl
word_gives_op AndV2 = refl
word_gives_op CompareAndClear = refl

pub op_has_code : (code : ℕ) (op : Op) → op_of_code code ≡ Some op → code_of op ≡ code
op_has_code code op e = eqb-true (code_of op) code (found_passes (λ op. nat_eq (code_of op) code) every_op op e)

pub op_has_word : (word : Bytes) (op : Op) → op_of_word word ≡ Some op → word_of op ≡ word
op_has_word word op e = (bytes_decides (word_of op) word).0 (found_passes (λ op. is_same (word_of op) word) every_op op e)

-- The files that a store in memory tells: all of them, since they are in order.
use Rattle.std.specs.Prelude.{◌≡◌, Bool, true, false, cond, ◌&&◌, List, [], ◌∷◌, Option, Some, None}
use Rattle.std.specs.Prelude.{if◌then◌else◌, refl}
use Rattle.std.proofs.Common.{ap}
use Rattle.std.proofs.lemmas.Bool.{and_parts, and_from}
use Rattle.fb_bytes.specs.Bytes.{Bytes, is_below}
use Rattle.fb_outside.specs.Files.{File, NamePast, AreFiles}

-- whether the names rise
abbrev pub is_past : Bytes → List File → Bool
is_past name [] = true
is_past name (file ∷ files) = is_below name file.name

abbrev pub are_files : List File → Bool
are_files [] = true
are_files (file ∷ files) = is_past file.name files && are_files files

-- the files, where their names are in order
abbrev pub in_order : List File → Option (List File)
in_order files = if are_files files then Some files else None

past_from_test : (name : Bytes) (files : List File) → is_past name files ≡ true
    → NamePast name files
past_from_test name [] e = tt
past_from_test name (file ∷ files) e = e

files_from_test : (files : List File) → are_files files ≡ true → AreFiles files
files_from_test [] e = tt
files_from_test (file ∷ files) e =
    let parts = and_parts (is_past file.name files) (are_files files) e in
    (past_from_test file.name files parts.0, files_from_test files parts.1)

test_past : (name : Bytes) (files : List File) → NamePast name files → is_past name files ≡ true
test_past name [] h = refl
test_past name (file ∷ files) h = h

test_files : (files : List File) → AreFiles files → are_files files ≡ true
test_files [] h = refl
test_files (file ∷ files) h =
    and_from (is_past file.name files) (are_files files) (test_past file.name files h.0)
    (test_files files h.1)

-- files in order are told
pub told_in_order : (files : List File) → AreFiles files → in_order files ≡ Some files
told_in_order files h = ap (λ b. if b then Some files else None) (test_files files h)

-- what is told is all the files
pub told_files : (files told : List File) → in_order files ≡ Some told → told ≡ files
told_files files told e = go (are_files files) e
  where
    go : (b : Bool) → cond b (Some files) None ≡ Some told → told ≡ files
    go true e = cc
    go false e = cc

-- and they are in order
pub told_are_files : (files told : List File) → in_order files ≡ Some told → AreFiles told
told_are_files files told e = go (are_files files) refl e
  where
    go : (b : Bool) → are_files files ≡ b → cond b (Some files) None ≡ Some told → AreFiles told
    go true t e = let h : told ≡ files = cc in rw h (files_from_test files t)
    go false t e = cc

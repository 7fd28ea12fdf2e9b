-- The files of a store: puts, deletions and look-ups.
use Rattle.std.proofs.Common.{◌≡◌, Bool, true, false, not, cond, List, [], ◌∷◌, ◌++◌, Some, None, if◌then◌else◌, refl, sym, ap, ◌∙◌, subst}
use Rattle.std.proofs.lemmas.Bool.{false_from_ne_true}
use Rattle.fb_bytes.specs.Bytes.{Bytes, is_below, is_same}
use Rattle.fb_outside.specs.declared.File.{File}
use Rattle.fb_outside.specs.Files.{NamePast, AreFiles, file_of, with_file, without_file}
use Rattle.mutations.proofs.Basics.{not_both}
use Rattle.fb_bytes.proofs.Order.{below_trans, below_itself, same_eq, same_itself}
use Rattle.container_view.specs.Changes.{Inserts}
use Rattle.container_view.proofs.Lists.{first_inserted, later_inserted}

abbrev pub file : Bytes → Bytes → File
file name bytes = record { name = name; bytes = bytes }

-- ---- names that rise

next_past : (name : Bytes) (f : File) (fs : List File) → is_below name f.name ≡ true → NamePast f.name fs → NamePast name fs
next_past name f [] h g = tt
next_past name f (x ∷ xs) h g = below_trans name f.name x.name h g

later_name : (name other : Bytes) → is_below name other ≡ true → is_same other name ≡ false
later_name name other h = false_from_ne_true (is_same other name) (λ e. not_both (sym (ap (is_below name) (same_eq other name e)) ∙ h) (below_itself name))

-- no later file has the name
past_none : (name : Bytes) (fs : List File) → NamePast name fs → AreFiles fs → file_of fs name ≡ None
past_none name [] h r = refl
past_none name (f ∷ fs) h r = ap (λ b. cond b (Some f.bytes) (file_of fs name)) (later_name name f.name h) ∙ past_none name fs (next_past name f fs h r.0) r.1

-- no file from one on has a name before it
before_none : (name : Bytes) (f : File) (fs : List File) → is_below name f.name ≡ true → AreFiles (f ∷ fs) → file_of fs name ≡ None
before_none name f fs h r = past_none name fs (next_past name f fs h r.0) r.1

-- ---- puts and deletions

pub put_inserts : (name bytes : Bytes) (files : List File) → file_of files name ≡ None → Inserts (file name bytes) files (with_file files name bytes)
put_inserts name bytes [] e = first_inserted (file name bytes) []
put_inserts name bytes (f ∷ fs) e = go (is_below name f.name) (is_same f.name name) e (put_inserts name bytes fs)
  where
    go : (b c : Bool) → cond c (Some f.bytes) (file_of fs name) ≡ None → (file_of fs name ≡ None → Inserts (file name bytes) fs (with_file fs name bytes)) → Inserts (file name bytes) (f ∷ fs) (if b then file name bytes ∷ f ∷ fs else if c then file name bytes ∷ fs else f ∷ with_file fs name bytes)
    go true c e ih = first_inserted (file name bytes) (f ∷ fs)
    go false true e ih = cc
    go false false e ih = later_inserted (file name bytes) f fs (with_file fs name bytes) (ih e)

pub gone : (name : Bytes) (files : List File) → file_of files name ≡ None → without_file files name ≡ files
gone name [] e = refl
gone name (f ∷ fs) e = go (is_same f.name name) e (gone name fs)
  where
    go : (b : Bool) → cond b (Some f.bytes) (file_of fs name) ≡ None → (file_of fs name ≡ None → without_file fs name ≡ fs) → cond (not b) (f ∷ without_file fs name) (without_file fs name) ≡ f ∷ fs
    go true e ih = cc
    go false e ih = ap (λ (xs : List File). f ∷ xs) (ih e)

pub deletion_inserts : (name bytes : Bytes) (files : List File) → AreFiles files → file_of files name ≡ Some bytes → Inserts (file name bytes) (without_file files name) files
deletion_inserts name bytes [] r e = cc
deletion_inserts name bytes (f ∷ fs) r e = go (is_same f.name name) refl e (deletion_inserts name bytes fs r.1)
  where
    go : (b : Bool) → is_same f.name name ≡ b → cond b (Some f.bytes) (file_of fs name) ≡ Some bytes → (file_of fs name ≡ Some bytes → Inserts (file name bytes) (without_file fs name) fs) → Inserts (file name bytes) (cond (not b) (f ∷ without_file fs name) (without_file fs name)) (f ∷ fs)
    go true s e ih =
        let n = same_eq f.name name s in
        let b : f.bytes ≡ bytes = cc in
        let same : f ≡ file name bytes = λ i. file (n i) (b i) in
        let rest : without_file fs name ≡ fs = gone name fs (past_none name fs (subst (λ x. NamePast x fs) n r.0) r.1) in
        record { before = []; after = fs; few_is = rest; many_is = ap (λ x. x ∷ fs) same }
    go false s e ih = later_inserted (file name bytes) f (without_file fs name) fs (ih e)

pub without_none : (name : Bytes) (files : List File) → file_of (without_file files name) name ≡ None
without_none name [] = refl
without_none name (f ∷ fs) = go (is_same f.name name) refl (without_none name fs)
  where
    go : (b : Bool) → is_same f.name name ≡ b → file_of (without_file fs name) name ≡ None → file_of (cond (not b) (f ∷ without_file fs name) (without_file fs name)) name ≡ None
    go true s ih = ih
    go false s ih = ap (λ b. cond b (Some f.bytes) (file_of (without_file fs name) name)) s ∙ ih

pub again : (name bytes : Bytes) (files : List File) → AreFiles files → file_of files name ≡ Some bytes → with_file files name bytes ≡ files
again name bytes [] r e = cc
again name bytes (f ∷ fs) r e = go (is_below name f.name) (is_same f.name name) refl refl e (again name bytes fs r.1)
  where
    go : (b c : Bool) → is_below name f.name ≡ b → is_same f.name name ≡ c → cond c (Some f.bytes) (file_of fs name) ≡ Some bytes → (file_of fs name ≡ Some bytes → with_file fs name bytes ≡ fs) → (if b then file name bytes ∷ f ∷ fs else if c then file name bytes ∷ fs else f ∷ with_file fs name bytes) ≡ f ∷ fs
    go true true h s e ih = not_both s (later_name name f.name h)
    go true false h s e ih = let none = before_none name f fs h r in cc
    go false true h s e ih =
        let n = same_eq f.name name s in
        let b : f.bytes ≡ bytes = cc in
        λ i. file (sym n i) (sym b i) ∷ fs
    go false false h s e ih = ap (λ (xs : List File). f ∷ xs) (ih e)

first_past : (name bytes : Bytes) (fs : List File) → NamePast name fs → with_file fs name bytes ≡ file name bytes ∷ fs
first_past name bytes [] h = refl
first_past name bytes (f ∷ fs) h = ap (λ b. cond b (file name bytes ∷ f ∷ fs) (if is_same f.name name then file name bytes ∷ fs else f ∷ with_file fs name bytes)) h

pub replace : (name bytes : Bytes) (files : List File) → AreFiles files → with_file files name bytes ≡ with_file (without_file files name) name bytes
replace name bytes [] r = refl
replace name bytes (f ∷ fs) r = go (is_below name f.name) (is_same f.name name) refl refl (replace name bytes fs r.1)
  where
    go : (b c : Bool) → is_below name f.name ≡ b → is_same f.name name ≡ c → with_file fs name bytes ≡ with_file (without_file fs name) name bytes → (if b then file name bytes ∷ f ∷ fs else if c then file name bytes ∷ fs else f ∷ with_file fs name bytes) ≡ with_file (cond (not c) (f ∷ without_file fs name) (without_file fs name)) name bytes
    go true true h s ih = not_both s (later_name name f.name h)
    go true false h s ih =
        ap (λ (xs : List File). file name bytes ∷ f ∷ xs) (sym (gone name fs (before_none name f fs h r)))
        ∙ sym (ap (λ b. cond b (file name bytes ∷ f ∷ without_file fs name) (if is_same f.name name then file name bytes ∷ without_file fs name else f ∷ with_file (without_file fs name) name bytes)) h)
    go false true h s ih =
        let past : NamePast name fs = subst (λ x. NamePast x fs) (same_eq f.name name s) r.0 in
        sym (first_past name bytes fs past) ∙ ap (λ xs. with_file xs name bytes) (sym (gone name fs (past_none name fs past r.1)))
    go false false h s ih =
        ap (λ (xs : List File). f ∷ xs) ih
        ∙ sym (ap (λ b. cond b (file name bytes ∷ f ∷ without_file fs name) (if is_same f.name name then file name bytes ∷ without_file fs name else f ∷ with_file (without_file fs name) name bytes)) h
        ∙ ap (λ b. cond b (file name bytes ∷ without_file fs name) (f ∷ with_file (without_file fs name) name bytes)) s)

-- ---- look-ups

-- a file of another name doesn't matter
pub other_file : (f : File) (name : Bytes) (before after : List File) → is_same f.name name ≡ false → file_of (before ++ f ∷ after) name ≡ file_of (before ++ after) name
other_file f name [] after h = ap (λ b. cond b (Some f.bytes) (file_of after name)) h
other_file f name (x ∷ xs) after h = ap (cond (is_same x.name name) (Some x.bytes)) (other_file f name xs after h)

-- the only file of the name
pub the_file : (f : File) (before after : List File) → file_of (before ++ after) f.name ≡ None → file_of (before ++ f ∷ after) f.name ≡ Some f.bytes
the_file f [] after e = ap (λ b. cond b (Some f.bytes) (file_of after f.name)) (same_itself f.name)
the_file f (x ∷ xs) after e = go (is_same x.name f.name) e (the_file f xs after)
  where
    go : (b : Bool) → cond b (Some x.bytes) (file_of (xs ++ after) f.name) ≡ None → (file_of (xs ++ after) f.name ≡ None → file_of (xs ++ f ∷ after) f.name ≡ Some f.bytes) → cond b (Some x.bytes) (file_of (xs ++ f ∷ after) f.name) ≡ Some f.bytes
    go true e ih = cc
    go false e ih = ih e

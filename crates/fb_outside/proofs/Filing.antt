-- Files under a name: what a put and a delete leave, place by place and name by name.
use Rattle.std.proofs.Common.{◌≡◌, ℕ, suc, ◌<◌, ◌≤◌, nat_lt, Bool, true, false, not, cond, List, [], ◌∷◌, length, get_or, set, Some, None, if◌then◌else◌, refl, sym, ap, ◌∙◌, subst, arith}
use Rattle.std.specs.List.{filter, insert, position, position_or_len}
use Rattle.std.specs.Option.{unwrap_or}
use Rattle.std.proofs.lemmas.Bool.{cond_both}
use Rattle.std.proofs.lemmas.Bool.Decides.{nat_tests}
use Rattle.std.proofs.lemmas.List.Sums.{prefix_len-le-length}
use Rattle.fb_bytes.specs.Bytes.{Bytes, is_below, is_same}
use Rattle.fb_bytes.proofs.Order.{not_both, below_trans, below_itself, below_not_back, below_not_same, neither_below, same_eq, same_itself}
use Rattle.fb_outside.specs.Files.{File, NamePast, AreFiles, file_of, with_file, without_file}

-- a file of that name
abbrev pub new_file : Bytes → Bytes → File
new_file name bytes = record { name = name; bytes = bytes }

-- ---- two names

same_not_below : (a b : Bytes) → is_same a b ≡ true → is_below b a ≡ false
same_not_below a b s = ap (λ x. is_below b x) (same_eq a b s) ∙ below_itself b

-- of two names that aren't the same one is below the other
below_else : (a b : Bytes) → is_below a b ≡ false → is_same a b ≡ false → is_below b a ≡ true
below_else a b h s = go (is_below b a) refl
  where
    go : (t : Bool) → is_below b a ≡ t → is_below b a ≡ true
    go true e = e
    go false e = not_both (ap (is_same a) (sym (neither_below a b h e)) ∙ same_itself a) s

-- ---- where a name belongs

-- the place of the first name that isn't below this one
abbrev pub place : List File → Bytes → ℕ
place files name = position_or_len (λ file. not (is_below file.name name)) files

pub place_within : (files : List File) (name : Bytes) → place files name ≤ length files
place_within files name = prefix_len-le-length (λ file. not (not (is_below file.name name))) files

pub place_or_end : (files : List File) (name : Bytes) → unwrap_or (position (λ file. not (is_below file.name name)) files) (length files) ≡ place files name
place_or_end files name = go (nat_lt (place files name) (length files)) refl
  where
    go : (b : Bool) → nat_lt (place files name) (length files) ≡ b → unwrap_or (cond b (Some (place files name)) None) (length files) ≡ place files name
    go true e = refl
    go false e = let h = place_within files name in grind (arith, nat_tests)

-- a file with a lower name stands before the place
place_behind : (file : File) (files : List File) (name : Bytes) → is_below file.name name ≡ true → place (file ∷ files) name ≡ suc (place files name)
place_behind file files name h = rw h (omega arith)

place_front : (file : File) (files : List File) (name : Bytes) → is_below file.name name ≡ false → place (file ∷ files) name ≡ 0
place_front file files name h = rw h refl

-- ---- a put, with the file's place

put_front : (file : File) (files : List File) (name bytes : Bytes) → is_below name file.name ≡ true → with_file (file ∷ files) name bytes ≡ new_file name bytes ∷ file ∷ files
put_front file files name bytes h = rw h refl

put_over : (file : File) (files : List File) (name bytes : Bytes) → is_same file.name name ≡ true → with_file (file ∷ files) name bytes ≡ new_file name bytes ∷ files
put_over file files name bytes s = rw (same_not_below file.name name s, s) refl

put_behind : (file : File) (files : List File) (name bytes : Bytes) → is_below file.name name ≡ true → with_file (file ∷ files) name bytes ≡ file ∷ with_file files name bytes
put_behind file files name bytes h = rw (below_not_back file.name name h, below_not_same file.name name h) refl

pub put_replaces : (files : List File) (name bytes : Bytes) (d : File) → place files name < length files → is_same (get_or files (place files name) d).name name ≡ true
    → with_file files name bytes ≡ set files (place files name) (new_file name bytes)
put_replaces [] name bytes d h s = absurd (omega arith)
put_replaces (file ∷ files) name bytes d h s = go (is_below file.name name) refl (put_replaces files name bytes d)
  where
    go : (b : Bool) → is_below file.name name ≡ b
        → (place files name < length files → is_same (get_or files (place files name) d).name name ≡ true → with_file files name bytes ≡ set files (place files name) (new_file name bytes))
        → with_file (file ∷ files) name bytes ≡ set (file ∷ files) (place (file ∷ files) name) (new_file name bytes)
    go true b ih =
        let p = place_behind file files name b in
        let s2 = subst (λ n. is_same (get_or (file ∷ files) n d).name name ≡ true) p s in
        put_behind file files name bytes b ∙ ap (λ fs. file ∷ fs) (ih (omega arith) s2) ∙ ap (λ n. set (file ∷ files) n (new_file name bytes)) (sym p)
    go false b ih =
        let p = place_front file files name b in
        let s2 = subst (λ n. is_same (get_or (file ∷ files) n d).name name ≡ true) p s in
        put_over file files name bytes s2 ∙ ap (λ n. set (file ∷ files) n (new_file name bytes)) (sym p)

pub put_inserts : (files : List File) (name bytes : Bytes) (d : File) → (place files name < length files → is_same (get_or files (place files name) d).name name ≡ false)
    → with_file files name bytes ≡ insert files (place files name) (new_file name bytes)
put_inserts [] name bytes d s = refl
put_inserts (file ∷ files) name bytes d s = go (is_below file.name name) refl (put_inserts files name bytes d)
  where
    go : (b : Bool) → is_below file.name name ≡ b
        → ((place files name < length files → is_same (get_or files (place files name) d).name name ≡ false) → with_file files name bytes ≡ insert files (place files name) (new_file name bytes))
        → with_file (file ∷ files) name bytes ≡ insert (file ∷ files) (place (file ∷ files) name) (new_file name bytes)
    go true b ih =
        let p = place_behind file files name b in
        let s2 = subst (λ n. n < length (file ∷ files) → is_same (get_or (file ∷ files) n d).name name ≡ false) p s in
        put_behind file files name bytes b ∙ ap (λ fs. file ∷ fs) (ih (λ h. s2 (omega arith))) ∙ ap (λ n. insert (file ∷ files) n (new_file name bytes)) (sym p)
    go false b ih =
        let p = place_front file files name b in
        let s2 = subst (λ n. n < length (file ∷ files) → is_same (get_or (file ∷ files) n d).name name ≡ false) p s in
        put_front file files name bytes (below_else file.name name b (s2 (omega arith))) ∙ ap (λ n. insert (file ∷ files) n (new_file name bytes)) (sym p)

-- ---- order is kept

past_put : (before : Bytes) (files : List File) (name bytes : Bytes) → is_below before name ≡ true → NamePast before files → NamePast before (with_file files name bytes)
past_put before [] name bytes h p = h
past_put before (file ∷ files) name bytes h p =
    cond_both (is_below name file.name) _ _ (NamePast before) (λ t. h)
    (λ f. cond_both (is_same file.name name) _ _ (NamePast before) (λ s. h) (λ n. p))

past_same : (before name : Bytes) (files : List File) → before ≡ name → NamePast before files → NamePast name files
past_same before name files e p = subst (λ n. NamePast n files) e p

pub files_after_put : (files : List File) (name bytes : Bytes) → AreFiles files → AreFiles (with_file files name bytes)
files_after_put [] name bytes a = (tt, tt)
files_after_put (file ∷ files) name bytes a =
    cond_both (is_below name file.name) _ _ AreFiles (λ t. (t, a))
    (λ f.
    cond_both (is_same file.name name) _ _ AreFiles
    (λ s. (past_same file.name name files (same_eq file.name name s) a.0, a.1))
    (λ n. (past_put file.name files name bytes (below_other f n) a.0, files_after_put files name bytes a.1)))
  where
    same_back : (x y : Bytes) → is_same x y ≡ false → is_same y x ≡ false
    same_back x y e = go (is_same y x) refl
      where
        go : (b : Bool) → is_same y x ≡ b → is_same y x ≡ false
        go true t = not_both (ap (is_same x) (same_eq y x t) ∙ same_itself x) e
        go false t = t

    below_other : is_below name file.name ≡ false → is_same file.name name ≡ false → is_below file.name name ≡ true
    below_other f n = below_else name file.name f (same_back file.name name n)

past_filter : (before : Bytes) (files : List File) (test : File → Bool) → NamePast before files → AreFiles files → NamePast before (filter test files)
past_filter before [] test p a = tt
past_filter before (file ∷ files) test p a =
    cond_both (test file) _ _ (NamePast before) (λ t. p) (λ f. past_filter before files test (further files a.0) a.1)
  where
    further : (files : List File) → NamePast file.name files → NamePast before files
    further [] q = tt
    further (next ∷ files) q = below_trans before file.name next.name p q

pub files_after_filter : (files : List File) (test : File → Bool) → AreFiles files → AreFiles (filter test files)
files_after_filter [] test a = tt
files_after_filter (file ∷ files) test a =
    cond_both (test file) _ _ AreFiles (λ t. (past_filter file.name files test a.0 a.1, files_after_filter files test a.1)) (λ f. files_after_filter files test a.1)

pub files_after_delete : (files : List File) (name : Bytes) → AreFiles files → AreFiles (without_file files name)
files_after_delete files name a = files_after_filter files (λ file. not (is_same file.name name)) a

-- ---- what is found under a name

pub file_of_put : (files : List File) (name bytes : Bytes) → file_of (with_file files name bytes) name ≡ Some bytes
file_of_put [] name bytes = rw (same_itself name) refl
file_of_put (file ∷ files) name bytes =
    cond_both (is_below name file.name) _ _ Found (λ t. rw (same_itself name) refl)
    (λ f. cond_both (is_same file.name name) _ _ Found (λ s. rw (same_itself name) refl) (λ n. rw n (file_of_put files name bytes)))
  where
    Found : List File → Type 0
    Found list = file_of list name ≡ Some bytes

pub file_of_put_other : (files : List File) (name bytes other : Bytes) → is_same name other ≡ false → file_of (with_file files name bytes) other ≡ file_of files other
file_of_put_other [] name bytes other d = rw d refl
file_of_put_other (file ∷ files) name bytes other d =
    cond_both (is_below name file.name) _ _ Found (λ t. rw d refl)
    (λ f.
    cond_both (is_same file.name name) _ _ Found
    (λ s. let e : is_same file.name other ≡ false = ap (λ n. is_same n other) (same_eq file.name name s) ∙ d in rw (d, e) refl)
    (λ n. ap (λ o. if is_same file.name other then Some file.bytes else o) (file_of_put_other files name bytes other d)))
  where
    Found : List File → Type 0
    Found list = file_of list other ≡ file_of (file ∷ files) other

pub file_of_delete : (files : List File) (name : Bytes) → file_of (without_file files name) name ≡ None
file_of_delete [] name = refl
file_of_delete (file ∷ files) name = go (is_same file.name name) refl (file_of_delete files name)
  where
    go : (b : Bool) → is_same file.name name ≡ b → file_of (without_file files name) name ≡ None → file_of (without_file (file ∷ files) name) name ≡ None
    go true s ih = rw s ih
    go false s ih = rw (s, s) ih

pub file_of_delete_other : (files : List File) (name other : Bytes) → is_same name other ≡ false → file_of (without_file files name) other ≡ file_of files other
file_of_delete_other [] name other d = refl
file_of_delete_other (file ∷ files) name other d = go (is_same file.name name) refl (file_of_delete_other files name other d)
  where
    go : (b : Bool) → is_same file.name name ≡ b → file_of (without_file files name) other ≡ file_of files other → file_of (without_file (file ∷ files) name) other ≡ file_of (file ∷ files) other
    go true s ih = let e : is_same file.name other ≡ false = ap (λ n. is_same n other) (same_eq file.name name s) ∙ d in rw (s, e) ih
    go false s ih = rw s (ap (λ o. if is_same file.name other then Some file.bytes else o) ih)

-- the place in a list and by a name that are these files and this name
pub same_place : (files list : List File) (name key : Bytes) (at : ℕ) → list ≡ files → key ≡ name → at ≡ place list key → at ≡ place files name
same_place files list name key at l k e = e ∙ ap (λ n. place list n) k ∙ ap (λ fs. place fs name) l

-- ---- the code's way to the place: it looks at a list and a name that are these files and this name

module _ (files list : List File) (name key bytes : Bytes) (at : ℕ) (d : File) (same_files : list ≡ files) (same_name : key ≡ name) where
  looked : (r : Bool) → at ≡ place files name → r ≡ is_same (get_or list at d).name key → is_same (get_or files (place files name) d).name name ≡ r
  looked r e s =
      ap (λ n. is_same (get_or files n d).name name) (sym e)
      ∙ ap (λ l. is_same (get_or l at d).name name) (sym same_files)
      ∙ ap (is_same (get_or list at d).name) (sym same_name)
      ∙ sym s

  pub put_found : (r : Bool) → at ≡ place files name → r ≡ true → (r ≡ true → at < length list) → ((f : File) → at < length list → r ≡ is_same (get_or list at f).name key)
      → set files at (new_file name bytes) ≡ with_file files name bytes
  put_found r p t w s =
      let n : place files name < length files = subst (λ l. place files name < length l) same_files (subst (λ k. k < length list) p (w t)) in
      ap (λ k. set files k (new_file name bytes)) p ∙ sym (put_replaces files name bytes d n (looked r p (s d (w t)) ∙ t))

  pub put_new : (r : Bool) → at ≡ place files name → r ≡ false → ((f : File) → at < length list → r ≡ is_same (get_or list at f).name key)
      → insert files at (new_file name bytes) ≡ with_file files name bytes
  put_new r p t s =
      let back = λ (h : place files name < length files). subst (λ k. k < length list) (sym p) (subst (λ l. place files name < length l) (sym same_files) h) in
      ap (λ k. insert files k (new_file name bytes)) p ∙ sym (put_inserts files name bytes d (λ h. looked r p (s d (back h)) ∙ t))

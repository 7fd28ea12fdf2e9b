-- What a step on a store's files does to the folder of a container.
use Rattle.std.proofs.Common.{◌≡◌, ℕ, Bool, true, false, not, cond, List, [], ◌∷◌, ◌++◌, Option, Some, None, if◌then◌else◌, refl, sym, ap, ◌∙◌, subst}
use Rattle.std.specs.List.{AllByRecursion}
use Rattle.fb_bytes.specs.Bytes.{Bytes, is_below, is_same}
use Rattle.fb_bytes.specs.Options.{◌>>=◌}
use Rattle.fb_outside.specs.declared.File.{File}
use Rattle.fb_outside.specs.Files.{AreFiles, file_of, with_file, without_file}
use Rattle.file_names.specs.declared.Name.{Name}
use Rattle.file_names.specs.declared.Name.TheVariants.{Range, Log, Manifest, Unreliable, Expired, Other}
use Rattle.file_names.specs.Spelling.{unreliable_text}
use Rattle.file_names.specs.Reading.{name_of}
use Rattle.file_names.proofs.Numbers.{after_found, after_again}
use Rattle.file_names.proofs.Names.{name_again}
use Rattle.fb_bytes.proofs.Order.{same_eq, same_itself}
use Rattle.mutations.proofs.Basics.{not_both}
use Rattle.container_view.specs.Folder.{RangeFile, Folder}
use Rattle.container_view.specs.Changes.{Inserts}
use Rattle.container_view.specs.Property.{property_of}
use Rattle.container_view.specs.Files.{Grammars, name_in, renamed, inside, as_range, as_log, as_manifest, range_files, log_files, manifest_files, end_of, unreliable_of, folder_of, folder_in}
use Rattle.container_view.specs.Stores.{OneMore, StoreLaw}
use Rattle.fb_bytes.proofs.Options.{bind_some}
use Rattle.container_view.proofs.Lists.{same_kinds, one_more}
use Rattle.container_view.proofs.Files.{file, put_inserts, gone, deletion_inserts, without_none, again, replace, other_file, the_file}

-- ---- the files of one container

module _ (container : Bytes) where
  abbrev in_it : File → List File
  in_it f = renamed (name_in container f.name) f.bytes

  -- a whole name has one name in the container, which no other has
  one_whole : (whole other name : Bytes) → name_in container whole ≡ Some name → name_in container other ≡ Some name → whole ≡ other
  one_whole whole other name e g = after_found (container ++ 47 ∷ []) whole name e ∙ sym (after_found (container ++ 47 ∷ []) other name g)

  inside_inserts : (whole name bytes : Bytes) (few many : List File) → name_in container whole ≡ Some name → Inserts (file whole bytes) few many → Inserts (file name bytes) (inside container few) (inside container many)
  inside_inserts whole name bytes few many e n = one_more in_it (file whole bytes) few many n (file name bytes) (ap (λ o. renamed o bytes) e)

  inside_none : (whole name : Bytes) (files : List File) → name_in container whole ≡ Some name → file_of files whole ≡ None → file_of (inside container files) name ≡ None
  inside_none whole name [] e h = refl
  inside_none whole name (f ∷ fs) e h = go (name_in container f.name) refl (is_same f.name whole) refl h (inside_none whole name fs e)
    where
      at : (n : Bytes) → name_in container f.name ≡ Some n → is_same f.name whole ≡ false → (b : Bool) → is_same n name ≡ b → file_of (inside container fs) name ≡ None → cond b (Some f.bytes) (file_of (inside container fs) name) ≡ None
      at n g s true q ih =
          let same = one_whole f.name whole name (g ∙ ap Some (same_eq n name q)) e in
          not_both (ap (λ x. is_same x whole) same ∙ same_itself whole) s
      at n g s false q ih = ih

      go : (o : Option Bytes) → name_in container f.name ≡ o → (b : Bool) → is_same f.name whole ≡ b → cond b (Some f.bytes) (file_of fs whole) ≡ None → (file_of fs whole ≡ None → file_of (inside container fs) name ≡ None) → file_of (renamed o f.bytes ++ inside container fs) name ≡ None
      go o g true s h ih = cc
      go None g false s h ih = ih h
      go (Some n) g false s h ih = at n g s (is_same n name) refl (ih h)

  -- a file's bytes are found by its whole name
  pub file_inside : (whole name : Bytes) (files : List File) → name_in container whole ≡ Some name → file_of (inside container files) name ≡ file_of files whole
  file_inside whole name [] e = refl
  file_inside whole name (f ∷ fs) e = go (name_in container f.name) refl (is_same f.name whole) refl (file_inside whole name fs e)
    where
      at : (n : Bytes) → name_in container f.name ≡ Some n → is_same f.name whole ≡ false → (b : Bool) → is_same n name ≡ b → file_of (inside container fs) name ≡ file_of fs whole → cond b (Some f.bytes) (file_of (inside container fs) name) ≡ file_of fs whole
      at n g s true q ih =
          let same = one_whole f.name whole name (g ∙ ap Some (same_eq n name q)) e in
          not_both (ap (λ x. is_same x whole) same ∙ same_itself whole) s
      at n g s false q ih = ih

      here : (n : Bytes) → name_in container f.name ≡ Some n → is_same f.name whole ≡ true → cond (is_same n name) (Some f.bytes) (file_of (inside container fs) name) ≡ Some f.bytes
      here n g s =
          let same : Some n ≡ Some name = sym g ∙ ap (name_in container) (same_eq f.name whole s) ∙ e in
          let names : n ≡ name = cc in
          ap (λ b. cond b (Some f.bytes) (file_of (inside container fs) name)) (ap (λ x. is_same x name) names ∙ same_itself name)

      missing : name_in container f.name ≡ None → is_same f.name whole ≡ true → ⊥
      missing g s = let same : None ≡ Some name = sym g ∙ ap (name_in container) (same_eq f.name whole s) ∙ e in cc

      go : (o : Option Bytes) → name_in container f.name ≡ o → (b : Bool) → is_same f.name whole ≡ b → file_of (inside container fs) name ≡ file_of fs whole → file_of (renamed o f.bytes ++ inside container fs) name ≡ cond b (Some f.bytes) (file_of fs whole)
      go None g true s ih = absurd (missing g s)
      go None g false s ih = ih
      go (Some n) g true s ih = here n g s
      go (Some n) g false s ih = at n g s (is_same n name) refl ih

  put_outside : (whole bytes : Bytes) (files : List File) → name_in container whole ≡ None → inside container (with_file files whole bytes) ≡ inside container files
  put_outside whole bytes [] e = ap (λ o. renamed o bytes ++ []) e
  put_outside whole bytes (f ∷ fs) e = go (is_below whole f.name) (is_same f.name whole) refl (put_outside whole bytes fs e)
    where
      go : (b c : Bool) → is_same f.name whole ≡ c → inside container (with_file fs whole bytes) ≡ inside container fs → inside container (if b then file whole bytes ∷ f ∷ fs else if c then file whole bytes ∷ fs else f ∷ with_file fs whole bytes) ≡ inside container (f ∷ fs)
      go true c s ih = ap (λ o. renamed o bytes ++ inside container (f ∷ fs)) e
      go false true s ih = ap (λ o. renamed o bytes ++ inside container fs) e ∙ sym (ap (λ o. renamed o f.bytes ++ inside container fs) (ap (name_in container) (same_eq f.name whole s) ∙ e))
      go false false s ih = ap (λ (xs : List File). in_it f ++ xs) ih

  deleted_outside : (whole : Bytes) (files : List File) → name_in container whole ≡ None → inside container (without_file files whole) ≡ inside container files
  deleted_outside whole [] e = refl
  deleted_outside whole (f ∷ fs) e = go (is_same f.name whole) refl (deleted_outside whole fs e)
    where
      go : (c : Bool) → is_same f.name whole ≡ c → inside container (without_file fs whole) ≡ inside container fs → inside container (cond (not c) (f ∷ without_file fs whole) (without_file fs whole)) ≡ inside container (f ∷ fs)
      go true s ih = ih ∙ sym (ap (λ o. renamed o f.bytes ++ inside container fs) (ap (name_in container) (same_eq f.name whole s) ∙ e))
      go false s ih = ap (λ (xs : List File). in_it f ++ xs) ih

-- ---- the folder

module _ (g : Grammars) where
  -- the folder with a given unreliable end
  abbrev pub made : List File → ℕ → Folder
  made files end = record { ranges = range_files g files; logs = log_files g files; manifests = manifest_files g files; unreliable = end }

  abbrev range_of : File → List RangeFile
  range_of f = as_range g f.name f.bytes (name_of f.name)

  module _ (f : File) (few many : List File) (n : Inserts f few many) where
    same_ranges : as_range g f.name f.bytes (name_of f.name) ≡ [] → range_files g many ≡ range_files g few
    same_ranges = same_kinds (λ f. as_range g f.name f.bytes (name_of f.name)) f few many n

    same_logs : as_log g f.name f.bytes (name_of f.name) ≡ [] → log_files g many ≡ log_files g few
    same_logs = same_kinds (λ f. as_log g f.name f.bytes (name_of f.name)) f few many n

    same_manifests : as_manifest g f.name f.bytes (name_of f.name) ≡ [] → manifest_files g many ≡ manifest_files g few
    same_manifests = same_kinds (λ f. as_manifest g f.name f.bytes (name_of f.name)) f few many n

    -- a file of no kind
    nothing_new : (said : Name) → name_of f.name ≡ said → as_range g f.name f.bytes said ≡ [] → as_log g f.name f.bytes said ≡ [] → as_manifest g f.name f.bytes said ≡ [] → (end : ℕ) → made many end ≡ made few end
    nothing_new said e a b c end = λ i. record {
      ranges = same_ranges (ap (as_range g f.name f.bytes) e ∙ a) i;
      logs = same_logs (ap (as_log g f.name f.bytes) e ∙ b) i;
      manifests = same_manifests (ap (as_manifest g f.name f.bytes) e ∙ c) i;
      unreliable = end;
    }

    one_kind : (end : ℕ) (said : Name) → name_of f.name ≡ said → OneMore g f.name f.bytes said (made few end) (made many end)
    one_kind end (Range snapshot version ticket block) e = (
      range_files g many,
      one_more (λ f. as_range g f.name f.bytes (name_of f.name)) f few many n _ (ap (as_range g f.name f.bytes) e),
      λ i. record {
        ranges = range_files g many;
        logs = same_logs (ap (as_log g f.name f.bytes) e) i;
        manifests = same_manifests (ap (as_manifest g f.name f.bytes) e) i;
        unreliable = end;
      },
    )
    one_kind end (Log begin to ticket block) e = (
      log_files g many,
      one_more (λ f. as_log g f.name f.bytes (name_of f.name)) f few many n _ (ap (as_log g f.name f.bytes) e),
      λ i. record {
        ranges = same_ranges (ap (as_range g f.name f.bytes) e) i;
        logs = log_files g many;
        manifests = same_manifests (ap (as_manifest g f.name f.bytes) e) i;
        unreliable = end;
      },
    )
    one_kind end (Manifest begin to size ticket) e = (
      manifest_files g many,
      one_more (λ f. as_manifest g f.name f.bytes (name_of f.name)) f few many n _ (ap (as_manifest g f.name f.bytes) e),
      λ i. record {
        ranges = same_ranges (ap (as_range g f.name f.bytes) e) i;
        logs = same_logs (ap (as_log g f.name f.bytes) e) i;
        manifests = manifest_files g many;
        unreliable = end;
      },
    )
    one_kind end Unreliable e = (end, nothing_new Unreliable e refl refl refl end)
    one_kind end Expired e = nothing_new Expired e refl refl refl end
    one_kind end Other e = nothing_new Other e refl refl refl end

    same_end : is_same f.name unreliable_text ≡ false → unreliable_of many ≡ unreliable_of few
    same_end h = ap unreliable_of n.many_is ∙ ap end_of (other_file f unreliable_text n.before n.after h) ∙ sym (ap unreliable_of n.few_is)

    folder_more : (old : Folder) → is_same f.name unreliable_text ≡ false → folder_of g few ≡ Some old → (new : Folder) × (folder_of g many ≡ Some new) × OneMore g f.name f.bytes (name_of f.name) old new
    folder_more old h e =
        let end = bind_some (unreliable_of few) _ old e in
        let is : made few end.0 ≡ old = cc (end.2) in
        (made many end.0, ap (λ o. o >>= λ end. Some (made many end)) (same_end h ∙ end.1), subst (λ x. OneMore g f.name f.bytes (name_of f.name) x (made many end.0)) is (one_kind end.0 (name_of f.name) refl))

    folder_less : (old : Folder) → is_same f.name unreliable_text ≡ false → folder_of g many ≡ Some old → (new : Folder) × (folder_of g few ≡ Some new) × OneMore g f.name f.bytes (name_of f.name) new old
    folder_less old h e =
        let end = bind_some (unreliable_of many) _ old e in
        let is : made many end.0 ≡ old = cc (end.2) in
        (made few end.0, ap (λ o. o >>= λ end. Some (made few end)) (sym (same_end h) ∙ end.1), subst (λ x. OneMore g f.name f.bytes (name_of f.name) (made few end.0) x) is (one_kind end.0 (name_of f.name) refl))

  -- no range file has a name that no file has
  no_range : (name : Bytes) (files : List File) → file_of files name ≡ None → AllByRecursion (λ x. is_same x.name name ≡ false) (range_files g files)
  no_range name [] e = tt
  no_range name (f ∷ fs) e = go (is_same f.name name) refl (name_of f.name) e (no_range name fs)
    where
      go : (b : Bool) → is_same f.name name ≡ b → (said : Name) → cond b (Some f.bytes) (file_of fs name) ≡ None → (file_of fs name ≡ None → AllByRecursion (λ x. is_same x.name name ≡ false) (range_files g fs)) → AllByRecursion (λ x. is_same x.name name ≡ false) (as_range g f.name f.bytes said ++ range_files g fs)
      go true s said e ih = cc
      go false s (Range snapshot version ticket block) e ih = (s, ih e)
      go false s (Log begin to ticket block) e ih = ih e
      go false s (Manifest begin to size ticket) e ih = ih e
      go false s Unreliable e ih = ih e
      go false s Expired e ih = ih e
      go false s Other e ih = ih e

  module _ (container whole bytes : Bytes) (e : name_in container whole ≡ Some unreliable_text) where
    abbrev property : File
    property = file unreliable_text bytes

    is_property : name_of unreliable_text ≡ Unreliable
    is_property = name_again unreliable_text Unreliable refl

    -- a first property
    first_raise : (files : List File) (old : Folder) (end before : ℕ) → file_of files whole ≡ None → property_of bytes ≡ Some end → made (inside container files) before ≡ old → folder_in g container (with_file files whole bytes) ≡ Some (record old { unreliable = end })
    first_raise files old end before none p is =
        let n = inside_inserts container whole unreliable_text bytes files (with_file files whole bytes) e (put_inserts whole bytes files none) in
        let found : unreliable_of (inside container (with_file files whole bytes)) ≡ Some end = ap unreliable_of n.many_is ∙ ap end_of (the_file property n.before n.after (sym (ap (λ xs. file_of xs unreliable_text) n.few_is) ∙ inside_none container whole unreliable_text files e none)) ∙ p in
        ap (λ o. o >>= λ end. Some (made (inside container (with_file files whole bytes)) end)) found
        ∙ ap Some (nothing_new property (inside container files) (inside container (with_file files whole bytes)) n Unreliable is_property refl refl refl end)
        ∙ ap (λ (x : Folder). Some (record x { unreliable = end })) is

    -- without the property that is there, the rest is the same
    rest_same : (files : List File) (old_bytes : Bytes) (end : ℕ) → AreFiles files → file_of files whole ≡ Some old_bytes → made (inside container files) end ≡ made (inside container (without_file files whole)) end
    rest_same files old_bytes end r h =
        nothing_new (file unreliable_text old_bytes) (inside container (without_file files whole)) (inside container files) (inside_inserts container whole unreliable_text old_bytes (without_file files whole) files e (deletion_inserts whole old_bytes files r h)) Unreliable is_property refl refl refl end

    raised : (files : List File) (old : Folder) (end : ℕ) → AreFiles files → property_of bytes ≡ Some end → folder_in g container files ≡ Some old → folder_in g container (with_file files whole bytes) ≡ Some (record old { unreliable = end })
    raised files old end r p h =
        let before = bind_some (unreliable_of (inside container files)) _ old h in
        let is : made (inside container files) before.0 ≡ old = cc (before.2) in
        go before.0 is (file_of files whole) refl
      where
        go : (before : ℕ) → made (inside container files) before ≡ old → (o : Option Bytes) → file_of files whole ≡ o → folder_in g container (with_file files whole bytes) ≡ Some (record old { unreliable = end })
        go before is None none = first_raise files old end before none p is
        go before is (Some old_bytes) some =
            ap (folder_in g container) (replace whole bytes files r)
            ∙ first_raise (without_file files whole) old end before (without_none whole files) p (sym (rest_same files old_bytes before r some) ∙ is)

pub store_law : StoreLaw
store_law = record {
  put = λ g container whole name bytes files few of none h. folder_more g (file name bytes) (inside container files) (inside container (with_file files whole bytes)) (inside_inserts container whole name bytes files (with_file files whole bytes) of.is_in (put_inserts whole bytes files none)) few of.other h;
  fresh = λ g container whole name files few e none h.
      let end = bind_some (unreliable_of (inside container files)) _ few h in
      let is : made g (inside container files) end.0 ≡ few = cc (end.2) in
      subst (λ (x : Folder). AllByRecursion (λ file. is_same file.name name ≡ false) x.ranges) is (no_range g name (inside container files) (inside_none container whole name files e none));
  delete = λ g container whole name bytes files many r of some h. folder_less g (file name bytes) (inside container (without_file files whole)) (inside container files) (inside_inserts container whole name bytes (without_file files whole) files of.is_in (deletion_inserts whole bytes files r some)) many of.other h;
  raise = λ g container whole bytes files old end r e p h. raised g container whole bytes e files old end r p h;
  again = again;
  gone = gone;
  replace = replace;
  elsewhere = λ g container whole bytes files e. ap (folder_of g) (put_outside container whole bytes files e);
  deleted_elsewhere = λ g container whole files e. ap (folder_of g) (deleted_outside container whole files e);
  whole_in = λ container name. after_again (container ++ 47 ∷ []) name;
}

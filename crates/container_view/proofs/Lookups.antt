-- What is found in a store's files, and in which container it stands.
use Rattle.std.proofs.Common.{◌≡◌, ℕ, Bool, true, false, not, cond, eqb, List, [], ◌∷◌, ◌++◌, map, Option, Some, None, inl, inr, refl, sym, ap, ◌∙◌, subst}
use Rattle.std.proofs.lemmas.Bool.{and_parts, not-true, eq-eqb, false_from_ne_true}
use Rattle.fb_bytes.specs.Bytes.{Bytes, is_below, is_same}
use Rattle.fb_bytes.specs.Options.{IsIn}
use Rattle.fb_bytes.proofs.Order.{not_both, below_trans, below_not_same, same_eq, same_itself}
use Rattle.fb_outside.specs.declared.File.{File}
use Rattle.fb_outside.specs.Files.{NamePast, AreFiles, file_of, names_in}
use Rattle.fb_outside.proofs.Filing.{files_after_put, files_after_delete, file_of_put, file_of_put_other, file_of_delete, file_of_delete_other}
use Rattle.file_names.specs.declared.Name.{Name}
use Rattle.file_names.specs.declared.Name.TheVariants.{Range, Log, Manifest, Unreliable, Expired, Other}
use Rattle.file_names.specs.Reading.{name_of}
use Rattle.file_names.proofs.Numbers.{after_found, after_again}
use Rattle.container_view.specs.Folder.{ManifestFile, Folder}
use Rattle.container_view.specs.Meaning.{read_range, piece_named}
use Rattle.container_view.specs.Changes.{IsListedNowhere}
use Rattle.container_view.specs.Files.{Grammars, whole_name, name_in, has_no_slash, renamed, inside, range_file, as_range, as_manifest, range_files, manifest_files, unreliable_of, folder_of, folder_in}
use Rattle.container_view.specs.Honest.{listed_by, IsUnlisted}
use Rattle.container_view.specs.Lookups.{FileLaw}
use Rattle.container_view.specs.View.{stripped}
use Rattle.fb_bytes.proofs.Options.{bind_some}
use Rattle.container_view.proofs.Stores.{made, file_inside}
use Rattle.container_view.proofs.Stripped.{stripped_inside}

-- ---- whole names

whole_same : (container a b : Bytes) → whole_name container a ≡ whole_name container b → a ≡ b
whole_same container a b e =
    let both : Some a ≡ Some b = sym (after_again (container ++ 47 ∷ []) a) ∙ ap (name_in container) e ∙ after_again (container ++ 47 ∷ []) b in
    cc

whole_inj : (container a b : Bytes) → is_same (whole_name container a) (whole_name container b) ≡ is_same a b
whole_inj container a b = go (is_same a b) refl
  where
    go : (c : Bool) → is_same a b ≡ c → is_same (whole_name container a) (whole_name container b) ≡ c
    go true e = ap (λ x. is_same (whole_name container a) (whole_name container x)) (sym (same_eq a b e)) ∙ same_itself (whole_name container a)
    go false e = false_from_ne_true _ (λ s. not_both (ap (is_same a) (sym (whole_same container a b (same_eq _ _ s))) ∙ same_itself a) e)

no_slash_first : (byte : ℕ) (name : Bytes) → has_no_slash (byte ∷ name) ≡ true → byte ≡ 47 → ⊥
no_slash_first byte name h e =
    let p = and_parts (not (eqb byte 47)) (has_no_slash name) h in
    not_both (eq-eqb byte 47 e) (not-true (eqb byte 47) p.0)

no_slash_rest : (byte : ℕ) (name : Bytes) → has_no_slash (byte ∷ name) ≡ true → has_no_slash name ≡ true
no_slash_rest byte name h = (and_parts (not (eqb byte 47)) (has_no_slash name) h).1

-- the first slash ends a name of one part
same_part : (a b x y : Bytes) → has_no_slash a ≡ true → has_no_slash b ≡ true → (a ++ 47 ∷ []) ++ x ≡ (b ++ 47 ∷ []) ++ y → a ≡ b
same_part [] [] x y h g e = refl
same_part [] (d ∷ b) x y h g e = let first : d ≡ 47 = cc in absurd (no_slash_first d b g first)
same_part (c ∷ a) [] x y h g e = let first : c ≡ 47 = cc in absurd (no_slash_first c a h first)
same_part (c ∷ a) (d ∷ b) x y h g e =
    let first : c ≡ d = cc in
    let rest : (a ++ 47 ∷ []) ++ x ≡ (b ++ 47 ∷ []) ++ y = cc in
    ap (λ k. k ∷ a) first ∙ ap (λ (l : Bytes). d ∷ l) (same_part a b x y (no_slash_rest c a h) (no_slash_rest d b g) rest)

apart : (container other name : Bytes) → has_no_slash container ≡ true → has_no_slash other ≡ true → is_same container other ≡ false → name_in other (whole_name container name) ≡ None
apart container other name h g differ = go (name_in other (whole_name container name)) refl
  where
    go : (o : Option Bytes) → name_in other (whole_name container name) ≡ o → o ≡ None
    go None e = refl
    go (Some n) e =
        let same = same_part container other name n h g (after_found (other ++ 47 ∷ []) (whole_name container name) n e) in
        not_both (ap (is_same container) (sym same) ∙ same_itself container) differ

-- ---- a container without files

no_names : (files : List File) → [] ≡ map (λ (file : File). file.name) files → files ≡ []
no_names [] e = refl
no_names (f ∷ fs) e = absurd cc

none_inside : (container : Bytes) (files : List File) → names_in container files ≡ [] → inside container files ≡ []
none_inside container files e = no_names (inside container files) (sym (ap (stripped container) e) ∙ stripped_inside container files)

-- ---- a range file of the folder

piece_found : (g : Grammars) (name bytes : Bytes) (snapshot version ticket block : ℕ) → name_of name ≡ Range snapshot version ticket block → (files : List File) → file_of files name ≡ Some bytes → piece_named (range_files g files) name ≡ read_range (range_file g name bytes version block)
piece_found g name bytes snapshot version ticket block said [] h = cc
piece_found g name bytes snapshot version ticket block said (f ∷ fs) h = go (is_same f.name name) refl h (piece_found g name bytes snapshot version ticket block said fs)
  where
    here : f.name ≡ name → f.bytes ≡ bytes → piece_named (range_files g (f ∷ fs)) name ≡ read_range (range_file g name bytes version block)
    here n b =
        ap (λ k. piece_named (as_range g k f.bytes (name_of k) ++ range_files g fs) name) n
        ∙ ap (λ x. piece_named (as_range g name f.bytes x ++ range_files g fs) name) said
        ∙ ap (λ c. cond c (read_range (range_file g name f.bytes version block)) (piece_named (range_files g fs) name)) (same_itself name)
        ∙ ap (λ x. read_range (range_file g name x version block)) b

    other : (said : Name) → is_same f.name name ≡ false → piece_named (as_range g f.name f.bytes said ++ range_files g fs) name ≡ piece_named (range_files g fs) name
    other (Range snapshot v ticket b) e = ap (λ c. cond c (read_range (range_file g f.name f.bytes v b)) (piece_named (range_files g fs) name)) e
    other (Log begin end ticket block) e = refl
    other (Manifest begin end size ticket) e = refl
    other Unreliable e = refl
    other Expired e = refl
    other Other e = refl

    go : (c : Bool) → is_same f.name name ≡ c → cond c (Some f.bytes) (file_of fs name) ≡ Some bytes → (file_of fs name ≡ Some bytes → piece_named (range_files g fs) name ≡ read_range (range_file g name bytes version block)) → piece_named (range_files g (f ∷ fs)) name ≡ read_range (range_file g name bytes version block)
    go true s h ih = let b : f.bytes ≡ bytes = cc in here (same_eq f.name name s) b
    go false s h ih = other (name_of f.name) s ∙ ih h

folder_is : (g : Grammars) (container : Bytes) (files : List File) (folder : Folder) → folder_in g container files ≡ Some folder → (end : ℕ) × (made g (inside container files) end ≡ folder)
folder_is g container files folder e = let end = bind_some (unreliable_of (inside container files)) _ folder e in (end.0, cc (end.2))

found : (g : Grammars) (container whole name bytes : Bytes) (files : List File) (folder : Folder) (snapshot version ticket block : ℕ) → name_in container whole ≡ Some name → file_of files whole ≡ Some bytes → name_of name ≡ Range snapshot version ticket block → folder_in g container files ≡ Some folder → piece_named folder.ranges name ≡ read_range (range_file g name bytes version block)
found g container whole name bytes files folder snapshot version ticket block is_in some said e =
    let is = folder_is g container files folder e in
    subst (λ (x : Folder). piece_named x.ranges name ≡ read_range (range_file g name bytes version block)) is.1
    (piece_found g name bytes snapshot version ticket block said (inside container files) (file_inside container whole name files is_in ∙ some))

-- ---- what manifests list

past_in : (name : Bytes) (w : File) (fs : List File) → NamePast name fs → AreFiles fs → IsIn w fs → is_below name w.name ≡ true
past_in name w [] h r i = absurd i
past_in name w (f ∷ fs) h r (inl e) = ap (λ (x : File). is_below name x.name) e ∙ h
past_in name w (f ∷ fs) h r (inr i) = below_trans name f.name w.name h (past_in f.name w fs r.0 r.1 i)

-- a file of the list is the one that its name finds
pub found_in : (w : File) (fs : List File) → AreFiles fs → IsIn w fs → file_of fs w.name ≡ Some w.bytes
found_in w [] r i = absurd i
found_in w (f ∷ fs) r (inl e) =
    ap (λ b. cond b (Some f.bytes) (file_of fs w.name)) (ap (λ (x : File). is_same f.name x.name) e ∙ same_itself f.name) ∙ ap (λ (x : File). Some x.bytes) (sym e)
found_in w (f ∷ fs) r (inr i) = ap (λ b. cond b (Some f.bytes) (file_of fs w.name)) (below_not_same f.name w.name (past_in f.name w fs r.0 r.1 i)) ∙ found_in w fs r.1 i

-- a file of the container, by its name there, is one of the store
abbrev pub IsOfStore : Bytes → File → List File → Type 0
IsOfStore container f files = (w : File) × IsIn w files × (name_in container w.name ≡ Some f.name) × (w.bytes ≡ f.bytes)

pub in_inside : (container : Bytes) (f : File) (files : List File) → IsIn f (inside container files) → IsOfStore container f files
in_inside container f [] i = absurd i
in_inside container f (w ∷ ws) i = go (name_in container w.name) refl i (in_inside container f ws)
  where
    later : IsOfStore container f ws → IsOfStore container f (w ∷ ws)
    later r = (r.0, inr r.1, r.2, r.3)

    go : (o : Option Bytes) → name_in container w.name ≡ o → IsIn f (renamed o w.bytes ++ inside container ws) → (IsIn f (inside container ws) → IsOfStore container f ws) → IsOfStore container f (w ∷ ws)
    go None n i ih = later (ih i)
    go (Some name) n (inl e) ih = (w, inl refl, n ∙ ap (λ (x : File). Some x.name) (sym e), ap (λ (x : File). x.bytes) (sym e))
    go (Some name) n (inr i) ih = later (ih i)

-- a manifest of the folder is one of the container's files
abbrev IsManifestOf : Grammars → ManifestFile → List File → Type 0
IsManifestOf g m files = (f : File) × IsIn f files × (m.content ≡ listed_by g (name_of f.name) f.bytes)

in_manifests : (g : Grammars) (m : ManifestFile) (files : List File) → IsIn m (manifest_files g files) → IsManifestOf g m files
in_manifests g m [] i = absurd i
in_manifests g m (f ∷ fs) i = go (name_of f.name) refl i (in_manifests g m fs)
  where
    later : IsManifestOf g m fs → IsManifestOf g m (f ∷ fs)
    later r = (r.0, inr r.1, r.2)

    go : (said : Name) → name_of f.name ≡ said → IsIn m (as_manifest g f.name f.bytes said ++ manifest_files g fs) → (IsIn m (manifest_files g fs) → IsManifestOf g m fs) → IsManifestOf g m (f ∷ fs)
    go (Manifest begin end size ticket) n (inl e) ih = (f, inl refl, ap (λ (x : ManifestFile). x.content) e ∙ sym (ap (λ x. listed_by g x f.bytes) n))
    go (Manifest begin end size ticket) n (inr i) ih = later (ih i)
    go (Range snapshot version ticket block) n i ih = later (ih i)
    go (Log begin end ticket block) n i ih = later (ih i)
    go Unreliable n i ih = later (ih i)
    go Expired n i ih = later (ih i)
    go Other n i ih = later (ih i)

pub listed_nowhere : (g : Grammars) (container name : Bytes) (files : List File) (folder : Folder) → AreFiles files → folder_in g container files ≡ Some folder → IsUnlisted g container files name → IsListedNowhere folder name
listed_nowhere g container name files folder r e u m names i c j =
    let is = folder_is g container files folder e in
    let f = in_manifests g m (inside container files) (subst (λ (x : Folder). IsIn m x.manifests) (sym is.1) i) in
    let w = in_inside container f.0 files f.1 in
    let whole : w.0.name ≡ whole_name container f.0.name = after_found (container ++ 47 ∷ []) w.0.name f.0.name w.2 in
    u.each f.0.name f.0.bytes names (ap (file_of files) (sym whole) ∙ found_in w.0 files r w.1 ∙ ap Some w.3) (sym f.2 ∙ c) j

pub file_law : FileLaw
file_law = record {
  put_same = file_of_put;
  put_other = file_of_put_other;
  deleted_same = file_of_delete;
  deleted_other = file_of_delete_other;
  files_put = files_after_put;
  files_deleted = files_after_delete;
  whole_inj = whole_inj;
  apart = apart;
  found = λ g container whole name bytes files folder snapshot version ticket block r is_in some said e. found g container whole name bytes files folder snapshot version ticket block is_in some said e;
  empty = λ container files l e. none_inside container files e;
  empty_folder = λ g container files l e. ap (folder_of g) (none_inside container files e);
}

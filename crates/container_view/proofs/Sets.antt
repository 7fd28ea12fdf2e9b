-- What is read for a version is the chosen manifest with its chain.
use Rattle.std.proofs.Common.{◌≡◌, ℕ, ◌+◌, Bool, true, false, cond, List, [], ◌∷◌, ◌++◌, map, is_some, Option, Some, None, option_map, Result, Ok, Err, ok_or, unwrap_or, ◌⊎◌, inl, inr, refl, sym, ap, ◌∙◌, subst}
use Rattle.std.proofs.lemmas.Bool.{or_left, or_right}
use Rattle.fb_bytes.specs.Bytes.{Bytes, is_same}
use Rattle.fb_bytes.specs.Options.{IsIn, each_of}
use Rattle.fb_bytes.proofs.Order.{same_eq, same_both}
use Rattle.fb_outside.specs.declared.File.{File}
use Rattle.fb_outside.specs.Files.{AreFiles, file_of}
use Rattle.file_names.specs.declared.Name.{Name}
use Rattle.file_names.specs.declared.Name.TheVariants.{Range, Log, Manifest, Unreliable, Expired, Other}
use Rattle.file_names.specs.Spelling.{unreliable_text, expired_text}
use Rattle.file_names.specs.Reading.{name_of}
use Rattle.manifests.specs.declared.Manifest as manifests
use Rattle.manifests.specs.declared.ManifestFault.{ManifestFault}
use Rattle.manifests.specs.Reading.{manifest_read, ok_side}
use Rattle.manifests.proofs.Manifests.{read_is_manifest}
use Rattle.mutations.proofs.Basics.{not_both}
use Rattle.container_view.specs.Folder.{RangeContent, LogFile, ManifestFile, Folder}
use Rattle.container_view.specs.Advertised.{chosen, is_advertised}
use Rattle.container_view.specs.Bounds.{advertised_bounds}
use Rattle.container_view.specs.Meaning.{Piece, Needed, read_range, piece_named, needed}
use Rattle.container_view.specs.Contents.{file_grammars}
use Rattle.container_view.specs.Files.{Grammars, inside, range_file, log_file, manifest_file, as_range, as_log, as_manifest, range_files, log_files, manifest_files, end_of, unreliable_of, folder_of, folder_in}
use Rattle.container_view.specs.Names.{is_named, folder_named, manifest_name, chain_named}
use Rattle.container_view.specs.Property.{property_of, property_in}
use Rattle.container_view.specs.declared.view.FileFault.{FileFault}
use Rattle.container_view.specs.declared.view.ViewFault.{ViewFault}
use Rattle.container_view.specs.declared.view.ViewFault.TheVariants as faults
use Rattle.container_view.specs.declared.view.FileFault.TheVariants as file_faults
use Rattle.container_view.specs.Sets.{RestoreSet, ◌>>=◌, in_file, property_read, manifest_at, not_restorable, first_unlisted, links_or_none, set_with, set_by, set_of, IsSetOf, IsRangeIn, IsLogIn, SetLaw}
use Rattle.fb_bytes.proofs.Options.{bind_some}
use Rattle.fb_bytes.proofs.Results.{bind_ok}
use Rattle.container_view.proofs.Lookups.{found_in, in_inside}
use Rattle.container_view.proofs.Names.{names_law}
use Rattle.container_view.proofs.Stores.{made, file_inside}
use Rattle.container_view.proofs.Whole.{chosen_law}

-- ---- results

bind_again : {A B : Type 0} (r : Result A ViewFault) (f : A → Result B ViewFault) (x : A) → r ≡ Ok x → (r >>= f) ≡ f x
bind_again r f x e = ap (λ s. s >>= f) e

bind_err : {A B : Type 0} (r : Result A ViewFault) (f : A → Result B ViewFault) (fault : ViewFault) → r ≡ Err fault → (r >>= f) ≡ Err fault
bind_err r f fault e = ap (λ s. s >>= f) e

ok_some : {A : Type 0} (o : Option A) (fault : ViewFault) (x : A) → ok_or o fault ≡ Ok x → o ≡ Some x
ok_some None fault x e = absurd cc
ok_some (Some y) fault x e = cc

in_file_ok : {A E : Type 0} (kind : E → FileFault) (name : Bytes) (r : Result A E) (x : A) → in_file kind name r ≡ Ok x → r ≡ Ok x
in_file_ok kind name (Ok y) x e = cc
in_file_ok kind name (Err fault) x e = absurd cc

abbrev names_of : List File → List Bytes
names_of files = map (λ (f : File). f.name) files

-- ---- what a set was read from

record IsTaken (files : List File) (unreliable version : ℕ) (set : RestoreSet) : Type 0 where
  pub name : Bytes
  pub named : manifest_name (chosen (folder_named (names_of files) unreliable) version) ≡ Some name
  pub bytes : Bytes
  pub is : file_of files name ≡ Some bytes
  pub read : manifest_read (name_of name) bytes ≡ Ok set.manifest
  pub ranges : set.ranges ≡ set.manifest.files
  pub links : set.links ≡ links_or_none (chain_named (names_of files) set.manifest.begin (version + 1))

with_ok : (names : List Bytes) (manifest : manifests.Manifest) (version : ℕ) (o : Option Bytes) (set : RestoreSet) → set_with names manifest version o ≡ Ok set → record { manifest = manifest; ranges = manifest.files; links = links_or_none (chain_named names manifest.begin (version + 1)) } ≡ set
with_ok names manifest version None set e = cc
with_ok names manifest version (Some name) set e = absurd cc

taken_by : (files : List File) (unreliable version : ℕ) (set : RestoreSet) → set_by files (names_of files) unreliable version ≡ Ok set → IsTaken files unreliable version set
taken_by files unreliable version set e =
    let a = bind_ok (ok_or (manifest_name (chosen (folder_named (names_of files) unreliable) version)) (not_restorable (advertised_bounds (folder_named (names_of files) unreliable)))) _ set e in
    let b = bind_ok (manifest_at files a.0) _ set a.2 in
    let c = bind_ok (ok_or (file_of files a.0) (faults.Missing a.0)) _ b.0 b.1 in
    let is = with_ok (names_of files) b.0 version (first_unlisted (names_of files) b.0.files) set b.2 in
    subst (λ (s : RestoreSet). IsTaken files unreliable version s) is (record {
      name = a.0;
      named = ok_some _ _ a.0 a.1;
      bytes = c.0;
      is = ok_some _ _ c.0 c.1;
      read = in_file_ok _ a.0 (manifest_read (name_of a.0) c.0) b.0 c.2;
      ranges = refl;
      links = refl;
    })

abbrev Taken : List File → ℕ → RestoreSet → Type 0
Taken files version set = (number : Option ℕ) × (property_in (file_of files unreliable_text) ≡ Some number) × IsTaken files (unwrap_or number 0) version set

taken : (files : List File) (version : ℕ) (set : RestoreSet) → set_of files version ≡ Ok set → Taken files version set
taken [] version set e = absurd cc
taken (f ∷ fs) version set e =
    let a = bind_ok (property_read (f ∷ fs) unreliable_text) _ set e in
    let b = bind_ok (property_read (f ∷ fs) expired_text) _ set a.2 in
    (a.0, ok_some _ _ a.0 a.1, taken_by (f ∷ fs) (unwrap_or a.0 0) version set b.2)

-- ---- the unreliable end

end_there : (o : Option Bytes) (end : ℕ) → end_of o ≡ Some end → (number : Option ℕ) × (property_in o ≡ Some number) × (end ≡ unwrap_or number 0)
end_there None end e = (None, refl, cc)
end_there (Some bytes) end e = (Some end, rw e refl, refl)

end_again : (o : Option Bytes) (number : Option ℕ) → property_in o ≡ Some number → (end : ℕ) × (end_of o ≡ Some end)
end_again None number e = (0, refl)
end_again (Some bytes) number e = let n = bind_some (property_of bytes) _ number e in (n.0, n.1)

unreliable_there : (g : Grammars) (files : List File) (folder : Folder) → folder_of g files ≡ Some folder → (number : Option ℕ) × (property_in (file_of files unreliable_text) ≡ Some number) × (folder.unreliable ≡ unwrap_or number 0)
unreliable_there g files folder e =
    let end = bind_some (unreliable_of files) _ folder e in
    let is : made g files end.0 ≡ folder = cc (end.2) in
    let n = end_there (file_of files unreliable_text) end.0 end.1 in
    (n.0, n.1, sym (ap (λ (x : Folder). x.unreliable) is) ∙ n.2)

unreliable_is : (g : Grammars) (files : List File) (folder : Folder) (number : Option ℕ) → folder_of g files ≡ Some folder → property_in (file_of files unreliable_text) ≡ Some number → folder.unreliable ≡ unwrap_or number 0
unreliable_is g files folder number e p =
    let n = unreliable_there g files folder e in
    let both : Some n.0 ≡ Some number = sym n.1 ∙ p in
    let same : n.0 ≡ number = cc (both) in
    n.2 ∙ ap (λ o. unwrap_or o 0) same

opens : (files : List File) (version : ℕ) (set : RestoreSet) → set_of files version ≡ Ok set → (folder : Folder) × (folder_of file_grammars files ≡ Some folder)
opens files version set e =
    let t = taken files version set e in
    let end = end_again (file_of files unreliable_text) t.0 t.1 in
    (made file_grammars files end.0, rw end.1 refl)

-- ---- a file of the folder is a file of the container

made_is : (g : Grammars) (files : List File) (folder : Folder) → folder_of g files ≡ Some folder → (end : ℕ) × (made g files end ≡ folder)
made_is g files folder e = let end = bind_some (unreliable_of files) _ folder e in (end.0, cc (end.2))

inside_found : (container : Bytes) (f : File) (files : List File) → AreFiles files → IsIn f (inside container files) → file_of (inside container files) f.name ≡ Some f.bytes
inside_found container f files r i =
    let w = in_inside container f files i in
    file_inside container w.0.name f.name files w.2 ∙ found_in w.0 files r w.1 ∙ ap Some w.3

-- the file that a manifest of the folder is made from
record IsManifestOf (g : Grammars) (m : ManifestFile) (files : List File) : Type 0 where
  pub file : File
  pub is_in : IsIn file files
  pub begin : ℕ
  pub end : ℕ
  pub size : ℕ
  pub ticket : ℕ
  pub said : name_of file.name ≡ Manifest begin end size ticket
  pub is : m ≡ manifest_file g file.name file.bytes (Manifest begin end size ticket) begin end

manifest_from : (g : Grammars) (m : ManifestFile) (files : List File) → IsIn m (manifest_files g files) → IsManifestOf g m files
manifest_from g m [] i = absurd i
manifest_from g m (f ∷ fs) i = go (name_of f.name) refl i (manifest_from g m fs)
  where
    later : IsManifestOf g m fs → IsManifestOf g m (f ∷ fs)
    later w = record { file = w.file; is_in = inr w.is_in; begin = w.begin; end = w.end; size = w.size; ticket = w.ticket; said = w.said; is = w.is }

    go : (said : Name) → name_of f.name ≡ said → IsIn m (as_manifest g f.name f.bytes said ++ manifest_files g fs) → (IsIn m (manifest_files g fs) → IsManifestOf g m fs) → IsManifestOf g m (f ∷ fs)
    go (Manifest begin end size ticket) n (inl e) ih = record { file = f; is_in = inl refl; begin = begin; end = end; size = size; ticket = ticket; said = n; is = e }
    go (Manifest begin end size ticket) n (inr i) ih = later (ih i)
    go (Range snapshot version ticket block) n i ih = later (ih i)
    go (Log begin end ticket block) n i ih = later (ih i)
    go Unreliable n i ih = later (ih i)
    go Expired n i ih = later (ih i)
    go Other n i ih = later (ih i)

-- the file that a log file of the folder is made from
record IsLogOf (g : Grammars) (log : LogFile) (files : List File) : Type 0 where
  pub file : File
  pub is_in : IsIn file files
  pub begin : ℕ
  pub end : ℕ
  pub ticket : ℕ
  pub block : ℕ
  pub said : name_of file.name ≡ Log begin end ticket block
  pub is : log ≡ log_file g file.name file.bytes begin end block

log_from : (g : Grammars) (log : LogFile) (files : List File) → IsIn log (log_files g files) → IsLogOf g log files
log_from g log [] i = absurd i
log_from g log (f ∷ fs) i = go (name_of f.name) refl i (log_from g log fs)
  where
    later : IsLogOf g log fs → IsLogOf g log (f ∷ fs)
    later w = record { file = w.file; is_in = inr w.is_in; begin = w.begin; end = w.end; ticket = w.ticket; block = w.block; said = w.said; is = w.is }

    go : (said : Name) → name_of f.name ≡ said → IsIn log (as_log g f.name f.bytes said ++ log_files g fs) → (IsIn log (log_files g fs) → IsLogOf g log fs) → IsLogOf g log (f ∷ fs)
    go (Log begin end ticket block) n (inl e) ih = record { file = f; is_in = inl refl; begin = begin; end = end; ticket = ticket; block = block; said = n; is = e }
    go (Log begin end ticket block) n (inr i) ih = later (ih i)
    go (Range snapshot version ticket block) n i ih = later (ih i)
    go (Manifest begin end size ticket) n i ih = later (ih i)
    go Unreliable n i ih = later (ih i)
    go Expired n i ih = later (ih i)
    go Other n i ih = later (ih i)

-- the file that a piece is read from
record IsPieceOf (g : Grammars) (name : Bytes) (piece : Piece) (files : List File) : Type 0 where
  pub file : File
  pub is_in : IsIn file files
  pub name_is : file.name ≡ name
  pub snapshot : ℕ
  pub version : ℕ
  pub ticket : ℕ
  pub block : ℕ
  pub said : name_of file.name ≡ Range snapshot version ticket block
  pub is : read_range (range_file g file.name file.bytes version block) ≡ Some piece

piece_from : (g : Grammars) (name : Bytes) (piece : Piece) (files : List File) → piece_named (range_files g files) name ≡ Some piece → IsPieceOf g name piece files
piece_from g name piece [] e = absurd cc
piece_from g name piece (f ∷ fs) e = go (name_of f.name) refl e (piece_from g name piece fs)
  where
    later : IsPieceOf g name piece fs → IsPieceOf g name piece (f ∷ fs)
    later w = record { file = w.file; is_in = inr w.is_in; name_is = w.name_is; snapshot = w.snapshot; version = w.version; ticket = w.ticket; block = w.block; said = w.said; is = w.is }

    at : (snapshot version ticket block : ℕ) → name_of f.name ≡ Range snapshot version ticket block → (b : Bool) → is_same f.name name ≡ b → cond b (read_range (range_file g f.name f.bytes version block)) (piece_named (range_files g fs) name) ≡ Some piece → (piece_named (range_files g fs) name ≡ Some piece → IsPieceOf g name piece fs) → IsPieceOf g name piece (f ∷ fs)
    at snapshot version ticket block n true s e ih = record { file = f; is_in = inl refl; name_is = same_eq f.name name s; snapshot = snapshot; version = version; ticket = ticket; block = block; said = n; is = e }
    at snapshot version ticket block n false s e ih = later (ih e)

    go : (said : Name) → name_of f.name ≡ said → piece_named (as_range g f.name f.bytes said ++ range_files g fs) name ≡ Some piece → (piece_named (range_files g fs) name ≡ Some piece → IsPieceOf g name piece fs) → IsPieceOf g name piece (f ∷ fs)
    go (Range snapshot version ticket block) n e ih = at snapshot version ticket block n (is_same f.name name) refl e ih
    go (Log begin end ticket block) n e ih = later (ih e)
    go (Manifest begin end size ticket) n e ih = later (ih e)
    go Unreliable n e ih = later (ih e)
    go Expired n e ih = later (ih e)
    go Other n e ih = later (ih e)

abbrev content_of : Piece → RangeContent
content_of piece = record { range = piece.range; pairs = piece.pairs }

-- what a piece says of its file
piece_says : (g : Grammars) (name bytes : Bytes) (version block : ℕ) (piece : Piece) → read_range (range_file g name bytes version block) ≡ Some piece → (version ≡ piece.version) × (g.range block bytes ≡ Some (content_of piece))
piece_says g name bytes version block piece e =
    let body = bind_some (g.range block bytes) _ piece e in
    let is : record { version = version; range = body.0.range; pairs = body.0.pairs } ≡ piece = cc (body.2) in
    (ap (λ (p : Piece). p.version) is, body.1 ∙ ap (λ (p : Piece). Some (content_of p)) is)

range_found : (container : Bytes) (files : List File) (folder : Folder) (name : Bytes) (piece : Piece) → AreFiles files → folder_in file_grammars container files ≡ Some folder → piece_named folder.ranges name ≡ Some piece → IsRangeIn container files name piece
range_found container files folder name piece r e p =
    let is = made_is file_grammars (inside container files) folder e in
    let w = piece_from file_grammars name piece (inside container files) (subst (λ (x : Folder). piece_named x.ranges name ≡ Some piece) (sym is.1) p) in
    let says = piece_says file_grammars w.file.name w.file.bytes w.version w.block piece w.is in
    record {
      bytes = w.file.bytes;
      is = ap (file_of (inside container files)) (sym w.name_is) ∙ inside_found container w.file files r w.is_in;
      snapshot = w.snapshot;
      ticket = w.ticket;
      block = w.block;
      named = ap name_of (sym w.name_is) ∙ w.said ∙ ap (λ v. Range w.snapshot v w.ticket w.block) says.0;
      read = says.1;
    }

log_found : (container : Bytes) (files : List File) (folder : Folder) (log : LogFile) → AreFiles files → folder_in file_grammars container files ≡ Some folder → IsIn log folder.logs → IsLogIn container files log
log_found container files folder log r e i =
    let is = made_is file_grammars (inside container files) folder e in
    let w = log_from file_grammars log (inside container files) (subst (λ (x : Folder). IsIn log x.logs) (sym is.1) i) in
    subst (λ (l : LogFile). IsLogIn container files l) (sym w.is) (record {
      bytes = w.file.bytes;
      is = inside_found container w.file files r w.is_in;
      ticket = w.ticket;
      named = w.said;
      read = refl;
    })

-- ---- the chosen manifest, read

some_named : (o : Option ManifestFile) (name : Bytes) → manifest_name o ≡ Some name → (m : ManifestFile) × (o ≡ Some m) × (m.name ≡ name)
some_named None name e = absurd cc
some_named (Some m) name e = (m, refl, cc)

-- a manifest that was read begins where its name says
begin_is : (begin end size ticket : ℕ) (bytes : Bytes) (manifest : manifests.Manifest) → manifest_read (Manifest begin end size ticket) bytes ≡ Ok manifest → begin ≡ manifest.begin
begin_is begin end size ticket bytes manifest e =
    let t = read_is_manifest (Manifest begin end size ticket) bytes manifest (ap ok_side e) in
    let same : Manifest begin end size ticket ≡ Manifest manifest.begin manifest.end manifest.bytes t.ticket = t.named in
    cc (same)

abbrev files_in : Result manifests.Manifest ManifestFault → Option (List Bytes)
files_in r = option_map (λ (m : manifests.Manifest). m.files) (ok_side r)

files_read : (r : Result manifests.Manifest ManifestFault) (names : List Bytes) → files_in r ≡ Some names → (manifest : manifests.Manifest) × (r ≡ Ok manifest) × (manifest.files ≡ names)
files_read (Ok manifest) names e = (manifest, refl, cc)
files_read (Err fault) names e = absurd cc

-- each file is the one that its name finds
abbrev AreFound : List File → Type 0
AreFound files = (f : File) → IsIn f files → file_of files f.name ≡ Some f.bytes

module _ (files : List File) (folder : Folder) (version : ℕ) (e : folder_of file_grammars files ≡ Some folder) where
  -- the chosen manifest is of a file
  chosen_from : (m : ManifestFile) → chosen folder version ≡ Some m → IsManifestOf file_grammars m files
  chosen_from m c =
      let is = made_is file_grammars files folder e in
      manifest_from file_grammars m files (subst (λ (x : Folder). IsIn m x.manifests) (sym is.1) (chosen_law.gives_it folder version m c).1)

  -- the name that the names choose
  name_chosen : (number : Option ℕ) → property_in (file_of files unreliable_text) ≡ Some number → manifest_name (chosen (folder_named (names_of files) (unwrap_or number 0)) version) ≡ manifest_name (chosen folder version)
  name_chosen number p =
      ap (λ u. manifest_name (chosen (folder_named (names_of files) u) version)) (sym (unreliable_is file_grammars files folder number e p))
      ∙ (names_law file_grammars files folder e).manifest version

  set_from : (m : ManifestFile) (w : IsManifestOf file_grammars m files) (bytes : Bytes) (set : RestoreSet) → chosen folder version ≡ Some m → w.file.bytes ≡ bytes → manifest_read (name_of w.file.name) bytes ≡ Ok set.manifest → set.ranges ≡ set.manifest.files → set.links ≡ links_or_none (chain_named (names_of files) set.manifest.begin (version + 1)) → IsSetOf folder version set
  set_from m w bytes set c b read ranges links =
      let read' : manifest_read (Manifest w.begin w.end w.size w.ticket) w.file.bytes ≡ Ok set.manifest = (λ i. manifest_read (sym w.said i) (b i)) ∙ read in
      let begin : m.begin ≡ set.manifest.begin = ap (λ (x : ManifestFile). x.begin) w.is ∙ begin_is w.begin w.end w.size w.ticket w.file.bytes set.manifest read' in
      let chains = (names_law file_grammars files folder e).chains m.begin (version + 1) in
      record {
        manifest = m;
        chosen_is = c;
        content = ap (λ (x : ManifestFile). x.content) w.is ∙ ap files_in read' ∙ ap Some (sym ranges);
        ranges = ranges;
        links = links ∙ ap (λ b. links_or_none (chain_named (names_of files) b (version + 1))) (sym begin) ∙ ap links_or_none chains;
      }

  is_set : (set : RestoreSet) → AreFound files → Taken files version set → IsSetOf folder version set
  is_set set found t =
      let m = some_named (chosen folder version) t.2.name (sym (name_chosen t.0 t.1) ∙ t.2.named) in
      let w = chosen_from m.0 m.1 in
      let name : w.file.name ≡ t.2.name = sym (ap (λ (x : ManifestFile). x.name) w.is) ∙ m.2 in
      let both : Some w.file.bytes ≡ Some t.2.bytes = sym (found w.file w.is_in) ∙ ap (file_of files) name ∙ t.2.is in
      let bytes : w.file.bytes ≡ t.2.bytes = cc (both) in
      set_from m.0 w t.2.bytes set m.1 bytes (ap (λ n. manifest_read (name_of n) t.2.bytes) name ∙ t.2.read) t.2.ranges t.2.links

-- ---- refusals

-- what a manifest's file answers isn't a refusal
reads_on : (name : Bytes) (o : Option Bytes) (low high : Option ℕ) → (ok_or o (faults.Missing name) >>= λ bytes. in_file (λ fault. file_faults.Manifest fault) name (manifest_read (name_of name) bytes)) ≡ Err (faults.NotRestorable low high) → ⊥
reads_on name None low high e = cc
reads_on name (Some bytes) low high e = go (manifest_read (name_of name) bytes) e
  where
    go : (r : Result manifests.Manifest ManifestFault) → in_file (λ fault. file_faults.Manifest fault) name r ≡ Err (faults.NotRestorable low high) → ⊥
    go (Ok manifest) e = cc
    go (Err fault) e = cc

with_on : (names : List Bytes) (manifest : manifests.Manifest) (version : ℕ) (o : Option Bytes) (low high : Option ℕ) → set_with names manifest version o ≡ Err (faults.NotRestorable low high) → ⊥
with_on names manifest version None low high e = cc
with_on names manifest version (Some name) low high e = cc

goes_on : (names : List Bytes) (version : ℕ) (r : Result manifests.Manifest ViewFault) (low high : Option ℕ) → (r ≡ Err (faults.NotRestorable low high) → ⊥) → (r >>= λ manifest. set_with names manifest version (first_unlisted names manifest.files)) ≡ Err (faults.NotRestorable low high) → ⊥
goes_on names version (Ok manifest) low high h e = with_on names manifest version (first_unlisted names manifest.files) low high e
goes_on names version (Err fault) low high h e = let same : fault ≡ faults.NotRestorable low high = cc in h (ap Err same)

abbrev IsRefused : Option Bytes → Option ℕ → Option ℕ → ViewFault → Type 0
IsRefused o low high fault = (o ≡ None) × (faults.NotRestorable low high ≡ fault)

refused_at : (files : List File) (names : List Bytes) (version : ℕ) (o : Option Bytes) (fault : ViewFault) (low high : Option ℕ) → (ok_or o fault >>= λ name. manifest_at files name >>= λ manifest. set_with names manifest version (first_unlisted names manifest.files)) ≡ Err (faults.NotRestorable low high) → IsRefused o low high fault
refused_at files names version None fault low high e = (refl, cc)
refused_at files names version (Some name) fault low high e = absurd (goes_on names version (manifest_at files name) low high (reads_on name (file_of files name) low high) e)

-- a property's file doesn't answer a refusal
property_on : {B : Type 0} (o : Option (Option ℕ)) (name : Bytes) (f : Option ℕ → Result B ViewFault) (low high : Option ℕ) → (ok_or o (faults.Damaged name file_faults.Property) >>= f) ≡ Err (faults.NotRestorable low high) → (number : Option ℕ) × (o ≡ Some number) × (f number ≡ Err (faults.NotRestorable low high))
property_on None name f low high e = absurd cc
property_on (Some number) name f low high e = (number, refl, e)

refused_by : (files : List File) (version : ℕ) (low high : Option ℕ) → set_of files version ≡ Err (faults.NotRestorable low high) → (number : Option ℕ) × (property_in (file_of files unreliable_text) ≡ Some number) × IsRefused (manifest_name (chosen (folder_named (names_of files) (unwrap_or number 0)) version)) low high (not_restorable (advertised_bounds (folder_named (names_of files) (unwrap_or number 0))))
refused_by [] version low high e = absurd cc
refused_by (f ∷ fs) version low high e =
    let a = property_on (property_in (file_of (f ∷ fs) unreliable_text)) unreliable_text _ low high e in
    let b = property_on (property_in (file_of (f ∷ fs) expired_text)) expired_text _ low high a.2 in
    (a.0, a.1, refused_at (f ∷ fs) (names_of (f ∷ fs)) version (manifest_name (chosen (folder_named (names_of (f ∷ fs)) (unwrap_or a.0 0)) version)) (not_restorable (advertised_bounds (folder_named (names_of (f ∷ fs)) (unwrap_or a.0 0)))) low high b.2)

none_chosen : (o : Option ManifestFile) → manifest_name o ≡ None → is_some o ≡ false
none_chosen None e = refl
none_chosen (Some m) e = absurd cc

none_named : (o : Option ManifestFile) → is_some o ≡ false → manifest_name o ≡ None
none_named None e = refl
none_named (Some m) e = not_both refl e

refuses : (files : List File) (version : ℕ) (number expired : Option ℕ) → property_in (file_of files unreliable_text) ≡ Some number → property_in (file_of files expired_text) ≡ Some expired → manifest_name (chosen (folder_named (names_of files) (unwrap_or number 0)) version) ≡ None → (files ≡ []) ⊎ (set_of files version ≡ Err (not_restorable (advertised_bounds (folder_named (names_of files) (unwrap_or number 0)))))
refuses [] version number expired p x n = inl refl
refuses (f ∷ fs) version number expired p x n = inr (
    bind_again (property_read (f ∷ fs) unreliable_text) _ number (ap (λ o. ok_or o (faults.Damaged unreliable_text file_faults.Property)) p)
    ∙ bind_again (property_read (f ∷ fs) expired_text) _ expired (ap (λ o. ok_or o (faults.Damaged expired_text file_faults.Property)) x)
    ∙ bind_err _ _ (not_restorable (advertised_bounds (folder_named (names_of (f ∷ fs)) (unwrap_or number 0)))) (ap (λ o. ok_or o (not_restorable (advertised_bounds (folder_named (names_of (f ∷ fs)) (unwrap_or number 0))))) n))

module _ (files : List File) (folder : Folder) (version : ℕ) (e : folder_of file_grammars files ≡ Some folder) where
  refused : (low high : Option ℕ) → set_of files version ≡ Err (faults.NotRestorable low high) → (is_advertised folder version ≡ false) × (faults.NotRestorable low high ≡ not_restorable (advertised_bounds folder))
  refused low high h =
      let n = refused_by files version low high h in
      let l = names_law file_grammars files folder e in
      let u = unreliable_is file_grammars files folder n.0 e n.1 in (
        none_chosen (chosen folder version) (sym (l.manifest version) ∙ ap (λ v. manifest_name (chosen (folder_named (names_of files) v) version)) u ∙ n.2.0),
        n.2.1 ∙ ap not_restorable (ap (λ v. advertised_bounds (folder_named (names_of files) v)) (sym u) ∙ l.bounds),
      )

  advertised : is_advertised folder version ≡ false → (expired : Option ℕ) → property_in (file_of files expired_text) ≡ Some expired → (files ≡ []) ⊎ (set_of files version ≡ Err (not_restorable (advertised_bounds folder)))
  advertised h expired x =
      let n = unreliable_there file_grammars files folder e in
      let l = names_law file_grammars files folder e in
      let none = ap (λ v. manifest_name (chosen (folder_named (names_of files) v) version)) (sym n.2) ∙ l.manifest version ∙ none_named (chosen folder version) h in
      let bounds = ap (λ v. advertised_bounds (folder_named (names_of files) v)) (sym n.2) ∙ l.bounds in
      subst (λ b. (files ≡ []) ⊎ (set_of files version ≡ Err (not_restorable b))) bounds (refuses files version n.0 expired n.1 x none)

-- ---- what is there is read

manifest_again : (files : List File) (name bytes : Bytes) (manifest : manifests.Manifest) → file_of files name ≡ Some bytes → manifest_read (name_of name) bytes ≡ Ok manifest → manifest_at files name ≡ Ok manifest
manifest_again files name bytes manifest b r =
    bind_again _ _ bytes (ap (λ o. ok_or o (faults.Missing name)) b)
    ∙ ap (in_file (λ fault. file_faults.Manifest fault) name) r

set_again : (files : List File) (version : ℕ) (number expired : Option ℕ) (name bytes : Bytes) (manifest : manifests.Manifest) → property_in (file_of files unreliable_text) ≡ Some number → property_in (file_of files expired_text) ≡ Some expired → manifest_name (chosen (folder_named (names_of files) (unwrap_or number 0)) version) ≡ Some name → file_of files name ≡ Some bytes → manifest_read (name_of name) bytes ≡ Ok manifest → first_unlisted (names_of files) manifest.files ≡ None → (set : RestoreSet) × (set_of files version ≡ Ok set)
set_again [] version number expired name bytes manifest p x n b r u = absurd cc
set_again (f ∷ fs) version number expired name bytes manifest p x n b r u = (
  record { manifest = manifest; ranges = manifest.files; links = links_or_none (chain_named (names_of (f ∷ fs)) manifest.begin (version + 1)) },
  bind_again (property_read (f ∷ fs) unreliable_text) _ number (ap (λ o. ok_or o (faults.Damaged unreliable_text file_faults.Property)) p)
      ∙ bind_again (property_read (f ∷ fs) expired_text) _ expired (ap (λ o. ok_or o (faults.Damaged expired_text file_faults.Property)) x)
      ∙ bind_again _ _ name (ap (λ o. ok_or o (not_restorable (advertised_bounds (folder_named (names_of (f ∷ fs)) (unwrap_or number 0))))) n)
      ∙ bind_again (manifest_at (f ∷ fs) name) _ manifest (manifest_again (f ∷ fs) name bytes manifest b r)
      ∙ ap (set_with (names_of (f ∷ fs)) manifest version) u,
)

named_in : (f : File) (files : List File) (name : Bytes) → f.name ≡ name → IsIn f files → is_named (names_of files) name ≡ true
named_in f [] name e i = absurd i
named_in f (x ∷ xs) name e (inl s) = or_left _ _ (same_both x.name name (sym (ap (λ (y : File). y.name) s) ∙ e))
named_in f (x ∷ xs) name e (inr i) = or_right _ _ (named_in f xs name e i)

all_listed : (g : Grammars) (files : List File) (wanted : List Bytes) (pieces : List Piece) → each_of (piece_named (range_files g files)) wanted ≡ Some pieces → first_unlisted (names_of files) wanted ≡ None
all_listed g files [] pieces e = refl
all_listed g files (name ∷ wanted) pieces e =
    let p = bind_some (piece_named (range_files g files) name) _ pieces e in
    let ps = bind_some (each_of (piece_named (range_files g files)) wanted) _ pieces p.2 in
    let w = piece_from g name p.0 files p.1 in
    ap (λ b. cond b (first_unlisted (names_of files) wanted) (Some name)) (named_in w.file files name w.name_is w.is_in) ∙ all_listed g files wanted ps.0 ps.1

module _ (files : List File) (folder : Folder) (version : ℕ) (e : folder_of file_grammars files ≡ Some folder) where
  set_there : (m : ManifestFile) (w : IsManifestOf file_grammars m files) (names : List Bytes) (pieces : List Piece) (expired : Option ℕ) → AreFound files → property_in (file_of files expired_text) ≡ Some expired → chosen folder version ≡ Some m → m.content ≡ Some names → each_of (piece_named folder.ranges) names ≡ Some pieces → (set : RestoreSet) × (set_of files version ≡ Ok set)
  set_there m w names pieces expired found x c content each =
      let n = unreliable_there file_grammars files folder e in
      let is = made_is file_grammars files folder e in
      let r = files_read (manifest_read (Manifest w.begin w.end w.size w.ticket) w.file.bytes) names (sym (ap (λ (y : ManifestFile). y.content) w.is) ∙ content) in
      set_again files version n.0 expired w.file.name w.file.bytes r.0 n.1 x
      (name_chosen files folder version e n.0 n.1 ∙ ap manifest_name c ∙ ap (λ (y : ManifestFile). Some y.name) w.is)
      (found w.file w.is_in)
      (ap (λ s. manifest_read s w.file.bytes) w.said ∙ r.1)
      (ap (first_unlisted (names_of files)) r.2 ∙ all_listed file_grammars files names pieces (subst (λ (y : Folder). each_of (piece_named y.ranges) names ≡ Some pieces) (sym is.1) each))

  complete : (n : Needed) (expired : Option ℕ) → AreFound files → property_in (file_of files expired_text) ≡ Some expired → needed folder version ≡ Some n → (set : RestoreSet) × (set_of files version ≡ Ok set)
  complete n expired found x h =
      let m = bind_some (chosen folder version) _ n h in
      let names = bind_some m.0.content _ n m.2 in
      let pieces = bind_some (each_of (piece_named folder.ranges) names.0) _ n names.2 in
      set_there m.0 (chosen_from files folder version e m.0 m.1) names.0 pieces.0 expired found x m.1 names.1 pieces.1

pub set_law : SetLaw
set_law = record {
  is_set = λ container files folder version set r e read. is_set (inside container files) folder version e set (λ f i. inside_found container f files r i) (taken (inside container files) version set read);
  opens = opens;
  refused = λ files folder version low high e. refused files folder version e low high;
  advertised = λ files folder version e h expired x. advertised files folder version e h expired x;
  complete = λ container files folder version n expired r e x h. complete (inside container files) folder version e n expired (λ f i. inside_found container f files r i) x h;
  range_found = range_found;
  log_found = log_found;
}

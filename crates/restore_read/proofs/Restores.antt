-- What is loaded says what the container means.
use Rattle.std.proofs.Common.{◌≡◌, ℕ, ◌+◌, Bool, true, false, cond, List, [], ◌∷◌, ◌++◌, map, Option, Some, None, option_map, Result, Ok, Err, ok_or, refl, sym, ap, ◌∙◌, subst}
use Rattle.fb_bytes.specs.Bytes.{Bytes}
use Rattle.fb_bytes.specs.Options.{IsIn, each_of}
use Rattle.fb_outside.specs.declared.File.{File}
use Rattle.fb_outside.specs.Files.{AreFiles, file_of}
use Rattle.block_frame.specs.Profiles.{limit_of}
use Rattle.mutations.specs.declared.Batch.{Batch}
use Rattle.file_names.specs.declared.Name.{Name}
use Rattle.file_names.specs.declared.Name.TheVariants as names
use Rattle.file_names.specs.Reading.{name_of}
use Rattle.file_names.specs.Spelling.{expired_text}
use Rattle.file_names.proofs.Numbers.{after_again}
use Rattle.range_files.specs.declared.RangeBody.{RangeBody}
use Rattle.range_files.specs.declared.BlockFault.{BlockFault}
use Rattle.range_files.specs.Reading as ranges
use Rattle.log_files.specs.declared.LogFault.{LogFault}
use Rattle.log_files.specs.Reading as logs
use Rattle.container_view.specs.declared.RestoreSet.{RestoreSet}
use Rattle.container_view.specs.declared.FileFault.{FileFault}
use Rattle.container_view.specs.declared.FileFault.TheVariants as file_faults
use Rattle.container_view.specs.declared.ViewFault.{ViewFault}
use Rattle.container_view.specs.declared.ViewFault.TheVariants as faults
use Rattle.container_view.specs.Advertised.{chosen, is_advertised}
use Rattle.container_view.specs.Chain.{LogLink, chain}
use Rattle.container_view.specs.Contents.{range_content, file_grammars}
use Rattle.container_view.specs.Files.{whole_name, inside, range_file, folder_in}
use Rattle.container_view.specs.Folder.{RangeContent, RangeFile, LogFile, ManifestFile, Folder}
use Rattle.container_view.specs.Honest.{IsFaithfulStore}
use Rattle.container_view.specs.Law.{Source, true_value}
use Rattle.container_view.specs.Meaning.{Piece, Part, Needed, read_range, piece_named, read_link, read_chain, are_disjoint, value_at, needed, means}
use Rattle.container_view.specs.Names.{link_of, named_links}
use Rattle.container_view.specs.Property.{property_in}
use Rattle.container_view.specs.Sets.{◌>>=◌, in_file, links_or_none, set_of, IsSetOf}
use Rattle.container_view.proofs.Basics.{bind_some}
use Rattle.container_view.proofs.Faithful.{needed_is}
use Rattle.container_view.proofs.Lookups.{file_law}
use Rattle.container_view.proofs.Sets.{set_law}
use Rattle.container_view.proofs.Stores.{file_inside}
use Rattle.restore_apply.specs.declared.At.{At}
use Rattle.restore_apply.specs.declared.Loaded.{Loaded}
use Rattle.restore_apply.specs.declared.LoadedFile.{LoadedFile}
use Rattle.restore_apply.specs.declared.LoadedLink.{LoadedLink}
use Rattle.restore_apply.specs.Laws.{OverlapLaw}
use Rattle.restore_apply.specs.Loaded.{loaded_at}
use Rattle.restore_apply.specs.Overlaps.{first_overlap, are_apart}
use Rattle.restore_read.specs.Meanings.{Means, Loads, RestoreLaw}
use Rattle.restore_read.specs.Reading.{each_or, range_by, range_at, link_by, link_at, apart_or, files_at, loaded_of}
use Rattle.restore_read.proofs.Values.{seen, apart_seen, IsLike, AreLike, value_like, means_again, AreOf, links_of_logs}

-- ---- results

bind_ok : {A B : Type 0} (r : Result A ViewFault) (f : A → Result B ViewFault) (y : B) → (r >>= f) ≡ Ok y → (x : A) × (r ≡ Ok x) × (f x ≡ Ok y)
bind_ok (Ok x) f y e = (x, refl, e)
bind_ok (Err fault) f y e = absurd cc

bind_again : {A B : Type 0} (r : Result A ViewFault) (f : A → Result B ViewFault) (x : A) → r ≡ Ok x → (r >>= f) ≡ f x
bind_again r f x e = ap (λ s. s >>= f) e

ok_some : {A : Type 0} (o : Option A) (fault : ViewFault) (x : A) → ok_or o fault ≡ Ok x → o ≡ Some x
ok_some None fault x e = absurd cc
ok_some (Some y) fault x e = cc

in_file_ok : {A E : Type 0} (kind : E → FileFault) (name : Bytes) (r : Result A E) (x : A) → in_file kind name r ≡ Ok x → r ≡ Ok x
in_file_ok kind name (Ok y) x e = cc
in_file_ok kind name (Err fault) x e = absurd cc

one_some : {A : Type 0} (o : Option A) (x y : A) → o ≡ Some x → o ≡ Some y → x ≡ y
one_some o x y a b = let both : Some x ≡ Some y = sym a ∙ b in cc (both)

-- the first, and the rest
each_ok : {A B : Type 0} (read : A → Result B ViewFault) (x : A) (xs : List A) (all : List B) → each_or read (x ∷ xs) ≡ Ok all → (y : B) × (ys : List B) × (read x ≡ Ok y) × (each_or read xs ≡ Ok ys) × (y ∷ ys ≡ all)
each_ok read x xs all e =
    let y = bind_ok (read x) _ all e in
    let ys = bind_ok (each_or read xs) _ all y.2 in
    (y.0, ys.0, y.1, ys.1, cc (ys.2))

each_again : {A B : Type 0} (read : A → Result B ViewFault) (x : A) (xs : List A) (y : B) (ys : List B) → read x ≡ Ok y → each_or read xs ≡ Ok ys → each_or read (x ∷ xs) ≡ Ok (y ∷ ys)
each_again read x xs y ys a b = bind_again (read x) _ y a ∙ bind_again (each_or read xs) _ ys b

each_of_again : {A B : Type 0} (f : A → Option B) (x : A) (xs : List A) (y : B) (ys : List B) → f x ≡ Some y → each_of f xs ≡ Some ys → each_of f (x ∷ xs) ≡ Some (y ∷ ys)
each_of_again f x xs y ys a b = rw (a, b) refl

-- ---- a range file

-- the bytes of a range file, and what they say
record IsFileOf (fs : List File) (name : Bytes) (file : LoadedFile) : Type 0 where
  pub bytes : Bytes
  pub is : file_of fs name ≡ Some bytes
  pub snapshot : ℕ
  pub ticket : ℕ
  pub block : ℕ
  pub named : name_of name ≡ names.Range snapshot file.version ticket block
  pub read : ranges.read block bytes ≡ Ok file.body

by_name : (fs : List File) (name bytes : Bytes) (file : LoadedFile) → file_of fs name ≡ Some bytes → (said : Name) → name_of name ≡ said → range_by name bytes said ≡ Ok file → IsFileOf fs name file
by_name fs name bytes file is (names.Range snapshot version ticket block) n e =
    let body = bind_ok (in_file (λ fault. file_faults.Range fault) name (ranges.read block bytes)) _ file e in
    let same : record { version = version; body = body.0 } ≡ file = cc (body.2) in
    subst (λ (f : LoadedFile). IsFileOf fs name f) same (record {
      bytes = bytes;
      is = is;
      snapshot = snapshot;
      ticket = ticket;
      block = block;
      named = n;
      read = in_file_ok _ name (ranges.read block bytes) body.0 body.1;
    })
by_name fs name bytes file is (names.Log begin end ticket block) n e = absurd cc
by_name fs name bytes file is (names.Manifest begin end size ticket) n e = absurd cc
by_name fs name bytes file is names.Unreliable n e = absurd cc
by_name fs name bytes file is names.Expired n e = absurd cc
by_name fs name bytes file is names.Other n e = absurd cc

range_ok : (fs : List File) (name : Bytes) (file : LoadedFile) → range_at fs name ≡ Ok file → IsFileOf fs name file
range_ok fs name file e =
    let b = bind_ok (ok_or (file_of fs name) (faults.Missing name)) _ file e in
    by_name fs name b.0 file (ok_some _ _ b.0 b.1) (name_of name) refl b.2

range_again : (fs : List File) (name bytes : Bytes) (snapshot version ticket block : ℕ) (body : RangeBody) → file_of fs name ≡ Some bytes → name_of name ≡ names.Range snapshot version ticket block → ranges.read block bytes ≡ Ok body → range_at fs name ≡ Ok (record { version = version; body = body })
range_again fs name bytes snapshot version ticket block body a n r =
    bind_again (ok_or (file_of fs name) (faults.Missing name)) _ bytes (ap (λ o. ok_or o (faults.Missing name)) a)
    ∙ ap (range_by name bytes) n
    ∙ bind_again (in_file (λ fault. file_faults.Range fault) name (ranges.read block bytes)) _ body (ap (in_file (λ fault. file_faults.Range fault) name) r)

-- the content of a range file that was read
abbrev range_side : Result RangeBody BlockFault → Option RangeContent
range_side r = option_map range_content (ranges.ok_side r)

piece_read : (name bytes : Bytes) (block : ℕ) (file : LoadedFile) → ranges.read block bytes ≡ Ok file.body → read_range (range_file file_grammars name bytes file.version block) ≡ Some (seen file)
piece_read name bytes block file e = ap (λ (r : Result RangeBody BlockFault). read_range (record { name = name; version = file.version; block = block; content = range_side r })) e

body_read : (r : Result RangeBody BlockFault) (content : RangeContent) → range_side r ≡ Some content → (body : RangeBody) × (r ≡ Ok body) × (range_content body ≡ content)
body_read (Ok body) content e = (body, refl, cc)
body_read (Err fault) content e = absurd cc

-- ---- range files in the order of their names

pieces_there : (fs : List File) (rs : List RangeFile) → ((name : Bytes) (file : LoadedFile) → range_at fs name ≡ Ok file → piece_named rs name ≡ Some (seen file)) → (wanted : List Bytes) (loaded : List LoadedFile) → each_or (range_at fs) wanted ≡ Ok loaded → each_of (piece_named rs) wanted ≡ Some (map seen loaded)
pieces_there fs rs each [] loaded e = let none : [] ≡ loaded = cc in ap (λ (l : List LoadedFile). Some (map seen l)) none
pieces_there fs rs each (name ∷ wanted) loaded e =
    let h = each_ok (range_at fs) name wanted loaded e in
    each_of_again (piece_named rs) name wanted (seen h.0) (map seen h.1) (each name h.0 h.2) (pieces_there fs rs each wanted h.1 h.3)
    ∙ ap (λ (l : List LoadedFile). Some (map seen l)) h.4

-- the file that a piece was read from
abbrev Gives : List File → Bytes → Piece → Type 0
Gives fs name piece = (file : LoadedFile) × (range_at fs name ≡ Ok file) × (seen file ≡ piece)

files_there : (fs : List File) (rs : List RangeFile) → ((name : Bytes) (piece : Piece) → piece_named rs name ≡ Some piece → Gives fs name piece) → (wanted : List Bytes) (pieces : List Piece) → each_of (piece_named rs) wanted ≡ Some pieces → (loaded : List LoadedFile) × (each_or (range_at fs) wanted ≡ Ok loaded) × (map seen loaded ≡ pieces)
files_there fs rs each [] pieces e = ([], refl, cc)
files_there fs rs each (name ∷ wanted) pieces e =
    let p = bind_some (piece_named rs name) _ pieces e in
    let ps = bind_some (each_of (piece_named rs) wanted) _ pieces p.2 in
    let all : p.0 ∷ ps.0 ≡ pieces = cc (ps.2) in
    let f = each name p.0 p.1 in
    let l = files_there fs rs each wanted ps.0 ps.1 in
    (f.0 ∷ l.0, each_again (range_at fs) name wanted f.0 l.0 f.1 l.1, (λ i. f.2 i ∷ l.2 i) ∙ all)

-- ---- a link's log file

abbrev log_side : Result (List Batch) LogFault → Option (List Batch)
log_side r = logs.ok_side r

batches_read : (r : Result (List Batch) LogFault) (batches : List Batch) → log_side r ≡ Some batches → r ≡ Ok batches
batches_read (Ok x) batches e = cc
batches_read (Err fault) batches e = absurd cc

-- the link, loaded
abbrev loaded_link : LogLink → List Batch → LoadedLink
loaded_link l batches = record { from = l.from; to = l.to; limit = limit_of l.file.block; chunk = record { begin = l.file.begin; end = l.file.end; batches = batches } }

abbrev link_part : LogLink → List Batch → Part
link_part l batches = record { from = l.from; to = l.to; block = l.file.block; batches = batches }

part_read : (l : LogLink) (batches : List Batch) → l.file.content ≡ Some batches → read_link l ≡ Some (link_part l batches)
part_read l batches h = rw h refl

module _ (fs : List File) (l : LogLink) (bytes : Bytes) (ticket : ℕ) (is : file_of fs l.file.name ≡ Some bytes) (named : name_of l.file.name ≡ names.Log l.file.begin l.file.end ticket l.file.block) (content : logs.log_file_of l.file.block l.file.begin l.file.end bytes ≡ l.file.content) where
  abbrev reading : Result (List Batch) LogFault
  reading = logs.read l.file.block l.file.begin l.file.end bytes

  link_reads : link_at fs (link_of l) ≡ (in_file (λ fault. file_faults.Log fault) l.file.name reading >>= λ batches. Ok (loaded_link l batches))
  link_reads =
      bind_again (ok_or (file_of fs l.file.name) (faults.Missing l.file.name)) _ bytes (ap (λ o. ok_or o (faults.Missing l.file.name)) is)
      ∙ ap (link_by (link_of l) bytes) named

  part_there : (link : LoadedLink) → link_at fs (link_of l) ≡ Ok link → (part : Part) × (read_link l ≡ Some part) × IsLike link part
  part_there link e =
      let b = bind_ok (in_file (λ fault. file_faults.Log fault) l.file.name reading) _ link (sym link_reads ∙ e) in
      let same : loaded_link l b.0 ≡ link = cc (b.2) in
      let there : l.file.content ≡ Some b.0 = sym content ∙ ap log_side (in_file_ok _ l.file.name reading b.0 b.1) in (
        link_part l b.0,
        part_read l b.0 there,
        subst (λ (x : LoadedLink). IsLike x (link_part l b.0)) same (record { from_is = refl; to_is = refl; limit_is = refl; batches_is = refl }),
      )

  link_there : (part : Part) → read_link l ≡ Some part → (link : LoadedLink) × (link_at fs (link_of l) ≡ Ok link) × IsLike link part
  link_there part e =
      let b = bind_some l.file.content _ part e in
      let same : link_part l b.0 ≡ part = cc (b.2) in
      let read = batches_read reading b.0 (content ∙ b.1) in (
        loaded_link l b.0,
        link_reads ∙ bind_again (in_file (λ fault. file_faults.Log fault) l.file.name reading) _ b.0 (ap (in_file (λ fault. file_faults.Log fault) l.file.name) read),
        subst (λ (x : Part). IsLike (loaded_link l b.0) x) same (record { from_is = refl; to_is = refl; limit_is = refl; batches_is = refl }),
      )

-- ---- the links of a chain

-- a file's bytes, and what the log reads of them, are found for each log
abbrev FindsLogs : List File → List LogFile → Type 0
FindsLogs fs all = (log : LogFile) → IsIn log all → (bytes : Bytes) × (ticket : ℕ) × (file_of fs log.name ≡ Some bytes) × (name_of log.name ≡ names.Log log.begin log.end ticket log.block) × (logs.log_file_of log.block log.begin log.end bytes ≡ log.content)

parts_there : (fs : List File) (all : List LogFile) → FindsLogs fs all → (ls : List LogLink) (loaded : List LoadedLink) → AreOf all ls → each_or (link_at fs) (map link_of ls) ≡ Ok loaded → (parts : List Part) × (each_of read_link ls ≡ Some parts) × AreLike loaded parts
parts_there fs all found [] loaded o e = let none : [] ≡ loaded = cc in ([], refl, subst (λ (x : List LoadedLink). AreLike x []) none tt)
parts_there fs all found (l ∷ ls) loaded o e =
    let h = each_ok (link_at fs) (link_of l) (map link_of ls) loaded e in
    let w = found l.file o.0 in
    let p = part_there fs l w.0 w.1 w.2 w.3 w.4 h.0 h.2 in
    let ps = parts_there fs all found ls h.1 o.1 h.3 in
    (p.0 ∷ ps.0, each_of_again read_link l ls p.0 ps.0 p.1 ps.1, subst (λ (x : List LoadedLink). AreLike x (p.0 ∷ ps.0)) h.4 (p.2, ps.2))

links_there : (fs : List File) (all : List LogFile) → FindsLogs fs all → (ls : List LogLink) (parts : List Part) → AreOf all ls → each_of read_link ls ≡ Some parts → (loaded : List LoadedLink) × (each_or (link_at fs) (map link_of ls) ≡ Ok loaded) × AreLike loaded parts
links_there fs all found [] parts o e = let none : [] ≡ parts = cc in ([], refl, subst (AreLike []) none tt)
links_there fs all found (l ∷ ls) parts o e =
    let p = bind_some (read_link l) _ parts e in
    let ps = bind_some (each_of read_link ls) _ parts p.2 in
    let same : p.0 ∷ ps.0 ≡ parts = cc (ps.2) in
    let w = found l.file o.0 in
    let x = link_there fs l w.0 w.1 w.2 w.3 w.4 p.0 p.1 in
    let xs = links_there fs all found ls ps.0 o.1 ps.1 in
    (x.0 ∷ xs.0, each_again (link_at fs) (link_of l) (map link_of ls) x.0 xs.0 x.1 xs.1, subst (AreLike (x.0 ∷ xs.0)) same (x.2, xs.2))

-- each link of a chain, if there is one, is of one of the logs
abbrev ChainOf : List LogFile → Option (List LogLink) → Type 0
ChainOf all o = (ls : List LogLink) → o ≡ Some ls → AreOf all ls

chain_parts : (fs : List File) (all : List LogFile) → FindsLogs fs all → (o : Option (List LogLink)) (loaded : List LoadedLink) → ChainOf all o → each_or (link_at fs) (links_or_none (named_links o)) ≡ Ok loaded → (parts : List Part) × (read_chain o ≡ Some parts) × AreLike loaded parts
chain_parts fs all found None loaded o e = let none : [] ≡ loaded = cc in ([], refl, subst (λ (x : List LoadedLink). AreLike x []) none tt)
chain_parts fs all found (Some ls) loaded o e = parts_there fs all found ls loaded (o ls refl) e

chain_links : (fs : List File) (all : List LogFile) → FindsLogs fs all → (o : Option (List LogLink)) (parts : List Part) → ChainOf all o → read_chain o ≡ Some parts → (loaded : List LoadedLink) × (each_or (link_at fs) (links_or_none (named_links o)) ≡ Ok loaded) × AreLike loaded parts
chain_links fs all found None parts o e = let none : [] ≡ parts = cc in ([], refl, subst (AreLike []) none tt)
chain_links fs all found (Some ls) parts o e = links_there fs all found ls parts (o ls refl) e

-- ---- what is loaded

record IsLoaded (fs : List File) (version : ℕ) (set : Loaded) : Type 0 where
  pub read : RestoreSet
  pub set_is : set_of fs version ≡ Ok read
  pub files_are : each_or (range_at fs) read.ranges ≡ Ok set.files
  pub apart : first_overlap set.files ≡ None
  pub links_are : each_or (link_at fs) read.links ≡ Ok set.links

apart_ok : (wanted : List Bytes) (loaded : List LoadedFile) (o : Option At) (files : List LoadedFile) → apart_or wanted loaded o ≡ Ok files → (loaded ≡ files) × (o ≡ None)
apart_ok wanted loaded None files e = (cc, refl)
apart_ok wanted loaded (Some at) files e = absurd cc

is_loaded : (fs : List File) (version : ℕ) (set : Loaded) → loaded_of fs version ≡ Ok set → IsLoaded fs version set
is_loaded fs version set e =
    let s = bind_ok (set_of fs version) _ set e in
    let f = bind_ok (files_at fs s.0.ranges) _ set s.2 in
    let l = bind_ok (each_or (link_at fs) s.0.links) _ set f.2 in
    let same : record { files = f.0; links = l.0 } ≡ set = cc (l.2) in
    let x = bind_ok (each_or (range_at fs) s.0.ranges) _ f.0 f.1 in
    let a = apart_ok s.0.ranges x.0 (first_overlap x.0) f.0 x.2 in
    subst (λ (y : Loaded). IsLoaded fs version y) same (record {
      read = s.0;
      set_is = s.1;
      files_are = x.1 ∙ ap Ok a.0;
      apart = ap first_overlap (sym a.0) ∙ a.1;
      links_are = l.1;
    })

loaded_again : (fs : List File) (version : ℕ) (read : RestoreSet) (files : List LoadedFile) (all : List LoadedLink) → set_of fs version ≡ Ok read → each_or (range_at fs) read.ranges ≡ Ok files → first_overlap files ≡ None → each_or (link_at fs) read.links ≡ Ok all → loaded_of fs version ≡ Ok (record { files = files; links = all })
loaded_again fs version read files all s f a l =
    bind_again (set_of fs version) _ read s
    ∙ bind_again (files_at fs read.ranges) _ files (bind_again (each_or (range_at fs) read.ranges) _ files f ∙ ap (apart_or read.ranges files) a)
    ∙ bind_again (each_or (link_at fs) read.links) _ all l

-- ---- what is needed

record IsNeeded (folder : Folder) (version : ℕ) (n : Needed) : Type 0 where
  pub manifest : ManifestFile
  pub chosen_is : chosen folder version ≡ Some manifest
  pub listed : List Bytes
  pub content : manifest.content ≡ Some listed
  pub pieces_are : each_of (piece_named folder.ranges) listed ≡ Some n.pieces
  pub parts_are : read_chain (chain folder manifest.begin (version + 1)) ≡ Some n.parts
  pub disjoint : are_disjoint n.pieces ≡ true

if_apart : (b : Bool) (x n : Needed) → cond b (Some x) None ≡ Some n → (x ≡ n) × (b ≡ true)
if_apart true x n e = (cc, refl)
if_apart false x n e = absurd cc

is_needed : (folder : Folder) (version : ℕ) (n : Needed) → needed folder version ≡ Some n → IsNeeded folder version n
is_needed folder version n e =
    let m = bind_some (chosen folder version) _ n e in
    let listed = bind_some m.0.content _ n m.2 in
    let pieces = bind_some (each_of (piece_named folder.ranges) listed.0) _ n listed.2 in
    let parts = bind_some (read_chain (chain folder m.0.begin (version + 1))) _ n pieces.2 in
    let same = if_apart (are_disjoint pieces.0) (record { pieces = pieces.0; parts = parts.0 }) n parts.2 in
    subst (λ (x : Needed). IsNeeded folder version x) same.0 (record {
      manifest = m.0;
      chosen_is = m.1;
      listed = listed.0;
      content = listed.1;
      pieces_are = pieces.1;
      parts_are = parts.1;
      disjoint = same.1;
    })

-- a folder's files, as a list of files has them
record Finds (fs : List File) (folder : Folder) : Type 0 where
  pub piece : (name : Bytes) (file : LoadedFile) → range_at fs name ≡ Ok file → piece_named folder.ranges name ≡ Some (seen file)
  pub file : (name : Bytes) (p : Piece) → piece_named folder.ranges name ≡ Some p → Gives fs name p
  pub log : FindsLogs fs folder.logs

chain_of : (folder : Folder) (from to : ℕ) → ChainOf folder.logs (chain folder from to)
chain_of folder from to ls e = links_of_logs folder.logs to _ from ls e

module _ (law : OverlapLaw) (fs : List File) (folder : Folder) (version : ℕ) (finds : Finds fs folder) where
  -- what is loaded is what is needed
  needs : (set : Loaded) (l : IsLoaded fs version set) → IsSetOf folder version l.read → (parts : List Part) × (needed folder version ≡ Some (record { pieces = map seen set.files; parts = parts })) × AreLike set.links parts
  needs set l s =
      let p = chain_parts fs folder.logs finds.log (chain folder s.manifest.begin (version + 1)) set.links (chain_of folder s.manifest.begin (version + 1)) (ap (each_or (link_at fs)) (sym s.links) ∙ l.links_are) in (
        p.0,
        needed_is folder version s.manifest l.read.ranges (map seen set.files) p.0 s.chosen_is s.content (pieces_there fs folder.ranges finds.piece l.read.ranges set.files l.files_are) p.1 (apart_seen set.files ∙ (law set.files).0 l.apart),
        p.2,
      )

  -- what is needed is loaded
  gives : (read : RestoreSet) (n : Needed) → set_of fs version ≡ Ok read → IsSetOf folder version read → IsNeeded folder version n → (set : Loaded) × (loaded_of fs version ≡ Ok set) × (map seen set.files ≡ n.pieces) × AreLike set.links n.parts
  gives read n is s w =
      let same = one_some (chosen folder version) s.manifest w.manifest s.chosen_is w.chosen_is in
      let listed = one_some s.manifest.content read.ranges w.listed s.content (ap (λ (m : ManifestFile). m.content) same ∙ w.content) in
      let f = files_there fs folder.ranges finds.file read.ranges n.pieces (ap (each_of (piece_named folder.ranges)) listed ∙ w.pieces_are) in
      let l = chain_links fs folder.logs finds.log (chain folder w.manifest.begin (version + 1)) n.parts (chain_of folder w.manifest.begin (version + 1)) w.parts_are in
      let links' : read.links ≡ links_or_none (named_links (chain folder w.manifest.begin (version + 1))) = s.links ∙ ap (λ (m : ManifestFile). links_or_none (named_links (chain folder m.begin (version + 1)))) same in
      let apart : are_apart f.0 ≡ true = sym (apart_seen f.0) ∙ ap are_disjoint f.2 ∙ w.disjoint in (
        record { files = f.0; links = l.0 },
        loaded_again fs version read f.0 l.0 is f.1 ((law f.0).1 apart) (ap (each_or (link_at fs)) links' ∙ l.1),
        f.2,
        l.2,
      )

-- ---- the files of a container

module _ (container : Bytes) (files : List File) (folder : Folder) (r : AreFiles files) (e : folder_in file_grammars container files ≡ Some folder) where
  piece_found : (name : Bytes) (file : LoadedFile) → range_at (inside container files) name ≡ Ok file → piece_named folder.ranges name ≡ Some (seen file)
  piece_found name file h =
      let w = range_ok (inside container files) name file h in
      let whole = after_again (container ++ 47 ∷ []) name in
      file_law.found file_grammars container (whole_name container name) name w.bytes files folder w.snapshot file.version w.ticket w.block r whole (sym (file_inside container (whole_name container name) name files whole) ∙ w.is) w.named e
      ∙ piece_read name w.bytes w.block file w.read

  file_found : (name : Bytes) (p : Piece) → piece_named folder.ranges name ≡ Some p → Gives (inside container files) name p
  file_found name p h =
      let w = set_law.range_found container files folder name p r e h in
      let b = body_read (ranges.read w.block w.bytes) (record { range = p.range; pairs = p.pairs }) w.read in (
        record { version = p.version; body = b.0 },
        range_again (inside container files) name w.bytes w.snapshot p.version w.ticket w.block b.0 w.is w.named b.1,
        ap (λ (c : RangeContent). record { version = p.version; range = c.range; pairs = c.pairs }) b.2,
      )

  logs_found : FindsLogs (inside container files) folder.logs
  logs_found log i =
      let w = set_law.log_found container files folder log r e i in
      (w.bytes, w.ticket, w.is, w.named, w.read)

  finds : Finds (inside container files) folder
  finds = record { piece = piece_found; file = file_found; log = logs_found }

-- ---- the law

-- a meaning is the value of each key
means_needed : (folder : Folder) (version : ℕ) (meaning : Bytes → Option Bytes) → means folder version ≡ Some meaning → (n : Needed) × (needed folder version ≡ Some n) × (value_at n.pieces n.parts version ≡ meaning)
means_needed folder version meaning e = let n = bind_some (needed folder version) _ meaning e in (n.0, n.1, cc (n.2))

module _ (law : OverlapLaw) where
  meant : (container : Bytes) (files : List File) (version : ℕ) (set : Loaded) → AreFiles files → loaded_of (inside container files) version ≡ Ok set → Means container files version (loaded_at set version)
  meant container files version set r e =
      let l = is_loaded (inside container files) version set e in
      let f = set_law.opens (inside container files) version l.read l.set_is in
      let s = set_law.is_set container files f.0 version l.read r f.1 l.set_is in
      let n = needs law (inside container files) f.0 version (finds container files f.0 r f.1) set l s in
      record {
        folder = f.0;
        decoded = f.1;
        meaning = value_at (map seen set.files) n.0 version;
        defined = means_again f.0 version (record { pieces = map seen set.files; parts = n.0 }) n.1;
        same = value_like set n.0 n.2 version;
      }

  loads : (container : Bytes) (files : List File) (folder : Folder) (version : ℕ) (meaning : Bytes → Option Bytes) (number : Option ℕ) → AreFiles files → folder_in file_grammars container files ≡ Some folder → means folder version ≡ Some meaning → property_in (file_of (inside container files) expired_text) ≡ Some number → Loads container files version meaning
  loads container files folder version meaning number r e m x =
      let n = means_needed folder version meaning m in
      let c = set_law.complete container files folder version n.0 number r e x n.1 in
      let s = set_law.is_set container files folder version c.0 r e c.1 in
      let g = gives law (inside container files) folder version (finds container files folder r e) c.0 n.0 c.1 s (is_needed folder version n.0 n.1) in
      record {
        set = g.0;
        is = g.1;
        same = λ key. value_like g.0 n.0.parts g.3 version key ∙ ap (λ (ps : List Piece). value_at ps n.0.parts version key) g.2 ∙ ap (λ (f : Bytes → Option Bytes). f key) n.2;
      }

  faithful : (s : Source) (container : Bytes) (files : List File) (version : ℕ) → AreFiles files → (h : IsFaithfulStore file_grammars s container files) → is_advertised h.folder version ≡ true → Loads container files version (true_value s version)
  faithful s container files version r h a =
      let f = h.faithful.each version a in
      let x = h.expired in
      let l = loads container files h.folder version f.meaning x.0 r h.decoded f.defined x.1 in
      record { set = l.set; is = l.is; same = λ key. l.same key ∙ f.same key }

  pub restore_law_from : RestoreLaw
  restore_law_from = record { meant = meant; loads = loads; faithful = faithful }

-- What names tell: the best log by one pass from the left, and chains.
use Rattle.std.proofs.Common.{◌≡◌, ℕ, zero, suc, ◌-◌, ◌+◌, ◌<◌, ◌≤◌, Bool, true, false, cond, ◌&&◌, ◌||◌, ◌==◌, max, is_some, List, [], ◌∷◌, ◌++◌, length, take, get_or, map, Option, Some, None, option_map, if◌then◌else◌, refl, sym, ap, ◌∙◌, nat_le, nat_lt, arith, append_assoc}
use Rattle.std.proofs.lemmas.Bool.{false_from_ne_true, lt-leb, lt-ltb, ltb-true}
use Rattle.std.proofs.lemmas.List.{map-append}
use Rattle.fb_bytes.specs.Bytes.{Bytes}
use Rattle.fb_bytes.specs.Options.{◌>>=◌, better_of, best_of}
use Rattle.fb_outside.specs.declared.File.{File}
use Rattle.file_names.specs.declared.Name.{Name}
use Rattle.file_names.specs.declared.Name.TheVariants.{Range, Log, Manifest, Unreliable, Expired, Other}
use Rattle.file_names.specs.Reading.{name_of}
use Rattle.mutations.proofs.Basics.{not_both}
use Rattle.container_view.specs.Folder.{LogFile, ManifestFile, Folder}
use Rattle.container_view.specs.Chain.{LogLink, comes_first, has_version, log_beats, best_log, links, chain}
use Rattle.container_view.specs.Advertised.{gives, manifest_beats, chosen}
use Rattle.container_view.specs.Bounds.{reached, is_given, given, wider, given_by}
use Rattle.container_view.specs.Files.{Grammars, as_log, as_manifest, range_files, log_files, manifest_files, unreliable_of}
use Rattle.container_view.specs.Names.{Link, as_named_log, logs_named, as_sealed, sealed_named, manifests_named, folder_named, manifest_name, link_of, named_links, chain_named, AreNamesOf, NamesLaw, seen}
use Rattle.container_view.specs.inner.Names.{first_of, seen_manifest, better_manifest, given_named}
use Rattle.container_view.specs.declared.logs.Run.{Run}
use Rattle.container_view.specs.declared.sorting.NamedManifest.{NamedManifest}
use Rattle.container_view.specs.inner.Listed.{reach_in, manifest_of, manifests_of, size_of, sizes_of}
use Rattle.mutations.proofs.Lengths.{take_item}
use Rattle.fb_bytes.proofs.Options.{bind_some}
use Rattle.container_view.proofs.Spans.{wider_none, wider_assoc}
use Rattle.container_view.proofs.Best.{IsOrder, by_end_and_name}
use Rattle.container_view.proofs.Whole.{chain_law}
use Rattle.container_view.proofs.Reached.{reach_law}

-- ---- the best of a list with one element more at its end

abbrev pub joined : {A : Type 0} → (A → A → Bool) → Option A → A → A
joined beats None x = x
joined beats (Some y) x = if beats x y then x else y

module _ {A : Type 0} (passes : A → Bool) (beats : A → A → Bool) (order : IsOrder beats) where
  better_joined : (z y x : A) → better_of beats z (Some (joined beats (Some y) x)) ≡ joined beats (Some (better_of beats z (Some y))) x
  better_joined z y x = go (beats x y) (beats y z) refl refl
    where
      go : (b c : Bool) → beats x y ≡ b → beats y z ≡ c → (if beats (cond b x y) z then cond b x y else z) ≡ (if beats x (cond c y z) then x else cond c y z)
      go true true p q = ap (λ t. cond t x z) (order.trans x y z p q) ∙ sym (ap (λ t. cond t x y) p)
      go true false p q = refl
      go false true p q = ap (λ t. cond t y z) q ∙ sym (ap (λ t. cond t x y) p)
      go false false p q = ap (λ t. cond t y z) q ∙ sym (ap (λ t. cond t x z) (false_from_ne_true (beats x z) (λ h. not_both (order.up x y z h q) p)))

  pub best_last : (xs : List A) (x : A) → best_of passes beats (xs ++ x ∷ []) ≡ cond (passes x) (Some (joined beats (best_of passes beats xs) x)) (best_of passes beats xs)
  best_last [] x = refl
  best_last (z ∷ xs) x = ap (λ o. cond (passes z) (Some (better_of beats z o)) o) (best_last xs x) ∙ go (passes z) (passes x) (best_of passes beats xs)
    where
      go : (p q : Bool) (o : Option A) → cond p (Some (better_of beats z (cond q (Some (joined beats o x)) o))) (cond q (Some (joined beats o x)) o) ≡ cond q (Some (joined beats (cond p (Some (better_of beats z o)) o) x)) (cond p (Some (better_of beats z o)) o)
      go true true None = refl
      go true true (Some y) = ap Some (better_joined z y x)
      go true false o = refl
      go false true o = refl
      go false false o = refl

-- ---- chains by names

module _ (names : List Bytes) where
  abbrev by_names : Folder
  by_names = record { ranges = []; logs = logs_named names; manifests = []; unreliable = 0 }

  -- one link and then the rest
  chain_seen : (version to : ℕ) (o : Option LogFile) → named_links (o >>= λ f. chain by_names f.end to >>= λ rest. Some (record { file = f; from = version; to = f.end } ∷ rest)) ≡ (seen o >>= λ x. chain_named names x.1 to >>= λ rest. Some (record { name = x.0; from = version; to = x.1 } ∷ rest))
  chain_seen version to None = refl
  chain_seen version to (Some f) = go (chain by_names f.end to)
    where
      go : (o : Option (List LogLink)) → named_links (o >>= λ rest. Some (record { file = f; from = version; to = f.end } ∷ rest)) ≡ (named_links o >>= λ rest. Some (record { name = f.name; from = version; to = f.end } ∷ rest))
      go None = refl
      go (Some rest) = refl

  chain_step : (version to : ℕ) → chain_named names version to ≡ (if nat_le to version then Some [] else (seen (best_log (logs_named names) version) >>= λ x. chain_named names x.1 to >>= λ rest. Some (record { name = x.0; from = version; to = x.1 } ∷ rest)))
  chain_step version to =
      ap named_links (chain_law.step by_names version to)
      ∙ go (nat_le to version) (best_log (logs_named names) version)
    where
      go : (b : Bool) (o : Option LogFile) → named_links (cond b (Some []) (o >>= λ f. chain by_names f.end to >>= λ rest. Some (record { file = f; from = version; to = f.end } ∷ rest))) ≡ cond b (Some []) (seen o >>= λ x. chain_named names x.1 to >>= λ rest. Some (record { name = x.0; from = version; to = x.1 } ∷ rest))
      go true o = refl
      go false o = chain_seen version to o

-- ---- the names of a folder's files tell this of it

pub best_map : {A : Type 0} (h : A → A) (p q : A → Bool) (beats : A → A → Bool) → ((x : A) → p (h x) ≡ q x) → ((x y : A) → beats (h x) (h y) ≡ beats x y) → (xs : List A) → best_of p beats (map h xs) ≡ option_map h (best_of q beats xs)
best_map h p q beats same order [] = refl
best_map {A = A} h p q beats same order (x ∷ xs) = (λ i. cond (same x i) (Some (better_of beats (h x) (best_map h p q beats same order xs i))) (best_map h p q beats same order xs i)) ∙ go (q x) (best_of q beats xs)
  where
    at : (y : A) (b c : Bool) → b ≡ c → cond b (h y) (h x) ≡ h (cond c y x)
    at y true true e = refl
    at y true false e = not_both refl e
    at y false true e = not_both e refl
    at y false false e = refl

    go : (b : Bool) (o : Option A) → cond b (Some (better_of beats (h x) (option_map h o))) (option_map h o) ≡ option_map h (cond b (Some (better_of beats x o)) o)
    go true None = refl
    go true (Some y) = ap Some (at y (beats (h y) (h x)) (beats y x) (order y x))
    go false o = refl

abbrev bare : LogFile → LogFile
bare f = record f { content = None }

abbrev bare_manifest : ManifestFile → ManifestFile
bare_manifest m = record m { content = None }

best_bare : (logs : List LogFile) (version : ℕ) → best_log (map bare logs) version ≡ option_map bare (best_log logs version)
best_bare logs version = best_map bare (has_version version) (has_version version) log_beats (λ f. refl) (λ f g. refl) logs

links_bare : (logs : List LogFile) (most version end : ℕ) → named_links (links most (map bare logs) version end) ≡ named_links (links most logs version end)
links_bare logs zero version end = refl
links_bare logs (suc most) version end =
    ap (λ o. named_links (cond (nat_le end version) (Some []) (o >>= λ f. links most (map bare logs) f.end end >>= λ rest. Some (record { file = f; from = version; to = f.end } ∷ rest)))) (best_bare logs version)
    ∙ go (nat_le end version) (best_log logs version) (λ f. links_bare logs most f.end end)
  where
    at : (f : LogFile) (a b : Option (List LogLink)) → named_links a ≡ named_links b → named_links (a >>= λ rest. Some (record { file = bare f; from = version; to = f.end } ∷ rest)) ≡ named_links (b >>= λ rest. Some (record { file = f; from = version; to = f.end } ∷ rest))
    at f None None e = refl
    at f None (Some b) e = cc
    at f (Some a) None e = cc
    at f (Some a) (Some b) e = let same : map link_of a ≡ map link_of b = cc in ap (λ (xs : List Link). Some (record { name = f.name; from = version; to = f.end } ∷ xs)) same

    go : (b : Bool) (o : Option LogFile) → ((f : LogFile) → named_links (links most (map bare logs) f.end end) ≡ named_links (links most logs f.end end)) → named_links (cond b (Some []) (option_map bare o >>= λ f. links most (map bare logs) f.end end >>= λ rest. Some (record { file = f; from = version; to = f.end } ∷ rest))) ≡ named_links (cond b (Some []) (o >>= λ f. links most logs f.end end >>= λ rest. Some (record { file = f; from = version; to = f.end } ∷ rest)))
    go true o ih = refl
    go false None ih = refl
    go false (Some f) ih = at f (links most (map bare logs) f.end end) (links most logs f.end end) (ih f)

logs_bare : (g : Grammars) (files : List File) → logs_named (map (λ file. file.name) files) ≡ map bare (log_files g files)
logs_bare g [] = refl
logs_bare g (f ∷ fs) = (λ i. as_named_log f.name (name_of f.name) ++ logs_bare g fs i) ∙ ap (λ (xs : List LogFile). xs ++ map bare (log_files g fs)) (go (name_of f.name)) ∙ sym (map-append bare (as_log g f.name f.bytes (name_of f.name)) (log_files g fs))
  where
    go : (said : Name) → as_named_log f.name said ≡ map bare (as_log g f.name f.bytes said)
    go (Log begin end ticket block) = refl
    go (Range snapshot version ticket block) = refl
    go (Manifest begin end size ticket) = refl
    go Unreliable = refl
    go Expired = refl
    go Other = refl

manifests_bare : (g : Grammars) (files : List File) → manifests_named (map (λ file. file.name) files) ≡ map bare_manifest (manifest_files g files)
manifests_bare g [] = refl
manifests_bare g (f ∷ fs) = map-append (λ m. m.file) (as_sealed f.name (name_of f.name)) (sealed_named (map (λ file. file.name) fs)) ∙ (λ i. map (λ m. m.file) (as_sealed f.name (name_of f.name)) ++ manifests_bare g fs i) ∙ ap (λ (xs : List ManifestFile). xs ++ map bare_manifest (manifest_files g fs)) (go (name_of f.name)) ∙ sym (map-append bare_manifest (as_manifest g f.name f.bytes (name_of f.name)) (manifest_files g fs))
  where
    go : (said : Name) → map (λ m. m.file) (as_sealed f.name said) ≡ map bare_manifest (as_manifest g f.name f.bytes said)
    go (Log begin end ticket block) = refl
    go (Range snapshot version ticket block) = refl
    go (Manifest begin end size ticket) = refl
    go Unreliable = refl
    go Expired = refl
    go Other = refl

is_some_links : (o : Option (List LogLink)) → is_some (named_links o) ≡ is_some o
is_some_links None = refl
is_some_links (Some ls) = refl

is_some_bare : (o : Option ManifestFile) → is_some (option_map bare_manifest o) ≡ is_some o
is_some_bare None = refl
is_some_bare (Some m) = refl

name_bare : (o : Option ManifestFile) → manifest_name (option_map bare_manifest o) ≡ manifest_name o
name_bare None = refl
name_bare (Some m) = refl

-- two folders with the same chains and the same unreliable end
module _ (a b : Folder) (same_end : a.unreliable ≡ b.unreliable) (chains : (from to : ℕ) → is_some (chain a from to) ≡ is_some (chain b from to)) where
  gives_same : (version : ℕ) (m : ManifestFile) → gives a version (bare_manifest m) ≡ gives b version m
  gives_same version m = λ i. nat_le m.end version && nat_le (same_end i) m.begin && (chains m.begin (version + 1) i || (m.begin == version && m.end == version))

  -- the chains say how far they go
  no_less : (x y : Folder) → ((from to : ℕ) → is_some (chain x from to) ≡ is_some (chain y from to)) → (begin : ℕ) → reached x.logs begin ≤ reached y.logs begin
  no_less x y h begin = (reach_law y begin (reached x.logs begin)).0 (sym (h begin (reached x.logs begin)) ∙ (reach_law x begin (reached x.logs begin)).1 (omega arith))

  reached_same : (begin : ℕ) → reached a.logs begin ≡ reached b.logs begin
  reached_same begin = let l = no_less a b chains begin in let k = no_less b a (λ from to. sym (chains from to)) begin in omega arith

  given_same : (m : ManifestFile) → given a (bare_manifest m) ≡ given b m
  given_same m = λ i. if nat_le (same_end i) m.begin && (nat_lt m.end (reached_same m.begin i) || m.begin == m.end) then Some (record { least = m.end; greatest = max m.end (reached_same m.begin i - 1) }) else None

  given_by_same : (ms : List ManifestFile) → given_by a (map bare_manifest ms) ≡ given_by b ms
  given_by_same [] = refl
  given_by_same (m ∷ ms) = λ i. wider (given_same m i) (given_by_same ms i)

  chosen_same : (version : ℕ) → a.manifests ≡ map bare_manifest b.manifests → chosen a version ≡ option_map bare_manifest (chosen b version)
  chosen_same version e = ap (best_of (gives a version) manifest_beats) e ∙ best_map bare_manifest (gives a version) (gives b version) manifest_beats (gives_same version) (λ m n. refl) b.manifests

names_of : (g : Grammars) (files : List File) (folder : Folder) → log_files g files ≡ folder.logs → manifest_files g files ≡ folder.manifests → AreNamesOf (map (λ file. file.name) files) folder
names_of g files folder logs manifests = record {
  chains = chains;
  manifest = λ version. ap manifest_name (chosen_is version) ∙ name_bare (chosen folder version);
  advertised = λ version. ap is_some (chosen_is version) ∙ is_some_bare (chosen folder version);
  bounds = ap (given_by named) manifests_are ∙ given_by_same named folder refl some_chains folder.manifests;
}
  where
    named : Folder
    named = folder_named (map (λ file. file.name) files) folder.unreliable

    chains : (from to : ℕ) → chain_named (map (λ file. file.name) files) from to ≡ named_links (chain folder from to)
    chains from to =
        ap (λ xs. named_links (links (to - from) xs from to)) (logs_bare g files)
        ∙ links_bare (log_files g files) (to - from) from to
        ∙ ap (λ xs. named_links (links (to - from) xs from to)) logs

    some_chains : (from to : ℕ) → is_some (chain (folder_named (map (λ file. file.name) files) folder.unreliable) from to) ≡ is_some (chain folder from to)
    some_chains from to = sym (is_some_links (chain (folder_named (map (λ file. file.name) files) folder.unreliable) from to)) ∙ ap is_some (chains from to) ∙ is_some_links (chain folder from to)

    manifests_are : manifests_named (map (λ file. file.name) files) ≡ map bare_manifest folder.manifests
    manifests_are = manifests_bare g files ∙ ap (map bare_manifest) manifests

    chosen_is : (version : ℕ) → chosen (folder_named (map (λ file. file.name) files) folder.unreliable) version ≡ option_map bare_manifest (chosen folder version)
    chosen_is version = chosen_same (folder_named (map (λ file. file.name) files) folder.unreliable) folder refl some_chains version manifests_are

pub names_law : NamesLaw
names_law g files folder e =
    let end = bind_some (unreliable_of files) _ folder e in
    let same : record { ranges = range_files g files; logs = log_files g files; manifests = manifest_files g files; unreliable = end.0 } ≡ folder = cc (end.2) in
    names_of g files folder (ap (λ (x : Folder). x.logs) same) (ap (λ (x : Folder). x.manifests) same)

-- ---- the best manifest and the bounds, one manifest after the other

module _ (folder : Folder) where
  abbrev best_among : ℕ → List ManifestFile → Option ManifestFile
  best_among version ms = best_of (gives folder version) manifest_beats ms

  same_tests : (b c : Bool) → (b ≡ true → c ≡ true) → (c ≡ true → b ≡ true) → b ≡ c
  same_tests true c f g = sym (f refl)
  same_tests false true f g = g refl
  same_tests false false f g = refl

  gives_by : (version : ℕ) (m : ManifestFile) → gives folder version m ≡ is_given (reached folder.logs) folder.unreliable m.begin m.end version
  gives_by version m = ap (λ b. nat_le m.end version && nat_le folder.unreliable m.begin && (b || (m.begin == version && m.end == version))) (same_tests (is_some (chain folder m.begin (version + 1))) (nat_lt version (reached folder.logs m.begin))
      (λ s. let l = (reach_law folder m.begin (version + 1)).0 s in lt-ltb version (reached folder.logs m.begin) (omega arith))
      (λ h. let l = ltb-true version (reached folder.logs m.begin) h in (reach_law folder m.begin (version + 1)).1 (omega arith)))

  manifest_is : (m : ManifestFile) (o : Option ManifestFile) (b : Bool) → cond b (first_of m.name m.end (seen_manifest o)) (seen_manifest o) ≡ seen_manifest (cond b (Some (joined manifest_beats o m)) o)
  manifest_is m None true = refl
  manifest_is m (Some y) true = go (comes_first m.end m.name y.end y.name)
    where
      go : (c : Bool) → cond {A = Option (Bytes × ℕ)} c (Some (m.name, m.end)) (Some (y.name, y.end)) ≡ Some ((cond c m y).name, (cond c m y).end)
      go true = refl
      go false = refl
  manifest_is m o false = refl

  pub better_last : (version : ℕ) (ms : List ManifestFile) (m : ManifestFile) → better_manifest (reached folder.logs) folder.unreliable version (seen_manifest (best_among version ms)) m ≡ seen_manifest (best_among version (ms ++ m ∷ []))
  better_last version ms m =
      ap (λ b. cond b (first_of m.name m.end (seen_manifest (best_among version ms))) (seen_manifest (best_among version ms))) (sym (gives_by version m))
      ∙ manifest_is m (best_among version ms) (gives folder version m)
      ∙ ap seen_manifest (sym (best_last (gives folder version) manifest_beats (by_end_and_name (λ m. m.end) (λ m. m.name)) ms m))

  given_last : (ms : List ManifestFile) (m : ManifestFile) → given_by folder (ms ++ m ∷ []) ≡ wider (given_by folder ms) (given folder m)
  given_last [] m = wider_none (given folder m)
  given_last (x ∷ xs) m = ap (wider (given folder x)) (given_last xs m) ∙ wider_assoc (given folder x) (given_by folder xs) (given folder m)

  pub given_more : (ms : List ManifestFile) (m : ManifestFile) → wider (given_by folder ms) (given_named (reached folder.logs) folder.unreliable m) ≡ given_by folder (ms ++ m ∷ [])
  given_more ms m = sym (given_last ms m)

-- ---- what the code's loop keeps

abbrev pub onward : List Link → Option (List Link) → Option (List Link)
onward so_far rest = rest >>= λ more. Some (so_far ++ more)

-- one link more
pub onward_step : (names : List Bytes) (so_far : List Link) (version to end : ℕ) (name : Bytes) → version < to → seen (best_log (logs_named names) version) ≡ Some (name, end) → onward (so_far ++ record { name = name; from = version; to = end } ∷ []) (chain_named names end to) ≡ onward so_far (chain_named names version to)
onward_step names so_far version to end name h e =
    go (chain_named names end to)
    ∙ sym (ap (onward so_far) (chain_step names version to ∙ ap (λ b. cond b (Some []) (seen (best_log (logs_named names) version) >>= λ x. chain_named names x.1 to >>= λ rest. Some (record { name = x.0; from = version; to = x.1 } ∷ rest))) (lt-leb to version h) ∙ ap (λ o. o >>= λ x. chain_named names x.1 to >>= λ rest. Some (record { name = x.0; from = version; to = x.1 } ∷ rest)) e))
  where
    go : (o : Option (List Link)) → onward (so_far ++ record { name = name; from = version; to = end } ∷ []) o ≡ onward so_far (o >>= λ rest. Some (record { name = name; from = version; to = end } ∷ rest))
    go None = refl
    go (Some rest) = ap Some (append_assoc so_far (record { name = name; from = version; to = end } ∷ []) rest)

-- ---- by the runs of versions in place of the logs

module _ (runs : List Run) (logs : List LogFile) (tells : (from : ℕ) → reach_in runs from ≡ reached logs from) (unreliable : ℕ) where
  pub given_told : (m : ManifestFile) → given_named (reach_in runs) unreliable m ≡ given_named (reached logs) unreliable m
  given_told m = λ i. given_named (λ from. tells from i) unreliable m

  pub better_told : (version : ℕ) (best : Option (Bytes × ℕ)) (m : ManifestFile) → better_manifest (reach_in runs) unreliable version best m ≡ better_manifest (reached logs) unreliable version best m
  better_told version best m = λ i. better_manifest (λ from. tells from i) unreliable version best m

-- ---- manifests by their names

-- one more behind those so far
pub manifests_more : (ms : List NamedManifest) (i : ℕ) (m : NamedManifest) → i < length ms → m ≡ get_or ms i m → manifests_of (take (i + 1) ms) ≡ manifests_of (take i ms) ++ manifest_of m ∷ []
manifests_more ms i m h e =
    ap manifests_of (take_item ms i m h e)
    ∙ ap (map (λ x. x.file)) (map-append size_of (take i ms) (m ∷ []))
    ∙ map-append (λ x. x.file) (sizes_of (take i ms)) (size_of m ∷ [])

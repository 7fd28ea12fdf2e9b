-- Which expires are refused, told by what a folder advertises.
use Rattle.std.proofs.Common.{◌≡◌, ℕ, max, ◌+◌, ◌<◌, ◌≤◌, Bool, true, false, not, ◌&&◌, ◌||◌, ◌==◌, nat_le, List, [], ◌∷◌, ◌++◌, map, Option, Some, None, is_some, Ok, Err, ◌⊎◌, inl, inr, refl, sym, ap, ◌∙◌, subst, arith}
use Rattle.std.proofs.lemmas.Bool.{false_from_ne_true, ltb-true, ltb-false}
use Rattle.fb_bytes.specs.Bytes.{Bytes}
use Rattle.fb_bytes.specs.Options.{IsIn}
use Rattle.fb_outside.specs.declared.File.{File}
use Rattle.file_names.specs.declared.Name.{Name}
use Rattle.file_names.specs.declared.Name.TheVariants.{Range, Log, Manifest, Unreliable, Expired, Other}
use Rattle.file_names.specs.Reading.{name_of}
use Rattle.container_view.specs.Folder.{ManifestFile, Folder}
use Rattle.container_view.specs.Chain.{LogLink, chain}
use Rattle.container_view.specs.Advertised.{gives, is_advertised}
use Rattle.container_view.specs.declared.Bounds.{Bounds}
use Rattle.container_view.specs.Bounds.{AreBounds, advertised_bounds}
use Rattle.container_view.specs.Description.{greatest_of}
use Rattle.container_view.specs.Files.{Grammars, manifest_file, as_manifest, manifest_files, unreliable_of, folder_of}
use Rattle.container_view.specs.Names.{as_sealed, sealed_named, manifests_named, folder_named, named_links}
use Rattle.container_view.proofs.Names.{names_law}
use Rattle.container_view.proofs.Reached.{bounds_law}
use Rattle.container_view.proofs.Whole.{chosen_law}
use Rattle.fb_bytes.proofs.Options.{bind_some}
use Rattle.expire_core.specs.declared.expiring.ExpireFault.TheVariants.{CannotExpire}
use Rattle.expire_core.specs.Plan.{raised, left_of, is_short}
use Rattle.expire_core.specs.Expiry.{Expiry, expiry_of}
use Rattle.expire_core.specs.Laws.{raised_to, IsGreatest, IsShort, HasWanted, Refuses, RefusalLaw}
use Rattle.expire_core.proofs.Stays.{both_ways, found}
use Rattle.expire_core.proofs.Telling.{names_of, falls_short, tells, told_short}
use Rattle.expire_core.proofs.Deleting.{unreliable_is}

-- ---- names tell the manifests

-- each manifest of the first list has one with its versions in the second
abbrev AreAmong : List ManifestFile → List ManifestFile → Type 0
AreAmong few many = (m : ManifestFile) → IsIn m few → (n : ManifestFile) × IsIn n many × (n.begin ≡ m.begin) × (n.end ≡ m.end)

named_among : (g : Grammars) (files : List File) → AreAmong (manifests_named (names_of files)) (manifest_files g files)
named_among g [] m i = absurd i
named_among g (f ∷ fs) m i = go (name_of f.name) (named_among g fs m) i
  where
    go : (said : Name) → (IsIn m (manifests_named (names_of fs)) → (n : ManifestFile) × IsIn n (manifest_files g fs) × (n.begin ≡ m.begin) × (n.end ≡ m.end)) → IsIn m (map (λ x. x.file) (as_sealed f.name said ++ sealed_named (names_of fs))) → (n : ManifestFile) × IsIn n (as_manifest g f.name f.bytes said ++ manifest_files g fs) × (n.begin ≡ m.begin) × (n.end ≡ m.end)
    go (Manifest begin end size ticket) ih (inl e) = (manifest_file g f.name f.bytes (Manifest begin end size ticket) begin end, inl refl, sym (ap (λ (x : ManifestFile). x.begin) e), sym (ap (λ (x : ManifestFile). x.end) e))
    go (Manifest begin end size ticket) ih (inr i) = let w = ih i in (w.0, inr w.1, w.2, w.3)
    go (Range snapshot version ticket block) ih i = ih i
    go (Log begin end ticket block) ih i = ih i
    go Unreliable ih i = ih i
    go Expired ih i = ih i
    go Other ih i = ih i

files_among : (g : Grammars) (files : List File) → AreAmong (manifest_files g files) (manifests_named (names_of files))
files_among g [] m i = absurd i
files_among g (f ∷ fs) m i = go (name_of f.name) (files_among g fs m) i
  where
    go : (said : Name) → (IsIn m (manifest_files g fs) → (n : ManifestFile) × IsIn n (manifests_named (names_of fs)) × (n.begin ≡ m.begin) × (n.end ≡ m.end)) → IsIn m (as_manifest g f.name f.bytes said ++ manifest_files g fs) → (n : ManifestFile) × IsIn n (map (λ x. x.file) (as_sealed f.name said ++ sealed_named (names_of fs))) × (n.begin ≡ m.begin) × (n.end ≡ m.end)
    go (Manifest begin end size ticket) ih (inl e) = (record { name = f.name; begin = begin; end = end; content = None }, inl refl, sym (ap (λ (x : ManifestFile). x.begin) e), sym (ap (λ (x : ManifestFile). x.end) e))
    go (Manifest begin end size ticket) ih (inr i) = let w = ih i in (w.0, inr w.1, w.2, w.3)
    go (Range snapshot version ticket block) ih i = ih i
    go (Log begin end ticket block) ih i = ih i
    go Unreliable ih i = ih i
    go Expired ih i = ih i
    go Other ih i = ih i

-- ---- two folders with the same unreliable end, the same chains, and manifests alike

module _ (a b : Folder) (end : a.unreliable ≡ b.unreliable) (chains : (from to : ℕ) → is_some (chain a from to) ≡ is_some (chain b from to)) where
  gives_alike : (version : ℕ) (m n : ManifestFile) → m.begin ≡ n.begin → m.end ≡ n.end → gives a version m ≡ gives b version n
  gives_alike version m n p q =
      (λ i. nat_le m.end version && nat_le (end i) m.begin && (chains m.begin (version + 1) i || (m.begin == version && m.end == version)))
      ∙ (λ i. nat_le (q i) version && nat_le b.unreliable (p i) && (is_some (chain b (p i) (version + 1)) || (p i == version && q i == version)))

advertised_among : (a b : Folder) → a.unreliable ≡ b.unreliable → ((from to : ℕ) → is_some (chain a from to) ≡ is_some (chain b from to)) → AreAmong a.manifests b.manifests → (version : ℕ) → is_advertised a version ≡ true → is_advertised b version ≡ true
advertised_among a b end chains among version e =
    let w = found a version e in
    let n = among w.0 w.1 in
    chosen_law.exists b version n.0 n.1 (sym (gives_alike a b end chains version w.0 n.0 (sym n.2) (sym n.3)) ∙ w.2)

some_named : (o : Option (List LogLink)) → is_some (named_links o) ≡ is_some o
some_named None = refl
some_named (Some ls) = refl

-- what the names advertise with an unreliable end is what the folder does with it
module _ (g : Grammars) (files : List File) (folder : Folder) (d : folder_of g files ≡ Some folder) (end : ℕ) where
  abbrev named : Folder
  named = folder_named (names_of files) end

  manifests_are : manifest_files g files ≡ folder.manifests
  manifests_are = let n = bind_some (unreliable_of files) _ folder d in ap (λ (o : Option Folder). list_of o) n.2
    where
      list_of : Option Folder → List ManifestFile
      list_of None = []
      list_of (Some x) = x.manifests

  chains_are : (from to : ℕ) → is_some (chain named from to) ≡ is_some (chain (raised_to end folder) from to)
  chains_are from to = sym (some_named (chain named from to)) ∙ ap is_some ((names_law g files folder d).chains from to) ∙ some_named (chain folder from to)

  pub named_same : (version : ℕ) → is_advertised named version ≡ is_advertised (raised_to end folder) version
  named_same version = both_ways _ _
      (advertised_among named (raised_to end folder) refl chains_are (subst (AreAmong (manifests_named (names_of files))) manifests_are (named_among g files)) version)
      (advertised_among (raised_to end folder) named refl (λ from to. sym (chains_are from to)) (subst (λ (ms : List ManifestFile). AreAmong ms (manifests_named (names_of files))) manifests_are (files_among g files)) version)

-- ---- what is left

greatest_left : (folder : Folder) (bounds : Option Bounds) → AreBounds folder bounds → IsGreatest folder (greatest_of bounds)
greatest_left folder None h = h
greatest_left folder (Some bounds) h = (h.greatest, λ version e. (h.between version e).1)

falls : (folder : Folder) (left : Option ℕ) (wanted : ℕ) → IsGreatest folder left → is_short wanted left ≡ true → IsShort folder wanted
falls folder None wanted h s version l = h version
falls folder (Some left) wanted h s version l =
    false_from_ne_true (is_advertised folder version) (λ e. let below : left < wanted = ltb-true left wanted s in let most : version ≤ left = h.1 version e in absurd (omega arith))

has : (folder : Folder) (left : Option ℕ) (wanted : ℕ) → IsGreatest folder left → is_short wanted left ≡ false → HasWanted folder wanted
has folder None wanted h s = absurd cc
has folder (Some left) wanted h s = (left, ltb-false left wanted s, h.0)

moved_greatest : (a b : Folder) → ((version : ℕ) → is_advertised a version ≡ is_advertised b version) → (left : Option ℕ) → IsGreatest a left → IsGreatest b left
moved_greatest a b same None h = λ version. sym (same version) ∙ h version
moved_greatest a b same (Some left) h = (sym (same left) ∙ h.0, λ version e. h.1 version (same version ∙ e))

left_is : (g : Grammars) (files : List File) (folder : Folder) (end : ℕ) → folder_of g files ≡ Some folder → IsGreatest (raised_to end folder) (left_of (names_of files) end)
left_is g files folder end d =
    moved_greatest (folder_named (names_of files) end) (raised_to end folder) (named_same g files folder d end) (left_of (names_of files) end)
    (greatest_left (folder_named (names_of files) end) (advertised_bounds (folder_named (names_of files) end)) (bounds_law (folder_named (names_of files) end)))

not_forced : (force s : Bool) → (not force && s) ≡ false → (force ≡ true) ⊎ (s ≡ false)
not_forced true s e = inl refl
not_forced false s e = inr e

pub refusal_law : RefusalLaw
refusal_law = record { refused = refused; allowed = allowed }
  where
    refused : (g : Grammars) (files : List File) (folder : Folder) (cutoff wanted : ℕ) (force : Bool) (told : ℕ) (left : Option ℕ) → folder_of g files ≡ Some folder → expiry_of files cutoff wanted force ≡ Err (CannotExpire told left) → Refuses (raised_to (raised cutoff (Some folder.unreliable)) folder) wanted force told left
    refused g files folder cutoff wanted force told left d e =
        let s = told_short files cutoff wanted force told left e in
        let end : raised cutoff s.listing.unreliable ≡ raised cutoff (Some folder.unreliable) = ap (max cutoff) (sym (unreliable_is g files folder s.listing.unreliable d s.is.unreliable)) in
        let is : left ≡ left_of (names_of files) (raised cutoff (Some folder.unreliable)) = s.left_is ∙ (λ i. left_of (s.is.names i) (end i)) in
        let greatest : IsGreatest (raised_to (raised cutoff (Some folder.unreliable)) folder) left = subst (IsGreatest (raised_to (raised cutoff (Some folder.unreliable)) folder)) (sym is) (left_is g files folder (raised cutoff (Some folder.unreliable)) d) in
        record {
          unforced = s.unforced;
          wanted_is = s.told_is;
          short = falls (raised_to (raised cutoff (Some folder.unreliable)) folder) left wanted greatest (ap (is_short wanted) s.left_is ∙ s.short);
          greatest = greatest;
        }

    allowed : (g : Grammars) (files : List File) (folder : Folder) (cutoff wanted : ℕ) (force : Bool) (expiry : Expiry) → folder_of g files ≡ Some folder → expiry_of files cutoff wanted force ≡ Ok expiry → (force ≡ true) ⊎ HasWanted (raised_to expiry.plan.unreliable folder) wanted
    allowed g files folder cutoff wanted force expiry d e =
        let t = tells files cutoff wanted force expiry e in
        go t.listing.names t.listing.unreliable t.is.names t.by.end (not_forced force (falls_short t.listing.names t.listing.unreliable cutoff wanted) t.by.enough)
      where
        go : (names : List Bytes) (unreliable : Option ℕ) → names ≡ names_of files → expiry.plan.unreliable ≡ raised cutoff unreliable → (force ≡ true) ⊎ (falls_short names unreliable cutoff wanted ≡ false) → (force ≡ true) ⊎ HasWanted (raised_to expiry.plan.unreliable folder) wanted
        go names unreliable is end (inl f) = inl f
        go names unreliable is end (inr enough) =
            inr (has (raised_to expiry.plan.unreliable folder) (left_of (names_of files) expiry.plan.unreliable) wanted (left_is g files folder expiry.plan.unreliable d)
            (ap (is_short wanted) (λ i. left_of (sym is i) (end i)) ∙ enough))

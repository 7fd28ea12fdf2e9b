-- An honest container stays honest through an expire.
use Rattle.std.proofs.Common.{◌≡◌, ℕ, ◌<◌, ◌≤◌, true, List, [], ◌∷◌, ◌++◌, map, decimal, Some, inl, refl, sym, ap, ◌∙◌, subst, arith}
use Rattle.std.proofs.lemmas.Bool.{ltb-true}
use Rattle.fb_bytes.specs.Bytes.{Bytes}
use Rattle.fb_bytes.specs.Limits.{most_number}
use Rattle.fb_outside.specs.declared.File.{File}
use Rattle.fb_outside.specs.Files.{AreFiles, with_file, without_file}
use Rattle.file_names.specs.declared.Name.{Name}
use Rattle.file_names.specs.declared.Name.TheVariants.{Range, Log, Manifest, Unreliable, Expired, Other}
use Rattle.file_names.specs.Spelling.{unreliable_text, expired_text}
use Rattle.file_names.specs.Reading.{name_of}
use Rattle.file_names.proofs.Names.{name_again}
use Rattle.container_view.specs.Folder.{Folder}
use Rattle.container_view.specs.Files.{Grammars, whole_name, folder_in}
use Rattle.container_view.specs.Honest.{IsHonestStore, IsHonestFile, MayGo, IsProperty}
use Rattle.container_view.specs.Law.{Source}
use Rattle.container_view.proofs.Honest.{honest_store_law}
use Rattle.container_view.proofs.Lookups.{file_law}
use Rattle.container_view.proofs.Stores.{store_law}
use Rattle.expire_core.specs.Doomed.{is_doomed}
use Rattle.expire_core.specs.Changes.{Change, changed, all_changed, setting, deletion}
use Rattle.expire_core.specs.Laws.{HonestLaw, raised_to}
use Rattle.expire_core.proofs.Deleting.{AreDoomed, delete_one, none_left, number_read, raised_first, ends}

unreliable_name : name_of unreliable_text ≡ Unreliable
unreliable_name = name_again unreliable_text Unreliable refl

expired_name : name_of expired_text ≡ Expired
expired_name = name_again expired_text Expired refl

may_go : (folder : Folder) (cutoff : ℕ) (name : Bytes) (said : Name) → is_doomed cutoff said ≡ true → cutoff ≤ folder.unreliable → MayGo folder name said
may_go folder cutoff name (Range snapshot version ticket block) d h = let below : version < cutoff = ltb-true version cutoff d in inl (omega arith)
may_go folder cutoff name (Log begin end ticket block) d h = tt
may_go folder cutoff name (Manifest begin end size ticket) d h = tt
may_go folder cutoff name Unreliable d h = absurd cc
may_go folder cutoff name Expired d h = absurd cc
may_go folder cutoff name Other d h = absurd cc

module _ (g : Grammars) (s : Source) (container : Bytes) where
  abbrev Store : List File → Type 0
  Store files = IsHonestStore g s container files

  -- the folder of an honest store is the one that its files have
  folder_is : (files : List File) (folder : Folder) (h : Store files) → folder_in g container files ≡ Some folder → h.folder ≡ folder
  folder_is files folder h d = let both : Some h.folder ≡ Some folder = sym h.decoded ∙ d in cc

  honest_raise : (files : List File) (folder : Folder) (end : ℕ) → AreFiles files → folder_in g container files ≡ Some folder → folder.unreliable ≤ end → end ≤ most_number → Store files → Store (with_file files (whole_name container unreliable_text) (decimal end))
  honest_raise files folder end r d low within h =
      let still : h.folder.unreliable ≡ folder.unreliable = ap (λ (x : Folder). x.unreliable) (folder_is files folder h d) in
      honest_store_law.set g s container (whole_name container unreliable_text) unreliable_text (decimal end) files h r (store_law.whole_in container unreliable_text)
      (subst IsProperty (sym unreliable_name) tt)
      (subst (IsHonestFile g s h.folder unreliable_text (decimal end)) (sym unreliable_name) (end, number_read end within, omega arith))

  honest_last : (files : List File) (end : ℕ) → AreFiles files → end ≤ most_number → Store files → Store (with_file files (whole_name container expired_text) (decimal end))
  honest_last files end r within h =
      honest_store_law.set g s container (whole_name container expired_text) expired_text (decimal end) files h r (store_law.whole_in container expired_text)
      (subst IsProperty (sym expired_name) tt)
      (subst (IsHonestFile g s h.folder expired_text (decimal end)) (sym expired_name) (end, number_read end within))

  honest_through : (cutoff last : ℕ) → last ≤ most_number → (names : List Bytes) (files : List File) (folder : Folder) → AreFiles files → folder_in g container files ≡ Some folder → cutoff ≤ folder.unreliable → AreDoomed cutoff names → Store files → (made left : List Change) → (map (deletion container) names ++ setting container expired_text last ∷ []) ≡ made ++ left → Store (all_changed made files)
  honest_through cutoff last within names files folder r d low a h [] left e = h
  honest_through cutoff last within [] files folder r d low a h (change ∷ made) left e =
      let head : setting container expired_text last ≡ change = cc in
      let tail : [] ≡ made ++ left = cc in
      let now : with_file files (whole_name container expired_text) (decimal last) ≡ all_changed made (changed change files) = ap (λ (x : Change). changed x files) head ∙ ap (λ (xs : List Change). all_changed xs (changed change files)) (sym (none_left g container made left tail)) in
      subst Store now (honest_last files last r within h)
  honest_through cutoff last within (name ∷ names) files folder r d low a h (change ∷ made) left e =
      let head : deletion container name ≡ change = cc in
      let tail : (map (deletion container) names ++ setting container expired_text last ∷ []) ≡ made ++ left = cc in
      let one = delete_one g container cutoff name files folder r d low a.0 in
      let still : cutoff ≤ one.folder.unreliable = subst (λ n. cutoff ≤ n) (sym one.keeps.unreliable) low in
      let may = subst (λ (x : Folder). MayGo x name (name_of name)) (sym (folder_is files folder h d)) (may_go folder cutoff name (name_of name) a.0 low) in
      let after = honest_store_law.delete g s container (whole_name container name) name files h r (store_law.whole_in container name) may in
      subst (λ (x : Change). Store (all_changed made (changed x files))) head
      (honest_through cutoff last within names (without_file files (whole_name container name)) one.folder (file_law.files_deleted files (whole_name container name) r) one.decoded still a.1 after made left tail)

pub honest_law : HonestLaw
honest_law g s container files folder expiry e h [] left is = h
honest_law g s container files folder expiry e h (change ∷ made) left is =
    let n = ends g container files folder expiry e in
    let head : setting container unreliable_text expiry.plan.unreliable ≡ change = cc in
    let tail : (map (deletion container) expiry.plan.names ++ setting container expired_text expiry.expired ∷ []) ≡ made ++ left = cc in
    subst (λ (x : Change). IsHonestStore g s container (all_changed made (changed x files))) head
    (honest_through g s container e.cutoff expiry.expired n.expired expiry.plan.names (with_file files (whole_name container unreliable_text) (decimal expiry.plan.unreliable)) (raised_to expiry.plan.unreliable folder)
    (file_law.files_put files (whole_name container unreliable_text) (decimal expiry.plan.unreliable) e.ordered)
    (raised_first g container files folder expiry.plan.unreliable e.ordered e.decoded n.unreliable)
    n.above n.names
    (honest_raise g s container files folder expiry.plan.unreliable e.ordered e.decoded n.no_lower n.unreliable h)
    made left tail)

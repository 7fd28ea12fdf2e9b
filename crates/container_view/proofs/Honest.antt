-- Steps on a store's files that keep a container honest.
use Rattle.std.proofs.Common.{◌≡◌, ℕ, ◌<◌, Bool, true, false, List, [], ◌∷◌, ◌++◌, Option, Some, None, inl, inr, refl, sym, ap, ◌∙◌, subst}
use Rattle.std.specs.List.{AllByRecursion}
use Rattle.fb_bytes.specs.Bytes.{Bytes, is_same}
use Rattle.fb_outside.specs.declared.File.{File}
use Rattle.fb_outside.specs.Files.{AreFiles, file_of, with_file, without_file}
use Rattle.file_names.specs.declared.Name.{Name}
use Rattle.file_names.specs.declared.Name.TheVariants.{Range, Log, Manifest, Unreliable, Expired, Other}
use Rattle.file_names.specs.Spelling.{spelling, is_other, unreliable_text, expired_text}
use Rattle.file_names.specs.Reading.{name_of}
use Rattle.file_names.proofs.Names.{name_again, name_found}
use Rattle.file_names.proofs.Numbers.{after_found}
use Rattle.fb_bytes.proofs.Order.{same_eq, same_itself}
use Rattle.mutations.proofs.Basics.{not_both}
use Rattle.container_view.specs.Folder.{Folder}
use Rattle.container_view.specs.Law.{Source, IsHonest}
use Rattle.container_view.specs.Changes.{PutRange, PutLog, PutManifest, Raise, DropRange, DropUnlisted, DropLog, DropManifest, IsListedNowhere, Opens, no_files}
use Rattle.fb_bytes.specs.Options.{◌>>=◌}
use Rattle.container_view.specs.Property.{property_in}
use Rattle.container_view.specs.Files.{Grammars, whole_name, name_in, inside, folder_in}
use Rattle.container_view.specs.Stores.{OneMore}
use Rattle.container_view.specs.Honest.{HasExpired, IsHonestStore, IsHonestFile, MayGo, IsUnlisted, IsLogOrManifest, IsProperty, HonestStoreLaw}
use Rattle.container_view.proofs.Faithful.{container_law}
use Rattle.container_view.proofs.Kept.{growth_law, change_law, always_honest}
use Rattle.container_view.proofs.Stores.{file_inside, store_law}
use Rattle.container_view.proofs.Stripped.{by_whole}
use Rattle.container_view.proofs.Files.{without_none}
use Rattle.container_view.proofs.Lookups.{file_law, listed_nowhere}

is_unreliable : (name : Bytes) → is_same name unreliable_text ≡ true → name_of name ≡ Unreliable
is_unreliable name e = ap name_of (same_eq name unreliable_text e) ∙ name_again unreliable_text Unreliable refl

is_expired : (name : Bytes) → is_same name expired_text ≡ true → name_of name ≡ Expired
is_expired name e = ap name_of (same_eq name expired_text e) ∙ name_again expired_text Expired refl

-- ---- the expired end

-- a number, or none, by the bytes of the file
from_bytes : (container : Bytes) (files : List File) (found : Option Bytes) → file_of (inside container files) expired_text ≡ found → (number : Option ℕ) × (property_in found ≡ Some number) → HasExpired container files
from_bytes container files found e p = (p.0, ap property_in e ∙ p.1)

-- the file is as it was
still : (container : Bytes) (files others : List File) → file_of (inside container others) expired_text ≡ file_of (inside container files) expired_text → HasExpired container files → HasExpired container others
still container files others e p = from_bytes container others (file_of (inside container files) expired_text) e p

-- by its whole name
expired_whole : (container : Bytes) (files : List File) → file_of (inside container files) expired_text ≡ file_of files (whole_name container expired_text)
expired_whole container files = by_whole container expired_text (whole_name container expired_text) files refl

-- another file comes or goes
other_put : (container whole bytes : Bytes) (files : List File) → is_same whole (whole_name container expired_text) ≡ false → HasExpired container files → HasExpired container (with_file files whole bytes)
other_put container whole bytes files n p =
    still container files (with_file files whole bytes)
    (expired_whole container (with_file files whole bytes) ∙ file_law.put_other files whole bytes (whole_name container expired_text) n ∙ sym (expired_whole container files))
    p

other_gone : (container whole : Bytes) (files : List File) → is_same whole (whole_name container expired_text) ≡ false → HasExpired container files → HasExpired container (without_file files whole)
other_gone container whole files n p =
    still container files (without_file files whole)
    (expired_whole container (without_file files whole) ∙ file_law.deleted_other files whole (whole_name container expired_text) n ∙ sym (expired_whole container files))
    p

-- a file that isn't in the container
not_whole : (container whole : Bytes) → name_in container whole ≡ None → is_same whole (whole_name container expired_text) ≡ false
not_whole container whole n = go (is_same whole (whole_name container expired_text)) refl
  where
    go : (b : Bool) → is_same whole (whole_name container expired_text) ≡ b → b ≡ false
    go true e = let both : None ≡ Some expired_text = sym n ∙ ap (name_in container) (same_eq _ _ e) ∙ store_law.whole_in container expired_text in cc
    go false e = refl

-- the name that says Unreliable is that of the property
unreliable_is : (name : Bytes) → name_of name ≡ Unreliable → name ≡ unreliable_text
unreliable_is name e =
    let spelled : spelling (name_of name) ≡ Some name = name_found name (ap is_other e) in
    let same : Some unreliable_text ≡ Some name = sym (ap spelling e) ∙ spelled in
    let texts : unreliable_text ≡ name = cc in
    sym texts

module _ (g : Grammars) (s : Source) where
  -- ---- one file more, one file less

  comes : (name bytes : Bytes) (said : Name) (few many : Folder) → AllByRecursion (λ file. is_same file.name name ≡ false) few.ranges → IsHonestFile g s few name bytes said → (said ≡ Unreliable → ⊥) → OneMore g name bytes said few many → IsHonest s few → IsHonest s many
  comes name bytes (Range snapshot version ticket block) few many fresh good u m h = change_law s few many (PutRange _ m.0 good fresh m.1 m.2) h
  comes name bytes (Log begin end ticket block) few many fresh good u m h = change_law s few many (PutLog _ m.0 good m.1 m.2) h
  comes name bytes (Manifest begin end size ticket) few many fresh good u m h = change_law s few many (PutManifest _ m.0 good m.1 m.2) h
  comes name bytes Unreliable few many fresh good u m h = absurd (u refl)
  comes name bytes Expired few many fresh good u m h = subst (IsHonest s) (sym m) h
  comes name bytes Other few many fresh good u m h = subst (IsHonest s) (sym m) h

  goes : (name bytes : Bytes) (said : Name) (few many : Folder) → MayGo many name said → OneMore g name bytes said few many → IsHonest s many → IsHonest s few
  goes name bytes (Range snapshot version ticket block) few many (inl old) m h = change_law s (record few { ranges = m.0 }) few (DropRange _ few.ranges (subst (λ (x : Folder). version < x.unreliable) m.2 old) m.1 refl) (subst (IsHonest s) m.2 h)
  goes name bytes (Range snapshot version ticket block) few many (inr nowhere) m h = change_law s (record few { ranges = m.0 }) few (DropUnlisted _ few.ranges (subst (λ (x : Folder). IsListedNowhere x name) m.2 nowhere) m.1 refl) (subst (IsHonest s) m.2 h)
  goes name bytes (Log begin end ticket block) few many old m h = change_law s (record few { logs = m.0 }) few (DropLog _ few.logs m.1 refl) (subst (IsHonest s) m.2 h)
  goes name bytes (Manifest begin end size ticket) few many old m h = change_law s (record few { manifests = m.0 }) few (DropManifest _ few.manifests m.1 refl) (subst (IsHonest s) m.2 h)
  goes name bytes Unreliable few many old m h = absurd old
  goes name bytes Expired few many old m h = subst (IsHonest s) m h
  goes name bytes Other few many old m h = subst (IsHonest s) m h

  -- what a file owes the folder, it owes it without an old file of its name
  owes_less : (name bytes old : Bytes) (said : Name) (few many : Folder) → (said ≡ Unreliable → ⊥) → OneMore g name old said few many → IsHonestFile g s many name bytes said → IsHonestFile g s few name bytes said
  owes_less name bytes old (Range snapshot version ticket block) few many u m good = good
  owes_less name bytes old (Log begin end ticket block) few many u m good = good
  owes_less name bytes old (Manifest begin end size ticket) few many u m good = subst (λ (x : Folder). IsHonestFile g s x name bytes (Manifest begin end size ticket)) m.2 good
  owes_less name bytes old Unreliable few many u m good = absurd (u refl)
  owes_less name bytes old Expired few many u m good = good
  owes_less name bytes old Other few many u m good = tt

  may_go : (folder : Folder) (name : Bytes) (said : Name) → (said ≡ Unreliable → ⊥) → IsListedNowhere folder name → MayGo folder name said
  may_go folder name (Range snapshot version ticket block) u nowhere = inr nowhere
  may_go folder name (Log begin end ticket block) u nowhere = tt
  may_go folder name (Manifest begin end size ticket) u nowhere = tt
  may_go folder name Unreliable u nowhere = absurd (u refl)
  may_go folder name Expired u nowhere = tt
  may_go folder name Other u nowhere = tt

  beside_may_go : (folder : Folder) (name : Bytes) (said : Name) → IsLogOrManifest said → MayGo folder name said
  beside_may_go folder name (Range snapshot version ticket block) b = absurd b
  beside_may_go folder name (Log begin end ticket block) b = tt
  beside_may_go folder name (Manifest begin end size ticket) b = tt
  beside_may_go folder name Unreliable b = absurd b
  beside_may_go folder name Expired b = absurd b
  beside_may_go folder name Other b = absurd b

  -- the range files and the unreliable end of both folders are the same
  abbrev Keeps : Folder → Folder → Type 0
  Keeps a b = (b.ranges ≡ a.ranges) × (b.unreliable ≡ a.unreliable)

  beside_keeps : (name bytes : Bytes) (said : Name) (few many : Folder) → IsLogOrManifest said → OneMore g name bytes said few many → Keeps few many
  beside_keeps name bytes (Range snapshot version ticket block) few many b m = absurd b
  beside_keeps name bytes (Log begin end ticket block) few many b m = (ap (λ (x : Folder). x.ranges) m.2, ap (λ (x : Folder). x.unreliable) m.2)
  beside_keeps name bytes (Manifest begin end size ticket) few many b m = (ap (λ (x : Folder). x.ranges) m.2, ap (λ (x : Folder). x.unreliable) m.2)
  beside_keeps name bytes Unreliable few many b m = absurd b
  beside_keeps name bytes Expired few many b m = absurd b
  beside_keeps name bytes Other few many b m = absurd b

  module _ (container whole name : Bytes) (is_in : name_in container whole ≡ Some name) where
    abbrev Store : List File → Type 0
    Store files = IsHonestStore g s container files

    whole_is : whole ≡ whole_name container name
    whole_is = after_found (container ++ 47 ∷ []) whole name is_in

    not_expired : is_same name expired_text ≡ false → is_same whole (whole_name container expired_text) ≡ false
    not_expired e = ap (λ x. is_same x (whole_name container expired_text)) whole_is ∙ file_law.whole_inj container name expired_text ∙ e

    here : (files : List File) → is_same name expired_text ≡ true → file_of (inside container files) expired_text ≡ file_of files whole
    here files e = file_inside container whole expired_text files (is_in ∙ ap Some (same_eq name expired_text e))

    -- a file comes that is honest, or one goes
    expired_put : (bytes : Bytes) (files : List File) (folder : Folder) → IsHonestFile g s folder name bytes (name_of name) → HasExpired container files → HasExpired container (with_file files whole bytes)
    expired_put bytes files folder good p = go (is_same name expired_text) refl
      where
        go : (b : Bool) → is_same name expired_text ≡ b → HasExpired container (with_file files whole bytes)
        go true e =
            let end = subst (IsHonestFile g s folder name bytes) (is_expired name e) good in
            from_bytes container (with_file files whole bytes) (Some bytes) (here (with_file files whole bytes) e ∙ file_law.put_same files whole bytes) (Some end.0, ap (λ o. o >>= λ n. Some (Some n)) end.1)
        go false e = other_put container whole bytes files (not_expired e) p

    expired_gone : (files : List File) → HasExpired container files → HasExpired container (without_file files whole)
    expired_gone files p = go (is_same name expired_text) refl
      where
        go : (b : Bool) → is_same name expired_text ≡ b → HasExpired container (without_file files whole)
        go true e = from_bytes container (without_file files whole) None (here (without_file files whole) e ∙ file_law.deleted_same files whole) (None, refl)
        go false e = other_gone container whole files (not_expired e) p

    not_said : is_same name unreliable_text ≡ false → name_of name ≡ Unreliable → ⊥
    not_said other e = not_both (ap (λ x. is_same x unreliable_text) (unreliable_is name e) ∙ same_itself unreliable_text) other

    -- the same files, so the same folder
    abbrev same_files : (files others : List File) → others ≡ files → Store files → Store others
    same_files files others e h = record { folder = h.folder; decoded = ap (folder_in g container) e ∙ h.decoded; honest = h.honest; expired = subst (HasExpired container) (sym e) h.expired }

    more : (bytes : Bytes) (files : List File) (h : Store files) → is_same name unreliable_text ≡ false → file_of files whole ≡ None → IsHonestFile g s h.folder name bytes (name_of name) → (after : Store (with_file files whole bytes)) × OneMore g name bytes (name_of name) h.folder after.folder
    more bytes files h other none good =
        let m = store_law.put g container whole name bytes files h.folder (record { is_in = is_in; other = other }) none h.decoded in (
          record {
            folder = m.0;
            decoded = m.1;
            honest = comes name bytes (name_of name) h.folder m.0 (store_law.fresh g container whole name files h.folder is_in none h.decoded) good (not_said other) m.2 h.honest;
            expired = expired_put bytes files h.folder good h.expired;
          },
          m.2,
        )

    less : (bytes : Bytes) (files : List File) (h : Store files) → is_same name unreliable_text ≡ false → AreFiles files → file_of files whole ≡ Some bytes → MayGo h.folder name (name_of name) → (after : Store (without_file files whole)) × OneMore g name bytes (name_of name) after.folder h.folder
    less bytes files h other r some may =
        let m = store_law.delete g container whole name bytes files h.folder r (record { is_in = is_in; other = other }) some h.decoded in
        (record { folder = m.0; decoded = m.1; honest = goes name bytes (name_of name) m.0 h.folder may m.2 h.honest; expired = expired_gone files h.expired }, m.2)

    -- another file in the place of an old one: without the old one, and then with the new one
    record Exchanges (old bytes : Bytes) (few before after : Folder) : Type 0 where
      without : OneMore g name old (name_of name) few before
      with_it : OneMore g name bytes (name_of name) few after

    exchange : (old bytes : Bytes) (files : List File) (h : Store files) → is_same name unreliable_text ≡ false → AreFiles files → file_of files whole ≡ Some old → MayGo h.folder name (name_of name) → IsHonestFile g s h.folder name bytes (name_of name) → (after : Store (with_file files whole bytes)) × (few : Folder) × Exchanges old bytes few h.folder after.folder
    exchange old bytes files h other r some may good =
        let few = less old files h other r some may in
        let many = more bytes (without_file files whole) few.0 other (without_none whole files) (owes_less name bytes old (name_of name) few.0.folder h.folder (not_said other) few.1 good) in
        (same_files (with_file (without_file files whole) whole bytes) (with_file files whole bytes) (store_law.replace whole bytes files r) many.0, few.0.folder, record { without = few.1; with_it = many.1 })

    raise : (bytes : Bytes) (files : List File) (h : Store files) → is_same name unreliable_text ≡ true → AreFiles files → IsHonestFile g s h.folder name bytes (name_of name) → Store (with_file files whole bytes)
    raise bytes files h same r good =
        let end = subst (IsHonestFile g s h.folder name bytes) (is_unreliable name same) good in
        record {
          folder = record h.folder { unreliable = end.0 };
          decoded = store_law.raise g container whole bytes files h.folder end.0 r (is_in ∙ ap Some (same_eq name unreliable_text same)) end.1 h.decoded;
          honest = change_law s h.folder _ (Raise end.0 end.2 refl) h.honest;
          expired = expired_put bytes files h.folder good h.expired;
        }

    put : (bytes : Bytes) (files : List File) (h : Store files) → AreFiles files → file_of files whole ≡ None → IsHonestFile g s h.folder name bytes (name_of name) → Store (with_file files whole bytes)
    put bytes files h r none good = go (is_same name unreliable_text) refl
      where
        go : (b : Bool) → is_same name unreliable_text ≡ b → Store (with_file files whole bytes)
        go true e = raise bytes files h e r good
        go false e = (more bytes files h e none good).0

    delete : (files : List File) (h : Store files) → AreFiles files → MayGo h.folder name (name_of name) → Store (without_file files whole)
    delete files h r may = go (file_of files whole) refl
      where
        other : (b : Bool) → is_same name unreliable_text ≡ b → is_same name unreliable_text ≡ false
        other true e = absurd (subst (MayGo h.folder name) (is_unreliable name e) may)
        other false e = e

        go : (o : Option Bytes) → file_of files whole ≡ o → Store (without_file files whole)
        go None none = same_files files (without_file files whole) (store_law.gone whole files none) h
        go (Some bytes) some = (less bytes files h (other (is_same name unreliable_text) refl) r some may).0

    -- an honest file, where an old one of its name may go
    over : (bytes : Bytes) (files : List File) (h : Store files) → is_same name unreliable_text ≡ false → AreFiles files → MayGo h.folder name (name_of name) → IsHonestFile g s h.folder name bytes (name_of name) → Store (with_file files whole bytes)
    over bytes files h other r may good = go (file_of files whole) refl
      where
        go : (o : Option Bytes) → file_of files whole ≡ o → Store (with_file files whole bytes)
        go None none = (more bytes files h other none good).0
        go (Some old) some = (exchange old bytes files h other r some may good).0

    place : (bytes : Bytes) (files : List File) (h : Store files) → AreFiles files → IsUnlisted g container files name → IsHonestFile g s h.folder name bytes (name_of name) → Store (with_file files whole bytes)
    place bytes files h r unlisted good = go (is_same name unreliable_text) refl
      where
        go : (b : Bool) → is_same name unreliable_text ≡ b → Store (with_file files whole bytes)
        go true e = raise bytes files h e r good
        go false e = over bytes files h e r (may_go h.folder name (name_of name) (not_said e) (listed_nowhere g container name files h.folder r h.decoded unlisted)) good

    place_beside : (bytes : Bytes) (files : List File) (h : Store files) → AreFiles files → IsLogOrManifest (name_of name) → IsHonestFile g s h.folder name bytes (name_of name) → (after : Store (with_file files whole bytes)) × (after.folder.ranges ≡ h.folder.ranges) × (after.folder.unreliable ≡ h.folder.unreliable)
    place_beside bytes files h r beside good = go (file_of files whole) refl
      where
        other : (b : Bool) → is_same name unreliable_text ≡ b → is_same name unreliable_text ≡ false
        other true e = absurd (subst IsLogOrManifest (is_unreliable name e) beside)
        other false e = e

        go : (o : Option Bytes) → file_of files whole ≡ o → (after : Store (with_file files whole bytes)) × (after.folder.ranges ≡ h.folder.ranges) × (after.folder.unreliable ≡ h.folder.unreliable)
        go None none =
            let m = more bytes files h (other (is_same name unreliable_text) refl) none good in
            let k = beside_keeps name bytes (name_of name) h.folder m.0.folder beside m.1 in
            (m.0, k.0, k.1)
        go (Some old) some =
            let x = exchange old bytes files h (other (is_same name unreliable_text) refl) r some (beside_may_go h.folder name (name_of name) beside) good in
            let k = beside_keeps name bytes (name_of name) x.1 x.0.folder beside x.2.with_it in
            let l = beside_keeps name old (name_of name) x.1 h.folder beside x.2.without in
            (x.0, k.0 ∙ sym l.0, k.1 ∙ sym l.1)

    set : (bytes : Bytes) (files : List File) (h : Store files) → AreFiles files → IsProperty (name_of name) → IsHonestFile g s h.folder name bytes (name_of name) → Store (with_file files whole bytes)
    set bytes files h r p good = go (is_same name unreliable_text) refl
      where
        expired : (said : Name) → name_of name ≡ said → IsProperty said → (said ≡ Unreliable → ⊥) → said ≡ Expired
        expired (Range snapshot version ticket block) e p u = absurd p
        expired (Log begin end ticket block) e p u = absurd p
        expired (Manifest begin end size ticket) e p u = absurd p
        expired Unreliable e p u = absurd (u refl)
        expired Expired e p u = refl
        expired Other e p u = absurd p

        go : (b : Bool) → is_same name unreliable_text ≡ b → Store (with_file files whole bytes)
        go true e = raise bytes files h e r good
        go false e = over bytes files h e r (subst (MayGo h.folder name) (sym (expired (name_of name) refl p (not_said e))) tt) good

pub honest_store_law : HonestStoreLaw
honest_store_law = record {
  opens = λ g s container files rising past l e. record { folder = no_files; decoded = file_law.empty_folder g container files l e; honest = always_honest (Opens s rising past); expired = (None, ap (λ fs. property_in (file_of fs expired_text)) (file_law.empty container files l e)) };
  faithful = λ g s container files h. record { folder = h.folder; decoded = h.decoded; faithful = container_law s h.folder h.honest; expired = h.expired };
  grows = λ g old new container files grows h. record { folder = h.folder; decoded = h.decoded; honest = growth_law old new h.folder grows h.honest; expired = h.expired };
  put = λ g s container whole name bytes files h r is_in none good. put g s container whole name is_in bytes files h r none good;
  set = λ g s container whole name bytes files h r is_in p good. set g s container whole name is_in bytes files h r p good;
  place = λ g s container whole name bytes files h r is_in unlisted good. place g s container whole name is_in bytes files h r unlisted good;
  place_beside = λ g s container whole name bytes files h r is_in beside good. place_beside g s container whole name is_in bytes files h r beside good;
  unlisted = listed_nowhere;
  delete = λ g s container whole name files h r is_in may. delete g s container whole name is_in files h r may;
  put_elsewhere = λ g s container whole bytes files h e. record { folder = h.folder; decoded = store_law.elsewhere g container whole bytes files e ∙ h.decoded; honest = h.honest; expired = other_put container whole bytes files (not_whole container whole e) h.expired };
  deleted_elsewhere = λ g s container whole files h e. record { folder = h.folder; decoded = store_law.deleted_elsewhere g container whole files e ∙ h.decoded; honest = h.honest; expired = other_gone container whole files (not_whole container whole e) h.expired };
}

-- The changes of an expire, one after the other, on the folder of a container.
use Rattle.std.proofs.Common.{◌≡◌, ℕ, max, ◌<◌, ◌≤◌, nat_le, Bool, true, false, cond, ◌&&◌, List, [], ◌∷◌, ◌++◌, map, decimal, Option, Some, None, unwrap_or, ◌⊎◌, inl, inr, refl, sym, ap, ◌∙◌, subst, arith}
use Rattle.std.specs.List.{AllByRecursion}
use Rattle.std.proofs.lemmas.Bool.{and_parts, leb-true, ltb-true}
use Rattle.fb_bytes.specs.Bytes.{Bytes, is_same}
use Rattle.fb_bytes.specs.Limits.{most_number}
use Rattle.fb_bytes.specs.Options.{◌>>=◌, IsIn}
use Rattle.fb_bytes.proofs.Options.{bind_some}
use Rattle.fb_bytes.proofs.Order.{same_eq}
use Rattle.fb_outside.specs.declared.File.{File}
use Rattle.fb_outside.specs.Files.{AreFiles, file_of, with_file, without_file}
use Rattle.file_names.specs.declared.Name.{Name}
use Rattle.file_names.specs.declared.Name.TheVariants.{Range, Log, Manifest, Unreliable, Expired, Other}
use Rattle.file_names.specs.Spelling.{are_numbers, manifest_numbers, spelling, spelled, manifest_texts, is_other, unreliable_text, expired_text}
use Rattle.file_names.specs.Reading.{name_of}
use Rattle.file_names.proofs.Names.{name_again, name_found}
use Rattle.container_view.specs.Folder.{LogFile, ManifestFile, Folder}
use Rattle.container_view.specs.Changes.{Inserts}
use Rattle.container_view.specs.Files.{Grammars, whole_name, inside, log_file, manifest_file, end_of, unreliable_of, folder_of, folder_in}
use Rattle.container_view.specs.Property.{property_of, property_in}
use Rattle.container_view.specs.Stores.{OneMore}
use Rattle.container_view.proofs.Decimal.{property_law}
use Rattle.container_view.proofs.Lookups.{file_law}
use Rattle.container_view.proofs.Stores.{file_inside, store_law}
use Rattle.expire_core.specs.Doomed.{is_doomed, doomed}
use Rattle.expire_core.specs.Changes.{Change, Put, changed, all_changed, setting, deletion}
use Rattle.expire_core.specs.Expiry.{Expiry}
use Rattle.expire_core.specs.Laws.{ExpiresIn, changes_in, raised_to, StaysLaw, HasNumber, RaiseLaw}
use Rattle.expire_core.proofs.Stays.{KeepsFrom, keeps_itself, keeps_on, same_advertised}
use Rattle.expire_core.proofs.Telling.{tells}

-- ---- the names of files that go

abbrev pub AreDoomed : ℕ → List Bytes → Type 0
AreDoomed cutoff names = AllByRecursion (λ name. is_doomed cutoff (name_of name) ≡ true) names

pub doomed_are : (cutoff : ℕ) (names : List Bytes) → AreDoomed cutoff (doomed cutoff names)
doomed_are cutoff [] = tt
doomed_are cutoff (n ∷ ns) = go (is_doomed cutoff (name_of n)) refl (doomed_are cutoff ns)
  where
    go : (b : Bool) → is_doomed cutoff (name_of n) ≡ b → AreDoomed cutoff (doomed cutoff ns) → AreDoomed cutoff (cond b (n ∷ doomed cutoff ns) (doomed cutoff ns))
    go true e ih = (e, ih)
    go false e ih = ih

-- neither property goes
pub not_unreliable : (cutoff : ℕ) (name : Bytes) → is_doomed cutoff (name_of name) ≡ true → is_same name unreliable_text ≡ false
not_unreliable cutoff name d = go (is_same name unreliable_text) refl
  where
    go : (b : Bool) → is_same name unreliable_text ≡ b → b ≡ false
    go true e =
        let said : name_of name ≡ Unreliable = ap name_of (same_eq name unreliable_text e) ∙ name_again unreliable_text Unreliable refl in
        let both : false ≡ true = sym (ap (is_doomed cutoff) said) ∙ d in
        cc
    go false e = refl

pub expired_other : is_same expired_text unreliable_text ≡ false
unfolding is_same
expired_other = refl

-- a manifest's name says a begin that isn't past its end
begins : (name : Bytes) (begin end size ticket : ℕ) → name_of name ≡ Manifest begin end size ticket → begin ≤ end
begins name begin end size ticket e = go (are_numbers (manifest_numbers begin end size ticket) && nat_le begin end) refl (sym (ap spelling e) ∙ name_found name (ap is_other e))
  where
    go : (b : Bool) → (are_numbers (manifest_numbers begin end size ticket) && nat_le begin end) ≡ b → cond b (Some (spelled manifest_texts (manifest_numbers begin end size ticket))) None ≡ Some name → begin ≤ end
    go true t s = leb-true begin end (and_parts _ _ t).1
    go false t s = absurd cc

-- ---- one file less in the folder

in_more : {X : Type 0} (x y : X) (before after : List X) → IsIn y (before ++ after) → IsIn y (before ++ x ∷ after)
in_more x y [] after i = inr i
in_more x y (b ∷ bs) after (inl e) = inl e
in_more x y (b ∷ bs) after (inr i) = inr (in_more x y bs after i)

in_less : {X : Type 0} (x y : X) (before after : List X) → IsIn y (before ++ x ∷ after) → (y ≡ x) ⊎ IsIn y (before ++ after)
in_less x y [] after i = i
in_less x y (b ∷ bs) after (inl e) = inr (inl e)
in_less x y (b ∷ bs) after (inr i) = go (in_less x y bs after i)
  where
    go : (y ≡ x) ⊎ IsIn y (bs ++ after) → (y ≡ x) ⊎ IsIn y (b ∷ (bs ++ after))
    go (inl e) = inl e
    go (inr j) = inr (inr j)

is_in_many : {X : Type 0} (x y : X) (few many : List X) → Inserts x few many → IsIn y few → IsIn y many
is_in_many x y few many n i = subst (IsIn y) (sym n.many_is) (in_more x y n.before n.after (subst (IsIn y) n.few_is i))

is_in_few : {X : Type 0} (x y : X) (few many : List X) → Inserts x few many → IsIn y many → (y ≡ x) ⊎ IsIn y few
is_in_few x y few many n i = go (in_less x y n.before n.after (subst (IsIn y) n.many_is i))
  where
    go : (y ≡ x) ⊎ IsIn y (n.before ++ n.after) → (y ≡ x) ⊎ IsIn y few
    go (inl e) = inl e
    go (inr j) = inr (subst (IsIn y) (sym n.few_is) j)

log_less : (log : LogFile) (logs : List LogFile) (few : Folder) → Inserts log few.logs logs → log.end ≤ few.unreliable → KeepsFrom (record few { logs = logs }) few
log_less log logs few n h = record {
  unreliable = refl;
  logs = λ f i. is_in_many log f few.logs logs n i;
  long_logs = λ f i past. other f (is_in_few log f few.logs logs n i) past;
  manifests = λ m i. i;
  late_manifests = λ m i past. i;
}
  where
    other : (f : LogFile) → (f ≡ log) ⊎ IsIn f few.logs → few.unreliable < f.end → IsIn f few.logs
    other f (inl e) past = let same : f.end ≡ log.end = ap (λ (x : LogFile). x.end) e in absurd (omega arith)
    other f (inr i) past = i

manifest_less : (m : ManifestFile) (manifests : List ManifestFile) (few : Folder) → Inserts m few.manifests manifests → m.begin < few.unreliable → KeepsFrom (record few { manifests = manifests }) few
manifest_less m manifests few n h = record {
  unreliable = refl;
  logs = λ f i. i;
  long_logs = λ f i past. i;
  manifests = λ x i. is_in_many m x few.manifests manifests n i;
  late_manifests = λ x i past. other x (is_in_few m x few.manifests manifests n i) past;
}
  where
    other : (x : ManifestFile) → (x ≡ m) ⊎ IsIn x few.manifests → few.unreliable ≤ x.begin → IsIn x few.manifests
    other x (inl e) past = let same : x.begin ≡ m.begin = ap (λ (y : ManifestFile). y.begin) e in absurd (omega arith)
    other x (inr i) past = i

one_less : (g : Grammars) (name bytes : Bytes) (said : Name) (cutoff : ℕ) (few many : Folder) → name_of name ≡ said → is_doomed cutoff said ≡ true → cutoff ≤ many.unreliable → OneMore g name bytes said few many → KeepsFrom many few
one_less g name bytes (Range snapshot version ticket block) cutoff few many s d h m =
    subst (λ (x : Folder). KeepsFrom x few) (sym m.2) (record { unreliable = refl; logs = λ f i. i; long_logs = λ f i past. i; manifests = λ x i. i; late_manifests = λ x i past. i })
one_less g name bytes (Log begin end ticket block) cutoff few many s d h m =
    let low : cutoff ≤ few.unreliable = subst (λ (x : Folder). cutoff ≤ x.unreliable) m.2 h in
    let below : end ≤ cutoff = leb-true end cutoff d in
    let short : end ≤ few.unreliable = omega arith in
    subst (λ (x : Folder). KeepsFrom x few) (sym m.2) (log_less (log_file g name bytes begin end block) m.0 few m.1 short)
one_less g name bytes (Manifest begin end size ticket) cutoff few many s d h m =
    let low : cutoff ≤ few.unreliable = subst (λ (x : Folder). cutoff ≤ x.unreliable) m.2 h in
    let below : end < cutoff = ltb-true end cutoff d in
    let first : begin ≤ end = begins name begin end size ticket s in
    let early : begin < few.unreliable = omega arith in
    subst (λ (x : Folder). KeepsFrom x few) (sym m.2) (manifest_less (manifest_file g name bytes (Manifest begin end size ticket) begin end) m.0 few m.1 early)
one_less g name bytes Unreliable cutoff few many s d h m = absurd cc
one_less g name bytes Expired cutoff few many s d h m = absurd cc
one_less g name bytes Other cutoff few many s d h m = absurd cc

-- ---- one change of the store

-- the files have a folder, which keeps what another one advertises
pub record Still (g : Grammars) (container : Bytes) (files : List File) (old : Folder) : Type 0 where
  pub folder : Folder
  pub decoded : folder_in g container files ≡ Some folder
  pub keeps : KeepsFrom old folder

module _ (g : Grammars) (container : Bytes) where
  pub delete_one : (cutoff : ℕ) (name : Bytes) (files : List File) (folder : Folder) → AreFiles files → folder_in g container files ≡ Some folder → cutoff ≤ folder.unreliable → is_doomed cutoff (name_of name) ≡ true → Still g container (without_file files (whole_name container name)) folder
  delete_one cutoff name files folder r d h gone = go (file_of files (whole_name container name)) refl
    where
      go : (o : Option Bytes) → file_of files (whole_name container name) ≡ o → Still g container (without_file files (whole_name container name)) folder
      go None e = record { folder = folder; decoded = ap (folder_in g container) (store_law.gone (whole_name container name) files e) ∙ d; keeps = keeps_itself folder }
      go (Some bytes) e =
          let m = store_law.delete g container (whole_name container name) name bytes files folder r (record { is_in = store_law.whole_in container name; other = not_unreliable cutoff name gone }) e d in
          record { folder = m.0; decoded = m.1; keeps = one_less g name bytes (name_of name) cutoff m.0 folder refl gone h m.2 }

  expired_name : name_of expired_text ≡ Expired
  expired_name = name_again expired_text Expired refl

  -- the expired end is nothing to the folder
  put_expired : (bytes : Bytes) (files : List File) (folder : Folder) → file_of files (whole_name container expired_text) ≡ None → folder_in g container files ≡ Some folder → folder_in g container (with_file files (whole_name container expired_text) bytes) ≡ Some folder
  put_expired bytes files folder none d =
      let m = store_law.put g container (whole_name container expired_text) expired_text bytes files folder (record { is_in = store_law.whole_in container expired_text; other = expired_other }) none d in
      let same : m.0 ≡ folder = subst (λ (said : Name). OneMore g expired_text bytes said folder m.0) expired_name m.2 in
      m.1 ∙ ap Some same

  pub set_expired : (bytes : Bytes) (files : List File) (folder : Folder) → AreFiles files → folder_in g container files ≡ Some folder → folder_in g container (with_file files (whole_name container expired_text) bytes) ≡ Some folder
  set_expired bytes files folder r d = go (file_of files (whole_name container expired_text)) refl
    where
      go : (o : Option Bytes) → file_of files (whole_name container expired_text) ≡ o → folder_in g container (with_file files (whole_name container expired_text) bytes) ≡ Some folder
      go None none = put_expired bytes files folder none d
      go (Some old) some =
          let m = store_law.delete g container (whole_name container expired_text) expired_text old files folder r (record { is_in = store_law.whole_in container expired_text; other = expired_other }) some d in
          let same : folder ≡ m.0 = subst (λ (said : Name). OneMore g expired_text old said m.0 folder) expired_name m.2 in
          ap (folder_in g container) (store_law.replace (whole_name container expired_text) bytes files r)
          ∙ put_expired bytes (without_file files (whole_name container expired_text)) folder (file_law.deleted_same files (whole_name container expired_text)) (m.1 ∙ ap Some (sym same))

  -- ---- the changes behind the raise

  pub none_left : (made left : List Change) → [] ≡ made ++ left → made ≡ []
  none_left [] left e = refl
  none_left (x ∷ xs) left e = absurd cc

  through : (cutoff : ℕ) (last : Bytes) (names : List Bytes) (files : List File) (folder : Folder) → AreFiles files → folder_in g container files ≡ Some folder → cutoff ≤ folder.unreliable → AreDoomed cutoff names → (made left : List Change) → (map (deletion container) names ++ Put (whole_name container expired_text) last ∷ []) ≡ made ++ left → Still g container (all_changed made files) folder
  through cutoff last names files folder r d h a [] left e = record { folder = folder; decoded = d; keeps = keeps_itself folder }
  through cutoff last [] files folder r d h a (change ∷ made) left e =
      let head : Put (whole_name container expired_text) last ≡ change = cc in
      let tail : [] ≡ made ++ left = cc in
      let now : all_changed made (changed change files) ≡ with_file files (whole_name container expired_text) last = ap (λ (xs : List Change). all_changed xs (changed change files)) (none_left made left tail) ∙ ap (λ (x : Change). changed x files) (sym head) in
      record { folder = folder; decoded = ap (folder_in g container) now ∙ set_expired last files folder r d; keeps = keeps_itself folder }
  through cutoff last (name ∷ names) files folder r d h a (change ∷ made) left e =
      let head : deletion container name ≡ change = cc in
      let tail : (map (deletion container) names ++ Put (whole_name container expired_text) last ∷ []) ≡ made ++ left = cc in
      let one = delete_one cutoff name files folder r d h a.0 in
      let low : cutoff ≤ one.folder.unreliable = subst (λ n. cutoff ≤ n) (sym one.keeps.unreliable) h in
      let rest = through cutoff last names (without_file files (whole_name container name)) one.folder (file_law.files_deleted files (whole_name container name) r) one.decoded low a.1 made left tail in
      subst (λ (x : Change). Still g container (all_changed made (changed x files)) folder) head
      (record { folder = rest.folder; decoded = rest.decoded; keeps = keeps_on folder one.folder rest.folder one.keeps rest.keeps })

-- ---- numbers of properties

-- a property's number is within its limit
within_of : (o : Option Bytes) (number : Option ℕ) → property_in o ≡ Some number → unwrap_or number 0 ≤ most_number
within_of None number e = let none : None ≡ number = cc in subst (λ (o : Option ℕ). unwrap_or o 0 ≤ most_number) none (omega arith)
within_of (Some bytes) number e =
    let n = bind_some (property_of bytes) _ number e in
    let some : Some n.0 ≡ number = cc (n.2) in
    subst (λ (o : Option ℕ). unwrap_or o 0 ≤ most_number) some ((property_law bytes n.0).0 n.1).1

pub number_read : (n : ℕ) → n ≤ most_number → property_of (decimal n) ≡ Some n
number_read n h = (property_law (decimal n) n).1 (refl, h)

end_is : (o : Option Bytes) (end : ℕ) (number : Option ℕ) → end_of o ≡ Some end → property_in o ≡ Some number → end ≡ unwrap_or number 0
end_is None end number p q = let a : 0 ≡ end = cc in let b : None ≡ number = cc in sym a ∙ ap (λ (o : Option ℕ). unwrap_or o 0) b
end_is (Some bytes) end number p q =
    let both : Some (Some end) ≡ Some number = sym (ap (λ (o : Option ℕ). o >>= λ n. Some (Some n)) p) ∙ q in
    let same : Some end ≡ number = cc in
    ap (λ (o : Option ℕ). unwrap_or o 0) same

-- the unreliable end of a folder is the property's number
pub unreliable_is : (g : Grammars) (files : List File) (folder : Folder) (number : Option ℕ) → folder_of g files ≡ Some folder → property_in (file_of files unreliable_text) ≡ Some number → folder.unreliable ≡ unwrap_or number 0
unreliable_is g files folder number d p =
    let end = bind_some (unreliable_of files) _ folder d in
    let is : end.0 ≡ folder.unreliable = ap (λ (o : Option Folder). unwrap_or (o >>= λ x. Some x.unreliable) 0) end.2 in
    sym is ∙ end_is (file_of files unreliable_text) end.0 number end.1 p

-- ---- an expire

-- what is known of one, in numbers
pub record Ends (container : Bytes) (files : List File) (folder : Folder) (cutoff : ℕ) (expiry : Expiry) : Type 0 where
  pub names : AreDoomed cutoff expiry.plan.names
  pub above : cutoff ≤ expiry.plan.unreliable
  pub no_lower : folder.unreliable ≤ expiry.plan.unreliable
  pub unreliable : expiry.plan.unreliable ≤ most_number
  pub expired : expiry.expired ≤ most_number
  pub no_lower_expired : (number : ℕ) → HasNumber container files expired_text number → number ≤ expiry.expired

pub ends : (g : Grammars) (container : Bytes) (files : List File) (folder : Folder) (expiry : Expiry) (e : ExpiresIn g container files folder expiry) → Ends container files folder e.cutoff expiry
ends g container files folder expiry e =
    let t = tells (inside container files) e.cutoff e.wanted e.force expiry e.is in
    let cutoff_in : e.cutoff ≤ most_number = e.within in
    let was : folder.unreliable ≡ unwrap_or t.listing.unreliable 0 = unreliable_is g (inside container files) folder t.listing.unreliable e.decoded t.is.unreliable in
    let in_u : unwrap_or t.listing.unreliable 0 ≤ most_number = within_of _ t.listing.unreliable t.is.unreliable in
    let in_x : unwrap_or t.listing.expired 0 ≤ most_number = within_of _ t.listing.expired t.is.expired in
    let end : expiry.plan.unreliable ≡ max e.cutoff (unwrap_or t.listing.unreliable 0) = t.by.end in
    let last : expiry.expired ≡ max e.cutoff (unwrap_or t.listing.expired 0) = t.by.last in
    record {
      names = subst (AreDoomed e.cutoff) (sym t.by.names) (doomed_are e.cutoff t.listing.names);
      above = omega arith;
      no_lower = omega arith;
      unreliable = omega arith;
      expired = omega arith;
      no_lower_expired = λ number h.
          let both : Some t.listing.expired ≡ Some (Some number) = sym t.is.expired ∙ h in
          let same : t.listing.expired ≡ Some number = cc in
          let is : unwrap_or t.listing.expired 0 ≡ number = ap (λ (o : Option ℕ). unwrap_or o 0) same in
          omega arith;
    }

pub raised_first : (g : Grammars) (container : Bytes) (files : List File) (folder : Folder) (end : ℕ) → AreFiles files → folder_in g container files ≡ Some folder → end ≤ most_number → folder_in g container (with_file files (whole_name container unreliable_text) (decimal end)) ≡ Some (raised_to end folder)
raised_first g container files folder end r d h = store_law.raise g container (whole_name container unreliable_text) (decimal end) files folder end r (store_law.whole_in container unreliable_text) (number_read end h) d

-- from the raise on
pub behind_raise : (g : Grammars) (container : Bytes) (files : List File) (folder : Folder) (expiry : Expiry) → ExpiresIn g container files folder expiry → (change : Change) (made left : List Change) → changes_in container expiry ≡ change ∷ (made ++ left) → Still g container (all_changed (change ∷ made) files) (raised_to expiry.plan.unreliable folder)
behind_raise g container files folder expiry e change made left is =
    let n = ends g container files folder expiry e in
    let head : setting container unreliable_text expiry.plan.unreliable ≡ change = cc in
    let tail : (map (deletion container) expiry.plan.names ++ setting container expired_text expiry.expired ∷ []) ≡ made ++ left = cc in
    subst (λ (x : Change). Still g container (all_changed made (changed x files)) (raised_to expiry.plan.unreliable folder)) head
    (through g container e.cutoff (decimal expiry.expired) expiry.plan.names (with_file files (whole_name container unreliable_text) (decimal expiry.plan.unreliable)) (raised_to expiry.plan.unreliable folder)
    (file_law.files_put files (whole_name container unreliable_text) (decimal expiry.plan.unreliable) e.ordered)
    (raised_first g container files folder expiry.plan.unreliable e.ordered e.decoded n.unreliable)
    n.above n.names made left tail)

pub stays_law : StaysLaw
stays_law g container files folder expiry e [] left some is = absurd (some refl)
stays_law g container files folder expiry e (change ∷ made) left some is =
    let s = behind_raise g container files folder expiry e change made left is in
    record {
      folder = s.folder;
      decoded = s.decoded;
      unreliable = s.keeps.unreliable;
      same = same_advertised (raised_to expiry.plan.unreliable folder) s.folder s.keeps;
    }

-- ---- what a reader finds in the properties

module _ (container : Bytes) where
  -- a file that no change is of
  whole_other : (name other : Bytes) → is_same name other ≡ false → is_same (whole_name container name) (whole_name container other) ≡ false
  whole_other name other e = file_law.whole_inj container name other ∙ e

  deleted_past : (cutoff : ℕ) (names : List Bytes) (files : List File) → AreDoomed cutoff names → file_of (all_changed (map (deletion container) names) files) (whole_name container unreliable_text) ≡ file_of files (whole_name container unreliable_text)
  deleted_past cutoff [] files a = refl
  deleted_past cutoff (n ∷ ns) files a =
      deleted_past cutoff ns (without_file files (whole_name container n)) a.1
      ∙ file_law.deleted_other files (whole_name container n) (whole_name container unreliable_text) (whole_other n unreliable_text (not_unreliable cutoff n a.0))

  found_number : (property : Bytes) (files : List File) (n : ℕ) → n ≤ most_number → file_of files (whole_name container property) ≡ Some (decimal n) → HasNumber container files property n
  found_number property files n h e =
      ap property_in (file_inside container (whole_name container property) property files (store_law.whole_in container property) ∙ e)
      ∙ ap (λ (o : Option ℕ). o >>= λ x. Some (Some x)) (number_read n h)

all_then_last : (xs : List Change) (x : Change) (files : List File) → all_changed (xs ++ x ∷ []) files ≡ changed x (all_changed xs files)
all_then_last [] x files = refl
all_then_last (y ∷ ys) x files = all_then_last ys x (changed y files)

pub raise_law : RaiseLaw
raise_law = record {
  unreliable = λ g container files folder expiry e. (ends g container files folder expiry e).no_lower;
  expired = λ g container files folder expiry e number h. (ends g container files folder expiry e).no_lower_expired number h;
  both = both;
}
  where
    both : (g : Grammars) (container : Bytes) (files : List File) (folder : Folder) (expiry : Expiry) → ExpiresIn g container files folder expiry → HasNumber container (all_changed (changes_in container expiry) files) unreliable_text expiry.plan.unreliable × HasNumber container (all_changed (changes_in container expiry) files) expired_text expiry.expired
    both g container files folder expiry e =
        let n = ends g container files folder expiry e in
        let first : List File = with_file files (whole_name container unreliable_text) (decimal expiry.plan.unreliable) in
        let second : List File = all_changed (map (deletion container) expiry.plan.names) first in
        let now : all_changed (changes_in container expiry) files ≡ with_file second (whole_name container expired_text) (decimal expiry.expired) = all_then_last (map (deletion container) expiry.plan.names) (setting container expired_text expiry.expired) first in (
          found_number container unreliable_text (all_changed (changes_in container expiry) files) expiry.plan.unreliable n.unreliable
              (ap (λ (fs : List File). file_of fs (whole_name container unreliable_text)) now
              ∙ file_law.put_other second (whole_name container expired_text) (decimal expiry.expired) (whole_name container unreliable_text) (whole_other container expired_text unreliable_text expired_other)
              ∙ deleted_past container e.cutoff expiry.plan.names first n.names
              ∙ file_law.put_same files (whole_name container unreliable_text) (decimal expiry.plan.unreliable)),
          found_number container expired_text (all_changed (changes_in container expiry) files) expiry.expired n.expired
              (ap (λ (fs : List File). file_of fs (whole_name container expired_text)) now
              ∙ file_law.put_same second (whole_name container expired_text) (decimal expiry.expired)),
        )

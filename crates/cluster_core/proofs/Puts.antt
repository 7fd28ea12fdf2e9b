-- What is kept of the containers of jobs stands while a file is put into one of them.
use Rattle.std.specs.Prelude.{◌≡◌, ℕ, ◌<◌, Bool, true, false, List, [], ◌∷◌, Some, None, refl}
use Rattle.std.specs.List.{AllByRecursion}
use Rattle.std.proofs.Common.{ap, sym, ◌∙◌, inl, inr, subst}
use Rattle.fb_bytes.specs.Bytes.{Bytes, is_same}
use Rattle.fb_bytes.specs.Options.{IsIn}
use Rattle.fb_bytes.proofs.Order.{same_eq, same_both, not_both}
use Rattle.fb_outside.specs.declared.File.{File}
use Rattle.fb_outside.specs.Files.{AreFiles, file_of, with_file}
use Rattle.mutations.specs.declared.Entry.{Entry}
use Rattle.file_names.specs.declared.Name.TheVariants.{Range, Unreliable}
use Rattle.file_names.specs.Reading.{name_of}
use Rattle.file_names.specs.Spelling.{unreliable_text}
use Rattle.snapshot_plan.specs.declared.Noted.{Noted}
use Rattle.container_view.specs.Contents.{file_grammars}
use Rattle.container_view.specs.Files.{whole_name, name_in, end_of}
use Rattle.container_view.specs.Honest.{IsHonestFile, listed_by, IsUnlisted}
use Rattle.cluster_core.specs.Backups.{Backup}
use Rattle.cluster_core.specs.Sound.{IsNoted, IsDrawn, IsKept, IsStored, source_of}
use Rattle.cluster_core.proofs.All.{differ}
use Rattle.cluster_core.proofs.Known.{Known}

-- ---- a container that the file isn't in

other_whole : (k : Known) (container whole name : Bytes) → name_in container whole ≡ None → is_same whole (whole_name container name) ≡ false
other_whole k container whole name none = differ whole (whole_name container name) (λ e. let i = k.files.whole_in container name in let n : name_in container (whole_name container name) ≡ None = subst (λ (w : Bytes). name_in container w ≡ None) e none in cc)

there_elsewhere : (k : Known) (block : ℕ) (container whole bytes : Bytes) (files : List File) → name_in container whole ≡ None → (noted : List Noted) → AllByRecursion (IsKept block container files) noted → AllByRecursion (IsKept block container (with_file files whole bytes)) noted
there_elsewhere k block container whole bytes files none [] h = tt
there_elsewhere k block container whole bytes files none (n ∷ noted) h = (
  (λ end e l.
      let u = ap end_of (k.files.put_other files whole bytes (whole_name container unreliable_text) (other_whole k container whole unreliable_text none)) in
      let r = h.0 end (sym u ∙ e) l in
      record { bytes = r.bytes; file = k.files.put_other files whole bytes (whole_name container n.file.name) (other_whole k container whole n.file.name none) ∙ r.file; pairs = r.pairs; content = r.content }),
  there_elsewhere k block container whole bytes files none noted h.1,
)

pub stored_elsewhere : (k : Known) (block now tickets : ℕ) (history : List Entry) (files : List File) (job : Backup) (whole bytes : Bytes) → name_in job.container whole ≡ None → IsStored block now tickets history files job → IsStored block now tickets history (with_file files whole bytes) job
stored_elsewhere k block now tickets history files job whole bytes none h = record {
  honest = k.store.put_elsewhere file_grammars (source_of block now history job) job.container whole bytes files h.honest none;
  there = there_elsewhere k block job.container whole bytes files none job.job.noted h.there;
  listed = λ name b names f l. h.listed name b names (sym (k.files.put_other files whole bytes (whole_name job.container name) (other_whole k job.container whole name none)) ∙ f) l;
}

-- ---- the file's container

-- the name is that of no range file whose ticket was drawn, and not that of the unreliable end
pub record IsFresh (tickets : ℕ) (name : Bytes) : Type 0 where
  pub undrawn : (snapshot version ticket block : ℕ) → name_of name ≡ Range snapshot version ticket block → ticket < tickets → ⊥
  pub plain : name_of name ≡ Unreliable → ⊥

-- No manifest of the container lists the name, and it isn't that of a noted file: a put under it takes nothing away.
pub record IsSpare (files : List File) (job : Backup) (name : Bytes) : Type 0 where
  pub unlisted : IsUnlisted file_grammars job.container files name
  pub unnoted : AllByRecursion (λ (n : Noted). name ≡ n.file.name → ⊥) job.job.noted
  pub plain : name_of name ≡ Unreliable → ⊥

-- a name among names with drawn tickets
among : (P : Bytes → Type 0) (name : Bytes) (names : List Bytes) → AllByRecursion P names → IsIn name names → P name
among P name [] a i = absurd i
among P name (x ∷ xs) a i = elim i [ inl e ↦ subst P (sym e) a.0 | inr r ↦ among P name xs a.1 r ]

-- no manifest lists it: those that there are list range files with drawn tickets alone
unlisted : (k : Known) (block now tickets : ℕ) (history : List Entry) (files : List File) (job : Backup) (name : Bytes) → IsFresh tickets name → IsStored block now tickets history files job → IsUnlisted file_grammars job.container files name
unlisted k block now tickets history files job name fresh h = record { each = λ m bytes names f l i. let d = among (IsDrawn tickets) name names (h.listed m bytes names f l) i in fresh.undrawn d.snapshot d.version d.ticket d.block d.read d.drawn }

some_is : (a b : Bytes) → Some a ≡ Some b → a ≡ b
some_is a b p = cc

-- a noted file isn't the one with the fresh name
noted_differs : (k : Known) (container name noted : Bytes) → (name ≡ noted → ⊥) → is_same (whole_name container name) (whole_name container noted) ≡ false
noted_differs k container name noted d = differ (whole_name container name) (whole_name container noted) (λ e.
    let i : name_in container (whole_name container name) ≡ Some name = k.files.whole_in container name in
    let j : name_in container (whole_name container noted) ≡ Some noted = k.files.whole_in container noted in
    let same : name_in container (whole_name container name) ≡ name_in container (whole_name container noted) = ap (name_in container) e in
    d (some_is name noted (sym i ∙ same ∙ j)))

unnoted : (block now tickets : ℕ) (name : Bytes) → IsFresh tickets name → (noted : List Noted) → AllByRecursion (IsNoted block now tickets) noted → AllByRecursion (λ (n : Noted). name ≡ n.file.name → ⊥) noted
unnoted block now tickets name fresh [] n = tt
unnoted block now tickets name fresh (x ∷ xs) n = ((λ e. fresh.undrawn n.0.snapshot x.file.version n.0.ticket block (ap name_of e ∙ n.0.name) n.0.drawn), unnoted block now tickets name fresh xs n.1)

-- a ticket that isn't drawn is one reason for it
pub fresh_is_spare : (k : Known) (block now tickets : ℕ) (history : List Entry) (files : List File) (job : Backup) (name : Bytes) → IsFresh tickets name → AllByRecursion (IsNoted block now tickets) job.job.noted → IsStored block now tickets history files job → IsSpare files job name
fresh_is_spare k block now tickets history files job name fresh noted h = record {
  unlisted = unlisted k block now tickets history files job name fresh h;
  unnoted = unnoted block now tickets name fresh job.job.noted noted;
  plain = fresh.plain;
}

there_still : (k : Known) (block : ℕ) (container name bytes : Bytes) (files : List File) → (name_of name ≡ Unreliable → ⊥) → (noted : List Noted) → AllByRecursion (λ (n : Noted). name ≡ n.file.name → ⊥) noted → AllByRecursion (IsKept block container files) noted → AllByRecursion (IsKept block container (with_file files (whole_name container name) bytes)) noted
there_still k block container name bytes files plain [] n h = tt
there_still k block container name bytes files plain (x ∷ xs) n h = (
  (λ end e l.
      let u = ap end_of (k.files.put_other files (whole_name container name) bytes (whole_name container unreliable_text) (noted_differs k container name unreliable_text (λ q. plain (ap name_of q ∙ k.names unreliable_text Unreliable refl)))) in
      let r = h.0 end (sym u ∙ e) l in
      record { bytes = r.bytes; file = k.files.put_other files (whole_name container name) bytes (whole_name container x.file.name) (noted_differs k container name x.file.name n.0) ∙ r.file; pairs = r.pairs; content = r.content }),
  there_still k block container name bytes files plain xs n.1 h.1,
)

-- what a put of this file means for what is listed
listed_still : (k : Known) (tickets : ℕ) (container name bytes : Bytes) (files : List File)
    → ((names : List Bytes) → listed_by file_grammars (name_of name) bytes ≡ Some names → AllByRecursion (IsDrawn tickets) names)
    → ((m b : Bytes) (names : List Bytes) → file_of files (whole_name container m) ≡ Some b → listed_by file_grammars (name_of m) b ≡ Some names → AllByRecursion (IsDrawn tickets) names)
    → (m b : Bytes) (names : List Bytes) → file_of (with_file files (whole_name container name) bytes) (whole_name container m) ≡ Some b → listed_by file_grammars (name_of m) b ≡ Some names → AllByRecursion (IsDrawn tickets) names
listed_still k tickets container name bytes files new old m b names f l = go (is_same name m) refl
  where
    go : (t : Bool) → is_same name m ≡ t → AllByRecursion (IsDrawn tickets) names
    go true e =
        let same : name ≡ m = same_eq name m e in
        let here : file_of (with_file files (whole_name container name) bytes) (whole_name container m) ≡ Some bytes = subst (λ (x : Bytes). file_of (with_file files (whole_name container name) bytes) (whole_name container x) ≡ Some bytes) same (k.files.put_same files (whole_name container name) bytes) in
        let b_is : bytes ≡ b = some_is bytes b (sym here ∙ f) in
        new names (ap (λ (x : Bytes). listed_by file_grammars (name_of x) bytes) same ∙ ap (listed_by file_grammars (name_of m)) b_is ∙ l)
    go false e = old m b names (sym (k.files.put_other files (whole_name container name) bytes (whole_name container m) (noted_differs k container name m (λ s. not_both (same_both name m s) e))) ∙ f) l

pub stored_put : (k : Known) (block now tickets : ℕ) (history : List Entry) (files : List File) (job : Backup) (name bytes : Bytes) → AreFiles files → IsSpare files job name
    → (h : IsStored block now tickets history files job)
    → IsHonestFile file_grammars (source_of block now history job) h.honest.folder name bytes (name_of name)
    → ((names : List Bytes) → listed_by file_grammars (name_of name) bytes ≡ Some names → AllByRecursion (IsDrawn tickets) names)
    → IsStored block now tickets history (with_file files (whole_name job.container name) bytes) job
stored_put k block now tickets history files job name bytes ordered spare h honest lists = record {
  honest = k.store.place file_grammars (source_of block now history job) job.container (whole_name job.container name) name bytes files h.honest ordered (k.files.whole_in job.container name) spare.unlisted honest;
  there = there_still k block job.container name bytes files spare.plain job.job.noted spare.unnoted h.there;
  listed = listed_still k tickets job.container name bytes files lists h.listed;
}

-- The laws of other crates, as the machine's proofs use them.
use Rattle.std.specs.Prelude.{◌≡◌, ◌≢◌, ℕ, ◌<◌, ◌≤◌, List, [], ◌∷◌, length, refl}
use Rattle.std.specs.List.{AllByRecursion}
use Rattle.std.proofs.Common.{ap, sym, ◌∙◌, arith, subst, option_map, inl, inr, Option, Some, None}
use Rattle.fb_bytes.specs.Bytes.{Bytes}
use Rattle.fb_bytes.specs.Options.{IsIn}
use Rattle.file_names.proofs.Names.{spelled_name}
use Rattle.manifests.specs.declared.Manifest.{Manifest}
use Rattle.manifests.proofs.Manifests as manifests
use Rattle.manifests.proofs.Printed as printed
use Rattle.range_files.proofs.Written as ranges
use Rattle.log_files.proofs.Written as logs
use Rattle.mutations.proofs.Logs.{logged_law}
use Rattle.container_view.specs.Contents.{ContentsLaw, file_grammars, range_content}
use Rattle.container_view.specs.Files.{whole_name, inside, end_of, unreliable_of, folder_in}
use Rattle.container_view.specs.Folder.{Folder}
use Rattle.container_view.proofs.Honest.{honest_store_law}
use Rattle.container_view.proofs.Lookups.{file_law}
use Rattle.container_view.proofs.Stores.{store_law, file_inside}
use Rattle.fb_outside.specs.declared.File.{File}
use Rattle.file_names.specs.Spelling.{unreliable_text}
use Rattle.fb_bytes.specs.Options.{◌>>=◌}
use Rattle.snapshot_plan.specs.declared.Noted.{Noted}
use Rattle.snapshot_plan.specs.Noted.{manifest_of}
use Rattle.snapshot_plan.specs.Listing.{noted_names}
use Rattle.snapshot_plan.proofs.Walking.{piece_law}
use Rattle.snapshot_plan.proofs.Manifests.{manifest_law, whole_law}
use Rattle.database.proofs.Dumping as dumping
use Rattle.database.proofs.Committing as committing
use Rattle.backup_core.proofs.Manifests.{honest_manifest_law}
use Rattle.task_bucket.proofs.Holders.{holders_laws}
use Rattle.task_bucket.proofs.Weighing.{all_laws}
use Rattle.cluster_core.specs.Sound.{IsDrawn, unreliable_in}
use Rattle.cluster_core.proofs.Slashes.{no_slash}
use Rattle.cluster_core.proofs.Known.{FilesKnown, ManifestsKnown, Known}

contents : ContentsLaw
contents = record {
  range = λ block begin end pairs w r. ap (option_map range_content) (ranges.written_is_read block begin end pairs w r);
  log = λ begin end block batches b w. logs.written_is_read block begin end batches b w;
  manifest = λ name bytes m t. ap (option_map (λ (x : Manifest). x.files)) (manifests.manifest_is_read name bytes m t);
}

-- ---- containers' names

number_of : (o : Option ℕ) (folder : Folder) (make : ℕ → Folder) → ((n : ℕ) → (make n).unreliable ≡ n) → (o >>= λ end. Some (make end)) ≡ Some folder → o ≡ Some folder.unreliable
number_of None folder make is e = cc
number_of (Some end) folder make is e = ap Some (sym (is end)) ∙ ap (λ (f : Option Folder). option_map (λ (x : Folder). x.unreliable) f) e

unreliable : (container : Bytes) (files : List File) (folder : Folder) → folder_in file_grammars container files ≡ Some folder → unreliable_in container files ≡ Some folder.unreliable
unreliable container files folder e =
    ap end_of (sym (file_inside container (whole_name container unreliable_text) unreliable_text files (store_law.whole_in container unreliable_text)))
    ∙ number_of (unreliable_of (inside container files)) folder _ (λ n. refl) e

files : FilesKnown
files = record {
  put_same = file_law.put_same;
  put_other = file_law.put_other;
  ordered = file_law.files_put;
  found = λ container whole name bytes files folder snapshot version ticket block o w f n d. file_law.found file_grammars container whole name bytes files folder snapshot version ticket block o w f n d;
  apart = λ container other name c o d. file_law.apart container other name (no_slash container c) (no_slash other o) d;
  whole_in = store_law.whole_in;
  unreliable = unreliable;
}

-- ---- manifests

some : (noted : List Noted) → 0 < length noted → noted ≢ []
some [] l e = absurd (omega arith)
some (n ∷ noted) l e = cc

none_or_some : (P : List Noted → Type 0) (noted : List Noted) → P [] → (noted ≢ [] → P noted) → P noted
none_or_some P [] n s = n
none_or_some P (x ∷ xs) n s = s (λ e. cc)

in_of : (P : Noted → Type 0) (noted : List Noted) (n : Noted) → AllByRecursion P noted → IsIn n noted → P n
in_of P [] n a i = absurd i
in_of P (x ∷ xs) n a i = elim i [ inl e ↦ subst P (sym e) a.0 | inr r ↦ in_of P xs n a.1 r ]

-- the least is no greater than the greatest
order : (noted : List Noted) → (manifest_of noted).begin ≤ (manifest_of noted).end
order noted = none_or_some (λ xs. (manifest_of xs).begin ≤ (manifest_of xs).end) noted (omega arith) (λ s.
    let begin = manifest_law.begin noted s in
    let end = manifest_law.end noted s in
    let low = begin.least end.one.0 end.one.1 in
    let e = end.one.2 in
    omega arith)

end_most : (noted : List Noted) (most : ℕ) → AllByRecursion (λ n. n.file.version ≤ most) noted → (manifest_of noted).end ≤ most
end_most noted most a = none_or_some (λ xs. (manifest_of xs).end ≤ most) noted (omega arith) (λ s.
    let end = manifest_law.end noted s in
    let h = in_of (λ n. n.file.version ≤ most) noted end.one.0 a end.one.1 in
    let e = end.one.2 in
    omega arith)

name_in_of : (P : Bytes → Type 0) (noted : List Noted) (name : Bytes) → AllByRecursion (λ n. P n.file.name) noted → IsIn name (noted_names noted) → P name
name_in_of P [] name a i = absurd i
name_in_of P (x ∷ xs) name a i = elim i [ inl e ↦ subst P (sym e) a.0 | inr r ↦ name_in_of P xs name a.1 r ]

all_of : (P : Bytes → Type 0) (names : List Bytes) → ((name : Bytes) → IsIn name names → P name) → AllByRecursion P names
all_of P [] f = tt
all_of P (x ∷ xs) f = (f x (inl refl), all_of P xs (λ name i. f name (inr i)))

manifests_known : ManifestsKnown
manifests_known = record {
  honest = λ s folder noted file l r p t b e c. honest_manifest_law s folder noted (some noted l) r p t file (record { begin = b; end = e; content = c });
  whole = λ noted l r d. (whole_law noted (some noted l) r d).whole;
  begin = λ noted l n i. (manifest_law.begin noted (some noted l)).least n i;
  order = order;
  end = end_most;
  listed = λ tickets noted a. all_of (IsDrawn tickets) (manifest_of noted).files (λ name i. name_in_of (IsDrawn tickets) noted name a ((manifest_law.files noted name).0 i));
  written = λ m ticket w b. printed.written_is_manifest m ticket w (let l : m.bytes < 18446744073709551616 = omega arith in l);
}

pub known : Known
known = record {
  names = spelled_name.read;
  files = files;
  store = honest_store_law;
  contents = contents;
  dump = dumping.dump_law;
  commit = committing.commit_law;
  piece = piece_law;
  logged = logged_law;
  manifests = manifests_known;
  sums = all_laws;
  holders = holders_laws;
}

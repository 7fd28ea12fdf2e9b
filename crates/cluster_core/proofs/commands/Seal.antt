-- The command seal.
use Rattle.cluster_core.specs.declared.job.Job.TheVariants as types
use Rattle.cluster_core.specs.Backups.{Backup}
use Rattle.std.specs.Prelude.{◌≡◌, ℕ, ◌+◌, ◌≤◌, Bool, true, false, not, List, [], ◌∷◌, None, refl}
use Rattle.std.specs.List.{AllByRecursion}
use Rattle.std.proofs.Common.{ap, sym, ◌∙◌, arith, subst}
use Rattle.fb_bytes.specs.Bytes.{Bytes, is_below}
use Rattle.fb_bytes.specs.declared.KeyRange.{KeyRange}
use Rattle.fb_bytes.specs.Keys.{in_ranges, is_backwards}
use Rattle.mutations.specs.declared.Entry.{Entry}
use Rattle.file_names.specs.Reading.{name_of}
use Rattle.snapshot_plan.specs.declared.Noted.{Noted}
use Rattle.snapshot_plan.specs.Noted.{pieces_of}
use Rattle.snapshot_plan.specs.Pieces.{IsFirstOrNone}
use Rattle.backup_core.specs.Backups.{map_of, sealed}
use Rattle.cluster_core.specs.Jobs.{Job, with_backup}
use Rattle.cluster_core.specs.Sound.{IsNoted, BackupSound}
use Rattle.cluster_core.proofs.Known.{Known}
use Rattle.std.specs.Prelude.{Err, nat_lt, ◌≡◌, ℕ, ◌+◌, ◌<◌, ◌≤◌, Bool, true, false, not, cond, List, [], ◌∷◌, length, Option, Some, None, ◌⊎◌, slice_get, option_map, refl}
use Rattle.std.proofs.Common.{ap, sym, ◌∙◌, arith, subst, inl, inr}
use Rattle.std.proofs.lemmas.Bool.{le-ltb}
use Rattle.fb_bytes.specs.Bytes.{Bytes}
use Rattle.manifests.specs.declared.Manifest.{Manifest}
use Rattle.manifests.specs.Grammar.{IsWhole, name_for, manifest_text}
use Rattle.container_view.specs.Files.{whole_name}
use Rattle.snapshot_plan.specs.declared.MapFault.{MapFault}
use Rattle.snapshot_plan.specs.declared.MapFault.TheVariants as faults
use Rattle.snapshot_plan.specs.Noted.{gap, manifest_of, most_bytes}
use Rattle.workload_text.specs.declared.Settings.{Settings}
use Rattle.workload_text.specs.declared.Workload.{Workload}
use Rattle.database.specs.Commits.{most_version}
use Rattle.backup_core.specs.Backups.{BackupJob, text_of}
use Rattle.cluster_core.specs.declared.change.Change.TheVariants as changes
use Rattle.cluster_core.specs.inner.Plans.{files}
use Rattle.cluster_core.specs.declared.plan.Filing.{Filing}
use Rattle.cluster_core.specs.declared.plan.Plan.TheVariants.{Put, Refuse}
use Rattle.cluster_core.specs.declared.refusal.Refusal.TheVariants.{Untiled}
use Rattle.cluster_core.specs.Jobs.{Job, with_backup}
use Rattle.cluster_core.specs.State.{State, history_on}
use Rattle.cluster_core.specs.declared.event.StepFault.TheVariants.{NoMemory}
use Rattle.cluster_core.specs.Moves.{moved, Luck}
use Rattle.cluster_core.specs.commands.Seal.{seal_name, seal_fitting, snapshot_bytes, seal_tested, seal_job}
use Rattle.cluster_core.specs.inner.Plans.{planned, IsPlanAt, IsSafe}
use Rattle.cluster_core.specs.Sound.{IsNoted, Sound}
use Rattle.client_core.proofs.Lists.{All-weaker}
use Rattle.cluster_core.proofs.Relied.{known}
use Rattle.std.specs.Prelude.{◌≡◌, ℕ, ◌+◌, Bool, true, false, cond, List, [], ◌∷◌, Option, Some, None, Err, nat_lt, slice_get, refl}
use Rattle.std.specs.Prelude.{◌≤◌, ◌⊎◌}
use Rattle.std.proofs.Common.{subst, arith, inl, inr}
use Rattle.fb_bytes.specs.Options.{◌>>=◌}
use Rattle.cluster_core.specs.declared.event.StepFault.TheVariants.{NoMemory}
use Rattle.cluster_core.specs.Backups.{FoundBackup}
use Rattle.cluster_core.specs.State.{State, history_on}
use Rattle.cluster_core.specs.Moves.{Luck, moved}
use Rattle.cluster_core.specs.commands.Seal.{seal_name, with_seal, seal_fitting, snapshot_bytes, seal_tested, seal_job}
use Rattle.manifests.specs.Grammar.{manifest_text}
use Rattle.snapshot_plan.specs.Noted.{manifest_of, most_bytes}
use Rattle.std.specs.Prelude.{◌≡◌, ℕ, ◌+◌, ◌≤◌, Bool, true, false, cond, List, [], ◌∷◌, length, Option, Some, None, nat_lt, slice_get, Err, refl}
use Rattle.std.proofs.lemmas.Bool.{ltb-false}
use Rattle.fb_outside.specs.declared.File.{File}
use Rattle.file_names.specs.declared.Name.{Name}
use Rattle.file_names.specs.declared.Name.TheVariants as names
use Rattle.manifests.specs.Grammar.{name_for, manifest_text}
use Rattle.container_view.specs.Contents.{file_grammars}
use Rattle.container_view.specs.Honest.{IsHonestFile, listed_by}
use Rattle.snapshot_plan.specs.Noted.{pieces_of, gap, manifest_of, most_bytes}
use Rattle.backup_core.specs.Backups.{BackupJob, manifest_name}
use Rattle.cluster_core.specs.Backups.{FoundBackup}
use Rattle.cluster_core.specs.State.{State, history_on}
use Rattle.cluster_core.specs.Moves.{Luck, moved}
use Rattle.fb_bytes.specs.Options.{IsIn}
use Rattle.cluster_core.specs.Sound.{IsNoted, IsDrawn, IsThere, IsKept, unreliable_in, BackupSound, IsStored, Sound, source_of}
use Rattle.cluster_core.proofs.Named.{named, manifest_spelled}
use Rattle.cluster_core.proofs.Grown.{job_grown}
use Rattle.cluster_core.proofs.Puts.{IsFresh}
use Rattle.cluster_core.proofs.Frames.{sound_gone}
use Rattle.std.specs.Prelude.{◌≡◌, ℕ, ◌<◌, ◌≤◌, Bool, true, false, not, List, [], ◌∷◌, length, Some, None, refl}
use Rattle.fb_bytes.specs.Keys.{in_ranges, is_backwards, AreSeparate}
use Rattle.fb_bytes.proofs.Order.{below_itself}
use Rattle.fb_outside.specs.Files.{AreFiles}
use Rattle.manifests.specs.Files.{version_in, version_of}
use Rattle.container_view.specs.Files.{whole_name, manifest_file, folder_in}
use Rattle.container_view.specs.Folder.{Folder}
use Rattle.container_view.specs.Honest.{listed_by}
use Rattle.container_view.specs.Law.{IsHonestManifest}
use Rattle.snapshot_plan.specs.Noted.{pieces_of, gap, manifest_of}
use Rattle.snapshot_plan.specs.Pieces.{ArePieces, gap_in, IsFirstOrNone}
use Rattle.cluster_core.specs.Sound.{IsNoted, IsThere, IsDrawn, BackupSound, IsStored, source_of}
use Rattle.cluster_core.proofs.Known.{Known, IsRead}
use Rattle.cluster_core.proofs.commands.Jobs.{some_is as jobs_same}
use Rattle.cluster_core.proofs.Touching.{Touches, same, gone}
use Rattle.cluster_core.proofs.commands.Puts.{putting_touches, IsOrder, putting_keeps, later_tickets, same_time}

pub sealed_sound : (block now tickets : ℕ) (history : List Entry) (job : Backup) → BackupSound block now tickets history job → BackupSound block now tickets history (record job { job = sealed job.job })
sealed_sound block now tickets history job h = record {
  named = h.named;
  ranges = h.ranges;
  some = h.some;
  pieces = tt;
  inside = λ key e. cc;
  noted = tt;
  distinct = tt;
  snapshot = h.snapshot;
  begun = h.begun;
  erased = h.erased;
  next = h.next;
  logged = h.logged;
}

-- what is known of the manifest of a snapshot without a gap
pub record IsSealable (m : Manifest) : Type 0 where
  pub whole : IsWhole m
  pub order : m.begin ≤ m.end
  pub end : m.end ≤ most_version

both_ways : (a b : Bool) → (a ≡ true → b ≡ true) → (b ≡ true → a ≡ true) → a ≡ b
both_ways true b f g = sym (f refl)
both_ways false true f g = g refl
both_ways false false f g = refl

not_false : (b : Bool) → not b ≡ false → b ≡ true
not_false true e = refl
not_false false e = cc

-- without a gap they have the keys of the ranges
pub tiles : (k : Known) (job : List KeyRange) (noted : List Noted) → AreSeparate job → ArePieces (pieces_of noted) → ((key : Bytes) → in_ranges (pieces_of noted) key ≡ true → in_ranges job key ≡ true) → gap_in job (pieces_of noted) ≡ None → (key : Bytes) → in_ranges (pieces_of noted) key ≡ in_ranges job key
tiles k job noted s p inside g key =
    let none : IsFirstOrNone (in_ranges job) (λ key. not (in_ranges (pieces_of noted) key)) None = subst (IsFirstOrNone (in_ranges job) (λ key. not (in_ranges (pieces_of noted) key))) g (k.piece.gap job (pieces_of noted) s p) in
    both_ways (in_ranges (pieces_of noted) key) (in_ranges job key) (inside key) (λ h. not_false (in_ranges (pieces_of noted) key) (none key h))

has_begin : (range : KeyRange) (job : List KeyRange) → is_backwards range ≡ false → in_ranges (range ∷ job) range.begin ≡ true
has_begin range job h = rw (below_itself range.begin, not_false (is_below range.begin range.end) h) refl

-- so there are some
pub some_noted : (job : List KeyRange) (noted : List Noted) → 0 < length job → AreSeparate job → ((key : Bytes) → in_ranges (pieces_of noted) key ≡ in_ranges job key) → 0 < length noted
some_noted [] noted l s t = absurd (omega arith)
some_noted (range ∷ job) [] l s t = absurd (let e = t range.begin ∙ has_begin range job s.0 in cc)
some_noted (range ∷ job) (n ∷ noted) l s t = omega arith

version_noted : (block now tickets : ℕ) (noted : Noted) → IsNoted block now tickets noted → version_of noted.file.name ≡ Some noted.file.version
version_noted block now tickets noted h = ap version_in h.name

pub sealed_whole : (k : Known) (block now tickets : ℕ) (history : List Entry) (job : Backup) → BackupSound block now tickets history job → 0 < length job.job.noted → IsWhole (manifest_of job.job.noted)
sealed_whole k block now tickets history job h some = k.manifests.whole job.job.noted some (All-weaker (IsNoted block now tickets) (λ n. version_of n.file.name ≡ Some n.file.version) job.job.noted (version_noted block now tickets) h.noted) h.distinct

pub sealable : (p : Workload) (w : State) (place : ℕ) (job : Backup) (m : Manifest) → Sound p w → slice_get w.jobs place ≡ Some (types.Backup job) → gap (map_of job.job) ≡ None → m ≡ manifest_of job.job.noted → IsSealable m
sealable p w place job m h at g e =
    let j = h.jobs.each place (types.Backup job) at in
    let tiled = tiles known job.job.terms.ranges job.job.noted j.ranges.separate j.pieces j.inside g in
    let some = some_noted job.job.terms.ranges job.job.noted j.some j.ranges.separate tiled in
    subst IsSealable (sym e) (record {
      whole = sealed_whole known p.settings.block w.time w.tickets (history_on job.side w) job j some;
      order = known.manifests.order job.job.noted;
      end = known.manifests.end job.job.noted most_version (All-weaker (IsNoted p.settings.block w.time w.tickets) (λ n. n.file.version ≤ most_version) job.job.noted (λ n q. let v = q.past in let b = h.clock.bound in omega arith) j.noted);
    })

untiled : (o : Option Bytes) (fault : MapFault) (key : Bytes) → fault ≡ faults.Untiled key → (fault ≡ faults.NoMemory) ⊎ (option_map (λ (k : Bytes). faults.Untiled k) o ≡ Some fault) → o ≡ Some key
untiled None fault key f e = elim e [ inl n ↦ absurd (let q = sym f ∙ n in cc) | inr n ↦ cc ]
untiled (Some k) fault key f e = elim e [ inl n ↦ absurd (let q = sym f ∙ n in cc) | inr n ↦ let q : Some (faults.Untiled k) ≡ Some (faults.Untiled key) = n ∙ ap (λ (x : MapFault). Some x) f in (let r : k ≡ key = cc in ap (λ (x : Bytes). Some x) r) ]

pub seal_refused : (s : Settings) (w : State) (place : ℕ) (backup : Backup) (job : Job) (kept : BackupJob) (fault : MapFault) (key : Bytes) → slice_get w.jobs place ≡ Some (types.Backup backup) → kept ≡ backup.job → (fault ≡ faults.NoMemory) ⊎ (option_map (λ (k : Bytes). faults.Untiled k) (gap (map_of kept)) ≡ Some fault) → fault ≡ faults.Untiled key → slice_get w.jobs place ≡ Some job → IsPlanAt s w (seal_job w) (record { place = place; job = job }) (Refuse (Untiled key))
seal_refused s w place backup job kept fault key e h r f at luck =
    ap (λ (x : Job). with_backup (seal_job w luck) place x) (jobs_same job (types.Backup backup) (sym at ∙ e))
    ∙ ap (seal_tested w (record { place = place; backup = backup }) luck)
    (ap (λ (x : BackupJob). gap (map_of x)) (sym h) ∙ untiled (gap (map_of kept)) fault key f r)

abbrev pub seal_filing : State → ℕ → Backup → Filing
seal_filing w place job = record { place = place; change = changes.Seal; whole = whole_name job.container (seal_name w job); bytes = manifest_text (manifest_of job.job.noted) }

pub seal_filed : (w : State) (place : ℕ) (job : Backup) (m : Manifest) (name bytes : Bytes) → m ≡ manifest_of job.job.noted → name ≡ text_of (name_for m w.tickets) → bytes ≡ manifest_text m → record { place = place; change = changes.Seal; whole = whole_name job.container name; bytes = bytes } ≡ seal_filing w place job
seal_filed w place job m name bytes e n b =
    ap {A = Bytes} {B = Filing} (λ (x : Bytes). record { place = place; change = changes.Seal; whole = whole_name job.container x; bytes = bytes }) (n ∙ ap (λ (x : Manifest). text_of (name_for x w.tickets)) e)
    ∙ ap {A = Bytes} {B = Filing} (λ (x : Bytes). record { place = place; change = changes.Seal; whole = whole_name job.container (seal_name w job); bytes = x }) (b ∙ ap manifest_text e)

pub seal_planned : (s : Settings) (w : State) (place : ℕ) (backup : Backup) (job : Job) (filing : Filing) → slice_get w.jobs place ≡ Some (types.Backup backup) → gap (map_of backup.job) ≡ None → snapshot_bytes backup ≤ most_bytes → filing ≡ seal_filing w place backup → slice_get w.jobs place ≡ Some job → IsPlanAt s w (seal_job w) (record { place = place; job = job }) (Put filing)
seal_planned s w place backup job filing e g b f at luck =
    ap (λ (x : Job). with_backup (seal_job w luck) place x) (jobs_same job (types.Backup backup) (sym at ∙ e))
    ∙ ap (seal_tested w (record { place = place; backup = backup }) luck) g
    ∙ ap (λ (t : Bool). cond t (moved (Err NoMemory) w) (seal_fitting w (record { place = place; backup = backup }) luck)) (le-ltb most_bytes (snapshot_bytes backup) b)
    ∙ sym (ap (files w (seal_filing w place backup) luck) e)
    ∙ ap (λ (x : Filing). planned s w luck (Put x)) (sym f)

pub seal_safe : (w : State) (place : ℕ) (backup : Backup) (filing : Filing) → slice_get w.jobs place ≡ Some (types.Backup backup) → filing ≡ seal_filing w place backup → w.tickets ≤ most_version → IsSafe w (Put filing)
seal_safe w place backup filing e f t =
    subst (λ (x : Filing). IsSafe w (Put x)) (sym f)
    (record { tickets = t; can = tt; job = types.Backup backup; at = e })

pub seal_touches : (pace : ℕ) (w : State) (found : FoundBackup) (luck : Luck) (o : Option Bytes) → slice_get w.jobs found.place ≡ Some (types.Backup found.backup) → Touches pace w (seal_tested w found luck o)
seal_touches pace w found luck (Some key) at = gone pace w _
seal_touches pace w found luck None at = go (nat_lt most_bytes (snapshot_bytes found.backup))
  where
    go : (b : Bool) → Touches pace w (cond b (moved (Err NoMemory) w) (seal_fitting w found luck))
    go true = same pace w _
    go false = putting_touches pace w found.place found.backup (with_seal found.backup) (seal_name w found.backup) (manifest_text (manifest_of found.backup.job.noted)) luck at refl

fresh_manifest : (name : Bytes) (tickets begin end bytes ticket : ℕ) → name_of name ≡ names.Manifest begin end bytes ticket → IsFresh tickets name
fresh_manifest name tickets begin end bytes ticket n = record { undrawn = λ s v t b e d. let q = sym n ∙ e in cc; plain = λ e. let q = sym n ∙ e in cc }

is_read : (k : Known) (block now tickets : ℕ) (container : Bytes) (files : List File) (folder : Folder) (noted : Noted) → AreFiles files → folder_in file_grammars container files ≡ Some folder → IsNoted block now tickets noted → IsThere block container files noted → IsRead folder.ranges noted
is_read k block now tickets container files folder noted o f n h = (
  h.pairs,
  k.files.found container (whole_name container noted.file.name) noted.file.name h.bytes files folder n.snapshot noted.file.version n.ticket block o (k.files.whole_in container noted.file.name) h.file n.name f
      ∙ ap (λ c. c >>= λ body. Some (record { version = noted.file.version; range = body.range; pairs = body.pairs })) h.content,
)

all_read : (k : Known) (block now tickets : ℕ) (container : Bytes) (files : List File) (folder : Folder) (noted : List Noted) → AreFiles files → folder_in file_grammars container files ≡ Some folder → AllByRecursion (IsNoted block now tickets) noted → AllByRecursion (IsThere block container files) noted → AllByRecursion (IsRead folder.ranges) noted
all_read k block now tickets container files folder [] o f n h = tt
all_read k block now tickets container files folder (x ∷ xs) o f n h = (is_read k block now tickets container files folder x o f n.0 h.0, all_read k block now tickets container files folder xs o f n.1 h.1)

-- noted files that are all at or past the unreliable end are all there
all_there : (block : ℕ) (container : Bytes) (files : List File) (end : ℕ) → unreliable_in container files ≡ Some end → (noted : List Noted) → ((n : Noted) → IsIn n noted → end ≤ n.file.version) → AllByRecursion (IsKept block container files) noted → AllByRecursion (IsThere block container files) noted
all_there block container files end e [] past h = tt
all_there block container files end e (x ∷ xs) past h = (h.0 end e (past x (inl refl)), all_there block container files end e xs (λ n i. past n (inr i)) h.1)

pub seal_content : (k : Known) (job : Backup) (ticket : ℕ) → IsWhole (manifest_of job.job.noted) → (manifest_of job.job.noted).bytes ≤ 9223372036854775807 → file_grammars.manifest (name_for (manifest_of job.job.noted) ticket) (manifest_text (manifest_of job.job.noted)) ≡ Some (manifest_of job.job.noted).files
seal_content k job ticket w fits = k.contents.manifest (name_for (manifest_of job.job.noted) ticket) (manifest_text (manifest_of job.job.noted)) (manifest_of job.job.noted) (k.manifests.written (manifest_of job.job.noted) ticket w fits)

pub seal_honest : (k : Known) (block now tickets ticket : ℕ) (history : List Entry) (files : List File) (job : Backup) (name : Bytes) → AreFiles files → BackupSound block now tickets history job → (st : IsStored block now tickets history files job) → gap (map_of job.job) ≡ None → (manifest_of job.job.noted).bytes ≤ 9223372036854775807 → st.honest.folder.unreliable ≤ (manifest_of job.job.noted).begin
    → IsHonestManifest (source_of block now history job) st.honest.folder.ranges (manifest_file file_grammars name (manifest_text (manifest_of job.job.noted)) (name_for (manifest_of job.job.noted) ticket) (manifest_of job.job.noted).begin (manifest_of job.job.noted).end)
seal_honest k block now tickets ticket history files job name o h st g fits u =
    let tiled = tiles k job.job.terms.ranges job.job.noted h.ranges.separate h.pieces h.inside g in
    let some = some_noted job.job.terms.ranges job.job.noted h.some h.ranges.separate tiled in
    k.manifests.honest (source_of block now history job) st.honest.folder.ranges job.job.noted _ some
    (all_read k block now tickets job.container files st.honest.folder job.job.noted o st.honest.decoded h.noted
    (all_there block job.container files st.honest.folder.unreliable (k.files.unreliable job.container files st.honest.folder st.honest.decoded) job.job.noted (λ n i. let l = k.manifests.begin job.job.noted some n i in omega arith) st.there))
    h.pieces tiled refl refl (seal_content k job ticket (sealed_whole k block now tickets history job h some) fits)

drawn_noted : (block now tickets : ℕ) (noted : Noted) → IsNoted block now tickets noted → IsDrawn tickets noted.file.name
drawn_noted block now tickets noted h = record { snapshot = h.snapshot; version = noted.file.version; ticket = h.ticket; block = block; read = h.name; drawn = h.drawn }

-- it lists files with drawn tickets
pub seal_lists : (k : Known) (block now tickets ticket : ℕ) (history : List Entry) (job : Backup) → BackupSound block now tickets history job → 0 < length job.job.noted → (manifest_of job.job.noted).bytes ≤ 9223372036854775807 → (names : List Bytes) → listed_by file_grammars (name_for (manifest_of job.job.noted) ticket) (manifest_text (manifest_of job.job.noted)) ≡ Some names → AllByRecursion (IsDrawn tickets) names
seal_lists k block now tickets ticket history job h some fits names l =
    let same : (manifest_of job.job.noted).files ≡ names = some_is (manifest_of job.job.noted).files names (sym (seal_content k job ticket (sealed_whole k block now tickets history job h some) fits) ∙ l) in
    subst (AllByRecursion (IsDrawn tickets)) same (k.manifests.listed tickets job.job.noted (All-weaker (IsNoted block now tickets) (λ n. IsDrawn tickets n.file.name) job.job.noted (drawn_noted block now tickets) h.noted))
  where
    some_is : (a b : List Bytes) → Some a ≡ Some b → a ≡ b
    some_is a b p = cc

seal_order : (k : Known) (p : Workload) (w : State) (place : ℕ) (job : Backup) → Sound p w → slice_get w.jobs place ≡ Some (types.Backup job) → gap (map_of job.job) ≡ None → snapshot_bytes job ≤ 9223372036854775807 → w.tickets ≤ most_version → IsOrder p w place job (with_seal job).job (seal_name w job) (manifest_text (manifest_of job.job.noted))
seal_order k p w place job h at g fits t =
    let j = h.jobs.each place (types.Backup job) at in
    let m = manifest_of job.job.noted in
    let tiled = tiles k job.job.terms.ranges job.job.noted j.ranges.separate j.pieces j.inside g in
    let some = some_noted job.job.terms.ranges job.job.noted j.some j.ranges.separate tiled in
    let end : (manifest_of job.job.noted).end ≤ most_version = k.manifests.end job.job.noted most_version (All-weaker (IsNoted p.settings.block w.time w.tickets) (λ n. n.file.version ≤ most_version) job.job.noted (λ n q. let v = q.past in let b = h.clock.bound in omega arith) j.noted) in
    let name : name_of (seal_name w job) ≡ name_for (manifest_of job.job.noted) w.tickets = named k (manifest_name job.job w.tickets) (manifest_spelled (manifest_of job.job.noted).begin (manifest_of job.job.noted).end (manifest_of job.job.noted).bytes w.tickets (k.manifests.order job.job.noted) end fits t) in
    record {
      terms = refl;
      fresh = fresh_manifest (seal_name w job) w.tickets (manifest_of job.job.noted).begin (manifest_of job.job.noted).end (manifest_of job.job.noted).bytes w.tickets name;
      good = λ files e. record {
        honest = λ st. subst (IsHonestFile file_grammars (source_of p.settings.block w.time (history_on job.side w) job) st.honest.folder (seal_name w job) (manifest_text (manifest_of job.job.noted))) (sym name)
            (λ u. seal_honest k p.settings.block w.time w.tickets w.tickets (history_on job.side w) files job (seal_name w job) (h.containers files e).ordered j st g fits u);
        lists = λ names l. seal_lists k p.settings.block w.time w.tickets w.tickets (history_on job.side w) job j some fits names (sym (ap (λ (x : Name). listed_by file_grammars x (manifest_text (manifest_of job.job.noted))) name) ∙ l);
      };
      after = sealed_sound p.settings.block w.time (w.tickets + 1) (history_on job.side w) job (job_grown p.settings.block w.time w.time w.tickets (w.tickets + 1) (history_on job.side w) (history_on job.side w) job (same_time w.time) (later_tickets w.tickets) j.logged j);
      stored = λ files there st. record { honest = st.honest; there = tt; listed = st.listed };
    }

seal_tested_keeps : (k : Known) (p : Workload) (w : State) (found : FoundBackup) (luck : Luck) (o : Option Bytes) → Sound p w → slice_get w.jobs found.place ≡ Some (types.Backup found.backup) → gap (map_of found.backup.job) ≡ o → Sound p (seal_tested w found luck o).state
seal_tested_keeps k p w found luck (Some key) h at g = sound_gone p w h
seal_tested_keeps k p w found luck None h at g = go (nat_lt most_bytes (snapshot_bytes found.backup)) refl
  where
    go : (b : Bool) → nat_lt most_bytes (snapshot_bytes found.backup) ≡ b → Sound p (cond b (moved (Err NoMemory) w) (seal_fitting w found luck)).state
    go true e = h
    go false e = putting_keeps k p w found.place found.backup (with_seal found.backup).job (seal_name w found.backup) (manifest_text (manifest_of found.backup.job.noted)) luck h at (seal_order k p w found.place found.backup h at g (ltb-false most_bytes (snapshot_bytes found.backup) e))

pub seal_keeps : (k : Known) (p : Workload) (w : State) (luck : Luck) (found : FoundBackup) → Sound p w → slice_get w.jobs found.place ≡ Some (types.Backup found.backup) → Sound p (seal_job w luck found).state
seal_keeps k p w luck found h at = seal_tested_keeps k p w found luck (gap (map_of found.backup.job)) h at refl

-- What agents take for a backup's tasks is honest.
use Rattle.std.proofs.Common.{◌≡◌, ◌≢◌, ℕ, ◌<◌, ◌≤◌, true, false, not, ◌&&◌, cond, List, [], ◌∷◌, Option, Some, None, inl, inr, ⊎_elim, refl, sym, ap, ◌∙◌, subst, arith, nat_le, nat_lt}
use Rattle.std.specs.List.{AllByRecursion}
use Rattle.std.proofs.lemmas.Bool.{cases_Bool, and_parts, leb-true, ltb-true}
use Rattle.fb_bytes.specs.Bytes.{Bytes, is_same}
use Rattle.fb_bytes.specs.declared.KeyRange.{KeyRange}
use Rattle.fb_bytes.specs.Keys.{in_ranges, is_backwards}
use Rattle.fb_bytes.specs.Options.{IsIn}
use Rattle.fb_bytes.proofs.Order.{not_both, same_both}
use Rattle.file_names.specs.declared.Name.TheVariants.{Range}
use Rattle.mutations.specs.Histories.{logged}
use Rattle.task_kinds.specs.Works.{BackupWork, BackupStart, BackupRange, BackupManifest, BackupLog}
use Rattle.snapshot_plan.specs.Noted.{pieces_of, fault_of, gap, manifest_of}
use Rattle.snapshot_plan.specs.declared.Noted.{Noted}
use Rattle.snapshot_plan.proofs.Manifests.{manifest_law}
use Rattle.snapshot_plan.proofs.Walking.{least_key_law}
use Rattle.container_view.specs.Folder.{RangeContent, RangeFile, Folder}
use Rattle.container_view.specs.Law.{Source, HasState, IsHonestManifest}
use Rattle.backup_core.specs.Backups.{BackupJob, map_of, unless_ended, log_of, job_log, text_of}
use Rattle.backup_core.specs.Counts.{one_if, starts, ranges, manifests, logs, any, holding, strays}
use Rattle.backup_core.specs.Facts.{View, JobFacts, IsThere, FileFacts}
use Rattle.backup_core.specs.Kept.{RangePart, LogPart, ManifestPart, Kept, manifest_file, KeptFacts}
use Rattle.backup_core.specs.Rows.{Scene, Row, is_ending, is_past, start_row, dispatch_row, range_row, manifest_row, logs_row, log_row, erase_row, finish_row, start_if, range_if, row_of}
use Rattle.mutations.proofs.Basics.{by_test}
use Rattle.fb_bytes.specs.Bytes.{is_below}
use Rattle.snapshot_plan.specs.declared.Done.{Done}
use Rattle.snapshot_plan.specs.Noted.{with_noted}
use Rattle.snapshot_plan.specs.Listing.{noted_names, IsNew, IsWritable}
use Rattle.snapshot_plan.proofs.Manifests.{placed_all, whole_law}
use Rattle.backup_core.proofs.Noting.{new_to, is_new}
use Rattle.task_kinds.specs.Works.{BackupDispatch, BackupLogs, BackupErase, BackupFinish}
use Rattle.backup_core.specs.Kept.{done_of, RangeKept, PartFacts}
use Rattle.backup_core.specs.Laws.{IsElsewhere, ClosesLaw, CanLog, IsFree, kept_as, TakesLaw}
use Rattle.backup_core.specs.Manifests.{NotedThere, AreTiling}
use Rattle.backup_core.specs.Tasks.{IsLoad, HasTask}
use Rattle.backup_core.proofs.Closes.{works, proper_piece, piece_tile}
use Rattle.backup_core.proofs.Manifests.{honest_manifest_law}
use Rattle.backup_core.proofs.Pieces.{held_is, some_key}
use Rattle.backup_core.proofs.Sums.{holding_below}

-- ---- lists

pub each_in : {X : Type 0} (P : X → Type 0) (xs : List X) (x : X) → AllByRecursion P xs → IsIn x xs → P x
each_in P [] x h i = absurd i
each_in P (y ∷ ys) x h (inl e) = subst P (sym e) h.0
each_in P (y ∷ ys) x h (inr i) = each_in P ys x h.1 i

pub all_in : {X : Type 0} (P : X → Type 0) (xs : List X) → ((x : X) → IsIn x xs → P x) → AllByRecursion P xs
all_in P [] h = tt
all_in P (x ∷ xs) h = (h x (inl refl), all_in P xs (λ y i. h y (inr i)))

-- ---- a piece, a start

piece_is : (j : BackupJob) (v : View) (snapshot : ℕ) (piece : KeyRange) → JobFacts j v → IsLoad v.load → HasTask v.load (BackupRange snapshot piece) → (is_backwards piece ≡ false) × (fault_of (map_of j) piece ≡ None)
piece_is j v snapshot piece h sums has =
    let w = works j v h (has any) in
    let t = piece_tile j v w sums snapshot piece has in (
      proper_piece j v w sums snapshot piece has,
      (least_key_law.free (map_of j) piece (record { ranges = h.separate; pieces = h.noted.pieces })).1 ((λ key e. (t key e).0), λ key e. (t key e).1),
    )

start_is : (j : BackupJob) (v : View) → JobFacts j v → HasTask v.load BackupStart → job_log j ≡ None
start_is j v h has =
    let w = works j v h (has any) in
    ap (λ b. cond b (log_of j) None) (w.log.waits (has starts))

placed_is : (source : Source) (folder : Folder) (snapshot : ℕ) (piece : KeyRange) (kept : Kept) (of version bytes : ℕ) (body : RangeContent) → KeptFacts source folder (BackupRange snapshot piece) kept → kept.part ≡ RangePart of version body → kept.placed ≡ true → (of ≡ snapshot) × (body.range ≡ piece) × (version ≤ source.now) × IsThere folder (record { piece = piece; file = done_of source.block kept.ticket of version bytes })
placed_is source folder snapshot piece kept of version bytes body h e p =
    let k : RangeKept source folder (BackupRange snapshot piece) kept of version body = subst (PartFacts source folder (BackupRange snapshot piece) kept) e h.part in
    let q : BackupRange snapshot piece ≡ BackupRange of body.range = k.of_task in
    let r : body.range ≡ piece = cc in
    let s : of ≡ snapshot = cc in
    (s, r, k.honest.past, λ u. (body.pairs, k.there p u ∙ ap (λ x. Some (record { version = version; range = x; pairs = body.pairs })) r))

-- ---- names

new_more : (name : Bytes) (one : Noted) (noted : List Noted) → is_same name one.file.name ≡ false → IsNew name (noted_names noted) → IsNew name (noted_names (with_noted one noted))
new_more name one noted e h = is_new name (with_noted one noted) (placed_all (λ (n : Noted). is_same name n.file.name ≡ false) (λ (m : Noted). is_below m.piece.begin one.piece.begin) one noted e (new_to name noted h))

module _ (scene : Scene) (file : Option Done) (j : BackupJob) (name : Bytes) (h : IsNew name (noted_names j.noted)) where
  abbrev After : Row → Type 0
  After row = IsNew name (noted_names row.job.noted)

  of_row : (made row : Row) → Some made ≡ Some row → After made → After row
  of_row made row e g = let q : made ≡ row = cc in subst After q g

  logs_unnoted : After (logs_row scene j)
  logs_unnoted = by_test (is_ending j && is_past j) After _ _ (λ e. h) (λ e. by_test (nat_lt scene.now j.next) After _ _ (λ d. h) (λ d. h))

  row_unnoted : (work : BackupWork) (row : Row) → IsElsewhere name file → row_of scene work file j ≡ Some row → After row
  row_unnoted BackupStart row o e = go scene.version e
    where
      go : (o : Option ℕ) → start_if j o ≡ Some row → After row
      go None e = absurd cc
      go (Some version) e = of_row (start_row version j) row e h
  row_unnoted BackupDispatch row o e = of_row (dispatch_row scene j) row e tt
  row_unnoted (BackupRange snapshot piece) row o e = go file o e
    where
      go : (f : Option Done) → IsElsewhere name f → range_if scene snapshot piece j f ≡ Some row → After row
      go None o e = absurd cc
      go (Some done) o e = of_row (range_row scene snapshot piece done j) row e (new_more name (record { piece = piece; file = done }) j.noted o h)
  row_unnoted (BackupManifest snapshot) row o e = of_row (manifest_row scene j) row e h
  row_unnoted BackupLogs row o e = of_row (logs_row scene j) row e logs_unnoted
  row_unnoted (BackupLog begin end) row o e = of_row (log_row scene j) row e h
  row_unnoted BackupErase row o e = of_row (erase_row scene j) row e h
  row_unnoted BackupFinish row o e = of_row (finish_row scene j) row e h

unnoted_is : (scene : Scene) (work : BackupWork) (file : Option Done) (j : BackupJob) (row : Row) (name : Bytes) → IsNew name (noted_names j.noted) → IsElsewhere name file → row_of scene work file j ≡ Some row → IsNew name (noted_names row.job.noted)
unnoted_is scene work file j row name h o e = row_unnoted scene file j name h work row o e

pub closes_law : ClosesLaw
closes_law = record { piece = piece_is; start = start_is; placed = placed_is; unnoted = unnoted_is }

-- ---- logs

-- an open log task has versions, between what is erased and what is logged next
pub open_span : (j : BackupJob) (v : View) (begin end : ℕ) → JobFacts j v → HasTask v.load (BackupLog begin end) → (j.erased ≤ begin) × (begin < end) × (end ≤ j.next)
open_span j v begin end h has = let w = works j v h (has any) in inside (let z = w.log.strays in let x = has (strays j.erased j.next) in omega arith)
  where
    inside : one_if (not (nat_le j.erased begin && nat_lt begin end && nat_le end j.next)) ≡ 0 → (j.erased ≤ begin) × (begin < end) × (end ≤ j.next)
    inside z = ⊎_elim
        (λ e. let x = and_parts (nat_le j.erased begin && nat_lt begin end) (nat_le end j.next) e in let y = and_parts (nat_le j.erased begin) (nat_lt begin end) x.0 in (leb-true j.erased begin y.0, ltb-true begin end y.1, leb-true end j.next x.1))
        (λ e. absurd (let x : one_if (not (nat_le j.erased begin && nat_lt begin end && nat_le end j.next)) ≡ 1 = ap (λ b. one_if (not b)) e in omega arith))
        (cases_Bool (nat_le j.erased begin && nat_lt begin end && nat_le end j.next))

can_log_is : (j : BackupJob) (v : View) (begin end : ℕ) → JobFacts j v → HasTask v.load (BackupLog begin end) → CanLog j v.now begin end
can_log_is j v begin end h has =
    let w = works j v h (has any) in
    let c = w.lines.logs in
    let n = has logs in
    let s = w.log.logs (omega arith) in
    let i = open_span j v begin end h has in
    let x = w.log.next in
    let e = i.2 in
    record {
      log = record { job = j.terms.number; ranges = j.terms.ranges; begin = j.begin; erased = j.erased };
      ranges = refl;
      is = ap (λ b. cond b (log_of j) None) s ∙ ap (λ b. unless_ended b (record { job = j.terms.number; ranges = j.terms.ranges; begin = j.begin; erased = j.erased })) w.goes_on;
      kept = i.0;
      some = i.1;
      past = omega arith;
    }

log_is : (source : Source) (folder : Folder) (j : BackupJob) (v : View) (ticket begin end : ℕ) → FileFacts j source folder → source.now ≡ v.now → JobFacts j v → HasTask v.load (BackupLog begin end) → KeptFacts source folder (BackupLog begin end) (kept_as ticket (LogPart begin end (logged source.history j.terms.ranges begin end)))
log_is source folder j v ticket begin end f now h has =
    let c = (can_log_is j v begin end h has).past in
    record { part = record { of_task = refl; honest = record { past = omega arith; block = refl; content = ap (λ r. Some (logged source.history r begin end)) (sym f.ranges) } } }

-- ---- ranges

range_is : (source : Source) (folder : Folder) (j : BackupJob) (v : View) (ticket snapshot : ℕ) (body : RangeContent) → JobFacts j v → IsLoad v.load → HasTask v.load (BackupRange snapshot body.range) → HasState source source.now body → IsFree folder (text_of (Range snapshot source.now ticket source.block)) → KeptFacts source folder (BackupRange snapshot body.range) (kept_as ticket (RangePart snapshot source.now body))
range_is source folder j v ticket snapshot body h sums has state free =
    let w = works j v h (has any) in
    record {
      part = record {
        of_task = refl;
        proper = proper_piece j v w sums snapshot body.range has;
        honest = record { past = omega arith; block = refl; body = body; content = refl; state = state };
        same = λ file i e. not_both (same_both file.name (text_of (Range snapshot source.now ticket source.block)) e) (each_in (λ (f : RangeFile). is_same f.name (text_of (Range snapshot source.now ticket source.block)) ≡ false) folder.ranges file free i);
        there = λ p. not_both p refl;
      };
    }

-- ---- manifests

module _ (j : BackupJob) (v : View) (h : JobFacts j v) (sums : IsLoad v.load) (snapshot : ℕ) (has : HasTask v.load (BackupManifest snapshot)) where
  -- no piece is open, so the noted ones tile the ranges
  noted_tile : (key : Bytes) → in_ranges (pieces_of j.noted) key ≡ in_ranges j.terms.ranges key
  noted_tile key =
      let w = works j v h (has any) in
      let a = w.lines.snapshots in
      let m = has manifests in
      let z = sums.less (holding key) ranges (holding_below key) in
      let t = w.lines.tiles (omega arith) key in
      held_is (pieces_of j.noted) key (in_ranges j.terms.ranges key) (omega arith)

  pub noted_some : j.noted ≢ []
  noted_some e = let k = some_key j.terms.ranges h.some h.separate in not_both (noted_tile k.0 ∙ k.1) (ap (λ ns. in_ranges (pieces_of ns) k.0) e)

  pub manifest_writable : IsWritable (manifest_of j.noted)
  manifest_writable = whole_law j.noted noted_some h.noted.names h.noted.distinct

  pub no_gap : gap (map_of j) ≡ None
  no_gap = (least_key_law.tiled (map_of j) (record { ranges = h.separate; pieces = h.noted.pieces })).1 (λ key i. noted_tile key ∙ i)

module _ (source : Source) (folder : Folder) (j : BackupJob) (v : View) (snapshot : ℕ) (f : FileFacts j source folder) (h : JobFacts j v) (sums : IsLoad v.load) (has : HasTask v.load (BackupManifest snapshot)) where
  tiling : AreTiling source.ranges j.noted
  tiling key = noted_tile j v h sums snapshot has key ∙ ap (λ r. in_ranges r key) (sym f.ranges)

  manifest_honest : (ticket : ℕ) → folder.unreliable ≤ (manifest_of j.noted).begin → IsHonestManifest source folder.ranges (manifest_file ticket (manifest_of j.noted))
  manifest_honest ticket u =
      let some = noted_some j v h sums snapshot has in
      honest_manifest_law source folder.ranges j.noted some
      (all_in (NotedThere folder.ranges) j.noted (λ n i. each_in (IsThere folder) j.noted n f.there i (let b = (manifest_law.begin j.noted some).least n i in omega arith)))
      h.noted.pieces tiling (manifest_file ticket (manifest_of j.noted)) (record { begin = refl; end = refl; content = refl })

  manifest_is : (ticket : ℕ) → IsWritable (manifest_of j.noted) × KeptFacts source folder (BackupManifest snapshot) (kept_as ticket (ManifestPart (manifest_of j.noted)))
  manifest_is ticket = (manifest_writable j v h sums snapshot has, record { part = record { snapshot = snapshot; of_task = refl; honest = manifest_honest ticket } })

pub takes_law : TakesLaw
takes_law = record {
  can_log = can_log_is;
  log = log_is;
  range = range_is;
  manifest = λ source folder j v ticket snapshot f h sums has. manifest_is source folder j v snapshot f h sums has ticket;
}

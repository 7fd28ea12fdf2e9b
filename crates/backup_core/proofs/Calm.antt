-- What is kept of a backup, and of what agents keep for it, as time goes on and files come and go.
use Rattle.std.proofs.Common.{◌≡◌, ℕ, ◌+◌, ◌<◌, ◌≤◌, Bool, true, false, cond, List, [], ◌∷◌, Option, Some, None, inl, inr, ⊎_elim, refl, sym, ap, ◌∙◌, subst, arith, nat_lt, ◌&&◌}
use Rattle.std.specs.List.{AllByRecursion}
use Rattle.fb_bytes.specs.Bytes.{Bytes, is_below, is_same}
use Rattle.fb_bytes.specs.Options.{IsIn}
use Rattle.fb_bytes.proofs.Order.{not_both, same_eq, same_both}
use Rattle.file_names.specs.declared.Name.TheVariants.{Range}
use Rattle.mutations.proofs.Basics.{by_test, all_weaker}
use Rattle.snapshot_plan.specs.declared.Done.{Done}
use Rattle.snapshot_plan.specs.declared.Noted.{Noted}
use Rattle.snapshot_plan.proofs.Manifests.{placed_all}
use Rattle.task_kinds.specs.Works.{BackupWork, BackupStart, BackupDispatch, BackupRange, BackupManifest, BackupLogs, BackupLog, BackupErase, BackupFinish}
use Rattle.container_view.specs.Changes.{Grows, Inserts}
use Rattle.container_view.specs.Folder.{RangeFile, Folder}
use Rattle.container_view.specs.Law.{Source, IsHonest, IsHonestRange, IsHonestLog, IsHonestManifest}
use Rattle.container_view.specs.Meaning.{read_range, piece_named}
use Rattle.container_view.proofs.Kept.{in_inserted, in_fewer, grown_range, grown_log, grown_manifest, grown, named_more, named_less, manifest_more, manifest_less}
use Rattle.backup_core.specs.declared.mode.Mode.{Mode}
use Rattle.backup_core.specs.declared.mode.Mode.TheVariants.{Hand, Once, Continuous}
use Rattle.backup_core.specs.Backups.{BackupJob, text_of}
use Rattle.backup_core.specs.Facts.{View, WorkFacts, OpenFacts, JobFacts, IsThere, FileFacts}
use Rattle.backup_core.specs.Kept.{Part, RangePart, LogPart, ManifestPart, Kept, range_file, log_file, manifest_file, PartFacts, KeptFacts}
use Rattle.backup_core.specs.Laws.{FileThere, RowFilesLaw, FileComes, IsApart, IsPlaced, KeptLaw, CalmLaw}
use Rattle.backup_core.specs.Rows.{Scene, Row, start_row, dispatch_row, range_row, manifest_row, logs_row, log_row, erase_row, finish_row, is_ending, is_past, most_logs, logs_end, logging_to, start_if, range_if, row_of}
use Rattle.backup_core.proofs.Closes.{noted_later}
use Rattle.backup_core.specs.Tasks.{Load}

-- ---- the facts on a job

module _ (j : BackupJob) (old : View) (now : ℕ) (later : old.now ≤ now) (h : JobFacts j old) where
  abbrev at : View
  at = record { now = now; load = old.load }

  work_later : (m : Mode) → WorkFacts m j old → WorkFacts m j at
  work_later Hand w = record { none = w.none; started = w.started }
  work_later Once w = record { settings = w.settings; snapshots = w.snapshots; logs = w.logs; submitted = w.submitted; finishing = w.finishing; differential = w.differential; proper = w.proper; tiles = w.tiles }
  work_later Continuous w = record { settings = w.settings; snapshots = w.snapshots; logs = w.logs; submitted = w.submitted; finishing = w.finishing; differential = w.differential; proper = w.proper; tiles = w.tiles }

  open_later : OpenFacts j old → OpenFacts j at
  open_later o = record {
    log = record { begun = o.log.begun; erased = o.log.erased; next = let x = o.log.next in omega arith; strays = o.log.strays; logs = o.log.logs; waits = o.log.waits };
    work = work_later j.terms.mode o.work;
  }

  job_later : JobFacts j at
  job_later = record {
    separate = h.separate;
    some = h.some;
    noted = noted_later j.terms.ranges old.now now j.noted later h.noted;
    snapshot = let x = h.snapshot in omega arith;
    goes_on = λ e. open_later (h.goes_on e);
    ended = h.ended;
  }

job_calm : (j : BackupJob) (old new : View) → old.now ≤ new.now → ((f : BackupWork → ℕ) → new.load f ≡ old.load f) → JobFacts j old → JobFacts j new
job_calm j old new later same h = subst (λ (l : Load). JobFacts j (record { now = new.now; load = l })) (λ i f. sym (same f) i) (job_later j old new.now later h)

files_calm : (j : BackupJob) (old new : Source) (folder : Folder) → Grows old new → FileFacts j old folder → FileFacts j new folder
files_calm j old new folder g f = record { ranges = g.ranges ∙ f.ranges; honest = grown old new folder g f.honest; there = f.there }

there_comes : (old new : Folder) (file : RangeFile) → FileComes old new file → (n : Noted) → IsThere old n → IsThere new n
there_comes old new file c n h u =
    let x = h (let e = c.unreliable in omega arith) in (
      x.0,
      subst (λ l. piece_named l n.file.name ≡ Some (record { version = n.file.version; range = n.piece; pairs = x.0 })) (sym c.ranges.many_is)
          (named_more file c.ranges.before c.ranges.after n.file.name (record { version = n.file.version; range = n.piece; pairs = x.0 })
          (subst (AllByRecursion (λ (f : RangeFile). is_same f.name file.name ≡ false)) c.ranges.few_is c.free)
          (subst (λ l. piece_named l n.file.name ≡ Some (record { version = n.file.version; range = n.piece; pairs = x.0 })) c.ranges.few_is x.1)),
    )

there_stays : (old new : Folder) → new.ranges ≡ old.ranges → old.unreliable ≤ new.unreliable → (n : Noted) → IsThere old n → IsThere new n
there_stays old new r l n h u = let x = h (omega arith) in (x.0, ap (λ l. piece_named l n.file.name) r ∙ x.1)

there_goes : (old new : Folder) (file : RangeFile) → Inserts file new.ranges old.ranges → file.version < old.unreliable → new.unreliable ≡ old.unreliable → (n : Noted) → IsThere old n → IsThere new n
there_goes old new file i l e n h u =
    let x = h (omega arith) in (
      x.0,
      subst (λ l. piece_named l n.file.name ≡ Some (record { version = n.file.version; range = n.piece; pairs = x.0 })) (sym i.few_is)
          (named_less file i.before i.after n.file.name (record { version = n.file.version; range = n.piece; pairs = x.0 }) (omega arith)
          (subst (λ l. piece_named l n.file.name ≡ Some (record { version = n.file.version; range = n.piece; pairs = x.0 })) i.many_is x.1)),
    )

files_as : (j : BackupJob) (source : Source) (old new : Folder) → ((n : Noted) → IsThere old n → IsThere new n) → IsHonest source new → FileFacts j source old → FileFacts j source new
files_as j source old new t honest f = record { ranges = f.ranges; honest = honest; there = all_weaker (IsThere old) (IsThere new) t j.noted f.there }

pub calm_law : CalmLaw
calm_law = record {
  job = job_calm;
  files = files_calm;
  comes = λ j source old new file c honest f. files_as j source old new (there_comes old new file c) honest f;
  stays = λ j source old new r l honest f. files_as j source old new (there_stays old new r l) honest f;
  goes = λ j source old new file i l e honest f. files_as j source old new (there_goes old new file i l e) honest f;
}

-- ---- the facts on the files, at a close

module _ (source : Source) (folder : Folder) (scene : Scene) (file : Option Done) (j : BackupJob) (f : FileFacts j source folder) where
  abbrev After : Row → Type 0
  After row = FileFacts row.job source folder

  of_row : (made row : Row) → Some made ≡ Some row → After made → After row
  of_row made row e g = let q : made ≡ row = cc in subst After q g

  as_before : (i : BackupJob) → i.terms ≡ j.terms → i.noted ≡ j.noted → FileFacts i source folder
  as_before i t n = record { ranges = f.ranges ∙ sym (ap (λ x. x.ranges) t); honest = f.honest; there = subst (AllByRecursion (IsThere folder)) (sym n) f.there }

  logs_files : After (logs_row scene j)
  logs_files = by_test (is_ending j && is_past j) After _ _ (λ e. f) (λ e. by_test (nat_lt scene.now j.next) After _ _ (λ d. f) (λ d. as_before (logging_to (logs_end most_logs j.terms.settings.span j.next (scene.now + 1)) j) refl refl))

  row_files : (work : BackupWork) (row : Row) → FileThere folder work file → row_of scene work file j ≡ Some row → After row
  row_files BackupStart row there e = go scene.version e
    where
      go : (o : Option ℕ) → start_if j o ≡ Some row → After row
      go None e = absurd cc
      go (Some version) e = of_row (start_row version j) row e (as_before (start_row version j).job refl refl)
  row_files BackupDispatch row there e = of_row (dispatch_row scene j) row e (record { ranges = f.ranges; honest = f.honest; there = tt })
  row_files (BackupRange snapshot piece) row there e = go file there e
    where
      go : (o : Option Done) → FileThere folder (BackupRange snapshot piece) o → range_if scene snapshot piece j o ≡ Some row → After row
      go None t e = absurd cc
      go (Some done) t e = of_row (range_row scene snapshot piece done j) row e (record {
        ranges = f.ranges;
        honest = f.honest;
        there = placed_all (IsThere folder) (λ (m : Noted). is_below m.piece.begin piece.begin) (record { piece = piece; file = done }) j.noted (t snapshot piece refl) f.there;
      })
  row_files (BackupManifest snapshot) row there e = of_row (manifest_row scene j) row e (as_before (manifest_row scene j).job refl refl)
  row_files BackupLogs row there e = of_row (logs_row scene j) row e logs_files
  row_files (BackupLog begin end) row there e = of_row (log_row scene j) row e (as_before (log_row scene j).job refl refl)
  row_files BackupErase row there e = of_row (erase_row scene j) row e (as_before (erase_row scene j).job refl refl)
  row_files BackupFinish row there e = of_row (finish_row scene j) row e (as_before (finish_row scene j).job refl refl)

pub row_files_law : RowFilesLaw
row_files_law source folder scene work file j row f there e = row_files source folder scene file j f work row there e

-- ---- what agents keep

module _ (old new : Source) (folder : Folder) (work : BackupWork) (kept : Kept) (g : Grows old new) where
  part_grows : (p : Part) → PartFacts old folder work kept p → PartFacts new folder work kept p
  part_grows (RangePart snapshot version body) h = record {
    of_task = h.of_task;
    proper = h.proper;
    honest = subst (λ b. IsHonestRange new (range_file b kept.ticket snapshot version body)) (sym g.block) (grown_range old new g (range_file old.block kept.ticket snapshot version body) h.honest);
    same = subst (λ b. (file : RangeFile) → IsIn file folder.ranges → file.name ≡ text_of (Range snapshot version kept.ticket b) → file ≡ range_file b kept.ticket snapshot version body) (sym g.block) h.same;
    there = subst (λ b. kept.placed ≡ true → folder.unreliable ≤ version → piece_named folder.ranges (text_of (Range snapshot version kept.ticket b)) ≡ Some (record { version = version; range = body.range; pairs = body.pairs })) (sym g.block) h.there;
  }
  part_grows (LogPart begin end batches) h = record { of_task = h.of_task; honest = subst (λ b. IsHonestLog new (log_file b kept.ticket begin end batches)) (sym g.block) (grown_log old new g (log_file old.block kept.ticket begin end batches) h.honest) }
  part_grows (ManifestPart manifest) h = record { snapshot = h.snapshot; of_task = h.of_task; honest = λ u. grown_manifest old new g folder.ranges (manifest_file kept.ticket manifest) (h.honest u) }

kept_grows : (old new : Source) (folder : Folder) (work : BackupWork) (kept : Kept) → Grows old new → KeptFacts old folder work kept → KeptFacts new folder work kept
kept_grows old new folder work kept g h = record { part = part_grows old new folder work kept g kept.part h.part }

module _ (source : Source) (old new : Folder) (work : BackupWork) (kept : Kept) where
  part_comes : (file : RangeFile) → FileComes old new file → (p : Part) → IsApart source.block (record kept { part = p }) file → PartFacts source old work kept p → PartFacts source new work kept p
  part_comes file c (RangePart snapshot version body) apart h = record {
    of_task = h.of_task;
    proper = h.proper;
    honest = h.honest;
    same = λ f i e. ⊎_elim
        (λ q. q ∙ apart snapshot version body refl (sym (ap (λ (x : RangeFile). x.name) q) ∙ e))
        (λ k. h.same f (subst (IsIn f) (sym c.ranges.few_is) k) e)
        (in_inserted file f c.ranges.before c.ranges.after (subst (IsIn f) c.ranges.many_is i));
    there = λ p u. subst (λ l. piece_named l (text_of (Range snapshot version kept.ticket source.block)) ≡ Some (record { version = version; range = body.range; pairs = body.pairs })) (sym c.ranges.many_is)
        (named_more file c.ranges.before c.ranges.after (text_of (Range snapshot version kept.ticket source.block)) (record { version = version; range = body.range; pairs = body.pairs })
        (subst (AllByRecursion (λ (f : RangeFile). is_same f.name file.name ≡ false)) c.ranges.few_is c.free)
        (subst (λ l. piece_named l (text_of (Range snapshot version kept.ticket source.block)) ≡ Some (record { version = version; range = body.range; pairs = body.pairs })) c.ranges.few_is (h.there p (let e = c.unreliable in omega arith))));
  }
  part_comes file c (LogPart begin end batches) apart h = h
  part_comes file c (ManifestPart manifest) apart h = record { snapshot = h.snapshot; of_task = h.of_task; honest = λ u. manifest_more source file old.ranges new.ranges c.ranges c.free (manifest_file kept.ticket manifest) (h.honest (let e = c.unreliable in omega arith)) }

  part_stays : new.ranges ≡ old.ranges → old.unreliable ≤ new.unreliable → (p : Part) → PartFacts source old work kept p → PartFacts source new work kept p
  part_stays r l (RangePart snapshot version body) h = record {
    of_task = h.of_task;
    proper = h.proper;
    honest = h.honest;
    same = λ f i e. h.same f (subst (IsIn f) r i) e;
    there = λ p u. ap (λ l. piece_named l (text_of (Range snapshot version kept.ticket source.block))) r ∙ h.there p (omega arith);
  }
  part_stays r l (LogPart begin end batches) h = h
  part_stays r l (ManifestPart manifest) h = record { snapshot = h.snapshot; of_task = h.of_task; honest = λ u. subst (λ x. IsHonestManifest source x (manifest_file kept.ticket manifest)) (sym r) (h.honest (omega arith)) }

  part_goes : (file : RangeFile) → Inserts file new.ranges old.ranges → file.version < old.unreliable → new.unreliable ≡ old.unreliable → (p : Part) → PartFacts source old work kept p → PartFacts source new work kept p
  part_goes file n l e (RangePart snapshot version body) h = record {
    of_task = h.of_task;
    proper = h.proper;
    honest = h.honest;
    same = λ f i q. h.same f (subst (IsIn f) (sym n.many_is) (in_fewer file f n.before n.after (subst (IsIn f) n.few_is i))) q;
    there = λ p u. subst (λ l. piece_named l (text_of (Range snapshot version kept.ticket source.block)) ≡ Some (record { version = version; range = body.range; pairs = body.pairs })) (sym n.few_is)
        (named_less file n.before n.after (text_of (Range snapshot version kept.ticket source.block)) (record { version = version; range = body.range; pairs = body.pairs }) (omega arith)
        (subst (λ l. piece_named l (text_of (Range snapshot version kept.ticket source.block)) ≡ Some (record { version = version; range = body.range; pairs = body.pairs })) n.many_is (h.there p (omega arith))));
  }
  part_goes file n l e (LogPart begin end batches) h = h
  part_goes file n l e (ManifestPart manifest) h = record { snapshot = h.snapshot; of_task = h.of_task; honest = λ u. manifest_less source file old.ranges new.ranges n (manifest_file kept.ticket manifest) (omega arith) (h.honest (omega arith)) }

-- where each file of a name is this one, this one is found by it
named_found : (files : List RangeFile) (name : Bytes) (own : RangeFile) → own.name ≡ name → ((f : RangeFile) → IsIn f files → f.name ≡ name → f ≡ own) → IsIn own files → piece_named files name ≡ read_range own
named_found [] name own n same i = absurd i
named_found (f ∷ fs) name own n same i = go (is_same f.name name) refl i (named_found fs name own n (λ x k. same x (inr k)))
  where
    go : (b : Bool) → is_same f.name name ≡ b → IsIn own (f ∷ fs) → (IsIn own fs → piece_named fs name ≡ read_range own) → cond (is_same f.name name) (read_range f) (piece_named fs name) ≡ read_range own
    go true e i ih = ap (λ b. cond b (read_range f) (piece_named fs name)) e ∙ ap read_range (same f (inl refl) (same_eq f.name name e))
    go false e (inl q) ih = not_both (same_both f.name name (ap (λ (x : RangeFile). x.name) (sym q) ∙ n)) e
    go false e (inr k) ih = ap (λ b. cond b (read_range f) (piece_named fs name)) e ∙ ih k

module _ (source : Source) (folder : Folder) (work : BackupWork) (kept : Kept) where
  part_placed : (p : Part) → IsPlaced source.block folder (record kept { part = p }) → PartFacts source folder work kept p → PartFacts source folder work (record kept { placed = true }) p
  part_placed (RangePart snapshot version body) i h = record {
    of_task = h.of_task;
    proper = h.proper;
    honest = h.honest;
    same = h.same;
    there = λ p u. named_found folder.ranges (text_of (Range snapshot version kept.ticket source.block)) (range_file source.block kept.ticket snapshot version body) refl h.same (i snapshot version body refl);
  }
  part_placed (LogPart begin end batches) i h = record { of_task = h.of_task; honest = h.honest }
  part_placed (ManifestPart manifest) i h = record { snapshot = h.snapshot; of_task = h.of_task; honest = h.honest }

pub kept_law : KeptLaw
kept_law = record {
  grows = kept_grows;
  comes = λ source old new file work kept c apart h. record { part = part_comes source old new work kept file c kept.part apart h.part };
  stays = λ source old new work kept r l h. record { part = part_stays source old new work kept r l kept.part h.part };
  goes = λ source old new file work kept n l e h. record { part = part_goes source old new work kept file n l e kept.part h.part };
  placed = λ source folder work kept i h. record { part = part_placed source folder work kept kept.part i h.part };
}

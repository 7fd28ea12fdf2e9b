-- A file can be made of what a take of an open task keeps, and it has a name.
use Rattle.std.proofs.Common.{◌≡◌, ◌≢◌, ℕ, ◌+◌, ◌/◌, ◌<◌, ◌≤◌, ◌^◌, Bool, true, false, not, ◌||◌, List, [], ◌∷◌, Some, refl, sym, subst, arith, nat_le, nat_lt, ◌==◌}
use Rattle.std.specs.Prelude.{is_some}
use Rattle.std.specs.List.{AllByRecursion}
use Rattle.std.proofs.lemmas.Bool.{and_parts, eqb-true, leb-true, ltb-true, lt-ltb, le-leb}
use Rattle.fb_bytes.specs.Blocks.{is_block}
use Rattle.fb_bytes.specs.Bytes.{is_below}
use Rattle.fb_bytes.specs.declared.KeyRange.{KeyRange}
use Rattle.fb_bytes.specs.declared.Pair.{Pair}
use Rattle.fb_bytes.specs.Keys.{holds, is_backwards}
use Rattle.file_names.specs.declared.Name.TheVariants.{Range, Log, Manifest}
use Rattle.file_names.specs.Spelling.{spelling, is_number}
use Rattle.mutations.specs.declared.Batch.{Batch}
use Rattle.mutations.specs.declared.Entry.{Entry}
use Rattle.mutations.specs.declared.Mutation.{Mutation}
use Rattle.mutations.specs.Clipping.{all_clipped}
use Rattle.mutations.specs.Histories.{IsRising, with_batch, logged}
use Rattle.mutations.specs.Replay.{is_within, AreRising}
use Rattle.mutations.specs.Spelling.{HasSpelling}
use Rattle.mutations.proofs.Basics.{by_test, not_true, not_false}
use Rattle.mutations.proofs.Logs.{logged_law}
use Rattle.range_files.specs.Writing.{PairFits}
use Rattle.range_files.specs.Writing as ranges
use Rattle.log_files.specs.Writing.{AreLogged}
use Rattle.log_files.specs.Writing as logs
use Rattle.task_kinds.specs.Works.{BackupWork, BackupStart, BackupDispatch, BackupRange, BackupManifest, BackupLogs, BackupLog, BackupErase, BackupFinish}
use Rattle.snapshot_plan.specs.declared.Noted.{Noted}
use Rattle.snapshot_plan.specs.Noted.{manifest_of, most_bytes}
use Rattle.snapshot_plan.proofs.Manifests.{manifest_law}
use Rattle.database.specs.Commits.{Database, most_version}
use Rattle.database.specs.Dumps.{pairs_at, FitBlock, AreWithin}
use Rattle.database.proofs.Dumping.{dump_law}
use Rattle.database.proofs.Logged.{clip_spelled}
use Rattle.backup_core.specs.Backups.{BackupJob}
use Rattle.backup_core.specs.Counts.{any}
use Rattle.backup_core.specs.Facts.{View, JobFacts}
use Rattle.backup_core.specs.Kept.{Part, ManifestPart}
use Rattle.backup_core.specs.Made.{CanMake, HasName}
use Rattle.backup_core.specs.Taken.{taken, HasRoom, AreLoggable, FitsFile, IsTaking, MadeLaw}
use Rattle.backup_core.proofs.Closes.{works, proper_piece}
use Rattle.backup_core.proofs.Takes.{each_in, open_span, noted_some, manifest_writable}

-- ---- the pairs of a piece

pairs_fit : (block : ℕ) (piece : KeyRange) (pairs : List Pair) → AllByRecursion (λ (pair : Pair). holds piece pair.key ≡ true) pairs → AllByRecursion (λ (pair : Pair). FitBlock block pair.key pair.value) pairs → AllByRecursion (PairFits block piece.begin piece.end) pairs
pairs_fit block piece [] h f = tt
pairs_fit block piece (pair ∷ pairs) h f =
    let parts = and_parts (not (is_below pair.key piece.begin)) (is_below pair.key piece.end) h.0 in
    (record { key = f.0.0; value = f.0.1; from_begin = not_true (is_below pair.key piece.begin) parts.0; below_end = parts.1 }, pairs_fit block piece pairs h.1 f.1)

piece_can : (block now snapshot : ℕ) (history : List Entry) (piece : KeyRange) → is_block block ≡ true → AreWithin block history → is_backwards piece ≡ false → FitsFile block snapshot piece → ranges.IsWritable block piece.begin piece.end (pairs_at block history now piece)
piece_can block now snapshot history piece b w p f =
    let d = dump_law block history now piece in
    record { size_listed = b; begin_limit = f.begin; end_limit = f.end; forward = not_false (is_below piece.begin piece.end) p; each = pairs_fit block piece (pairs_at block history now piece) d.held (d.fit w) }

-- ---- what a job logged

front_spelled : (version : ℕ) (muts : List Mutation) (rest : List Batch) → HasSpelling muts → AllByRecursion (λ (b : Batch). HasSpelling b.muts) rest → AllByRecursion (λ (b : Batch). HasSpelling b.muts) (with_batch version muts rest)
front_spelled version [] rest h a = a
front_spelled version (m ∷ ms) rest h a = (h, a)

batches_spelled : (history : List Entry) (ranges : List KeyRange) (low begin end : ℕ) → low ≤ begin → AreLoggable ranges low history → AllByRecursion (λ (b : Batch). HasSpelling b.muts) (logged history ranges begin end)
batches_spelled [] ranges low begin end l a = tt
batches_spelled (x ∷ xs) ranges low begin end l a =
    let rest = batches_spelled xs ranges low begin end l a.1 in
    by_test (is_within begin end x.version) (AllByRecursion (λ (b : Batch). HasSpelling b.muts)) (with_batch x.version (all_clipped ranges x.muts) (logged xs ranges begin end)) (logged xs ranges begin end)
    (λ e. let from : begin ≤ x.version = leb-true begin x.version (and_parts (nat_le begin x.version) (nat_lt x.version end) e).0 in front_spelled x.version (all_clipped ranges x.muts) (logged xs ranges begin end) (clip_spelled ranges x.muts x.muts (all_clipped ranges x.muts) refl refl (a.0 (omega arith))) rest)
    (λ e. rest)

below : (begin end : ℕ) (bs : List Batch) → AllByRecursion (λ (b : Batch). is_within begin end b.version ≡ true) bs → AllByRecursion (λ (b : Batch). b.version < end) bs
below begin end [] a = tt
below begin end (b ∷ bs) a = (ltb-true b.version end (and_parts (nat_le begin b.version) (nat_lt b.version end) a.0).1, below begin end bs a.1)

from : (begin end : ℕ) (bs : List Batch) → AllByRecursion (λ (b : Batch). is_within begin end b.version ≡ true) bs → AllByRecursion (λ (b : Batch). begin ≤ b.version) bs
from begin end [] a = tt
from begin end (b ∷ bs) a = (leb-true begin b.version (and_parts (nat_le begin b.version) (nat_lt b.version end) a.0).0, from begin end bs a.1)

later : (low : ℕ) (bs : List Batch) → AllByRecursion (λ (b : Batch). low < b.version) bs → AllByRecursion (λ (b : Batch). low + 1 ≤ b.version) bs
later low [] r = tt
later low (b ∷ bs) r = ((let l = r.0 in omega arith), later low bs r.1)

logged_list : (low end : ℕ) (bs : List Batch) → AllByRecursion (λ (b : Batch). low ≤ b.version) bs → AllByRecursion (λ (b : Batch). b.version < end) bs → AreRising bs → AllByRecursion (λ (b : Batch). HasSpelling b.muts) bs → AreLogged low end bs
logged_list low end [] f w r h = tt
logged_list low end (b ∷ bs) f w r h = (f.0, w.0, h.0, logged_list (b.version + 1) end bs (later b.version bs r.0) w.1 r.1 h.1)

span_can : (block begin end low : ℕ) (history : List Entry) (ranges : List KeyRange) → is_block block ≡ true → IsRising history → low ≤ begin → AreLoggable ranges low history → logs.IsWritable block begin end (logged history ranges begin end)
span_can block begin end low history ranges b r l a =
    let log = logged_law history ranges begin end r in
    record { size_listed = b; logged = logged_list begin end (logged history ranges begin end) (from begin end (logged history ranges begin end) log.within) (below begin end (logged history ranges begin end) log.within) log.rising (batches_spelled history ranges low begin end l a) }

-- ---- what is taken

of_some : (P : Part → Type 0) (made part : Part) → Some made ≡ Some part → P made → P part
of_some P made part e h = let q : made ≡ part = cc in subst P q h

module _ (db : Database) (job : BackupJob) (view : View) where
  can : (work : BackupWork) (part : Part) → IsTaking db job view work → taken db view.now job work ≡ Some part → CanMake db.block part
  can BackupStart part t e = absurd cc
  can BackupDispatch part t e = absurd cc
  can (BackupRange snapshot piece) part t e =
      let proper = proper_piece job view (works job view t.facts (t.has any)) t.sums snapshot piece t.has in
      of_some (CanMake db.block) _ part e (piece_can db.block view.now snapshot db.history piece t.within.block t.within.limits proper t.fits)
  can (BackupManifest snapshot) part t e = of_some (CanMake db.block) _ part e (manifest_writable job view t.facts t.sums snapshot t.has).whole
  can BackupLogs part t e = absurd cc
  can (BackupLog begin end) part t e =
      let begun = (works job view t.facts (t.has any)).log.begun in
      let erased = (open_span job view begin end t.facts t.has).0 in
      of_some (CanMake db.block) _ part e (span_can db.block begin end job.begin db.history job.terms.ranges t.within.block t.within.rising (omega arith) t.within.loggable)
  can BackupErase part t e = absurd cc
  can BackupFinish part t e = absurd cc

-- ---- its name

number : (n : ℕ) → n < 9223372036854775808 → is_number n ≡ true
number n h = lt-ltb n 9223372036854775808 h

block_number : (block : ℕ) → is_block block ≡ true → is_number block ≡ true
block_number block h = go (block == 256) (block == 4096) (block == 262144) (block == 1048576) refl refl refl refl h
  where
    go : (a b c d : Bool) → (block == 256) ≡ a → (block == 4096) ≡ b → (block == 262144) ≡ c → (block == 1048576) ≡ d → (a || b || c || d) ≡ true → is_number block ≡ true
    go true b c d p q r s e = let f = eqb-true block 256 p in number block (omega arith)
    go false true c d p q r s e = let f = eqb-true block 4096 q in number block (omega arith)
    go false false true d p q r s e = let f = eqb-true block 262144 r in number block (omega arith)
    go false false false true p q r s e = let f = eqb-true block 1048576 s in number block (omega arith)
    go false false false false p q r s e = cc

piece_named : (block ticket snapshot version : ℕ) → is_block block ≡ true → snapshot < 2 ^ 63 → version ≤ most_version → ticket ≤ most_version → is_some (spelling (Range snapshot version ticket block)) ≡ true
piece_named block ticket snapshot version b s v t =
    rw (number snapshot s, number (ticket / 1000) (omega arith), number version (omega arith), number ticket (omega arith), block_number block b, b) refl

span_named : (block ticket begin end : ℕ) → is_block block ≡ true → begin < end → end ≤ most_version + 1 → ticket ≤ most_version → is_some (spelling (Log begin end ticket block)) ≡ true
span_named block ticket begin end b l e t =
    rw (number (begin / 1000000000) (omega arith), number begin (omega arith), number end (omega arith), number ticket (omega arith), block_number block b, b, lt-ltb begin end l) refl

manifest_named : (ticket begin end bytes : ℕ) → begin ≤ end → end ≤ most_version → bytes ≤ most_bytes → ticket ≤ most_version → is_some (spelling (Manifest begin end bytes ticket)) ≡ true
manifest_named ticket begin end bytes l e s t =
    rw (number begin (omega arith), number end (omega arith), number bytes (omega arith), number ticket (omega arith), le-leb begin end l) refl

-- no file of a manifest is of a version past the newest one
manifest_past : (job : BackupJob) (view : View) → job.noted ≢ [] → JobFacts job view → (manifest_of job.noted).end ≤ view.now
manifest_past job view some h =
    let end = manifest_law.end job.noted some in
    let past = each_in (λ (n : Noted). n.file.version ≤ view.now) job.noted end.one.0 h.noted.past end.one.1 in
    let is = end.one.2 in
    omega arith

module _ (db : Database) (job : BackupJob) (view : View) (ticket : ℕ) (now : view.now ≤ most_version) (drawn : ticket ≤ most_version) where
  named : (work : BackupWork) (part : Part) → IsTaking db job view work → taken db view.now job work ≡ Some part → HasRoom part → HasName db.block ticket part
  named BackupStart part t e r = absurd cc
  named BackupDispatch part t e r = absurd cc
  named (BackupRange snapshot piece) part t e r = of_some (HasName db.block ticket) _ part e (piece_named db.block ticket snapshot view.now t.within.block t.fits.number now drawn)
  named (BackupManifest snapshot) part t e r =
      let some = noted_some job view t.facts t.sums snapshot t.has in
      let order = (manifest_writable job view t.facts t.sums snapshot t.has).ordered in
      let past = manifest_past job view some t.facts in
      let q : ManifestPart (manifest_of job.noted) ≡ part = cc in
      let room : (manifest_of job.noted).bytes ≤ most_bytes = subst HasRoom (sym q) r in
      subst (HasName db.block ticket) q (manifest_named ticket (manifest_of job.noted).begin (manifest_of job.noted).end (manifest_of job.noted).bytes order (omega arith) room drawn)
  named BackupLogs part t e r = absurd cc
  named (BackupLog begin end) part t e r =
      let span = open_span job view begin end t.facts t.has in
      let some = span.1 in
      let upto = span.2 in
      let next = (works job view t.facts (t.has any)).log.next in
      of_some (HasName db.block ticket) _ part e (span_named db.block ticket begin end t.within.block some (omega arith) drawn)
  named BackupErase part t e r = absurd cc
  named BackupFinish part t e r = absurd cc

pub made_law : MadeLaw
made_law = record {
  can = λ db job view work part t e. can db job view work part t e;
  named = λ db job view work part ticket t e r now drawn. named db job view ticket now drawn work part t e r;
}

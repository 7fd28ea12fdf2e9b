-- The command dump.
use Rattle.cluster_core.specs.declared.job.Job.TheVariants as types
use Rattle.cluster_core.specs.Backups.{Backup}
use Rattle.std.specs.Prelude.{◌≡◌, ℕ, ◌+◌, ◌≤◌, Bool, true, false, not, ◌||◌, List, [], ◌∷◌, None, refl}
use Rattle.std.specs.List.{AllByRecursion}
use Rattle.std.proofs.Common.{ap, sym, ◌∙◌, arith, subst}
use Rattle.fb_bytes.specs.Bytes.{Bytes, is_below}
use Rattle.fb_bytes.specs.declared.KeyRange.{KeyRange}
use Rattle.fb_bytes.specs.Keys.{holds, in_ranges, is_backwards}
use Rattle.mutations.specs.declared.Entry.{Entry}
use Rattle.file_names.specs.declared.Name.TheVariants.{Range}
use Rattle.file_names.specs.Reading.{name_of}
use Rattle.snapshot_plan.specs.declared.Done.{Done}
use Rattle.snapshot_plan.specs.declared.Noted.{Noted}
use Rattle.snapshot_plan.specs.Noted.{pieces_of, with_noted}
use Rattle.snapshot_plan.specs.Pieces.{outside, overlap, IsFirstOrNone}
use Rattle.backup_core.specs.Backups.{begun_at, dumped}
use Rattle.cluster_core.specs.Jobs.{Job}
use Rattle.cluster_core.specs.Sound.{IsNoted, BackupSound}
use Rattle.cluster_core.proofs.All.{all_placed, distinct_placed}
use Rattle.cluster_core.proofs.Known.{Known}
use Rattle.std.specs.Prelude.{◌≡◌, ℕ, ◌+◌, ◌≤◌, Bool, true, false, not, List, [], ◌∷◌, Some, refl}
use Rattle.std.specs.List.{AllByRecursion}
use Rattle.std.proofs.Common.{◌∙◌, arith}
use Rattle.std.proofs.lemmas.Bool.{and_parts}
use Rattle.fb_bytes.specs.Blocks.{is_block}
use Rattle.fb_bytes.specs.declared.Pair.{Pair}
use Rattle.block_frame.specs.Profiles.{key_limit_of}
use Rattle.range_files.specs.Writing.{range_text, PairFits}
use Rattle.range_files.specs.Writing as ranges
use Rattle.workload_text.specs.Commands.{IsPiece}
use Rattle.database.specs.Commits.{most_version}
use Rattle.database.specs.Dumps.{pairs_at, FitBlock, AreWithin}
use Rattle.container_view.specs.Contents.{file_grammars}
use Rattle.container_view.specs.Files.{range_file}
use Rattle.container_view.specs.Law.{IsHonestRange}
use Rattle.cluster_core.specs.Sound.{source_of}
use Rattle.std.specs.Prelude.{◌≡◌, ℕ, ◌+◌, Bool, true, false, List, [], ◌∷◌, Option, Some, None, Result, slice_get, refl}
use Rattle.std.specs.Prelude.{◌≤◌}
use Rattle.std.proofs.Common.{subst, arith}
use Rattle.fb_bytes.specs.Bytes.{Bytes}
use Rattle.workload_text.specs.declared.Settings.{Settings}
use Rattle.workload_text.specs.declared.Side.{Side}
use Rattle.workload_text.specs.declared.Workload.{Workload}
use Rattle.cluster_core.specs.Backups.{FoundBackup}
use Rattle.cluster_core.specs.State.{State, history_on}
use Rattle.cluster_core.specs.Moves.{Luck}
use Rattle.cluster_core.specs.commands.Dump.{dump_name, dump_bytes, with_dump, dump_tested, dump_piece}
use Rattle.std.specs.Prelude.{◌≡◌, ℕ, ◌+◌, ◌≤◌, Bool, true, false, List, [], ◌∷◌, length, Option, Some, None, slice_get, refl}
use Rattle.file_names.specs.declared.Name.TheVariants.{Range}
use Rattle.container_view.specs.Honest.{IsHonestFile}
use Rattle.snapshot_plan.specs.Noted.{pieces_of}
use Rattle.snapshot_plan.specs.Pieces.{outside, overlap}
use Rattle.database.specs.Dumps.{pairs_at}
use Rattle.backup_core.specs.Backups.{BackupJob, begun_at, range_name, snapshot_at}
use Rattle.cluster_core.specs.Backups.{FoundBackup}
use Rattle.cluster_core.specs.State.{State, history_on}
use Rattle.cluster_core.specs.Moves.{Luck}
use Rattle.cluster_core.specs.commands.Dump.{dump_name, dump_bytes, with_dump, dump_put, dump_tested, dump_piece}
use Rattle.cluster_core.specs.Sound.{IsNoted, IsKept, BackupSound, Sound, source_of}
use Rattle.cluster_core.proofs.All.{all_placed}
use Rattle.cluster_core.proofs.Named.{named, range_spelled}
use Rattle.cluster_core.proofs.Puts.{IsFresh}
use Rattle.cluster_core.proofs.Frames.{sound_gone}
use Rattle.std.specs.declared.alloc.AllocError.{AllocError}
use Rattle.std.specs.Prelude.{◌≡◌, ℕ, ◌≤◌, Bool, false, List, [], ◌∷◌, length, Option, Some, None, slice_get, Result, IfOk, refl}
use Rattle.std.proofs.Common.{ap, sym, ◌∙◌, subst}
use Rattle.fb_bytes.specs.Keys.{is_backwards}
use Rattle.range_files.specs.Writing.{IsWritable}
use Rattle.snapshot_plan.specs.Noted.{pieces_of, unless_inside, fault_of}
use Rattle.backup_core.specs.Backups.{BackupJob, map_of, range_name, text_of}
use Rattle.cluster_core.specs.declared.change.Change.{Change}
use Rattle.cluster_core.specs.declared.change.Change.TheVariants as changes
use Rattle.cluster_core.specs.inner.Filed.{dump_change}
use Rattle.cluster_core.specs.declared.plan.Filing.{Filing}
use Rattle.cluster_core.specs.declared.plan.Plan.TheVariants.{Put}
use Rattle.cluster_core.specs.Backups.{FoundBackup}
use Rattle.cluster_core.specs.Moves.{Luck}
use Rattle.cluster_core.specs.commands.Dump.{piece_bytes, dump_bytes, dump_name, dump_put, dump_tested, dump_piece}
use Rattle.cluster_core.specs.inner.Plans.{files, planned, IsPlanAt, IsSafe}
use Rattle.cluster_core.specs.State.{State, history_on}
use Rattle.cluster_core.specs.Sound.{Sound}
use Rattle.cluster_core.specs.World.{Seen}
use Rattle.cluster_core.proofs.Relied.{known}
use Rattle.cluster_core.proofs.Touching.{Touches, gone}
use Rattle.cluster_core.proofs.commands.Puts.{putting_touches, IsOrder, putting_keeps, nothing_listed, filing_of}
use Rattle.cluster_core.proofs.commands.Jobs.{some_is}

not_false : (b : Bool) → not b ≡ false → b ≡ true
not_false true e = refl
not_false false e = cc

begun_le : (noted : List Noted) (now begun : ℕ) → begun ≤ now → begun_at noted now begun ≤ now
begun_le [] now begun h = let e : now ≤ now = omega arith in e
begun_le (n ∷ noted) now begun h = h

-- a noted file's name isn't that of a ticket that isn't drawn
name_differs : (block now tickets : ℕ) (name : Bytes) (snapshot version block' : ℕ) → name_of name ≡ Range snapshot version tickets block' → (noted : List Noted) → AllByRecursion (IsNoted block now tickets) noted → AllByRecursion (λ n. n.file.name ≡ name → ⊥) noted
name_differs block now tickets name snapshot version block' e [] h = tt
name_differs block now tickets name snapshot version block' e (n ∷ noted) h =
    ((λ s. let same : h.0.ticket ≡ tickets = cc (sym h.0.name ∙ ap name_of s ∙ e) in let d = h.0.drawn in absurd (omega arith)), name_differs block now tickets name snapshot version block' e noted h.1)

pub forward : (range : KeyRange) → is_backwards range ≡ false → is_below range.begin range.end ≡ true
forward range h = go (is_below range.begin range.end) h
  where
    go : (b : Bool) → not b ≡ false → b ≡ true
    go true e = refl
    go false e = cc

-- the piece holds no key of the noted ones, and is in the ranges
pub record IsFree (job : List KeyRange) (noted : List Noted) (piece : KeyRange) : Type 0 where
  pub forward : is_backwards piece ≡ false
  pub inside : (key : Bytes) → holds piece key ≡ true → in_ranges job key ≡ true
  pub free : (key : Bytes) → holds piece key ≡ true → in_ranges (pieces_of noted) key ≡ false

pub is_free : (k : Known) (block now tickets : ℕ) (history : List Entry) (job : Backup) (piece : KeyRange) → BackupSound block now tickets history job → is_backwards piece ≡ false → outside job.job.terms.ranges piece ≡ None → overlap (pieces_of job.job.noted) piece ≡ None → IsFree job.job.terms.ranges job.job.noted piece
is_free k block now tickets history job piece h b o v =
    let out : IsFirstOrNone (holds piece) (λ key. not (in_ranges job.job.terms.ranges key)) None = subst (IsFirstOrNone (holds piece) (λ key. not (in_ranges job.job.terms.ranges key))) o (k.piece.outside job.job.terms.ranges piece (k.piece.ranges job.job.terms.ranges h.ranges.separate)) in
    let over : IsFirstOrNone (holds piece) (in_ranges (pieces_of job.job.noted)) None = subst (IsFirstOrNone (holds piece) (in_ranges (pieces_of job.job.noted))) v (k.piece.overlap (pieces_of job.job.noted) piece h.pieces) in
    record { forward = b; inside = λ key e. not_false (in_ranges job.job.terms.ranges key) (out key e); free = over }

with_dump_inside : (k : Known) (job : List KeyRange) (noted : List Noted) (one : Noted) → IsFree job noted one.piece → ((key : Bytes) → in_ranges (pieces_of noted) key ≡ true → in_ranges job key ≡ true) → (key : Bytes) → in_ranges (pieces_of (with_noted one noted)) key ≡ true → in_ranges job key ≡ true
with_dump_inside k job noted one f inside key e = go (holds one.piece key) refl (sym (k.piece.more one noted key) ∙ e)
  where
    go : (b : Bool) → holds one.piece key ≡ b → (holds one.piece key || in_ranges (pieces_of noted) key) ≡ true → in_ranges job key ≡ true
    go true h o = f.inside key h
    go false h o = inside key (sym (ap (λ t. t || in_ranges (pieces_of noted) key) h) ∙ o)

pub dumped_sound : (k : Known) (block now tickets : ℕ) (history : List Entry) (job : Backup) (piece : KeyRange) (file : Done) (snapshot : ℕ) → BackupSound block now tickets history job → IsFree job.job.terms.ranges job.job.noted piece → file.version ≡ now → name_of file.name ≡ Range snapshot now tickets block → BackupSound block now (tickets + 1) history (record job { job = dumped job.job piece now file })
dumped_sound k block now tickets history job piece file snapshot h f v n =
    let one : Noted = record { piece = piece; file = file } in
    let later : (x : Noted) → IsNoted block now tickets x → IsNoted block now (tickets + 1) x = λ x q. record { past = q.past; snapshot = q.snapshot; ticket = q.ticket; drawn = let d = q.drawn in omega arith; name = q.name } in
    record {
      named = h.named;
      ranges = h.ranges;
      some = h.some;
      pieces = k.piece.stay one job.job.noted h.pieces f.forward f.free;
      inside = with_dump_inside k job.job.terms.ranges job.job.noted one f h.inside;
      noted = all_placed (IsNoted block now (tickets + 1)) (λ x. is_below x.piece.begin piece.begin) one job.job.noted
          (record { past = omega (arith, v); snapshot = snapshot; ticket = tickets; drawn = omega arith; name = n ∙ ap (λ (x : ℕ). Range snapshot x tickets block) (sym v) })
          (weaker later job.job.noted h.noted);
      distinct = distinct_placed (λ x. x.file.name) (λ x. is_below x.piece.begin piece.begin) one job.job.noted (name_differs block now tickets file.name snapshot now block n job.job.noted h.noted) h.distinct;
      snapshot = begun_le job.job.noted now job.job.snapshot h.snapshot;
      begun = h.begun;
      erased = h.erased;
      next = h.next;
      logged = h.logged;
    }
  where
    weaker : {P Q : Noted → Type 0} → ((x : Noted) → P x → Q x) → (xs : List Noted) → AllByRecursion P xs → AllByRecursion Q xs
    weaker f [] a = tt
    weaker f (x ∷ xs) a = (f x a.0, weaker f xs a.1)

not_true : (b : Bool) → not b ≡ true → b ≡ false
not_true true e = cc
not_true false e = refl

pairs_fit : (block : ℕ) (piece : KeyRange) (pairs : List Pair) → AllByRecursion (λ (pair : Pair). holds piece pair.key ≡ true) pairs → AllByRecursion (λ (pair : Pair). FitBlock block pair.key pair.value) pairs → AllByRecursion (PairFits block piece.begin piece.end) pairs
pairs_fit block piece [] h f = tt
pairs_fit block piece (pair ∷ pairs) h f =
    let parts = and_parts (not (is_below pair.key piece.begin)) (is_below pair.key piece.end) h.0 in
    (record { key = f.0.0; value = f.0.1; from_begin = not_true (is_below pair.key piece.begin) parts.0; below_end = parts.1 }, pairs_fit block piece pairs h.1 f.1)

pub dump_writable : (k : Known) (block now : ℕ) (history : List Entry) (piece : KeyRange) → is_block block ≡ true → AreWithin block history → IsPiece (key_limit_of block) piece → ranges.IsWritable block piece.begin piece.end (pairs_at block history now piece)
dump_writable k block now history piece b w p =
    let d = k.dump block history now piece in
    record { size_listed = b; begin_limit = p.begin; end_limit = p.end; forward = forward piece p.forward; each = pairs_fit block piece (pairs_at block history now piece) d.held (d.fit w) }

pub dump_content : (k : Known) (block now : ℕ) (history : List Entry) (piece : KeyRange) → is_block block ≡ true → AreWithin block history → IsPiece (key_limit_of block) piece → file_grammars.range block (range_text block piece.begin piece.end (pairs_at block history now piece)) ≡ Some (record { range = piece; pairs = pairs_at block history now piece })
dump_content k block now history piece b w p = k.contents.range block piece.begin piece.end (pairs_at block history now piece) (dump_writable k block now history piece b w p) (k.dump block history now piece).rising

pub dump_honest : (k : Known) (block now : ℕ) (history : List Entry) (job : Backup) (piece : KeyRange) (name : Bytes) → is_block block ≡ true → AreWithin block history → IsPiece (key_limit_of block) piece → IsHonestRange (source_of block now history job) (range_file file_grammars name (range_text block piece.begin piece.end (pairs_at block history now piece)) now block)
dump_honest k block now history job piece name b w p = record {
  past = let e : now ≤ now = omega arith in e;
  block = refl;
  body = record { range = piece; pairs = pairs_at block history now piece };
  content = dump_content k block now history piece b w p;
  state = λ key h. (k.dump block history now piece).told key ∙ rw h refl;
}

pub dump_touches : (s : Settings) (w : State) (found : FoundBackup) (piece : KeyRange) (luck : Luck) (a b : Option Bytes) → slice_get w.jobs found.place ≡ Some (types.Backup found.backup) → Touches s.pace w (dump_tested s w found piece luck a b)
dump_touches s w found piece luck (Some key) b at = gone s.pace w _
dump_touches s w found piece luck None (Some key) at = gone s.pace w _
dump_touches s w found piece luck None None at = putting_touches s.pace w found.place found.backup (with_dump s w found.backup piece) (dump_name s w found.backup) (dump_bytes s w found.backup piece) luck at refl

fresh_range : (name : Bytes) (tickets snapshot version block : ℕ) → name_of name ≡ Range snapshot version tickets block → IsFresh tickets name
fresh_range name tickets snapshot version block n = record {
  undrawn = λ s v t b e d. let same : tickets ≡ t = cc (sym n ∙ e) in absurd (omega arith);
  plain = λ e. let q = sym n ∙ e in cc;
}

dump_order : (k : Known) (p : Workload) (w : State) (place : ℕ) (job : Backup) (piece : KeyRange) → Sound p w → slice_get w.jobs place ≡ Some (types.Backup job) → IsPiece (key_limit_of p.settings.block) piece → IsFree job.job.terms.ranges job.job.noted piece → w.tickets ≤ most_version
    → IsOrder p w place job (with_dump p.settings w job piece).job (dump_name p.settings w job) (dump_bytes p.settings w job piece)
dump_order k p w place job piece h at i f t =
    let j = h.jobs.each place (types.Backup job) at in
    let block : is_block p.settings.block ≡ true = p.settings.block_allowed in
    let bound : w.time ≤ most_version = h.clock.bound in
    let snapshot : snapshot_at job.job w.time ≤ most_version = snapshot_le job.job.noted w.time job.job.snapshot most_version bound (let s = j.snapshot in omega arith) in
    let name : name_of (dump_name p.settings w job) ≡ Range (snapshot_at job.job w.time) w.time w.tickets p.settings.block = named k (range_name job.job w.time w.tickets p.settings.block) (range_spelled (snapshot_at job.job w.time) w.time w.tickets p.settings.block snapshot bound t block) in
    let honest = dump_honest k p.settings.block w.time (history_on job.side w) job piece (dump_name p.settings w job) block (h.databases.within job.side) i in
    record {
      terms = refl;
      fresh = fresh_range (dump_name p.settings w job) w.tickets (snapshot_at job.job w.time) w.time p.settings.block name;
      good = λ files e. record {
        honest = λ st. subst (IsHonestFile file_grammars (source_of p.settings.block w.time (history_on job.side w) job) st.honest.folder (dump_name p.settings w job) (dump_bytes p.settings w job piece)) (sym name) honest;
        lists = nothing_listed (Range (snapshot_at job.job w.time) w.time w.tickets p.settings.block) (dump_bytes p.settings w job piece) (dump_name p.settings w job) w.tickets name refl;
      };
      after = dumped_sound k p.settings.block w.time w.tickets (history_on job.side w) job piece (record { name = dump_name p.settings w job; version = w.time; bytes = length (dump_bytes p.settings w job piece) }) (snapshot_at job.job w.time) j f refl name;
      stored = λ files there st. record {
        honest = st.honest;
        there = all_placed (IsKept p.settings.block job.container files) (λ x. is_below x.piece.begin piece.begin) (record { piece = piece; file = record { name = dump_name p.settings w job; version = w.time; bytes = length (dump_bytes p.settings w job piece) } }) job.job.noted
            (λ end e l. record { bytes = dump_bytes p.settings w job piece; file = there; pairs = pairs_at p.settings.block (history_on job.side w) w.time piece; content = dump_content k p.settings.block w.time (history_on job.side w) piece block (h.databases.within job.side) i })
            st.there;
        listed = st.listed;
      };
    }
  where
    snapshot_le : (noted : List Noted) (now begun most : ℕ) → now ≤ most → begun ≤ most → begun_at noted now begun ≤ most
    snapshot_le [] now begun most n b = n
    snapshot_le (x ∷ xs) now begun most n b = b

dump_put_keeps : (k : Known) (p : Workload) (w : State) (found : FoundBackup) (piece : KeyRange) (luck : Luck) → Sound p w → slice_get w.jobs found.place ≡ Some (types.Backup found.backup) → IsPiece (key_limit_of p.settings.block) piece → IsFree found.backup.job.terms.ranges found.backup.job.noted piece → Sound p (dump_put p.settings w found piece luck).state
dump_put_keeps k p w found piece luck h at i f = putting_keeps k p w found.place found.backup (with_dump p.settings w found.backup piece).job (dump_name p.settings w found.backup) (dump_bytes p.settings w found.backup piece) luck h at (dump_order k p w found.place found.backup piece h at i f)

dump_tested_keeps : (k : Known) (p : Workload) (w : State) (found : FoundBackup) (piece : KeyRange) (luck : Luck) (a b : Option Bytes) → Sound p w → slice_get w.jobs found.place ≡ Some (types.Backup found.backup) → IsPiece (key_limit_of p.settings.block) piece → outside found.backup.job.terms.ranges piece ≡ a → overlap (pieces_of found.backup.job.noted) piece ≡ b → Sound p (dump_tested p.settings w found piece luck a b).state
dump_tested_keeps k p w found piece luck (Some key) b h at i o v = sound_gone p w h
dump_tested_keeps k p w found piece luck None (Some key) h at i o v = sound_gone p w h
dump_tested_keeps k p w found piece luck None None h at i o v = dump_put_keeps k p w found piece luck h at i (is_free k p.settings.block w.time w.tickets (history_on found.backup.side w) found.backup piece (h.jobs.each found.place (types.Backup found.backup) at) i.forward o v)

pub dump_keeps : (k : Known) (p : Workload) (w : State) (piece : KeyRange) (luck : Luck) (found : FoundBackup) → IsPiece (key_limit_of p.settings.block) piece → Sound p w → slice_get w.jobs found.place ≡ Some (types.Backup found.backup) → Sound p (dump_piece p.settings w piece luck found).state
dump_keeps k p w piece luck found i h at = dump_tested_keeps k p w found piece luck (outside found.backup.job.terms.ranges piece) (overlap (pieces_of found.backup.job.noted) piece) h at i refl refl

-- a piece of a side's database can be written
piece_writable : (p : Workload) (w : State) (side : Side) (piece : KeyRange) → Sound p w → IsPiece (key_limit_of p.settings.block) piece → IsWritable p.settings.block piece.begin piece.end (pairs_at p.settings.block (history_on side w) w.time piece)
piece_writable p w side piece h i = dump_writable known p.settings.block w.time (history_on side w) piece p.settings.block_allowed (h.databases.within side) i

pub piece_written : (p : Workload) (w : State) (seen : Seen) (side : Side) (piece : KeyRange) (block : ℕ) (history : List Entry) (begin end : Bytes) (pairs : List Pair) → Sound p w → p ≡ seen.workload → w ≡ seen.state → IsPiece (key_limit_of seen.workload.settings.block) piece → block ≡ seen.workload.settings.block → history ≡ history_on side seen.state → pairs ≡ pairs_at block history w.time piece → begin ≡ piece.begin → end ≡ piece.end → IsWritable p.settings.block begin end pairs
piece_written p w seen side piece block history begin end pairs h e f i b t q x y =
    let size = ap (λ (o : Workload). o.settings.block) e in
    let sized : block ≡ p.settings.block = b ∙ sym size in
    let told : history ≡ history_on side w = t ∙ sym (ap (history_on side) f) in
    let same : pairs ≡ pairs_at p.settings.block (history_on side w) w.time piece = q ∙ ap (λ (n : ℕ). pairs_at n history w.time piece) sized ∙ ap (λ (xs : List Entry). pairs_at p.settings.block xs w.time piece) told in
    subst (λ (a : Bytes). IsWritable p.settings.block a end pairs) (sym x)
    (subst (λ (z : Bytes). IsWritable p.settings.block piece.begin z pairs) (sym y)
    (subst (λ (ps : List Pair). IsWritable p.settings.block piece.begin piece.end ps) (sym same)
    (piece_writable p w side piece h (subst (λ (n : ℕ). IsPiece (key_limit_of n) piece) (sym size) i))))

-- the snapshot of a job that is there doesn't begin past the newest version
pub dump_begun : (p : Workload) (w : State) (seen : Seen) (place : ℕ) (job : Backup) (hand : BackupJob) → Sound p w → w ≡ seen.state → slice_get seen.state.jobs place ≡ Some (types.Backup job) → hand ≡ job.job → hand.snapshot ≤ seen.state.time
dump_begun p w seen place job hand h e at i =
    subst (λ (x : BackupJob). x.snapshot ≤ seen.state.time) (sym i)
    (subst (λ (v : State). slice_get v.jobs place ≡ Some (types.Backup job) → job.job.snapshot ≤ v.time) e (λ a. (h.jobs.each place (types.Backup job) a).snapshot) at)

pub dump_filed : (seen : Seen) (result : Result Filing AllocError) (place : ℕ) (job : Backup) (piece kept : KeyRange) (first : BackupJob) (name copied bytes : Bytes) (side : Side) (now size : ℕ) → IfOk result (λ filing. filing ≡ filing_of place job (changes.Dump kept now (record { name = copied; version = now; bytes = size })) name bytes) → first ≡ job.job → name ≡ text_of (range_name first seen.state.time seen.state.tickets seen.workload.settings.block) → copied ≡ name → side ≡ job.side → bytes ≡ piece_bytes seen.workload.settings seen.state side piece → now ≡ seen.state.time → size ≡ length bytes → kept ≡ piece → IfOk result (λ filing. filing ≡ filing_of place job (dump_change seen.workload.settings seen.state job piece) (dump_name seen.workload.settings seen.state job) (dump_bytes seen.workload.settings seen.state job piece))
dump_filed seen result place job piece kept first name copied bytes side now size filed f n c d b t l k =
    let named : name ≡ dump_name seen.workload.settings seen.state job = n ∙ ap (λ (x : BackupJob). text_of (range_name x seen.state.time seen.state.tickets seen.workload.settings.block)) f in
    let written : bytes ≡ dump_bytes seen.workload.settings seen.state job piece = b ∙ ap (λ (x : Side). piece_bytes seen.workload.settings seen.state x piece) d in
    let after : changes.Dump kept now (record { name = copied; version = now; bytes = size }) ≡ dump_change seen.workload.settings seen.state job piece =
    ap (λ (x : KeyRange). changes.Dump x now (record { name = copied; version = now; bytes = size })) k
    ∙ ap (λ (x : ℕ). changes.Dump piece x (record { name = copied; version = x; bytes = size })) t
    ∙ ap (λ (x : Bytes). changes.Dump piece seen.state.time (record { name = x; version = seen.state.time; bytes = size })) (c ∙ named)
    ∙ ap (λ (x : ℕ). changes.Dump piece seen.state.time (record { name = dump_name seen.workload.settings seen.state job; version = seen.state.time; bytes = x })) (l ∙ ap length written) in
    subst (λ (x : Change). IfOk result (λ filing. filing ≡ filing_of place job x (dump_name seen.workload.settings seen.state job) (dump_bytes seen.workload.settings seen.state job piece))) after
    (subst (λ (x : Bytes). IfOk result (λ filing. filing ≡ filing_of place job (changes.Dump kept now (record { name = copied; version = now; bytes = size })) x (dump_bytes seen.workload.settings seen.state job piece))) named
    (subst (λ (x : Bytes). IfOk result (λ filing. filing ≡ filing_of place job (changes.Dump kept now (record { name = copied; version = now; bytes = size })) name x)) written filed))

dump_untested : (s : Settings) (w : State) (found : FoundBackup) (piece : KeyRange) (luck : Luck) (out held : Option Bytes) → unless_inside out held ≡ None → dump_tested s w found piece luck out held ≡ dump_put s w found piece luck
dump_untested s w found piece luck (Some key) held e = cc
dump_untested s w found piece luck None (Some key) e = cc
dump_untested s w found piece luck None None e = refl

-- a piece that may be noted is put
pub dump_planned : (s : Settings) (w : State) (place : ℕ) (here : Backup) (hand : BackupJob) (piece : KeyRange) (filing : Filing) → slice_get w.jobs place ≡ Some (types.Backup here) → hand ≡ here.job → fault_of (map_of hand) piece ≡ None → filing ≡ filing_of place here (dump_change s w here piece) (dump_name s w here) (dump_bytes s w here piece) → (job : Job) → slice_get w.jobs place ≡ Some job → IsPlanAt s w (dump_piece s w piece) (record { place = place; job = job }) (Put filing)
dump_planned s w place here hand piece filing at h fits file job there =
    subst (λ (x : Job). IsPlanAt s w (dump_piece s w piece) (record { place = place; job = x }) (Put filing)) (some_is (types.Backup here) job (sym at ∙ there))
    (λ luck. dump_untested s w (record { place = place; backup = here }) piece luck (outside here.job.terms.ranges piece) (overlap (pieces_of here.job.noted) piece) (ap (λ (x : BackupJob). fault_of (map_of x) piece) (sym h) ∙ fits)
    ∙ sym (ap (files w (filing_of place here (dump_change s w here piece) (dump_name s w here) (dump_bytes s w here piece)) luck) at)
    ∙ ap (λ (x : Filing). planned s w luck (Put x)) (sym file))

pub dump_safe : (s : Settings) (w : State) (place : ℕ) (here : Backup) (piece : KeyRange) (filing : Filing) → slice_get w.jobs place ≡ Some (types.Backup here) → is_backwards piece ≡ false → filing ≡ filing_of place here (dump_change s w here piece) (dump_name s w here) (dump_bytes s w here piece) → w.tickets ≤ most_version → IsSafe w (Put filing)
dump_safe s w place here piece filing at forward file t =
    subst (λ (x : Filing). IsSafe w (Put x)) (sym file)
    (record { tickets = t; can = forward; job = types.Backup here; at = at })

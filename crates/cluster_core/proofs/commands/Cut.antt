-- The command cut.
use Rattle.cluster_core.specs.declared.job.Job.TheVariants as types
use Rattle.cluster_core.specs.Backups.{Backup}
use Rattle.task_kinds.specs.States.{has_ended}
use Rattle.std.specs.Prelude.{◌≡◌, ℕ, ◌+◌, ◌≤◌, Bool, true, false, not, List, [], ◌∷◌, refl}
use Rattle.std.specs.List.{AllByRecursion}
use Rattle.std.proofs.Common.{ap, sym, ◌∙◌, arith, subst}
use Rattle.fb_bytes.specs.Bytes.{Bytes, is_below}
use Rattle.fb_bytes.specs.declared.KeyRange.{KeyRange}
use Rattle.fb_bytes.specs.Keys.{in_ranges}
use Rattle.mutations.specs.declared.Entry.{Entry}
use Rattle.file_names.specs.Reading.{name_of}
use Rattle.backup_core.specs.Backups.{cut_to}
use Rattle.cluster_core.specs.Jobs.{Job}
use Rattle.cluster_core.specs.Sound.{BackupSound}
use Rattle.cluster_core.proofs.Known.{Known}
use Rattle.std.specs.Prelude.{nat_lt, ◌≡◌, ℕ, ◌+◌, ◌^◌, ◌<◌, ◌≤◌, Bool, true, false, not, cond, List, [], ◌∷◌, length, Some, slice_get, if◌then◌else◌, refl}
use Rattle.std.proofs.Common.{ap, sym, ◌∙◌, arith, subst}
use Rattle.std.proofs.lemmas.Bool.{lt-ltb, le-ltb}
use Rattle.std.proofs.lemmas.Option.{slice_get_within}
use Rattle.fb_bytes.specs.Bytes.{Bytes}
use Rattle.fb_bytes.specs.Blocks.{is_block}
use Rattle.mutations.specs.declared.Batch.{Batch}
use Rattle.mutations.specs.Histories.{logged}
use Rattle.log_files.specs.Writing.{log_text}
use Rattle.log_files.specs.Writing as logs
use Rattle.container_view.specs.Files.{whole_name}
use Rattle.workload_text.specs.declared.Side.{Side}
use Rattle.workload_text.specs.declared.Settings.{Settings}
use Rattle.workload_text.specs.declared.Workload.{Workload}
use Rattle.database.specs.declared.JobLog.{JobLog}
use Rattle.database.specs.Logs.{log_of}
use Rattle.database.specs.Commits.{most_version}
use Rattle.cluster_core.specs.declared.change.Change.TheVariants as changes
use Rattle.cluster_core.specs.inner.Plans.{files}
use Rattle.cluster_core.specs.declared.plan.Filing.{Filing}
use Rattle.cluster_core.specs.declared.plan.Plan.TheVariants.{Put, Refuse}
use Rattle.cluster_core.specs.declared.refusal.Refusal.TheVariants.{NothingNew}
use Rattle.cluster_core.specs.Jobs.{Job, logs_of, with_backup}
use Rattle.cluster_core.specs.Sound.{AreNumbered}
use Rattle.cluster_core.proofs.Numbering.{log_for, own_log, log_found}
use Rattle.cluster_core.specs.State.{State, history_on}
use Rattle.cluster_core.specs.Moves.{Luck}
use Rattle.cluster_core.specs.commands.Shared.{refuses}
use Rattle.cluster_core.specs.commands.Cut.{cut_bytes, cut_name, cut_put, cut_log}
use Rattle.cluster_core.specs.inner.Plans.{planned, IsPlanAt, IsSafe}
use Rattle.cluster_core.specs.Sound.{Sound}
use Rattle.cluster_core.proofs.Relied.{known}
use Rattle.std.specs.Prelude.{◌≡◌, ℕ, ◌+◌, ◌<◌, ◌≤◌, Bool, true, false, not, cond, List, [], ◌∷◌, ◌++◌, Some, nat_le, nat_lt, if◌then◌else◌, refl}
use Rattle.std.specs.List.{AllByRecursion, flat_map}
use Rattle.std.proofs.Common.{◌∙◌, arith}
use Rattle.std.proofs.lemmas.Bool.{and_parts, leb-true, ltb-true}
use Rattle.mutations.specs.declared.Mutation.{Mutation}
use Rattle.mutations.specs.declared.Mutation.TheVariants.{Set, ClearRange, Atomic}
use Rattle.mutations.specs.Clipping.{cleared, clipped, all_clipped}
use Rattle.mutations.specs.Effects.{range_of, common}
use Rattle.mutations.specs.Histories.{IsRising, with_batch, logged}
use Rattle.mutations.specs.Replay.{is_within, AreRising}
use Rattle.mutations.specs.Spelling.{IsForward, HasSpelling}
use Rattle.log_files.specs.Writing.{log_text, AreLogged}
use Rattle.container_view.specs.Contents.{file_grammars}
use Rattle.container_view.specs.Files.{log_file}
use Rattle.container_view.specs.Law.{IsHonestLog}
use Rattle.cluster_core.specs.Sound.{AreLoggable, source_of}
use Rattle.std.specs.Prelude.{◌≡◌, ℕ, ◌+◌, ◌++◌, Bool, true, false, cond, List, [], ◌∷◌, Some, nat_lt, slice_get, refl}
use Rattle.std.specs.Prelude.{◌≤◌}
use Rattle.std.proofs.Common.{subst, arith}
use Rattle.cluster_core.specs.declared.refusal.Refusal.TheVariants.{NothingNew}
use Rattle.cluster_core.specs.Backups.{FoundBackup}
use Rattle.cluster_core.specs.State.{State, history_on}
use Rattle.cluster_core.specs.Moves.{Luck}
use Rattle.cluster_core.specs.commands.Shared.{refuses}
use Rattle.cluster_core.specs.commands.Cut.{cut_name, cut_bytes, with_cut, cut_put, cut_log}
use Rattle.std.specs.Prelude.{◌≡◌, ℕ, ◌+◌, ◌≤◌, Bool, true, false, cond, List, [], ◌∷◌, length, Some, nat_lt, slice_get, refl}
use Rattle.std.proofs.lemmas.Bool.{ltb-false}
use Rattle.file_names.specs.declared.Name.TheVariants.{Log}
use Rattle.container_view.specs.Honest.{IsHonestFile}
use Rattle.backup_core.specs.Backups.{log_name}
use Rattle.cluster_core.specs.declared.refusal.Refusal.TheVariants.{NothingNew}
use Rattle.cluster_core.specs.Backups.{FoundBackup}
use Rattle.cluster_core.specs.State.{State, history_on}
use Rattle.cluster_core.specs.Moves.{Luck}
use Rattle.cluster_core.specs.commands.Shared.{refuses}
use Rattle.cluster_core.specs.Sound.{BackupSound, Sound, source_of}
use Rattle.cluster_core.proofs.Named.{named, log_spelled}
use Rattle.cluster_core.proofs.Grown.{job_grown}
use Rattle.cluster_core.proofs.Puts.{IsFresh}
use Rattle.cluster_core.proofs.Frames.{sound_gone}
use Rattle.cluster_core.proofs.commands.Jobs.{some_is}
use Rattle.cluster_core.proofs.Touching.{Touches, gone}
use Rattle.cluster_core.proofs.commands.Puts.{putting_touches, IsOrder, putting_keeps, nothing_listed, later_tickets, same_time}

pub cut_sound : (block now tickets : ℕ) (history : List Entry) (job : Backup) → BackupSound block now tickets history job → job.job.next ≤ now → BackupSound block now tickets history (record job { job = cut_to job.job now })
cut_sound block now tickets history job h n = record {
  named = h.named;
  ranges = h.ranges;
  some = h.some;
  pieces = h.pieces;
  inside = h.inside;
  noted = h.noted;
  distinct = h.distinct;
  snapshot = h.snapshot;
  begun = let b = h.begun in omega arith;
  erased = let b = h.erased in omega arith;
  next = let e : now + 1 ≤ now + 1 = omega arith in e;
  logged = h.logged;
}

pub number_fits : (jobs : List Job) (place len cap : ℕ) (job : Job) → slice_get jobs place ≡ Some job → (len ≡ length jobs) × (len ≤ cap) → cap < 2 ^ 63 → place + 1 < 18446744073709551616
number_fits jobs place len cap job at ok small =
    let l : place < length jobs = slice_get_within jobs place job at in
    let e = ok.0 in
    let m = ok.1 in
    omega arith

log_there : (side : Side) (jobs : List Job) (place : ℕ) (job : Backup) (logs : List JobLog) → AreNumbered 1 jobs → slice_get jobs place ≡ Some (types.Backup job) → side ≡ job.side → has_ended job.job.state ≡ false → logs ≡ logs_of side jobs → log_of logs (place + 1) ≡ Some (log_for job)
log_there side jobs place job logs n at s r l =
    let e : 1 + place ≡ place + 1 = omega arith in
    ap (λ (xs : List JobLog). log_of xs (place + 1)) l ∙ subst (λ (m : ℕ). log_of (logs_of side jobs) m ≡ Some (log_for job)) e (log_found side 1 jobs place (types.Backup job) (log_for job) n at (own_log side job s r))

pub has_log : (side : Side) (jobs : List Job) (place : ℕ) (job : Backup) (logs : List JobLog) → AreNumbered 1 jobs → slice_get jobs place ≡ Some (types.Backup job) → side ≡ job.side → has_ended job.job.state ≡ false → logs ≡ logs_of side jobs → (begin : ℕ) → begin ≡ job.job.next → job.job.erased ≤ job.job.next → (log : JobLog) × (log_of logs (place + 1) ≡ Some log) × (log.erased ≤ begin)
has_log side jobs place job logs n at s r l begin b e = (log_for job, log_there side jobs place job logs n at s r l, subst (λ (m : ℕ). job.job.erased ≤ m) (sym b) e)

-- what a chunk of a database's log has
pub chunk_batches : (w : State) (side : Side) (place : ℕ) (job : Backup) (logs : List JobLog) (history : List Entry) (from until begin end : ℕ) (batches : List Batch) → AreNumbered 1 w.jobs → slice_get w.jobs place ≡ Some (types.Backup job) → side ≡ job.side → has_ended job.job.state ≡ false → logs ≡ logs_of side w.jobs → history ≡ history_on side w → begin ≡ from → end ≡ until → ((log : JobLog) → log_of logs (place + 1) ≡ Some log → batches ≡ logged history log.ranges from until) → batches ≡ logged (history_on job.side w) job.job.terms.ranges begin end
chunk_batches w side place job logs history from until begin end batches n at s r l h b e c =
    c (log_for job) (log_there side w.jobs place job logs n at s r l)
    ∙ ap (λ (xs : List Entry). logged xs job.job.terms.ranges from until) (h ∙ ap (λ (t : Side). history_on t w) s)
    ∙ ap (λ (m : ℕ). logged (history_on job.side w) job.job.terms.ranges m until) (sym b)
    ∙ ap (logged (history_on job.side w) job.job.terms.ranges begin) (sym e)

all_append : {X : Type 0} (P : X → Type 0) (xs ys : List X) → AllByRecursion P xs → AllByRecursion P ys → AllByRecursion P (xs ++ ys)
all_append P [] ys a b = b
all_append P (x ∷ xs) ys a b = (a.0, all_append P xs ys a.1 b)

cleared_forward : (range : KeyRange) → AllByRecursion IsForward (cleared range)
cleared_forward range = go (is_below range.begin range.end) refl
  where
    go : (b : Bool) → is_below range.begin range.end ≡ b → AllByRecursion IsForward (cond (not b) [] (ClearRange range.begin range.end ∷ []))
    go true e = (e, tt)
    go false e = tt

clears_forward : (begin end : Bytes) (job : List KeyRange) → AllByRecursion IsForward (flat_map (λ range. cleared (common (range_of begin end) range)) job)
clears_forward begin end [] = tt
clears_forward begin end (range ∷ job) = all_append IsForward (cleared (common (range_of begin end) range)) (flat_map (λ r. cleared (common (range_of begin end) r)) job) (cleared_forward (common (range_of begin end) range)) (clears_forward begin end job)

one_or_none : (b : Bool) (m : Mutation) → IsForward m → AllByRecursion IsForward (if b then m ∷ [] else [])
one_or_none true m f = (f, tt)
one_or_none false m f = tt

clipped_forward : (job : List KeyRange) (m : Mutation) → AllByRecursion IsForward (clipped job m)
clipped_forward job (Set key value) = one_or_none (in_ranges job key) (Set key value) tt
clipped_forward job (ClearRange begin end) = clears_forward begin end job
clipped_forward job (Atomic op key param) = one_or_none (in_ranges job key) (Atomic op key param) tt

all_clipped_forward : (job : List KeyRange) (muts : List Mutation) → AllByRecursion IsForward (all_clipped job muts)
all_clipped_forward job [] = tt
all_clipped_forward job (m ∷ ms) = all_append IsForward (clipped job m) (all_clipped job ms) (clipped_forward job m) (all_clipped_forward job ms)

front_spelled : (version : ℕ) (muts : List Mutation) (rest : List Batch) → HasSpelling muts → AllByRecursion (λ (b : Batch). HasSpelling b.muts) rest → AllByRecursion (λ (b : Batch). HasSpelling b.muts) (with_batch version muts rest)
front_spelled version [] rest h a = a
front_spelled version (m ∷ ms) rest h a = (h, a)

batches_spelled : (history : List Entry) (job : List KeyRange) (low begin end : ℕ) → low ≤ begin → AreLoggable job low history → AllByRecursion (λ (b : Batch). HasSpelling b.muts) (logged history job begin end)
batches_spelled [] job low begin end l a = tt
batches_spelled (x ∷ xs) job low begin end l a = go (is_within begin end x.version) refl (batches_spelled xs job low begin end l a.1)
  where
    go : (b : Bool) → is_within begin end x.version ≡ b → AllByRecursion (λ (b : Batch). HasSpelling b.muts) (logged xs job begin end) → AllByRecursion (λ (b : Batch). HasSpelling b.muts) (cond b (with_batch x.version (all_clipped job x.muts) (logged xs job begin end)) (logged xs job begin end))
    go true e rest =
        let from : begin ≤ x.version = leb-true begin x.version (and_parts (nat_le begin x.version) (nat_lt x.version end) e).0 in
        front_spelled x.version (all_clipped job x.muts) (logged xs job begin end) (record { few = a.0 (omega arith); forward = all_clipped_forward job x.muts }) rest
    go false e rest = rest

-- what is left of a stretch behind a batch
later_within : (low next end : ℕ) (bs : List Batch) → next ≡ low + 1 → AllByRecursion (λ (b : Batch). low < b.version) bs → AllByRecursion (λ (b : Batch). b.version < end) bs → AllByRecursion (λ (b : Batch). (next ≤ b.version) × (b.version < end)) bs
later_within low next end [] n r w = tt
later_within low next end (b ∷ bs) n r w = (((let l = r.0 in omega arith), w.0), later_within low next end bs n r.1 w.1)

logged_list : (low end : ℕ) (bs : List Batch) → AllByRecursion (λ (b : Batch). (low ≤ b.version) × (b.version < end)) bs → AreRising bs → AllByRecursion (λ (b : Batch). HasSpelling b.muts) bs → AreLogged low end bs
logged_list low end [] w r h = tt
logged_list low end (b ∷ bs) w r h = (w.0.0, w.0.1, h.0, logged_list (b.version + 1) end bs (later_within b.version (b.version + 1) end bs refl r.0 (ends bs w.1)) r.1 h.1)
  where
    ends : (cs : List Batch) → AllByRecursion (λ (c : Batch). (low ≤ c.version) × (c.version < end)) cs → AllByRecursion (λ (c : Batch). c.version < end) cs
    ends [] a = tt
    ends (c ∷ cs) a = (a.0.1, ends cs a.1)

within_parts : (begin end : ℕ) (bs : List Batch) → AllByRecursion (λ (b : Batch). is_within begin end b.version ≡ true) bs → AllByRecursion (λ (b : Batch). (begin ≤ b.version) × (b.version < end)) bs
within_parts begin end [] a = tt
within_parts begin end (b ∷ bs) a =
    let parts = and_parts (nat_le begin b.version) (nat_lt b.version end) a.0 in
    ((leb-true begin b.version parts.0, ltb-true b.version end parts.1), within_parts begin end bs a.1)

pub cut_writable : (k : Known) (block begin end low : ℕ) (history : List Entry) (job : List KeyRange) → is_block block ≡ true → IsRising history → low ≤ begin → AreLoggable job low history → logs.IsWritable block begin end (logged history job begin end)
cut_writable k block begin end low history job b r l a =
    let log = k.logged history job begin end r in
    record { size_listed = b; logged = logged_list begin end (logged history job begin end) (within_parts begin end (logged history job begin end) log.within) log.rising (batches_spelled history job low begin end l a) }

pub chunk_writable : (p : Workload) (w : State) (place : ℕ) (job : Backup) (block begin end : ℕ) (batches : List Batch) → Sound p w → slice_get w.jobs place ≡ Some (types.Backup job) → has_ended job.job.state ≡ false → block ≡ p.settings.block → begin ≡ job.job.next → batches ≡ logged (history_on job.side w) job.job.terms.ranges begin end → logs.IsWritable block begin end batches
chunk_writable p w place job block begin end batches h at r b n e =
    let j = h.jobs.each place (types.Backup job) at in
    let listed : is_block p.settings.block ≡ true = p.settings.block_allowed in
    let begun : job.job.begin ≤ begin = (let q = j.begun in omega arith) in
    subst (λ (k : ℕ). logs.IsWritable k begin end batches) (sym b)
    (subst (λ (bs : List Batch). logs.IsWritable p.settings.block begin end bs) (sym e)
    (cut_writable known p.settings.block begin end job.job.begin (history_on job.side w) job.job.terms.ranges listed (h.databases.histories job.side).rising begun (j.logged r)))

pub chunk_text : (p : Workload) (w : State) (job : Backup) (block begin end : ℕ) (batches : List Batch) → block ≡ p.settings.block → begin ≡ job.job.next → end ≡ w.time + 1 → batches ≡ logged (history_on job.side w) job.job.terms.ranges begin end → log_text block batches ≡ cut_bytes p.settings w job
chunk_text p w job block begin end batches b n t e =
    ap (λ (k : ℕ). log_text k batches) b
    ∙ ap (log_text p.settings.block) (e ∙ ap (λ (k : ℕ). logged (history_on job.side w) job.job.terms.ranges k end) n ∙ ap (λ (k : ℕ). logged (history_on job.side w) job.job.terms.ranges job.job.next k) t)

pub cut_refused : (s : Settings) (w : State) (place : ℕ) (backup : Backup) (job : Job) (version next : ℕ) → slice_get w.jobs place ≡ Some (types.Backup backup) → next ≡ backup.job.next → version < next → version ≡ w.time → slice_get w.jobs place ≡ Some job → IsPlanAt s w (cut_log s w) (record { place = place; job = job }) (Refuse (NothingNew version))
cut_refused s w place backup job version next e n l t at luck =
    ap (λ (x : Job). with_backup (cut_log s w luck) place x) (some_is job (types.Backup backup) (sym at ∙ e))
    ∙ ap (λ (b : Bool). cond b (refuses (NothingNew w.time) w) (cut_put s w luck (record { place = place; backup = backup }))) (lt-ltb w.time backup.job.next (omega arith))
    ∙ ap (λ (k : ℕ). refuses (NothingNew k) w) (sym t)

abbrev pub cut_filing : Settings → State → ℕ → Backup → Filing
cut_filing s w place job = record { place = place; change = changes.Cut w.time; whole = whole_name job.container (cut_name s w job); bytes = cut_bytes s w job }

pub cut_planned : (s : Settings) (w : State) (place : ℕ) (backup : Backup) (job : Job) (version next : ℕ) (filing : Filing) → slice_get w.jobs place ≡ Some (types.Backup backup) → next ≡ backup.job.next → next ≤ version → version ≡ w.time → filing ≡ cut_filing s w place backup → slice_get w.jobs place ≡ Some job → IsPlanAt s w (cut_log s w) (record { place = place; job = job }) (Put filing)
cut_planned s w place backup job version next filing e n l t f at luck =
    ap (λ (x : Job). with_backup (cut_log s w luck) place x) (some_is job (types.Backup backup) (sym at ∙ e))
    ∙ ap (λ (b : Bool). cond b (refuses (NothingNew w.time) w) (cut_put s w luck (record { place = place; backup = backup }))) (le-ltb w.time backup.job.next (omega arith))
    ∙ sym (ap (files w (cut_filing s w place backup) luck) e)
    ∙ ap (λ (x : Filing). planned s w luck (Put x)) (sym f)

pub cut_safe : (s : Settings) (w : State) (place : ℕ) (backup : Backup) (filing : Filing) → slice_get w.jobs place ≡ Some (types.Backup backup) → filing ≡ cut_filing s w place backup → w.tickets ≤ most_version → w.time ≤ most_version → IsSafe w (Put filing)
cut_safe s w place backup filing e f t b =
    subst (λ (x : Filing). IsSafe w (Put x)) (sym f)
    (record { tickets = t; can = omega arith; job = types.Backup backup; at = e })

pub cut_honest : (k : Known) (block now begin low : ℕ) (history : List Entry) (job : Backup) (name : Bytes) → is_block block ≡ true → now ≤ most_version → IsRising history → low ≤ begin → AreLoggable job.job.terms.ranges low history → IsHonestLog (source_of block now history job) (log_file file_grammars name (log_text block (logged history job.job.terms.ranges begin (now + 1))) begin (now + 1) block)
cut_honest k block now begin low history job name b n r l a = record {
  past = let e : now + 1 ≤ now + 1 = omega arith in e;
  block = refl;
  content = k.contents.log begin (now + 1) block (logged history job.job.terms.ranges begin (now + 1)) (let e : now + 1 < 18446744073709551616 = omega arith in e) (cut_writable k block begin (now + 1) low history job.job.terms.ranges b r l a);
}

pub cut_touches : (s : Settings) (w : State) (found : FoundBackup) (luck : Luck) → slice_get w.jobs found.place ≡ Some (types.Backup found.backup) → Touches s.pace w (cut_log s w luck found)
cut_touches s w found luck at = go (nat_lt w.time found.backup.job.next)
  where
    go : (b : Bool) → Touches s.pace w (cond b (refuses (NothingNew w.time) w) (cut_put s w luck found))
    go true = gone s.pace w _
    go false = putting_touches s.pace w found.place found.backup (with_cut w found.backup) (cut_name s w found.backup) (cut_bytes s w found.backup) luck at refl

-- a name of another kind than a range file's is fresh
fresh_log : (name : Bytes) (tickets begin end ticket block : ℕ) → name_of name ≡ Log begin end ticket block → IsFresh tickets name
fresh_log name tickets begin end ticket block n = record { undrawn = λ s v t b e d. let q = sym n ∙ e in cc; plain = λ e. let q = sym n ∙ e in cc }

cut_order : (k : Known) (p : Workload) (w : State) (place : ℕ) (job : Backup) → Sound p w → slice_get w.jobs place ≡ Some (types.Backup job) → has_ended job.job.state ≡ false → job.job.next ≤ w.time → w.tickets ≤ most_version → IsOrder p w place job (with_cut w job).job (cut_name p.settings w job) (cut_bytes p.settings w job)
cut_order k p w place job h at running n t =
    let j = h.jobs.each place (types.Backup job) at in
    let block : is_block p.settings.block ≡ true = p.settings.block_allowed in
    let bound : w.time ≤ most_version = h.clock.bound in
    let name : name_of (cut_name p.settings w job) ≡ Log job.job.next (w.time + 1) w.tickets p.settings.block = named k (log_name job.job w.time w.tickets p.settings.block) (log_spelled job.job.next (w.time + 1) w.tickets p.settings.block (omega arith) (omega arith) t block) in
    let honest = cut_honest k p.settings.block w.time job.job.next job.job.begin (history_on job.side w) job (cut_name p.settings w job) block bound (h.databases.histories job.side).rising j.begun (j.logged running) in
    record {
      terms = refl;
      fresh = fresh_log (cut_name p.settings w job) w.tickets job.job.next (w.time + 1) w.tickets p.settings.block name;
      good = λ files e. record {
        honest = λ st. subst (IsHonestFile file_grammars (source_of p.settings.block w.time (history_on job.side w) job) st.honest.folder (cut_name p.settings w job) (cut_bytes p.settings w job)) (sym name) honest;
        lists = nothing_listed (Log job.job.next (w.time + 1) w.tickets p.settings.block) (cut_bytes p.settings w job) (cut_name p.settings w job) w.tickets name refl;
      };
      after = cut_sound p.settings.block w.time (w.tickets + 1) (history_on job.side w) job (job_grown p.settings.block w.time w.time w.tickets (w.tickets + 1) (history_on job.side w) (history_on job.side w) job (same_time w.time) (later_tickets w.tickets) j.logged j) n;
      stored = λ files there st. record { honest = st.honest; there = st.there; listed = st.listed };
    }

pub cut_keeps : (k : Known) (p : Workload) (w : State) (luck : Luck) (found : FoundBackup) → Sound p w → slice_get w.jobs found.place ≡ Some (types.Backup found.backup) → has_ended found.backup.job.state ≡ false → Sound p (cut_log p.settings w luck found).state
cut_keeps k p w luck found h at running = go (nat_lt w.time found.backup.job.next) refl
  where
    go : (b : Bool) → nat_lt w.time found.backup.job.next ≡ b → Sound p (cond b (refuses (NothingNew w.time) w) (cut_put p.settings w luck found)).state
    go true e = sound_gone p w h
    go false e = putting_keeps k p w found.place found.backup (with_cut w found.backup).job (cut_name p.settings w found.backup) (cut_bytes p.settings w found.backup) luck h at (cut_order k p w found.place found.backup h at running (ltb-false w.time found.backup.job.next e))

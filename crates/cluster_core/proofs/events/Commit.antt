-- The event commit.
use Rattle.std.specs.Prelude.{◌≡◌, ℕ, zero, suc, ◌+◌, ◌^◌, ◌<◌, ◌≤◌, Bool, true, false, List, [], ◌∷◌, ◌++◌, length, Option, Some, None, Result, Ok, Err, ◌⊎◌, if◌then◌else◌, slice_get, refl}
use Rattle.std.specs.List.{AllByRecursion}
use Rattle.std.proofs.Common.{ap, sym, ◌∙◌, arith, subst, inl, inr}
use Rattle.std.proofs.lemmas.Bool.{ne_eqb}
use Rattle.fb_bytes.specs.declared.KeyRange.{KeyRange}
use Rattle.fb_bytes.specs.Options.{◌>>=◌, IsIn}
use Rattle.mutations.specs.declared.Entry.{Entry}
use Rattle.mutations.specs.declared.Mutation.{Mutation}
use Rattle.mutations.specs.declared.TxOp.{TxOp}
use Rattle.mutations.specs.declared.Who.{Who}
use Rattle.mutations.specs.declared.Who.TheVariants as who
use Rattle.mutations.specs.Clipping.{all_clipped}
use Rattle.mutations.specs.Spelling.{mutations_spelling}
use Rattle.mutations.specs.Transactions.{writes_of}
use Rattle.container_view.specs.Changes.{Grows}
use Rattle.task_kinds.specs.States.{has_ended}
use Rattle.workload_text.specs.declared.Settings.{Settings}
use Rattle.workload_text.specs.declared.Side.{Side}
use Rattle.workload_text.specs.declared.Side.TheVariants.{Src, Dst}
use Rattle.workload_text.specs.declared.Workload.{Workload}
use Rattle.database.specs.declared.CommitFault.{CommitFault}
use Rattle.database.specs.declared.Found.{Found}
use Rattle.database.specs.declared.JobLog.{JobLog}
use Rattle.database.specs.Commits.{Scene, most_version, commit_answer, history_after, time_after}
use Rattle.database.specs.Dumps.{AreMutationsWithin, AreWithin}
use Rattle.database.specs.Laws.{IsTaken, CommitLaw}
use Rattle.database.specs.Reads.{reads_at}
use Rattle.backup_core.specs.Backups.{unless_ended}
use Rattle.client_core.specs.Clients.{ClientState, next_ops, who_of, after_try, outcome_of, try_of, commit_try}
use Rattle.client_core.specs.Ends.{end_of, version_of}
use Rattle.client_core.specs.Laws.{IsSceneOf}
use Rattle.client_core.specs.Legal.{entries_by}
use Rattle.client_core.specs.Sound.{IsSoundClient}
use Rattle.client_core.proofs.Entries.{entries_by-other}
use Rattle.client_core.proofs.Lists.{All-snoc, All-weaker}
use Rattle.client_core.proofs.Relied.{try_law, entry_law}
use Rattle.cluster_core.specs.declared.event.Answer.{Answer}
use Rattle.cluster_core.specs.declared.job.Job.TheVariants as types
use Rattle.cluster_core.specs.Backups.{Backup}
use Rattle.cluster_core.specs.Footprints.{IsEntered}
use Rattle.cluster_core.specs.Jobs.{Job, is_on, log_on, range_on, ranges_on, with_front, logs_of}
use Rattle.cluster_core.specs.Moves.{moved}
use Rattle.cluster_core.specs.Sound.{IsOrdered, other_side, ground_of, IsClientSound, AreClientsSound, AreLoggable, BackupSound, IsStored, AreApart, AreNumbered, AgentsSound, Sound, source_of}
use Rattle.cluster_core.specs.State.{State, on_side, history_on, with_history, client_at, put_client}
use Rattle.cluster_core.specs.events.Commit.{commit_with, scene_on, try_in}
use Rattle.cluster_core.proofs.Answered.{IsNext, answer_is_next, later_time}
use Rattle.cluster_core.proofs.Entries.{IsRising-snoc}
use Rattle.cluster_core.proofs.Grown.{each_sound, each_kept, job_grown, stored_grown, waits, enters}
use Rattle.cluster_core.proofs.Holding.{agents_later}
use Rattle.cluster_core.proofs.Known.{Known}
use Rattle.cluster_core.proofs.Lists.{scripts_put, each_put}
use Rattle.cluster_core.proofs.Numbering.{log_for, own_log, all_front}
use Rattle.cluster_core.proofs.Paces.{pace_forward}
use Rattle.cluster_core.proofs.Touching.{Touches, same}
use Rattle.cluster_core.proofs.Waiting.{no_more, client_waits}

-- the history with the entry of a version that was taken
entered : (time pace : ℕ) (v : Option ℕ) (who : Who) (muts : List Mutation) (history : List Entry) → (history_after v who muts history ≡ history) ⊎ IsEntered (time_after v time) history (history_after v who muts history)
entered time pace None who muts history = inl refl
entered time pace (Some version) who muts history = inr (record { entry = record { version = version; who = who; muts = muts }; newest = refl; is = refl })

time_since : (time pace : ℕ) (v : Option ℕ) → IsNext time pace v → (time ≤ time_after v time) × (time_after v time ≤ time + pace)
time_since time pace None h = (omega arith, omega arith)
time_since time pace (Some version) h = let e : version ≡ time + pace = h.0 in (omega arith, omega arith)

-- a side has this history now, and the time is this
entered_on : (pace : ℕ) (w : State) (side : Side) (v : Option ℕ) (who : Who) (muts : List Mutation) (clients : List ClientState) (answer : Answer) → IsNext w.time pace v → Touches pace w (moved (Ok answer) (record (with_history side (history_after v who muts (history_on side w)) w) { time = time_after v w.time; clients = clients }))
entered_on pace w Src v who muts clients answer h = record {
  starved = λ e. cc;
  since = (time_since w.time pace v h).0;
  upto = (time_since w.time pace v h).1;
  src = entered w.time pace v who muts w.src;
  dst = inl refl;
  sides = inr refl;
  jobs = inl refl;
  files = inl refl;
}
entered_on pace w Dst v who muts clients answer h = record {
  starved = λ e. cc;
  since = (time_since w.time pace v h).0;
  upto = (time_since w.time pace v h).1;
  src = inl refl;
  dst = entered w.time pace v who muts w.dst;
  sides = inl refl;
  jobs = inl refl;
  files = inl refl;
}

try_touches : (s : Settings) (w : State) (n : ℕ) (c : ClientState) (begun : Option ℕ) (ops : Option (List TxOp)) → Touches s.pace w (commit_with w n (begun >>= λ read. ops >>= λ found. Some (try_of (scene_on s w c.script.side) c read found)))
try_touches s w n c None ops = same s.pace w _
try_touches s w n c (Some read) None = same s.pace w _
try_touches s w n c (Some read) (Some ops) =
    let scene = scene_on s w c.script.side in
    entered_on s.pace w c.script.side (version_of (outcome_of (scene_on s w c.script.side) c read ops).end) (who_of c) (writes_of ops) _ _ (answer_is_next scene read ops (reads_at scene.block scene.history read ops))

pub commit_touches : (s : Settings) (w : State) (n : ℕ) (o : Option ClientState) → Touches s.pace w (commit_with w n (o >>= try_in s w))
commit_touches s w n None = same s.pace w _
commit_touches s w n (Some c) = try_touches s w n c c.begun (next_ops c)

-- the state after a try, by the version that it took
abbrev ended : Side → State → ℕ → ClientState → Option ℕ → Who → List Mutation → State
ended side w n c version who muts = record (with_history side (history_after version who muts (history_on side w)) w) { time = time_after version w.time; clients = put_client w.clients n c }

past_next : (time pace version : ℕ) (history : List Entry) → 1 ≤ pace → version ≡ time + pace → IsOrdered time history → IsOrdered version history
past_next time pace version history p e h = record { rising = h.rising; past = All-weaker (λ x. x.version ≤ time) (λ x. x.version ≤ version) history (λ x k. omega arith) h.past }

one_more : (time pace version : ℕ) (history : List Entry) (who : Who) (muts : List Mutation) → 1 ≤ pace → version ≡ time + pace → IsOrdered time history → IsOrdered version (history ++ record { version = version; who = who; muts = muts } ∷ [])
one_more time pace version history who muts p e h = record {
  rising = IsRising-snoc history (record { version = version; who = who; muts = muts }) h.rising (All-weaker (λ x. x.version ≤ time) (λ x. x.version < version) history (λ x k. omega arith) h.past);
  past = All-snoc (λ x. x.version ≤ version) history (record { version = version; who = who; muts = muts }) (past_next time pace version history p e h).past (let l : version ≤ version = omega arith in l);
}

ordered_after : (time pace : ℕ) (o : Option ℕ) (history : List Entry) (who : Who) (muts : List Mutation) → 1 ≤ pace → IsNext time pace o → IsOrdered time history → IsOrdered (time_after o time) (history_after o who muts history)
ordered_after time pace None history who muts p e h = h
ordered_after time pace (Some version) history who muts p e h = one_more time pace version history who muts p e.0 h

later_ordered : (time pace : ℕ) (o : Option ℕ) (history : List Entry) → 1 ≤ pace → IsNext time pace o → IsOrdered time history → IsOrdered (time_after o time) history
later_ordered time pace None history p e h = h
later_ordered time pace (Some version) history p e h = past_next time pace version history p e.0 h

bound_after : (time pace : ℕ) (o : Option ℕ) → IsNext time pace o → time ≤ most_version → time_after o time ≤ most_version
bound_after time pace None e h = h
bound_after time pace (Some version) e h = e.1

here : (side : Side) (w : State) (history : List Entry) → on_side side (with_history side history w).src (with_history side history w).dst ≡ history
here Src w history = refl
here Dst w history = refl

there : (side : Side) (w : State) (history : List Entry) → on_side (other_side side) (with_history side history w).src (with_history side history w).dst ≡ on_side (other_side side) w.src w.dst
there Src w history = refl
there Dst w history = refl

-- a fact of each history stands where the one of a side is exchanged for another of which it holds
each_side : (P : List Entry → Type 0) (side t : Side) (w : State) (history : List Entry) → P history → ((u : Side) → P (on_side u w.src w.dst)) → P (on_side t (with_history side history w).src (with_history side history w).dst)
each_side P Src Src w history here there = here
each_side P Src Dst w history here there = there Dst
each_side P Dst Src w history here there = there Src
each_side P Dst Dst w history here there = here

with_history_jobs : (side : Side) (history : List Entry) (w : State) → (with_history side history w).jobs ≡ w.jobs
with_history_jobs Src history w = refl
with_history_jobs Dst history w = refl

with_history_next : (side : Side) (history : List Entry) (w : State) → (with_history side history w).tickets ≡ w.tickets
with_history_next Src history w = refl
with_history_next Dst history w = refl

with_history_tickets : (side : Side) (history : List Entry) (w : State) → w.tickets ≤ most_version + 1 → (with_history side history w).tickets ≤ most_version + 1
with_history_tickets Src history w h = h
with_history_tickets Dst history w h = h

with_history_agents : (side : Side) (history : List Entry) (w : State) (last time : ℕ) → AgentsSound last time w.uids w.bucket w.agents w.jobs → AgentsSound last time (with_history side history w).uids (with_history side history w).bucket (with_history side history w).agents (with_history side history w).jobs
with_history_agents Src history w last time h = h
with_history_agents Dst history w last time h = h

with_history_files : (side : Side) (history : List Entry) (w : State) → (with_history side history w).files ≡ w.files
with_history_files Src history w = refl
with_history_files Dst history w = refl

same_number : (n : ℕ) → n ≤ n
same_number n = omega arith

-- a fact of a side's history stands where it holds of the exchanged one, or of the side's own
side_cases : (P : List Entry → Type 0) (side t : Side) (w : State) (history : List Entry) → (side ≡ t → P history) → P (on_side t w.src w.dst) → P (on_side t (with_history side history w).src (with_history side history w).dst)
side_cases P Src Src w history here there = here refl
side_cases P Src Dst w history here there = there
side_cases P Dst Src w history here there = there
side_cases P Dst Dst w history here there = here refl

-- what a try took, where it took a version
abbrev IsTaking : Scene → ℕ → List TxOp → Option ℕ → Type 0
IsTaking scene read ops None = Unit {0}
IsTaking scene read ops (Some version) = IsTaken scene read ops version

within_after : (scene : Scene) (read : ℕ) (ops : List TxOp) (o : Option ℕ) (who : Who) → IsTaking scene read ops o → AreWithin scene.block scene.history → AreWithin scene.block (history_after o who (writes_of ops) scene.history)
within_after scene read ops None who t h = h
within_after scene read ops (Some version) who t h = All-snoc (λ (x : Entry). AreMutationsWithin scene.block x.muts) scene.history (record { version = version; who = who; muts = writes_of ops }) h t.within

-- the log of a job that logs is among those of its side
behind_front : (P : JobLog → Type 0) (o : Option JobLog) (logs : List JobLog) → AllByRecursion P (with_front o logs) → AllByRecursion P logs
behind_front P (Some log) logs a = a.1
behind_front P None logs a = a

log_at : (P : JobLog → Type 0) (side : Side) (jobs : List Job) (place : ℕ) (job : Job) (log : JobLog) → AllByRecursion P (logs_of side jobs) → slice_get jobs place ≡ Some job → log_on side job ≡ Some log → P log
log_at P side [] zero job log a at l = cc
log_at P side [] (suc place) job log a at l = cc
log_at P side (x ∷ xs) zero job log a at l =
    let same : x ≡ job = cc in
    let here : AllByRecursion P (log ∷ logs_of side xs) = subst (λ (o : Option JobLog). AllByRecursion P (with_front o (logs_of side xs))) (ap (log_on side) same ∙ l) a in
    here.0
log_at P side (x ∷ xs) (suc place) job log a at l = log_at P side xs place job log (behind_front P (log_on side x) (logs_of side xs) a) at l

logged_after : (scene : Scene) (read : ℕ) (ops : List TxOp) (side : Side) (jobs : List Job) (o : Option ℕ) (who : Who) (place : ℕ) (job : Backup) → IsTaking scene read ops o → scene.logs ≡ logs_of side jobs → slice_get jobs place ≡ Some (types.Backup job) → side ≡ job.side → has_ended job.job.state ≡ false → AreLoggable job.job.terms.ranges job.job.begin scene.history → AreLoggable job.job.terms.ranges job.job.begin (history_after o who (writes_of ops) scene.history)
logged_after scene read ops side jobs None who place job t l at s r a = a
logged_after scene read ops side jobs (Some version) who place job t l at s r a =
    All-snoc (λ (x : Entry). job.job.begin ≤ x.version → length (mutations_spelling (all_clipped job.job.terms.ranges x.muts)) < 2 ^ 32) scene.history (record { version = version; who = who; muts = writes_of ops }) a
    (λ b. log_at (λ log. length (mutations_spelling (all_clipped log.ranges (writes_of ops))) < 2 ^ 32) side jobs place (types.Backup job) (log_for job) (subst (λ (ls : List JobLog). AllByRecursion (λ log. length (mutations_spelling (all_clipped log.ranges (writes_of ops))) < 2 ^ 32) ls) l t.logged) at (own_log side job s r))

grows_after : (block time pace : ℕ) (o : Option ℕ) (history : List Entry) (who : Who) (muts : List Mutation) (job : Backup) → 1 ≤ pace → IsNext time pace o → Grows (source_of block time history job) (source_of block (time_after o time) (history_after o who muts history) job)
grows_after block time pace None history who muts job q e = waits block time time history job (let s : time ≤ time = omega arith in s)
grows_after block time pace (Some version) history who muts job q e = enters block time history (record { version = version; who = who; muts = muts }) job (let v = e.0 in omega arith)

-- ---- the clients

in_back : {X : Type 0} (x : X) (xs ys : List X) → IsIn x ys → IsIn x (xs ++ ys)
in_back x [] ys h = h
in_back x (y ∷ xs) ys h = inr (in_back x xs ys h)

log_among : (side : Side) (job : Job) (log : JobLog) (rest : List (List KeyRange)) → log_on side job ≡ Some log → IsIn log.ranges (range_on side job ++ rest)
log_among side (types.Backup backup) log rest e = go (is_on side backup.side) (has_ended backup.job.state) e
  where
    some_is : (a b : JobLog) → Some a ≡ Some b → a ≡ b
    some_is a b q = cc

    go : (on ended : Bool) → (if on then unless_ended ended (log_for backup) else None) ≡ Some log → IsIn log.ranges ((if on then backup.job.terms.ranges ∷ [] else []) ++ rest)
    go true true q = cc
    go true false q = inl (ap (λ (l : JobLog). l.ranges) (sym (some_is (log_for backup) log q)))
    go false ended q = cc

-- what is logged on a side is in the ranges of the side's jobs
logs_among : (side : Side) (jobs : List Job) → AllByRecursion (λ log. IsIn log.ranges (ranges_on side jobs)) (logs_of side jobs)
logs_among side [] = tt
logs_among side (x ∷ xs) =
    all_front (λ log. IsIn log.ranges (ranges_on side (x ∷ xs))) (log_on side x) (logs_of side xs)
    (λ log e. log_among side x log (ranges_on side xs) e)
    (All-weaker (λ log. IsIn log.ranges (ranges_on side xs)) (λ log. IsIn log.ranges (ranges_on side (x ∷ xs))) (logs_of side xs) (λ log h. in_back log.ranges (range_on side x) (ranges_on side xs) h) (logs_among side xs))

scene_is : (p : Workload) (w : State) (side : Side) → Sound p w → IsSceneOf (ground_of p.settings side w.jobs w.src w.dst) w.time (scene_on p.settings w side)
scene_is p w side h = record {
  block = refl;
  time_is = refl;
  pace = refl;
  forward = pace_forward p;
  history = refl;
  rising = (h.databases.histories side).rising;
  past = (h.databases.histories side).past;
  logs = logs_among side w.jobs;
}

other_entries : (m number place : ℕ) (muts : List Mutation) (o : Option ℕ) (history : List Entry) → (number ≡ m → ⊥) → entries_by m (history_after o (who.Client number place) muts history) ≡ entries_by m history
other_entries m number place muts None history d = refl
other_entries m number place muts (Some version) history d = entries_by-other m history (record { version = version; who = who.Client number place; muts = muts }) (ne_eqb number m d)

-- another client of the side where an entry may have come
beside : (p : Workload) (w : State) (m number place : ℕ) (muts : List Mutation) (o : Option ℕ) (d : ClientState) → 1 ≤ p.settings.pace → IsNext w.time p.settings.pace o → (number ≡ m → ⊥) → IsSoundClient (ground_of p.settings d.script.side w.jobs w.src w.dst) w.time m d → IsSoundClient (record (ground_of p.settings d.script.side w.jobs w.src w.dst) { history = history_after o (who.Client number place) muts (history_on d.script.side w) }) (time_after o w.time) m d
beside p w m number place muts None d pace is_next differ k = k
beside p w m number place muts (Some version) d pace is_next differ k =
    entry_law (ground_of p.settings d.script.side w.jobs w.src w.dst) w.time m (record { version = version; who = who.Client number place; muts = muts }) d (let e = is_next.0 in omega arith) (ne_eqb number m differ) k

other_sound : (p : Workload) (w : State) (side : Side) (m number place : ℕ) (muts : List Mutation) (o : Option ℕ) (d : ClientState) → 1 ≤ p.settings.pace → IsNext w.time p.settings.pace o → (number ≡ m → ⊥) → IsClientSound p.settings w.time w.jobs w.src w.dst m d → IsClientSound p.settings (time_after o w.time) w.jobs (with_history side (history_after o (who.Client number place) muts (history_on side w)) w).src (with_history side (history_after o (who.Client number place) muts (history_on side w)) w).dst m d
other_sound p w side m number place muts o d pace is_next differ k =
    let history : List Entry = history_after o (who.Client number place) muts (history_on side w) in
    let le : w.time ≤ time_after o w.time = later_time w.time p.settings.pace o is_next in
    record {
      sound = side_cases (λ (xs : List Entry). IsSoundClient (record (ground_of p.settings d.script.side w.jobs w.src w.dst) { history = xs }) (time_after o w.time) m d) side d.script.side w history
          (λ e. subst (λ (t : Side). IsSoundClient (record (ground_of p.settings d.script.side w.jobs w.src w.dst) { history = history_after o (who.Client number place) muts (history_on t w) }) (time_after o w.time) m d) (sym e) (beside p w m number place muts o d pace is_next differ k.sound))
          (client_waits p.settings w.time (time_after o w.time) w.jobs w.jobs w.src w.dst m d le (no_more w.jobs w.jobs (λ t. refl)) k).sound;
      apart = side_cases (λ (xs : List Entry). entries_by m xs ≡ []) side (other_side d.script.side) w history
          (λ e. other_entries m number place muts o (history_on side w) differ ∙ ap (λ (t : Side). entries_by m (history_on t w)) e ∙ k.apart)
          k.apart;
    }

-- A try keeps what is sound, whatever version it took.
ended_keeps : (k : Known) (p : Workload) (w : State) (n : ℕ) (c : ClientState) (read : ℕ) (ops : List TxOp) (o : Option ℕ) → client_at w.clients n ≡ Some c → commit_try (scene_on p.settings w c.script.side) c ≡ Some (try_of (scene_on p.settings w c.script.side) c read ops) → version_of (outcome_of (scene_on p.settings w c.script.side) c read ops).end ≡ o → IsNext w.time p.settings.pace o → IsTaking (scene_on p.settings w c.script.side) read ops o → Sound p w → Sound p (ended c.script.side w n (after_try c (outcome_of (scene_on p.settings w c.script.side) c read ops)) o (who_of c) (writes_of ops))
ended_keeps known p w n c read ops o at tried end is_next taking h =
    let k : IsClientSound p.settings w.time w.jobs w.src w.dst n c = h.clients.each n c at in
    let pace : 1 ≤ p.settings.pace = pace_forward p in
    let scene : Scene = scene_on p.settings w c.script.side in
    let new : ClientState = after_try c (outcome_of (scene_on p.settings w c.script.side) c read ops) in
    let history : List Entry = history_after o (who_of c) (writes_of ops) (history_on c.script.side w) in
    let le : w.time ≤ time_after o w.time = later_time w.time p.settings.pace o is_next in
    let own : IsSoundClient (record (ground_of p.settings c.script.side w.jobs w.src w.dst) { history = history_after o (who_of c) (writes_of ops) (history_on c.script.side w) }) (time_after o w.time) n (after_try c (outcome_of (scene_on p.settings w c.script.side) c read ops)) =
    subst (λ (v : Option ℕ). IsSoundClient (record (ground_of p.settings c.script.side w.jobs w.src w.dst) { history = history_after v (who_of c) (writes_of ops) (history_on c.script.side w) }) (time_after v w.time) n (after_try c (outcome_of (scene_on p.settings w c.script.side) c read ops))) end
    (try_law (ground_of p.settings c.script.side w.jobs w.src w.dst) w.time n c (scene_on p.settings w c.script.side) (try_of (scene_on p.settings w c.script.side) c read ops) k.sound (scene_is p w c.script.side h) tried) in
    record {
      clock = record {
        bound = bound_after w.time p.settings.pace o is_next h.clock.bound;
        tickets = with_history_tickets c.script.side history w h.clock.tickets;
      };
      databases = record {
        histories = λ t. each_side (λ (xs : List Entry). IsOrdered (time_after o w.time) xs) c.script.side t w history (ordered_after w.time p.settings.pace o (history_on c.script.side w) (who_of c) (writes_of ops) pace is_next (h.databases.histories c.script.side)) (λ u. later_ordered w.time p.settings.pace o (on_side u w.src w.dst) pace is_next (h.databases.histories u));
        within = λ t. each_side (AreWithin p.settings.block) c.script.side t w history (within_after scene read ops o (who_of c) taking (h.databases.within c.script.side)) h.databases.within;
      };
      clients = subst (λ (js : List Job). AreClientsSound p.settings p.clients (time_after o w.time) js (with_history c.script.side history w).src (with_history c.script.side history w).dst (put_client w.clients n new)) (sym (with_history_jobs c.script.side history w)) (record {
        scripts_are = scripts_put w.clients n c new at refl ∙ h.clients.scripts_are;
        each = each_put (λ m d. IsClientSound p.settings (time_after o w.time) w.jobs (with_history c.script.side history w).src (with_history c.script.side history w).dst m d) w.clients n c new at
            (record {
              sound = subst (λ (xs : List Entry). IsSoundClient (record (ground_of p.settings c.script.side w.jobs w.src w.dst) { history = xs }) (time_after o w.time) n (after_try c (outcome_of (scene_on p.settings w c.script.side) c read ops))) (sym (here c.script.side w history)) own;
              apart = ap (entries_by n) (there c.script.side w history) ∙ k.apart;
            })
            (λ m d differ e. other_sound p w c.script.side m c.script.number (c.place + 1) (writes_of ops) o d pace is_next (λ f. differ (sym k.sound.numbered ∙ f)) (h.clients.each m d e));
      });
      jobs = record {
        each = each_sound p.settings.block (time_after o w.time) (with_history c.script.side history w).tickets (with_history c.script.side history w).src (with_history c.script.side history w).dst (with_history c.script.side history w).jobs (λ m x e.
            let f : slice_get w.jobs m ≡ Some (types.Backup x) = ap (λ (js : List Job). slice_get js m) (sym (with_history_jobs c.script.side history w)) ∙ e in
            let j = h.jobs.each m (types.Backup x) f in
            subst (λ (t : ℕ). BackupSound p.settings.block (time_after o w.time) t (on_side x.side (with_history c.script.side history w).src (with_history c.script.side history w).dst) x) (sym (with_history_next c.script.side history w))
            (side_cases (λ (xs : List Entry). BackupSound p.settings.block (time_after o w.time) w.tickets xs x) c.script.side x.side w history
            (λ s. job_grown p.settings.block w.time (time_after o w.time) w.tickets w.tickets (history_on x.side w) history x le (same_number w.tickets)
            (λ r. logged_after scene read ops c.script.side w.jobs o (who_of c) m x taking refl f s r (subst (λ (t : Side). AreLoggable x.job.terms.ranges x.job.begin (history_on t w)) (sym s) (j.logged r))) j)
            (job_grown p.settings.block w.time (time_after o w.time) w.tickets w.tickets (history_on x.side w) (history_on x.side w) x le (same_number w.tickets) j.logged j)));
        apart = subst AreApart (sym (with_history_jobs c.script.side history w)) h.jobs.apart;
        numbered = subst (AreNumbered 1) (sym (with_history_jobs c.script.side history w)) h.jobs.numbered;
      };
      agents = with_history_agents c.script.side history w p.settings.agents (time_after o w.time) (agents_later known p.settings.agents w.time (time_after o w.time) w.uids w.bucket w.agents w.jobs le h.agents);
      containers = λ files e.
          let g : w.files ≡ Some files = sym (with_history_files c.script.side history w) ∙ e in
          let st = h.containers files g in
          record {
            ordered = st.ordered;
            each = each_kept p.settings.block (time_after o w.time) (with_history c.script.side history w).tickets (with_history c.script.side history w).src (with_history c.script.side history w).dst files (with_history c.script.side history w).jobs (λ m x e.
                let f : slice_get w.jobs m ≡ Some (types.Backup x) = ap (λ (js : List Job). slice_get js m) (sym (with_history_jobs c.script.side history w)) ∙ e in
                subst (λ (t : ℕ). IsStored p.settings.block (time_after o w.time) t (on_side x.side (with_history c.script.side history w).src (with_history c.script.side history w).dst) files x) (sym (with_history_next c.script.side history w))
                (side_cases (λ (xs : List Entry). IsStored p.settings.block (time_after o w.time) w.tickets xs files x) c.script.side x.side w history
                (λ s. stored_grown known p.settings.block w.time (time_after o w.time) w.tickets w.tickets (history_on c.script.side w) history files x (grows_after p.settings.block w.time p.settings.pace o (history_on c.script.side w) (who_of c) (writes_of ops) x pace is_next) (same_number w.tickets) (subst (λ (t : Side). IsStored p.settings.block w.time w.tickets (history_on t w) files x) (sym s) (st.each m (types.Backup x) f)))
                (stored_grown known p.settings.block w.time (time_after o w.time) w.tickets w.tickets (history_on x.side w) (history_on x.side w) files x (waits p.settings.block w.time (time_after o w.time) (history_on x.side w) x le) (same_number w.tickets) (st.each m (types.Backup x) f))));
          };
    }

-- what a commit's answer took
taken_of : (scene : Scene) (read : ℕ) (ops : List TxOp) (reads : List Found) (r : Result (Option ℕ) CommitFault) → CommitLaw → commit_answer scene read ops ≡ r → IsTaking scene read ops (version_of (end_of r reads))
taken_of scene read ops reads (Ok None) law e = tt
taken_of scene read ops reads (Ok (Some version)) law e = law scene read ops version e
taken_of scene read ops reads (Err fault) law e = tt

try_keeps : (k : Known) (p : Workload) (w : State) (n : ℕ) (c : ClientState) (begun : Option ℕ) (ops : Option (List TxOp)) → client_at w.clients n ≡ Some c → c.begun ≡ begun → next_ops c ≡ ops → Sound p w → Sound p (commit_with w n (begun >>= λ read. ops >>= λ found. Some (try_of (scene_on p.settings w c.script.side) c read found))).state
try_keeps k p w n c None ops at b next h = h
try_keeps k p w n c (Some read) None at b next h = h
try_keeps k p w n c (Some read) (Some ops) at b next h =
    let scene : Scene = scene_on p.settings w c.script.side in
    let reads : List Found = reads_at p.settings.block (history_on c.script.side w) read ops in
    ended_keeps k p w n c read ops (version_of (outcome_of (scene_on p.settings w c.script.side) c read ops).end) at
    (ap (λ (x : Option ℕ). x >>= λ r. next_ops c >>= λ found. Some (try_of (scene_on p.settings w c.script.side) c r found)) b ∙ ap (λ (x : Option (List TxOp)). x >>= λ found. Some (try_of (scene_on p.settings w c.script.side) c read found)) next)
    refl (answer_is_next scene read ops reads)
    (taken_of scene read ops reads (commit_answer (scene_on p.settings w c.script.side) read ops) k.commit refl) h

pub commit_keeps : (k : Known) (p : Workload) (w : State) (n : ℕ) (o : Option ClientState) → client_at w.clients n ≡ o → Sound p w → Sound p (commit_with w n (o >>= try_in p.settings w)).state
commit_keeps k p w n None at h = h
commit_keeps k p w n (Some c) at h = try_keeps k p w n c c.begun (next_ops c) at refl refl h

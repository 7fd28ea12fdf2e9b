-- What the parts of a world do, as a step of the machine.
use Rattle.std.specs.Prelude.{◌≡◌, ℕ, suc, ◌+◌, ◌-◌, ◌<◌, ◌≤◌, Bool, true, false, nat_lt, if◌then◌else◌, List, [], ◌∷◌, ◌++◌, map, length, take, drop, Option, Some, None, Result, Ok, Err, MatchOption, IfOk, OnErr, slice_set, refl}
use Rattle.std.specs.declared.alloc.AllocError.{AllocError}
use Rattle.std.proofs.Common.{ap, sym, ◌∙◌, arith, subst, get_or, cond}
use Rattle.std.proofs.lemmas.Bool.{ltb-false}
use Rattle.std.proofs.lemmas.List.{set-get_or}
use Rattle.std.proofs.lemmas.Option.{slice_get-get_or}
use Rattle.fb_bytes.specs.Options.{◌>>=◌}
use Rattle.fb_outside.specs.declared.File.{File}
use Rattle.fb_outside.specs.Files.{AreFiles}
use Rattle.versioned_kv.specs.declared.Versions.{Versions}
use Rattle.workload_text.specs.declared.Settings.{Settings}
use Rattle.workload_text.specs.declared.Side.TheVariants.{Src, Dst}
use Rattle.workload_text.specs.declared.Workload.{Workload}
use Rattle.database.specs.Commits.{Database, scene_of, oldest_at, most_version}
use Rattle.client_core.specs.declared.Outcome.{Outcome}
use Rattle.client_core.specs.Clients.{ClientState, new_client, begun_client, Try, commit_try}
use Rattle.cluster_core.specs.declared.event.Event.TheVariants.{Commit}
use Rattle.cluster_core.specs.declared.event.Answer.{Answer}
use Rattle.cluster_core.specs.declared.event.StepFault.{StepFault}
use Rattle.cluster_core.specs.State.{State, client_at, put_client}
use Rattle.cluster_core.specs.Jobs.{Job, logs_of}
use Rattle.cluster_core.specs.Moves.{FailsOld, Moved, moved}
use Rattle.cluster_core.specs.events.Begin.{begin_with}
use Rattle.cluster_core.specs.declared.event.Answer.TheVariants.{Version}
use Rattle.cluster_core.specs.declared.event.StepFault.TheVariants.{VersionsSpent}
use Rattle.cluster_core.specs.events.Commit.{commit}
use Rattle.cluster_core.specs.events.Tick.{tick}
use Rattle.cluster_core.specs.Sound.{Sound}
use Rattle.cluster_core.specs.inner.Crew.{Crew, new_crew}
use Rattle.cluster_core.specs.inner.World.{Desk, state_of, IsWorld, begun_in, tried_in}
use Rattle.cluster_core.proofs.Openings.{opening_is_sound}
use Rattle.cluster_core.proofs.Relied.{known}
use Rattle.cluster_core.proofs.commands.Pause.{pause_keeps}
use Rattle.cluster_core.proofs.events.Begin.{begin_of_keeps}
use Rattle.cluster_core.proofs.Steps.{event_keeps}
use Rattle.cluster_core.proofs.events.Tick.{sound_later}
use Rattle.cluster_core.proofs.Oldest.{oldest_later}

-- ---- a client of a slice

pub begins_at : (clients : List ClientState) (k : ℕ) (old client : ClientState) (time : ℕ) (result : Option ℕ) → k < length clients → MatchOption result ((begun_client time (get_or clients k old) ≡ None) × (client ≡ get_or clients k old)) (λ read. (read ≡ time) × (begun_client time (get_or clients k old) ≡ Some client)) → MatchOption result ((begun_in clients (suc k) time ≡ None) × (slice_set clients k client ≡ clients)) (λ read. (read ≡ time) × ((x : ClientState) × (begun_in clients (suc k) time ≡ Some x) × (slice_set clients k client ≡ put_client clients (suc k) x)))
begins_at clients k old client time None lt h =
    (ap (λ (o : Option ClientState). o >>= begun_client time) (slice_get-get_or clients k old lt) ∙ h.0, ap (slice_set clients k) h.1 ∙ set-get_or clients k old)
begins_at clients k old client time (Some read) lt h =
    (h.0, (client, ap (λ (o : Option ClientState). o >>= begun_client time) (slice_get-get_or clients k old lt) ∙ h.1, refl))

pub begins : (clients : List ClientState) (number : ℕ) (old client : ClientState) (time : ℕ) (result : Option ℕ) → (number ≡ 0 → ⊥) → number - 1 < length clients → MatchOption result ((begun_client time (get_or clients (number - 1) old) ≡ None) × (client ≡ get_or clients (number - 1) old)) (λ read. (read ≡ time) × (begun_client time (get_or clients (number - 1) old) ≡ Some client)) → MatchOption result ((begun_in clients number time ≡ None) × (slice_set clients (number - 1) client ≡ clients)) (λ read. (read ≡ time) × ((x : ClientState) × (begun_in clients number time ≡ Some x) × (slice_set clients (number - 1) client ≡ put_client clients number x)))
begins clients number old client time result some lt h =
    let e : suc (number - 1) ≡ number = omega arith in
    subst (λ (n : ℕ). MatchOption result ((begun_in clients n time ≡ None) × (slice_set clients (number - 1) client ≡ clients)) (λ read. (read ≡ time) × ((x : ClientState) × (begun_in clients n time ≡ Some x) × (slice_set clients (number - 1) client ≡ put_client clients n x)))) e (begins_at clients (number - 1) old client time result lt h)

-- what a try at a client is, by the client, its database and the versions after it
abbrev pub ClientTried : Option Try → ClientState → ClientState → Database → Database → Versions → Versions → Result (Option Outcome) AllocError → Type 0
ClientTried tried old client db db' v v' result = IfOk result (λ o. MatchOption o ((tried ≡ None) × (client ≡ old) × (db' ≡ db) × (v' ≡ v)) (λ outcome. tried ≡ Some (record { outcome = outcome; client = client; history = db'.history; time = v'.now })))

-- and among all clients
abbrev pub Tried : List ClientState → List ClientState → ℕ → Database → Database → Versions → Versions → Option Outcome → Type 0
Tried clients clients' number db db' v v' o = MatchOption o ((tried_in clients number db v ≡ None) × (clients' ≡ clients) × (db' ≡ db) × (v' ≡ v)) (λ outcome. (x : ClientState) × (tried_in clients number db v ≡ Some (record { outcome = outcome; client = x; history = db'.history; time = v'.now })) × (clients' ≡ put_client clients number x))

pub tries_at : (clients : List ClientState) (k : ℕ) (old client : ClientState) (db db' : Database) (v v' : Versions) (result : Result (Option Outcome) AllocError) → k < length clients → ClientTried (commit_try (scene_of db v) (get_or clients k old)) (get_or clients k old) client db db' v v' result → IfOk result (Tried clients (slice_set clients k client) (suc k) db db' v v')
tries_at clients k old client db db' v v' (Ok None) lt h =
    (ap (λ (o : Option ClientState). o >>= commit_try (scene_of db v)) (slice_get-get_or clients k old lt) ∙ h.0, ap (slice_set clients k) h.1 ∙ set-get_or clients k old, h.2, h.3)
tries_at clients k old client db db' v v' (Ok (Some outcome)) lt h =
    (client, ap (λ (o : Option ClientState). o >>= commit_try (scene_of db v)) (slice_get-get_or clients k old lt) ∙ h, refl)
tries_at clients k old client db db' v v' (Err e) lt h = tt

pub tries : (clients : List ClientState) (number : ℕ) (old client : ClientState) (db db' : Database) (v v' : Versions) (result : Result (Option Outcome) AllocError) → (number ≡ 0 → ⊥) → number - 1 < length clients → ClientTried (commit_try (scene_of db v) (get_or clients (number - 1) old)) (get_or clients (number - 1) old) client db db' v v' result → IfOk result (Tried clients (slice_set clients (number - 1) client) number db db' v v')
tries clients number old client db db' v v' result some lt h =
    let e : suc (number - 1) ≡ number = omega arith in
    subst (λ (n : ℕ). IfOk result (Tried clients (slice_set clients (number - 1) client) n db db' v v')) e (tries_at clients (number - 1) old client db db' v v' result lt h)

-- ---- the world's parts

front : {X : Type 0} (xs ys : List X) → take (length xs) (xs ++ ys) ≡ xs
front [] ys = refl
front (x ∷ xs) ys = ap (λ zs. x ∷ zs) (front xs ys)

-- a slice of all items is written back as it is
pub written_back : {X : Type 0} (n : ℕ) (new sliced items : List X) → sliced ≡ items → n ≡ length items → length new ≡ length sliced → take n (new ++ drop (length new) items) ≡ new
written_back {X = X} n new sliced items s e l =
    let k : n ≡ length new = e ∙ ap length (sym s) ∙ sym l in
    ap (λ (m : ℕ). take m (new ++ drop (length new) items)) k ∙ front new (drop (length new) items)

begun_sound : (p : Workload) (w : State) (number : ℕ) (x : ClientState) → Sound p w → begun_in w.clients number w.time ≡ Some x → Sound p (record w { clients = put_client w.clients number x })
begun_sound p w number x h e = subst (λ (o : Option ClientState). Sound p (begin_with w number o).state) e (begin_of_keeps p w number (client_at w.clients number) refl h)

begun_world : (workload : Workload) (src dst : Database) (v : Versions) (desk : Desk) (files : Option (List File)) (clients new : List ClientState) (number : ℕ) (result : Option ℕ) → IsWorld workload src dst v (state_of clients src dst v desk files) → MatchOption result ((begun_in clients number v.now ≡ None) × (new ≡ clients)) (λ read. (read ≡ v.now) × ((x : ClientState) × (begun_in clients number v.now ≡ Some x) × (new ≡ put_client clients number x))) → IsWorld workload src dst v (state_of new src dst v desk files)
begun_world workload src dst v desk files clients new number None h k = subst (λ (cs : List ClientState). IsWorld workload src dst v (state_of cs src dst v desk files)) (sym k.1) h
begun_world workload src dst v desk files clients new number (Some read) h k =
    let x : ClientState = k.1.0 in
    let sound : Sound workload (record (state_of clients src dst v desk files) { clients = put_client clients number x }) = begun_sound workload (state_of clients src dst v desk files) number x h.sound k.1.1 in
    record { src_block = h.src_block; dst_block = h.dst_block; pace = h.pace; src_oldest = h.src_oldest; dst_oldest = h.dst_oldest; src_logs = h.src_logs; dst_logs = h.dst_logs; sound = subst (λ (cs : List ClientState). Sound workload (state_of cs src dst v desk files)) (sym k.1.2) sound }

-- a begin leaves a world
pub begin_world : (workload : Workload) (src dst : Database) (v : Versions) (desk : Desk) (files : Option (List File)) (items sliced new : List ClientState) (n number : ℕ) (result : Option ℕ) → IsWorld workload src dst v (state_of items src dst v desk files) → sliced ≡ items → n ≡ length items → length new ≡ length sliced → MatchOption result ((begun_in sliced number v.now ≡ None) × (new ≡ sliced)) (λ read. (read ≡ v.now) × ((x : ClientState) × (begun_in sliced number v.now ≡ Some x) × (new ≡ put_client sliced number x))) → IsWorld workload src dst v (state_of (take n (new ++ drop (length new) items)) src dst v desk files)
begin_world workload src dst v desk files items sliced new n number result h s e l k =
    subst (λ (cs : List ClientState). IsWorld workload src dst v (state_of cs src dst v desk files)) (sym (written_back n new sliced items s e l))
    (begun_world workload src dst v desk files sliced new number result (subst (λ (cs : List ClientState). IsWorld workload src dst v (state_of cs src dst v desk files)) (sym s) h) k)

-- what is said of a commit
abbrev pub Commits : Database → Database → Versions → List ClientState → Database → Database → Versions → List ClientState → ℕ → Answer → Type 0
Commits src dst v old src' dst' v' new number answer = (s : Settings) (desk : Desk) (files : Option (List File)) → src.block ≡ s.block → dst.block ≡ s.block → v.pace ≡ s.pace → src.logs ≡ logs_of Src desk.jobs → dst.logs ≡ logs_of Dst desk.jobs → commit s (state_of old src dst v desk files) number ≡ moved (Ok answer) (state_of new src' dst' v' desk files)

-- a commit leaves a world too
commit_world : (workload : Workload) (src dst src' dst' : Database) (v v' : Versions) (desk : Desk) (files : Option (List File)) (items sliced new : List ClientState) (n number : ℕ) (answer : Answer) → IsWorld workload src dst v (state_of items src dst v desk files) → sliced ≡ items → n ≡ length items → length new ≡ length sliced → (src'.block ≡ src.block) × (dst'.block ≡ dst.block) → (src'.logs ≡ src.logs) × (dst'.logs ≡ dst.logs) → v'.pace ≡ v.pace → (src'.oldest ≤ oldest_at v'.now) × (dst'.oldest ≤ oldest_at v'.now) → Commits src dst v sliced src' dst' v' new number answer → IsWorld workload src' dst' v' (state_of (take n (new ++ drop (length new) items)) src' dst' v' desk files)
commit_world workload src dst src' dst' v v' desk files items sliced new n number answer h s e l b g p q k =
    let start : IsWorld workload src dst v (state_of sliced src dst v desk files) = subst (λ (cs : List ClientState). IsWorld workload src dst v (state_of cs src dst v desk files)) (sym s) h in
    let moves : commit workload.settings (state_of sliced src dst v desk files) number ≡ moved (Ok answer) (state_of new src' dst' v' desk files) = k workload.settings desk files h.src_block h.dst_block h.pace h.src_logs h.dst_logs in
    let sound : Sound workload (state_of new src' dst' v' desk files) = subst (Sound workload) (ap (λ (m : Moved). m.state) moves) (event_keeps known workload (state_of sliced src dst v desk files) FailsOld (Commit number) start.sound) in
    subst (λ (cs : List ClientState). IsWorld workload src' dst' v' (state_of cs src' dst' v' desk files)) (sym (written_back n new sliced items s e l))
    (record { src_block = b.0 ∙ h.src_block; dst_block = b.1 ∙ h.dst_block; pace = p ∙ h.pace; src_oldest = q.0; dst_oldest = q.1; src_logs = g.0 ∙ h.src_logs; dst_logs = g.1 ∙ h.dst_logs; sound = sound })

-- whatever a commit answers
pub commit_leaves_world : (workload : Workload) (src dst src' dst' : Database) (v v' : Versions) (desk : Desk) (files : Option (List File)) (items sliced new : List ClientState) (n number : ℕ) (result : Result Answer StepFault) → IsWorld workload src dst v (state_of items src dst v desk files) → sliced ≡ items → n ≡ length items → length new ≡ length sliced → (src'.block ≡ src.block) × (dst'.block ≡ dst.block) → (src'.logs ≡ src.logs) × (dst'.logs ≡ dst.logs) → v'.pace ≡ v.pace → (src'.oldest ≤ oldest_at v'.now) × (dst'.oldest ≤ oldest_at v'.now) → IfOk result (Commits src dst v sliced src' dst' v' new number) → OnErr result ((new ≡ sliced) × (src' ≡ src) × (dst' ≡ dst) × (v' ≡ v)) → IsWorld workload src' dst' v' (state_of (take n (new ++ drop (length new) items)) src' dst' v' desk files)
commit_leaves_world workload src dst src' dst' v v' desk files items sliced new n number (Ok answer) h s e l b g p q k f = commit_world workload src dst src' dst' v v' desk files items sliced new n number answer h s e l b g p q k
commit_leaves_world workload src dst src' dst' v v' desk files items sliced new n number (Err fault) h s e l b g p q k f =
    let same : new ≡ items = f.0 ∙ s in
    subst (λ (cs : List ClientState). IsWorld workload src' dst' v' (state_of cs src' dst' v' desk files)) (sym same ∙ sym (written_back n new sliced items s e l) ∙ refl)
    (let P : Database → Database → Versions → Type 0 = λ x y z. IsWorld workload x y z (state_of items x y z desk files) in
    subst (λ (z : Versions). P src' dst' z) (sym f.3) (subst (λ (y : Database). P src' y v) (sym f.2) (subst (λ (x : Database). P x dst v) (sym f.1) h)))

-- new parts are a world at its beginning
pub open_world : (workload original : Workload) (clients : List ClientState) (jobs : List Job) (crew : Crew) (src dst : Database) (block : ℕ) (files : Option (List File)) → ((told : List File) → files ≡ Some told → AreFiles told) → workload ≡ original → clients ≡ map (new_client original.settings.tries) original.clients → jobs ≡ [] → crew ≡ new_crew original.settings.agents → src ≡ record { block = block; oldest = 0; history = []; logs = [] } → dst ≡ record { block = block; oldest = 0; history = []; logs = [] } → block ≡ original.settings.block → IsWorld workload src dst (record { now = 0; pace = workload.settings.pace }) (state_of clients src dst (record { now = 0; pace = workload.settings.pace }) (record { jobs = jobs; place = 0; tickets = 1; crew = crew }) files)
open_world workload original clients jobs crew src dst block files ordered w c j a s d b =
    let empty : Database = record { block = block; oldest = 0; history = []; logs = [] } in
    let start : Workload → Versions = λ x. record { now = 0; pace = x.settings.pace } in
    let desk : List Job → Crew → Desk = λ js cr. record { jobs = js; place = 0; tickets = 1; crew = cr } in
    let base : IsWorld original empty empty (start original) (state_of (map (new_client original.settings.tries) original.clients) empty empty (start original) (desk [] (new_crew original.settings.agents)) files) = record { src_block = b; dst_block = b; pace = refl; src_oldest = omega arith; dst_oldest = omega arith; src_logs = refl; dst_logs = refl; sound = opening_is_sound original files ordered } in
    subst (λ (x : Workload). IsWorld x src dst (start x) (state_of clients src dst (start x) (desk jobs crew) files)) (sym w)
    (subst (λ (cs : List ClientState). IsWorld original src dst (start original) (state_of cs src dst (start original) (desk jobs crew) files)) (sym c)
    (subst (λ (js : List Job). IsWorld original src dst (start original) (state_of (map (new_client original.settings.tries) original.clients) src dst (start original) (desk js crew) files)) (sym j)
    (subst (λ (cr : Crew). IsWorld original src dst (start original) (state_of (map (new_client original.settings.tries) original.clients) src dst (start original) (desk [] cr) files)) (sym a)
    (subst (λ (x : Database). IsWorld original x dst (start original) (state_of (map (new_client original.settings.tries) original.clients) x dst (start original) (desk [] (new_crew original.settings.agents)) files)) (sym s)
    (subst (λ (x : Database). IsWorld original empty x (start original) (state_of (map (new_client original.settings.tries) original.clients) empty x (start original) (desk [] (new_crew original.settings.agents)) files)) (sym d) base)))))

-- and it makes its step
pub commit_done : (workload : Workload) (src dst src' dst' : Database) (v v' : Versions) (desk : Desk) (files : Option (List File)) (items sliced new : List ClientState) (n number : ℕ) (answer : Answer) → IsWorld workload src dst v (state_of items src dst v desk files) → sliced ≡ items → n ≡ length items → length new ≡ length sliced → Commits src dst v sliced src' dst' v' new number answer → commit workload.settings (state_of items src dst v desk files) number ≡ moved (Ok answer) (state_of (take n (new ++ drop (length new) items)) src' dst' v' desk files)
commit_done workload src dst src' dst' v v' desk files items sliced new n number answer h s e l k =
    subst (λ (cs : List ClientState). commit workload.settings (state_of items src dst v desk files) number ≡ moved (Ok answer) (state_of cs src' dst' v' desk files)) (sym (written_back n new sliced items s e l))
    (subst (λ (cs : List ClientState). commit workload.settings (state_of cs src dst v desk files) number ≡ moved (Ok answer) (state_of new src' dst' v' desk files)) s (k workload.settings desk files h.src_block h.dst_block h.pace h.src_logs h.dst_logs))

-- a refused one changes nothing
pub commit_refused : (src dst src' dst' : Database) (v v' : Versions) (desk : Desk) (files : Option (List File)) (items sliced new : List ClientState) (n : ℕ) → sliced ≡ items → n ≡ length items → length new ≡ length sliced → (new ≡ sliced) × (src' ≡ src) × (dst' ≡ dst) × (v' ≡ v) → state_of (take n (new ++ drop (length new) items)) src' dst' v' desk files ≡ state_of items src dst v desk files
commit_refused src dst src' dst' v v' desk files items sliced new n s e l f =
    ap (λ (cs : List ClientState). state_of cs src' dst' v' desk files) (written_back n new sliced items s e l ∙ f.0 ∙ s)
    ∙ ap (λ (x : Database). state_of items x dst' v' desk files) f.1
    ∙ ap (λ (x : Database). state_of items src x v' desk files) f.2
    ∙ ap (λ (x : Versions). state_of items src dst x desk files) f.3

-- ---- a tick

-- the version that is so far behind
later_is : (now n version : ℕ) (found : Option ℕ) → found ≡ (if nat_lt most_version (now + n) then None else Some (now + n)) → found ≡ Some version → (nat_lt most_version (now + n) ≡ false) × (now + n ≡ version)
later_is now n version found e f = go (nat_lt most_version (now + n)) refl (sym f ∙ e)
  where
    go : (b : Bool) → nat_lt most_version (now + n) ≡ b → Some version ≡ (if b then None else Some (now + n)) → (nat_lt most_version (now + n) ≡ false) × (now + n ≡ version)
    go true t q = cc
    go false t q = (t, cc)

later_none : (now n : ℕ) (found : Option ℕ) → found ≡ (if nat_lt most_version (now + n) then None else Some (now + n)) → found ≡ None → nat_lt most_version (now + n) ≡ true
later_none now n found e f = go (nat_lt most_version (now + n)) refl (sym f ∙ e)
  where
    go : (b : Bool) → nat_lt most_version (now + n) ≡ b → None ≡ (if b then None else Some (now + n)) → nat_lt most_version (now + n) ≡ true
    go true t q = t
    go false t q = cc

pub tick_done : (w : State) (n version : ℕ) (found : Option ℕ) → found ≡ (if nat_lt most_version (w.time + n) then None else Some (w.time + n)) → found ≡ Some version → tick w n ≡ moved (Ok (Version version)) (record w { time = version })
tick_done w n version found e f =
    let m = later_is w.time n version found e f in
    ap (λ (b : Bool). cond b (moved (Err (VersionsSpent w.time)) w) (moved (Ok (Version (w.time + n))) (record w { time = w.time + n }))) m.0
    ∙ ap (λ (t : ℕ). moved (Ok (Version t)) (record w { time = t })) m.1

pub tick_spent : (w : State) (n : ℕ) (found : Option ℕ) → found ≡ (if nat_lt most_version (w.time + n) then None else Some (w.time + n)) → found ≡ None → tick w n ≡ moved (Err (VersionsSpent w.time)) w
tick_spent w n found e f = ap (λ (b : Bool). cond b (moved (Err (VersionsSpent w.time)) w) (moved (Ok (Version (w.time + n))) (record w { time = w.time + n }))) (later_none w.time n found e f)

pub tick_world : (workload : Workload) (src dst : Database) (v : Versions) (desk : Desk) (files : Option (List File)) (clients : List ClientState) (n version : ℕ) (found : Option ℕ) → IsWorld workload src dst v (state_of clients src dst v desk files) → found ≡ (if nat_lt most_version (v.now + n) then None else Some (v.now + n)) → found ≡ Some version → IsWorld workload src dst (record v { now = version }) (state_of clients src dst (record v { now = version }) desk files)
tick_world workload src dst v desk files clients n version found h e f =
    let m = later_is v.now n version found e f in
    let le : v.now ≤ version = omega (arith, m.1) in
    let most : version ≤ most_version = subst (λ (t : ℕ). t ≤ most_version) m.1 (ltb-false most_version (v.now + n) m.0) in
    record {
      src_block = h.src_block;
      dst_block = h.dst_block;
      pace = h.pace;
      src_oldest = oldest_later src.oldest v.now version h.src_oldest le;
      dst_oldest = oldest_later dst.oldest v.now version h.dst_oldest le;
      src_logs = h.src_logs;
      dst_logs = h.dst_logs;
      sound = sound_later known workload (state_of clients src dst v desk files) version le most h.sound;
    }

-- ---- agents are paused, or claim again

pub paused_world : (p : Workload) (src dst : Database) (v : Versions) (w : State) (place : ℕ) (paused : Bool) → place ≡ w.place + 1 → IsWorld p src dst v w → IsWorld p src dst v (record w { paused = paused; place = place })
paused_world p src dst v w place paused e h =
    subst (λ (n : ℕ). IsWorld p src dst v (record w { paused = paused; place = n })) (sym e)
    (record { src_block = h.src_block; dst_block = h.dst_block; pace = h.pace; src_oldest = h.src_oldest; dst_oldest = h.dst_oldest; src_logs = h.src_logs; dst_logs = h.dst_logs; sound = pause_keeps p w paused h.sound })

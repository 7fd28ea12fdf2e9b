-- A plan that starts a job is carried out.
use Rattle.std.specs.Prelude.{◌≡◌, ℕ, ◌+◌, ◌<◌, ◌≤◌, Bool, true, false, cond, List, [], ◌∷◌, ◌++◌, length, take, Option, Some, None, Result, Ok, Err, ◌⊎◌, nat_lt, if◌then◌else◌, refl}
use Rattle.std.specs.List.{AllByRecursion}
use Rattle.std.proofs.Common.{ap, sym, ◌∙◌, inl, inr, arith, subst}
use Rattle.std.proofs.lemmas.Bool.{lt-ltb, ne_eqb}
use Rattle.fb_bytes.specs.Bytes.{Bytes}
use Rattle.fb_bytes.specs.declared.KeyRange.{KeyRange}
use Rattle.fb_outside.specs.declared.File.{File}
use Rattle.versioned_kv.specs.declared.Versions.{Versions}
use Rattle.workload_text.specs.declared.Side.{Side}
use Rattle.workload_text.specs.declared.Side.TheVariants.{Src, Dst}
use Rattle.workload_text.specs.declared.Workload.{Workload}
use Rattle.database.specs.declared.JobLog.{JobLog}
use Rattle.database.specs.Logs.{log_of, with_log}
use Rattle.database.specs.Commits.{Database, most_version, oldest_at, next_version}
use Rattle.mutations.specs.declared.Entry.{Entry}
use Rattle.container_view.specs.Names.{names_inside}
use Rattle.client_core.specs.Clients.{ClientState}
use Rattle.cluster_core.specs.declared.event.Answer.{Answer}
use Rattle.cluster_core.specs.declared.event.Answer.TheVariants as answers
use Rattle.cluster_core.specs.declared.event.StepFault.{StepFault}
use Rattle.cluster_core.specs.declared.event.StepFault.TheVariants.{VaultFault, VersionsSpent, NoMemory}
use Rattle.cluster_core.specs.declared.refusal.Refusal.TheVariants.{ContainerInUse}
use Rattle.database.specs.declared.SystemFault.TheVariants as system
use Rattle.cluster_core.specs.declared.event.Event.TheVariants as events
use Rattle.cluster_core.specs.declared.plan.Plan.TheVariants as plans
use Rattle.cluster_core.specs.Jobs.{Job, log_on, with_front, logs_of}
use Rattle.cluster_core.specs.Sound.{AreNumbered}
use Rattle.cluster_core.proofs.Numbering.{all_lower}
use Rattle.cluster_core.specs.State.{State}
use Rattle.cluster_core.specs.Moves.{Luck, Fine, FailsOld, Starved, moved, Listed}
use Rattle.cluster_core.specs.commands.Shared.{gone_on, done}
use Rattle.cluster_core.specs.commands.Open.{new_job, open_over, names_listed}
use Rattle.cluster_core.specs.Step.{step}
use Rattle.cluster_core.specs.inner.Plans.{IsPlan}
use Rattle.cluster_core.specs.inner.World.{Desk, state_of, IsWorld, logs_more, IsListed, IsFirstName}
use Rattle.client_core.proofs.Lists.{append_nil}
use Rattle.cluster_core.proofs.Oldest.{oldest_later}
use Rattle.cluster_core.proofs.plans.Put.{sound_step}

listed_names : (container : Bytes) (names : List Bytes) (o : Option (List File)) → ((files : List File) → o ≡ Some files → names ≡ names_inside container files) → names_listed container o names ≡ names
listed_names container names None told = refl
listed_names container names (Some files) told = sym (told files refl)

pub listed_first : (w : State) (container : Bytes) (names : List Bytes) (name : Option Bytes) → ((files : List File) → w.files ≡ Some files → names ≡ names_inside container files) → IsFirstName names name → IsListed w container name
listed_first w container [] name told f = subst (IsListed w container) (sym f) ([], listed_names container [] w.files told)
listed_first w container (first ∷ names) name told f = subst (IsListed w container) (sym f) (first ∷ names, names, listed_names container (first ∷ names) w.files told)

next_is : (time pace version : ℕ) → next_version time pace ≡ Ok version → (nat_lt most_version (time + pace) ≡ false) × (time + pace ≡ version)
next_is time pace version e = go (nat_lt most_version (time + pace)) refl e
  where
    go : (b : Bool) → nat_lt most_version (time + pace) ≡ b → (if b then Err (system.VersionsSpent time) else Ok (time + pace)) ≡ Ok version → (nat_lt most_version (time + pace) ≡ false) × (time + pace ≡ version)
    go true t q = cc
    go false t q = (t, cc)

-- the version that is there is the one that a log begins with
pub next_same : (time pace first second : ℕ) (r : Option ℕ) → r ≡ (if nat_lt most_version (time + pace) then None else Some (time + pace)) → r ≡ Some first → next_version time pace ≡ Ok second → first ≡ second
next_same time pace first second r e f n =
    let m = next_is time pace second n in
    some_is first second (sym f ∙ e ∙ ap (λ (b : Bool). cond b None (Some (time + pace))) m.0 ∙ ap (λ (t : ℕ). Some t) m.1)
  where
    some_is : (a b : ℕ) → Some a ≡ Some b → a ≡ b
    some_is a b q = cc

pub none_next : (time pace : ℕ) (r : Option ℕ) → r ≡ (if nat_lt most_version (time + pace) then None else Some (time + pace)) → r ≡ None → nat_lt most_version (time + pace) ≡ true
none_next time pace r e f = go (nat_lt most_version (time + pace)) refl (sym f ∙ e)
  where
    go : (b : Bool) → nat_lt most_version (time + pace) ≡ b → None ≡ (if b then None else Some (time + pace)) → nat_lt most_version (time + pace) ≡ true
    go true t q = t
    go false t q = cc

none_of : (job : ℕ) (logs : List JobLog) → AllByRecursion (λ log. log.job < job) logs → log_of logs job ≡ None
none_of job [] a = refl
none_of job (log ∷ logs) a = ap (λ (b : Bool). cond b (Some log) (log_of logs job)) (ne_eqb log.job job (λ e. let l = a.0 in absurd (omega arith))) ∙ none_of job logs a.1

-- the next job doesn't log yet
pub next_logs_none : (side : Side) (jobs : List Job) (logs : List JobLog) (number : ℕ) → AreNumbered 1 jobs → logs ≡ logs_of side jobs → number ≡ length jobs + 1 → log_of logs number ≡ None
next_logs_none side jobs logs number a l n =
    ap (λ (ls : List JobLog). log_of ls number) l
    ∙ none_of number (logs_of side jobs) (all_lower side 1 number jobs a (n ∙ omega arith))

with_last : (log : JobLog) (logs : List JobLog) → AllByRecursion (λ l. l.job < log.job) logs → with_log log logs ≡ logs ++ log ∷ []
with_last log [] a = refl
with_last log (l ∷ logs) a = ap (λ (b : Bool). cond b (l ∷ with_log log logs) (log ∷ l ∷ logs)) (lt-ltb l.job log.job a.0) ∙ ap (λ (ls : List JobLog). l ∷ ls) (with_last log logs a.1)

-- one job more at the end
logs_end : (side : Side) (jobs : List Job) (new : Job) → logs_of side (jobs ++ new ∷ []) ≡ logs_of side jobs ++ with_front (log_on side new) []
logs_end side [] new = refl
logs_end side (x ∷ xs) new = ap (with_front (log_on side x)) (logs_end side xs new) ∙ front_append (log_on side x) (logs_of side xs) (with_front (log_on side new) [])
  where
    front_append : (o : Option JobLog) (xs ys : List JobLog) → with_front o (xs ++ ys) ≡ with_front o xs ++ ys
    front_append (Some log) xs ys = refl
    front_append None xs ys = refl

-- the log of a job that begins
abbrev pub new_log : ℕ → List KeyRange → ℕ → JobLog
new_log number ranges version = record { job = number; ranges = ranges; begin = version; erased = version }

started_logs : (side other : Side) (jobs : List Job) (tag container : Bytes) (ranges : List KeyRange) (version number : ℕ) (db : Database) → AreNumbered 1 jobs → number ≡ length jobs + 1 → db.logs ≡ logs_of other jobs → (logs_more side other (new_log number ranges version) db).logs ≡ logs_of other (jobs ++ new_job number tag side container ranges version ∷ [])
started_logs Src Src jobs tag container ranges version number db a n h =
    ap (with_log (new_log number ranges version)) h
    ∙ with_last (new_log number ranges version) (logs_of Src jobs) (all_lower Src 1 number jobs a (n ∙ omega arith))
    ∙ sym (logs_end Src jobs (new_job number tag Src container ranges version))
started_logs Src Dst jobs tag container ranges version number db a n h = h ∙ sym (logs_end Dst jobs (new_job number tag Src container ranges version) ∙ append_nil (logs_of Dst jobs))
started_logs Dst Src jobs tag container ranges version number db a n h = h ∙ sym (logs_end Src jobs (new_job number tag Dst container ranges version) ∙ append_nil (logs_of Src jobs))
started_logs Dst Dst jobs tag container ranges version number db a n h =
    ap (with_log (new_log number ranges version)) h
    ∙ with_last (new_log number ranges version) (logs_of Dst jobs) (all_lower Dst 1 number jobs a (n ∙ omega arith))
    ∙ sym (logs_end Dst jobs (new_job number tag Dst container ranges version))

more_block : (side other : Side) (log : JobLog) (db : Database) → (logs_more side other log db).block ≡ db.block
more_block Src Src log db = refl
more_block Src Dst log db = refl
more_block Dst Src log db = refl
more_block Dst Dst log db = refl

more_history : (side other : Side) (log : JobLog) (db : Database) → (logs_more side other log db).history ≡ db.history
more_history Src Src log db = refl
more_history Src Dst log db = refl
more_history Dst Src log db = refl
more_history Dst Dst log db = refl

more_oldest : (side other : Side) (log : JobLog) (db : Database) → (logs_more side other log db).oldest ≡ db.oldest
more_oldest Src Src log db = refl
more_oldest Src Dst log db = refl
more_oldest Dst Src log db = refl
more_oldest Dst Dst log db = refl

-- the version that a step takes isn't before the newest one
next_later : (now pace version : ℕ) → next_version now pace ≡ Ok version → now ≤ version
next_later now pace version e = let m = next_is now pace version e in omega (arith, m.1)

-- the parts after a start
pub record IsStart (side : Side) (tag container : Bytes) (ranges : List KeyRange) (src dst src' dst' : Database) (v v' : Versions) (desk : Desk) (jobs : List Job) (next version : ℕ) : Type 0 where
  pub number : ℕ
  pub number_is : number ≡ length desk.jobs + 1
  pub src_is : src' ≡ logs_more side Src (new_log number ranges version) src
  pub dst_is : dst' ≡ logs_more side Dst (new_log number ranges version) dst
  pub version_is : next_version v.now v.pace ≡ Ok version
  pub time : v' ≡ record v { now = version }
  pub jobs_are : jobs ≡ desk.jobs ++ new_job (length desk.jobs + 1) tag side container ranges version ∷ []
  pub next_is : next ≡ desk.place + 1

started : (p : Workload) (side : Side) (tag container : Bytes) (ranges : List KeyRange) (src dst src' dst' : Database) (v v' : Versions) (clients : List ClientState) (desk : Desk) (files : Option (List File)) (jobs : List Job) (next version : ℕ) → IsStart side tag container ranges src dst src' dst' v v' desk jobs next version → state_of clients src' dst' v' (record desk { jobs = jobs; place = next }) files ≡ gone_on (record (state_of clients src dst v desk files) { time = version; jobs = desk.jobs ++ new_job (length desk.jobs + 1) tag side container ranges version ∷ [] })
started p side tag container ranges src dst src' dst' v v' clients desk files jobs next version i =
    ap (λ (h : List Entry). record (state_of clients src' dst' v' (record desk { jobs = jobs; place = next }) files) { src = h }) (ap (λ (x : Database). x.history) i.src_is ∙ more_history side Src _ src)
    ∙ ap (λ (h : List Entry). record (state_of clients src dst' v' (record desk { jobs = jobs; place = next }) files) { dst = h }) (ap (λ (x : Database). x.history) i.dst_is ∙ more_history side Dst _ dst)
    ∙ ap (λ (x : Versions). state_of clients src dst x (record desk { jobs = jobs; place = next }) files) i.time
    ∙ ap (λ (js : List Job). state_of clients src dst (record v { now = version }) (record desk { jobs = js; place = next }) files) i.jobs_are
    ∙ ap (λ (n : ℕ). state_of clients src dst (record v { now = version }) (record desk { jobs = desk.jobs ++ new_job (length desk.jobs + 1) tag side container ranges version ∷ []; place = n }) files) i.next_is

pub start_done : (p : Workload) (side : Side) (tag container : Bytes) (ranges : List KeyRange) (src dst src' dst' : Database) (v v' : Versions) (clients : List ClientState) (desk : Desk) (files : Option (List File)) (jobs : List Job) (next version : ℕ) → v.pace ≡ p.settings.pace → IsStart side tag container ranges src dst src' dst' v v' desk jobs next version → IsPlan p (state_of clients src dst v desk files) (plans.Open tag side container ranges) → IsListed (state_of clients src dst v desk files) container None → (luck : Luck) × (step p (state_of clients src dst v desk files) events.Command luck ≡ moved (Ok answers.Done) (state_of clients src' dst' v' (record desk { jobs = jobs; place = next }) files))
start_done p side tag container ranges src dst src' dst' v v' clients desk files jobs next version pace i plan listed =
    let w : State = state_of clients src dst v desk files in
    let n = next_is v.now p.settings.pace version (ap (next_version v.now) (sym pace) ∙ i.version_is) in (
      Fine (Listed listed.0),
      plan (Fine (Listed listed.0))
          ∙ ap (open_over p.settings w tag side container ranges) listed.1
          ∙ ap (λ (b : Bool). cond b (moved (Err (VersionsSpent v.now)) w) (done (record w { time = v.now + p.settings.pace; jobs = desk.jobs ++ new_job (length desk.jobs + 1) tag side container ranges (v.now + p.settings.pace) ∷ [] }))) n.0
          ∙ ap (λ (t : ℕ). done (record w { time = t; jobs = desk.jobs ++ new_job (length desk.jobs + 1) tag side container ranges t ∷ [] })) n.1
          ∙ ap (moved (Ok answers.Done)) (sym (started p side tag container ranges src dst src' dst' v v' clients desk files jobs next version i)),
    )

pub start_world : (p : Workload) (side : Side) (tag container : Bytes) (ranges : List KeyRange) (src dst src' dst' : Database) (v v' : Versions) (clients : List ClientState) (desk : Desk) (files : Option (List File)) (jobs : List Job) (next version : ℕ) → IsWorld p src dst v (state_of clients src dst v desk files) → IsStart side tag container ranges src dst src' dst' v v' desk jobs next version → IsPlan p (state_of clients src dst v desk files) (plans.Open tag side container ranges) → IsListed (state_of clients src dst v desk files) container None → IsWorld p src' dst' v' (state_of clients src' dst' v' (record desk { jobs = jobs; place = next }) files)
start_world p side tag container ranges src dst src' dst' v v' clients desk files jobs next version h i plan listed =
    let s = start_done p side tag container ranges src dst src' dst' v v' clients desk files jobs next version h.pace i plan listed in
    record {
      src_block = ap (λ (x : Database). x.block) i.src_is ∙ more_block side Src _ src ∙ h.src_block;
      dst_block = ap (λ (x : Database). x.block) i.dst_is ∙ more_block side Dst _ dst ∙ h.dst_block;
      pace = ap (λ (x : Versions). x.pace) i.time ∙ h.pace;
      src_oldest = kept_oldest src src' side Src (new_log i.number ranges version) i.src_is h.src_oldest;
      dst_oldest = kept_oldest dst dst' side Dst (new_log i.number ranges version) i.dst_is h.dst_oldest;
      src_logs = ap (λ (x : Database). x.logs) i.src_is ∙ started_logs side Src desk.jobs tag container ranges version i.number src h.sound.jobs.numbered i.number_is h.src_logs ∙ ap (λ (n : ℕ). logs_of Src (desk.jobs ++ new_job n tag side container ranges version ∷ [])) i.number_is ∙ ap (logs_of Src) (sym i.jobs_are);
      dst_logs = ap (λ (x : Database). x.logs) i.dst_is ∙ started_logs side Dst desk.jobs tag container ranges version i.number dst h.sound.jobs.numbered i.number_is h.dst_logs ∙ ap (λ (n : ℕ). logs_of Dst (desk.jobs ++ new_job n tag side container ranges version ∷ [])) i.number_is ∙ ap (logs_of Dst) (sym i.jobs_are);
      sound = sound_step p (state_of clients src dst v desk files) s.0 _ h.sound s.1;
    }
  where
    kept_oldest : (db db' : Database) (of on : Side) (log : JobLog) → db' ≡ logs_more of on log db → db.oldest ≤ oldest_at v.now → db'.oldest ≤ oldest_at v'.now
    kept_oldest db db' of on log e k =
        subst (λ (n : ℕ). db'.oldest ≤ oldest_at n) (sym (ap (λ (x : Versions). x.now) i.time))
        (subst (λ (n : ℕ). n ≤ oldest_at version) (sym (ap (λ (x : Database). x.oldest) e ∙ more_oldest of on log db))
        (oldest_later db.oldest v.now version k (next_later v.now v.pace version i.version_is)))

-- a start that was taken back
pub start_undone : (src dst src' dst' : Database) (v v' : Versions) (clients : List ClientState) (desk : Desk) (files : Option (List File)) (jobs : List Job) → (src' ≡ src) × (dst' ≡ dst) × (v' ≡ v) → jobs ≡ desk.jobs → state_of clients src' dst' v' (record desk { jobs = jobs; place = desk.place }) files ≡ state_of clients src dst v desk files
start_undone src dst src' dst' v v' clients desk files jobs e j =
    ap (λ (x : Database). state_of clients x dst' v' (record desk { jobs = jobs; place = desk.place }) files) e.0
    ∙ ap (λ (x : Database). state_of clients src x v' (record desk { jobs = jobs; place = desk.place }) files) e.1
    ∙ ap (λ (x : Versions). state_of clients src dst x (record desk { jobs = jobs; place = desk.place }) files) e.2
    ∙ ap (λ (js : List Job). state_of clients src dst v (record desk { jobs = js; place = desk.place }) files) j

pub start_undone_world : (p : Workload) (src dst src' dst' : Database) (v v' : Versions) (clients : List ClientState) (desk : Desk) (files : Option (List File)) (jobs : List Job) → (src' ≡ src) × (dst' ≡ dst) × (v' ≡ v) → jobs ≡ desk.jobs → IsWorld p src dst v (state_of clients src dst v desk files) → IsWorld p src' dst' v' (state_of clients src' dst' v' (record desk { jobs = jobs; place = desk.place }) files)
start_undone_world p src dst src' dst' v v' clients desk files jobs e j h =
    let P : Database → Database → Versions → List Job → Type 0 = λ x y z js. IsWorld p x y z (state_of clients x y z (record desk { jobs = js; place = desk.place }) files) in
    subst (λ (js : List Job). P src' dst' v' js) (sym j) (subst (λ (z : Versions). P src' dst' z desk.jobs) (sym e.2) (subst (λ (y : Database). P src' y v desk.jobs) (sym e.1) (subst (λ (x : Database). P x dst v desk.jobs) (sym e.0) h)))

-- the jobs without the one that was pushed
pub taken_back : (jobs : List Job) (count : ℕ) (job : Job) → count ≡ length jobs → take count (jobs ++ job ∷ []) ≡ jobs
taken_back jobs count job e = ap (λ (n : ℕ). take n (jobs ++ job ∷ [])) e ∙ front jobs (job ∷ [])
  where
    front : (xs ys : List Job) → take (length xs) (xs ++ ys) ≡ xs
    front [] ys = refl
    front (x ∷ xs) ys = ap (λ zs. x ∷ zs) (front xs ys)

-- there is no version left
pub start_spent : (p : Workload) (side : Side) (tag container : Bytes) (ranges : List KeyRange) (w : State) → nat_lt most_version (w.time + p.settings.pace) ≡ true → IsPlan p w (plans.Open tag side container ranges) → IsListed w container None → (luck : Luck) × (step p w events.Command luck ≡ moved (Err (VersionsSpent w.time)) w)
start_spent p side tag container ranges w t plan listed = (
  Fine (Listed listed.0),
  plan (Fine (Listed listed.0))
      ∙ ap (open_over p.settings w tag side container ranges) listed.1
      ∙ ap (λ (b : Bool). cond b (moved (Err (VersionsSpent w.time)) w) (done (record w { time = w.time + p.settings.pace; jobs = w.jobs ++ new_job (length w.jobs + 1) tag side container ranges (w.time + p.settings.pace) ∷ [] }))) t,
)

pub open_refused : (p : Workload) (side : Side) (tag container : Bytes) (ranges : List KeyRange) (w new : State) (name : Bytes) → IsPlan p w (plans.Open tag side container ranges) → IsListed w container (Some name) → new ≡ gone_on w → (luck : Luck) × (step p w events.Command luck ≡ moved (Ok (answers.Refused (ContainerInUse name))) new)
open_refused p side tag container ranges w new name plan listed e =
    (Fine (Listed listed.0), plan (Fine (Listed listed.0)) ∙ ap (open_over p.settings w tag side container ranges) listed.2 ∙ ap (moved (Ok (answers.Refused (ContainerInUse name)))) (sym e))

-- the list failed, or there was no memory for it
pub open_failed : (p : Workload) (side : Side) (tag container : Bytes) (ranges : List KeyRange) (w new : State) (fault : StepFault) → IsPlan p w (plans.Open tag side container ranges) → new ≡ w → (fault ≡ VaultFault) ⊎ (fault ≡ NoMemory) → (luck : Luck) × (step p w events.Command luck ≡ moved (Err fault) new)
open_failed p side tag container ranges w new fault plan e (inl f) = (FailsOld, plan FailsOld ∙ ap (moved (Err VaultFault)) (sym e) ∙ ap (λ (x : StepFault). moved (Err x) new) (sym f))
open_failed p side tag container ranges w new fault plan e (inr f) = (Starved, ap (moved (Err NoMemory)) (sym e) ∙ ap (λ (x : StepFault). moved (Err x) new) (sym f))

-- there was no memory for it
pub starved_step : (p : Workload) (w new : State) (result : Result Answer StepFault) → result ≡ Err NoMemory → new ≡ w → (luck : Luck) × (step p w events.Command luck ≡ moved result new)
starved_step p w new result r e = (Starved, ap (moved (Err NoMemory)) (sym e) ∙ ap (λ (x : Result Answer StepFault). moved x new) (sym r))

-- a container with no file
pub none_listed : (w : State) (container : Bytes) → ((files : List File) → w.files ≡ Some files → names_inside container files ≡ []) → IsListed w container None
none_listed w container told = ([], listed_names container [] w.files (λ files e. sym (told files e)))

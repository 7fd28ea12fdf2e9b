use Rattle.std.proofs.Common.{List, ◌≡◌, ℕ, ◌+◌, ◌<◌, true, nat_lt, [], ◌∷◌, ◌++◌, length, take, None, Ok, Err, refl, ap, sym, subst, ◌∙◌}
use Rattle.workload_text.specs.declared.Side.TheVariants.{Src, Dst}
use Rattle.cluster_core.specs.declared.event.Answer.TheVariants as answers
use Rattle.cluster_core.specs.declared.event.Event.TheVariants as events
use Rattle.cluster_core.specs.declared.event.StepFault.TheVariants.{VersionsSpent, NoMemory}
use Rattle.cluster_core.specs.declared.plan.Plan.TheVariants as plans
use Rattle.database.specs.Commits.{most_version}
use Rattle.backup_core.specs.Backups.{BackupJob}
use Rattle.cluster_core.specs.commands.Open.{new_job}
use Rattle.cluster_core.specs.declared.job.Job.TheVariants as types
use Rattle.cluster_core.specs.Backups.{Backup}
use Rattle.cluster_core.specs.Jobs.{Job}
use Rattle.cluster_core.specs.State.{State}
use Rattle.cluster_core.specs.Moves.{Starved, moved}
use Rattle.cluster_core.specs.Step.{step}
use Rattle.cluster_core.specs.inner.Plans.{IsPlan}
use Rattle.cluster_core.specs.World.{Seen}
use Rattle.cluster_core.specs.inner.World.{state_of, IsListed}
use Rattle.cluster_core.proofs.plans.Start.{IsStart, next_same, none_next, next_logs_none, start_world, start_done, start_spent, start_undone, start_undone_world, taken_back}
use Rattle.std.proofs.lemmas.Result.{err_from_is_err_and}
use Rattle.cluster_core.proofs.plans.Start.{starved_step}
use Rattle.cluster_core.proofs.world.World.start.Goals as goal

pub begin_log-requires-clause-src : goal.begin_log-requires-clause-src
begin_log-requires-clause-src g c = next_logs_none Src c.self.inside.jobs.items c.self.inside.src.logs (c.len-count.result + 1) c.self.invariant.sound.jobs.numbered c.self.invariant.src_logs (ap (λ (n : ℕ). n + 1) (c.len-count.ensures ∙ c.self.inside.jobs.ok.0))

pub begin_log-requires-clause-dst : goal.begin_log-requires-clause-dst
begin_log-requires-clause-dst g c = next_logs_none Dst c.self.inside.jobs.items c.self.inside.dst.logs (c.len-count.result + 1) c.self.invariant.sound.jobs.numbered c.self.invariant.dst_logs (ap (λ (n : ℕ). n + 1) (c.len-count.ensures ∙ c.self.inside.jobs.ok.0))

pub returns-in_default-clause-step : goal.returns-in_default-clause-step
returns-in_default-clause-step g c =
    let plan = subst (λ (seen : Seen). IsPlan seen.workload seen.state (plans.Open c.args.tag c.args.side c.args.container c.args.ranges.now)) (sym c.self.view_is) c.requires.plan in
    let listed = subst (λ (seen : Seen). IsListed seen.state c.args.container None) (sym c.self.view_is) c.requires.empty in
    let spent = start_spent c.self.inside.workload c.args.side c.args.tag c.args.container c.args.ranges.now (state_of c.self.inside.clients.items c.self.inside.src c.self.inside.dst c.self.inside.versions (record { jobs = c.self.inside.jobs.items; place = c.self.inside.place; tickets = c.self.inside.tickets; crew = c.self.inside.crew }) (g.V.Vault.files c.self.inside.vault)) (subst (λ (n : ℕ). nat_lt most_version (c.self.inside.versions.now + n) ≡ true) c.self.invariant.pace (none_next c.self.inside.versions.now c.self.inside.versions.pace c.next.result c.next.ensures c.in_default.is)) plan listed in
    (spent.0, subst (λ (seen : Seen). step seen.workload seen.state events.Command spent.0 ≡ moved (Err (VersionsSpent c.self.inside.versions.now)) seen.state) c.self.view_is spent.1)

pub invariant_of-self-in-Ok-begin_log : goal.invariant_of-self-in-Ok-begin_log
invariant_of-self-in-Ok-begin_log g c =
    let plan = subst (λ (seen : Seen). IsPlan seen.workload seen.state (plans.Open c.args.tag c.args.side c.args.container c.args.ranges.now)) (sym c.self.view_is) c.requires.plan in
    let listed = subst (λ (seen : Seen). IsListed seen.state c.args.container None) (sym c.self.view_is) c.requires.empty in
    let room = subst (λ (n : ℕ). c.self.inside.place < n) (sym c.len.ensures) (subst (λ (seen : Seen). seen.state.place < length seen.workload.operator) (sym c.self.view_is) c.requires.room) in
    let start : IsStart c.args.side c.args.tag c.args.container c.args.ranges.now c.self.inside.src c.self.inside.dst c.begin_log.new.src c.begin_log.new.dst c.self.inside.versions c.begin_log.new.versions (record { jobs = c.self.inside.jobs.items; place = c.self.inside.place; tickets = c.self.inside.tickets; crew = c.self.inside.crew }) c.push.new.self.items c.next_place-self-inside.result c.in-Ok-begin_log.field-0 = record {
      number = c.len-count.result + 1;
      number_is = ap (λ (n : ℕ). n + 1) (c.len-count.ensures ∙ c.self.inside.jobs.ok.0);
      src_is = c.in-Ok-begin_log.ensures.src;
      dst_is = c.in-Ok-begin_log.ensures.dst;
      version_is = c.in-Ok-begin_log.ensures.version;
      time = c.in-Ok-begin_log.ensures.time;
      jobs_are = c.in-Ok.ensures.items ∙ ap (λ (j : Job). c.self.inside.jobs.items ++ j ∷ []) (ap (λ (b : Backup). types.Backup b) (c.new-backup.ensures ∙ ap (λ (h : BackupJob). record { tag = c.args.tag; side = c.args.side; container = c.args.container; job = h }) c.in_ok-job.ensures) ∙ ap (λ (n : ℕ). new_job (n + 1) c.args.tag c.args.side c.args.container c.args.ranges.now c.in-Some.version) (c.len-count.ensures ∙ c.self.inside.jobs.ok.0) ∙ ap (new_job (length c.self.inside.jobs.items + 1) c.args.tag c.args.side c.args.container c.args.ranges.now) (next_same c.self.inside.versions.now c.self.inside.versions.pace c.in-Some.version c.in-Ok-begin_log.field-0 c.next.result c.next.ensures c.in-Some.is c.in-Ok-begin_log.ensures.version));
      next_is = c.next_place-self-inside.ensures room;
    } in
    start_world c.self.inside.workload c.args.side c.args.tag c.args.container c.args.ranges.now c.self.inside.src c.self.inside.dst c.begin_log.new.src c.begin_log.new.dst c.self.inside.versions c.begin_log.new.versions c.self.inside.clients.items (record { jobs = c.self.inside.jobs.items; place = c.self.inside.place; tickets = c.self.inside.tickets; crew = c.self.inside.crew }) (g.V.Vault.files c.self.inside.vault) c.push.new.self.items c.next_place-self-inside.result c.in-Ok-begin_log.field-0 c.self.invariant start plan listed

pub returns-in-Ok-begin_log-clause-step : goal.returns-in-Ok-begin_log-clause-step
returns-in-Ok-begin_log-clause-step g c =
    let plan = subst (λ (seen : Seen). IsPlan seen.workload seen.state (plans.Open c.args.tag c.args.side c.args.container c.args.ranges.now)) (sym c.self.view_is) c.requires.plan in
    let listed = subst (λ (seen : Seen). IsListed seen.state c.args.container None) (sym c.self.view_is) c.requires.empty in
    let room = subst (λ (n : ℕ). c.self.inside.place < n) (sym c.len.ensures) (subst (λ (seen : Seen). seen.state.place < length seen.workload.operator) (sym c.self.view_is) c.requires.room) in
    let start : IsStart c.args.side c.args.tag c.args.container c.args.ranges.now c.self.inside.src c.self.inside.dst c.begin_log.new.src c.begin_log.new.dst c.self.inside.versions c.begin_log.new.versions (record { jobs = c.self.inside.jobs.items; place = c.self.inside.place; tickets = c.self.inside.tickets; crew = c.self.inside.crew }) c.push.new.self.items c.next_place-self-inside.result c.in-Ok-begin_log.field-0 = record {
      number = c.len-count.result + 1;
      number_is = ap (λ (n : ℕ). n + 1) (c.len-count.ensures ∙ c.self.inside.jobs.ok.0);
      src_is = c.in-Ok-begin_log.ensures.src;
      dst_is = c.in-Ok-begin_log.ensures.dst;
      version_is = c.in-Ok-begin_log.ensures.version;
      time = c.in-Ok-begin_log.ensures.time;
      jobs_are = c.in-Ok.ensures.items ∙ ap (λ (j : Job). c.self.inside.jobs.items ++ j ∷ []) (ap (λ (b : Backup). types.Backup b) (c.new-backup.ensures ∙ ap (λ (h : BackupJob). record { tag = c.args.tag; side = c.args.side; container = c.args.container; job = h }) c.in_ok-job.ensures) ∙ ap (λ (n : ℕ). new_job (n + 1) c.args.tag c.args.side c.args.container c.args.ranges.now c.in-Some.version) (c.len-count.ensures ∙ c.self.inside.jobs.ok.0) ∙ ap (new_job (length c.self.inside.jobs.items + 1) c.args.tag c.args.side c.args.container c.args.ranges.now) (next_same c.self.inside.versions.now c.self.inside.versions.pace c.in-Some.version c.in-Ok-begin_log.field-0 c.next.result c.next.ensures c.in-Some.is c.in-Ok-begin_log.ensures.version));
      next_is = c.next_place-self-inside.ensures room;
    } in
    let s = start_done c.self.inside.workload c.args.side c.args.tag c.args.container c.args.ranges.now c.self.inside.src c.self.inside.dst c.begin_log.new.src c.begin_log.new.dst c.self.inside.versions c.begin_log.new.versions c.self.inside.clients.items (record { jobs = c.self.inside.jobs.items; place = c.self.inside.place; tickets = c.self.inside.tickets; crew = c.self.inside.crew }) (g.V.Vault.files c.self.inside.vault) c.push.new.self.items c.next_place-self-inside.result c.in-Ok-begin_log.field-0 c.self.invariant.pace start plan listed in
    (s.0, subst (λ (seen : Seen). step seen.workload seen.state events.Command s.0 ≡ moved (Ok answers.Done) (state_of c.self.inside.clients.items c.begin_log.new.src c.begin_log.new.dst c.begin_log.new.versions (record { jobs = c.push.new.self.items; place = c.next_place-self-inside.result; tickets = c.self.inside.tickets; crew = c.self.inside.crew }) (g.V.Vault.files c.self.inside.vault))) c.self.view_is s.1)

pub invariant_of-self-in-Err : goal.invariant_of-self-in-Err
invariant_of-self-in-Err g c = start_undone_world c.self.inside.workload c.self.inside.src c.self.inside.dst c.begin_log.new.src c.begin_log.new.dst c.self.inside.versions c.begin_log.new.versions c.self.inside.clients.items (record { jobs = c.self.inside.jobs.items; place = c.self.inside.place; tickets = c.self.inside.tickets; crew = c.self.inside.crew }) (g.V.Vault.files c.self.inside.vault) c.truncate.new.self.items c.in-Err.ensures.err (c.truncate.ensures.items ∙ ap (take c.len-count.result) c.in-Ok.ensures.items ∙ taken_back c.self.inside.jobs.items c.len-count.result (types.Backup c.new-backup.result) (c.len-count.ensures ∙ c.self.inside.jobs.ok.0)) c.self.invariant

pub returns-in-Err-clause-step : goal.returns-in-Err-clause-step
returns-in-Err-clause-step g c =
    (Starved, ap (moved (Err NoMemory)) (ap (λ (s : Seen). s.state) (sym c.self.view_is) ∙ sym (start_undone c.self.inside.src c.self.inside.dst c.begin_log.new.src c.begin_log.new.dst c.self.inside.versions c.begin_log.new.versions c.self.inside.clients.items (record { jobs = c.self.inside.jobs.items; place = c.self.inside.place; tickets = c.self.inside.tickets; crew = c.self.inside.crew }) (g.V.Vault.files c.self.inside.vault) c.truncate.new.self.items c.in-Err.ensures.err (c.truncate.ensures.items ∙ ap (take c.len-count.result) c.in-Ok.ensures.items ∙ taken_back c.self.inside.jobs.items c.len-count.result (types.Backup c.new-backup.result) (c.len-count.ensures ∙ c.self.inside.jobs.ok.0)))))

pub returns-in_err-job-clause-step : goal.returns-in_err-job-clause-step
returns-in_err-job-clause-step g c =
    let p = err_from_is_err_and c.from_residual.result c.from_residual.ensures.1 in
    starved_step c.args.self.now.workload c.args.self.now.state c.args.self.now.state c.from_residual.result (p.1 ∙ ap Err p.2) refl

pub returns-in_default-push-clause-step : goal.returns-in_default-push-clause-step
returns-in_default-push-clause-step g c =
    let old : State = state_of c.self.inside.clients.items c.self.inside.src c.self.inside.dst c.self.inside.versions (record { jobs = c.self.inside.jobs.items; place = c.self.inside.place; tickets = c.self.inside.tickets; crew = c.self.inside.crew }) (g.V.Vault.files c.self.inside.vault) in
    let kept : c.push.new.self.items ≡ c.self.inside.jobs.items = search in
    let same : record old { jobs = c.push.new.self.items } ≡ old = ap (λ (js : List Job). record old { jobs = js }) kept in
    starved_step c.args.self.now.workload c.args.self.now.state (record old { jobs = c.push.new.self.items }) (Err NoMemory) refl (same ∙ ap (λ (s : Seen). s.state) c.self.view_is)

pub begin_log-requires-clause-src_past : goal.begin_log-requires-clause-src_past
begin_log-requires-clause-src_past g c = (c.self.invariant.sound.databases.histories Src).past

pub begin_log-requires-clause-dst_past : goal.begin_log-requires-clause-dst_past
begin_log-requires-clause-dst_past g c = (c.self.invariant.sound.databases.histories Dst).past

-- A plan that puts a file is carried out.
use Rattle.std.specs.Prelude.{◌≡◌, ℕ, zero, suc, ◌+◌, ◌≤◌, Bool, true, false, cond, List, [], ◌∷◌, Option, Some, None, Ok, Err, ◌⊎◌, nat_lt, slice_get, slice_set, refl}
use Rattle.std.proofs.Common.{ap, sym, ◌∙◌, inl, inr, arith, subst}
use Rattle.std.proofs.lemmas.Bool.{ltb-true}
use Rattle.fb_bytes.specs.Bytes.{Bytes}
use Rattle.fb_outside.specs.declared.File.{File}
use Rattle.fb_outside.specs.Files.{with_file}
use Rattle.versioned_kv.specs.declared.Versions.{Versions}
use Rattle.workload_text.specs.declared.Side.{Side}
use Rattle.workload_text.specs.declared.Side.TheVariants.{Src, Dst}
use Rattle.workload_text.specs.declared.Workload.{Workload}
use Rattle.database.specs.declared.JobLog.{JobLog}
use Rattle.database.specs.Commits.{Database, most_version}
use Rattle.cluster_core.specs.declared.event.Answer.TheVariants as answers
use Rattle.cluster_core.specs.declared.event.StepFault.TheVariants.{VaultFault, NoMemory}
use Rattle.cluster_core.specs.declared.event.Event.TheVariants as events
use Rattle.cluster_core.specs.declared.change.Change.{Change}
use Rattle.cluster_core.specs.declared.change.Change.TheVariants as changes
use Rattle.cluster_core.specs.inner.Filed.{changed}
use Rattle.cluster_core.specs.inner.Plans.{files as files_put}
use Rattle.cluster_core.specs.declared.plan.Filing.{Filing}
use Rattle.cluster_core.specs.declared.plan.Plan.TheVariants as plans
use Rattle.cluster_core.specs.declared.job.Job.TheVariants as types
use Rattle.cluster_core.specs.Jobs.{Job, log_on, with_front, logs_of}
use Rattle.cluster_core.specs.State.{State, with_job, with_put}
use Rattle.cluster_core.specs.Moves.{Luck, Fine, FailsOld, FailsNew, is_starved, Moved, moved, Silent}
use Rattle.cluster_core.specs.commands.Shared.{puts, putting}
use Rattle.cluster_core.specs.Step.{step, operate}
use Rattle.cluster_core.specs.inner.Plans.{IsPlan, IsLike, IsSafe}
use Rattle.cluster_core.specs.Sound.{Sound}
use Rattle.cluster_core.specs.inner.World.{IsWorld}
use Rattle.cluster_core.proofs.Relied.{known}
use Rattle.cluster_core.proofs.Steps.{luck_keeps}

logs_like : (side : Side) (jobs : List Job) (place : ℕ) (old new : Job) → slice_get jobs place ≡ Some old → IsLike old new → logs_of side (slice_set jobs place new) ≡ logs_of side jobs
logs_like side [] place old new at l = refl
logs_like side (x ∷ xs) zero old new at l =
    let same : x ≡ old = cc in
    ap (λ (o : Option JobLog). with_front o (logs_of side xs)) (l side ∙ ap (log_on side) (sym same))
logs_like side (x ∷ xs) (suc place) old new at l = ap (with_front (log_on side x)) (logs_like side xs place old new at l)

-- what a store tells after a put
pub put_files : (whole bytes : Bytes) (old new : Option (List File)) → ((files : List File) → old ≡ Some files → new ≡ Some (with_file files whole bytes)) → (old ≡ None → new ≡ None) → new ≡ with_put whole bytes old
put_files whole bytes None new told silent = silent refl
put_files whole bytes (Some files) new told silent = told files refl

pub failed_files : (whole bytes : Bytes) (old new : Option (List File)) → ((files : List File) → old ≡ Some files → (new ≡ Some files) ⊎ (new ≡ Some (with_file files whole bytes))) → (old ≡ None → new ≡ None) → (new ≡ old) ⊎ (new ≡ with_put whole bytes old)
failed_files whole bytes None new told silent = inl (silent refl)
failed_files whole bytes (Some files) new told silent = told files refl

pub ticket_left : (w : State) (whole bytes : Bytes) (after : State) (luck : Luck) → w.tickets ≤ most_version → putting w whole bytes after luck ≡ puts w whole bytes after luck
ticket_left w whole bytes after luck t = ap (λ (b : Bool). cond b (moved (Err NoMemory) w) (puts w whole bytes after luck)) (not_past most_version w.tickets t)
  where
    not_past : (a b : ℕ) → b ≤ a → nat_lt a b ≡ false
    not_past a b l = go (nat_lt a b) refl
      where
        go : (t : Bool) → nat_lt a b ≡ t → nat_lt a b ≡ false
        go true e = let m = ltb-true a b e in absurd (omega arith)
        go false e = e

-- nothing of a job's log differs by a file
like_changed : (change : Change) (job : Job) → IsLike job (changed change job)
like_changed (changes.Dump piece now file) (types.Backup backup) side = refl
like_changed (changes.Cut now) (types.Backup backup) side = refl
like_changed changes.Seal (types.Backup backup) side = refl

-- what a step with a put comes to
pub put_step : (p : Workload) (w : State) (filing : Filing) (luck : Luck) → is_starved luck ≡ false → IsPlan p w (plans.Put filing) → (safe : IsSafe w (plans.Put filing)) → step p w events.Command luck ≡ puts w filing.whole filing.bytes (with_job filing.place (changed filing.change safe.job) w) luck
put_step p w filing luck l plan safe =
    ap (λ (b : Bool). cond b (moved (Err NoMemory) w) (operate p w luck)) l ∙ plan luck ∙ ap (files_put w filing luck) safe.at ∙ ticket_left w filing.whole filing.bytes (with_job filing.place (changed filing.change safe.job) w) luck safe.tickets

pub sound_step : (p : Workload) (w : State) (luck : Luck) (m : Moved) → Sound p w → step p w events.Command luck ≡ m → Sound p m.state
sound_step p w luck m h e = subst (λ (x : Moved). Sound p x.state) e (luck_keeps known p w events.Command luck h)

pub put_world : (p : Workload) (src dst : Database) (v : Versions) (w : State) (filing : Filing) (place : ℕ) (files : Option (List File)) → IsWorld p src dst v w → IsPlan p w (plans.Put filing) → (safe : IsSafe w (plans.Put filing)) → place ≡ w.place + 1 → files ≡ with_put filing.whole filing.bytes w.files → IsWorld p src dst v (record w { jobs = slice_set w.jobs filing.place (changed filing.change safe.job); place = place; tickets = w.tickets + 1; files = files })
put_world p src dst v w filing place files h plan safe e f =
    subst (λ (n : ℕ). IsWorld p src dst v (record w { jobs = slice_set w.jobs filing.place (changed filing.change safe.job); place = n; tickets = w.tickets + 1; files = files })) (sym e)
    (subst (λ (fs : Option (List File)). IsWorld p src dst v (record w { jobs = slice_set w.jobs filing.place (changed filing.change safe.job); place = w.place + 1; tickets = w.tickets + 1; files = fs })) (sym f)
    (record {
      src_block = h.src_block;
      dst_block = h.dst_block;
      pace = h.pace;
      src_oldest = h.src_oldest;
      dst_oldest = h.dst_oldest;
      src_logs = h.src_logs ∙ sym (logs_like Src w.jobs filing.place safe.job (changed filing.change safe.job) safe.at (like_changed filing.change safe.job));
      dst_logs = h.dst_logs ∙ sym (logs_like Dst w.jobs filing.place safe.job (changed filing.change safe.job) safe.at (like_changed filing.change safe.job));
      sound = sound_step p w (Fine Silent) _ h.sound (put_step p w filing (Fine Silent) refl plan safe);
    }))

pub put_done : (p : Workload) (w : State) (filing : Filing) (place : ℕ) (files : Option (List File)) → IsPlan p w (plans.Put filing) → (safe : IsSafe w (plans.Put filing)) → place ≡ w.place + 1 → files ≡ with_put filing.whole filing.bytes w.files → step p w events.Command (Fine Silent) ≡ moved (Ok (answers.Placed filing.whole)) (record w { jobs = slice_set w.jobs filing.place (changed filing.change safe.job); place = place; tickets = w.tickets + 1; files = files })
put_done p w filing place files plan safe e f =
    put_step p w filing (Fine Silent) refl plan safe
    ∙ ap (λ (fs : Option (List File)). moved (Ok (answers.Placed filing.whole)) (record w { jobs = slice_set w.jobs filing.place (changed filing.change safe.job); place = w.place + 1; tickets = w.tickets + 1; files = fs })) (sym f)
    ∙ ap (λ (n : ℕ). moved (Ok (answers.Placed filing.whole)) (record w { jobs = slice_set w.jobs filing.place (changed filing.change safe.job); place = n; tickets = w.tickets + 1; files = files })) (sym e)

-- a put that failed
pub failed_step : (p : Workload) (w : State) (filing : Filing) (files : Option (List File)) → IsPlan p w (plans.Put filing) → (safe : IsSafe w (plans.Put filing)) → (files ≡ w.files) ⊎ (files ≡ with_put filing.whole filing.bytes w.files) → (luck : Luck) × (step p w events.Command luck ≡ moved (Err VaultFault) (record w { files = files }))
failed_step p w filing files plan safe (inl e) = (FailsOld, put_step p w filing FailsOld refl plan safe ∙ ap (λ (fs : Option (List File)). moved (Err VaultFault) (record w { files = fs })) (sym e))
failed_step p w filing files plan safe (inr e) = (FailsNew, put_step p w filing FailsNew refl plan safe ∙ ap (λ (fs : Option (List File)). moved (Err VaultFault) (record w { files = fs })) (sym e))

pub failed_world : (p : Workload) (src dst : Database) (v : Versions) (w : State) (filing : Filing) (files : Option (List File)) → IsWorld p src dst v w → IsPlan p w (plans.Put filing) → (safe : IsSafe w (plans.Put filing)) → (files ≡ w.files) ⊎ (files ≡ with_put filing.whole filing.bytes w.files) → IsWorld p src dst v (record w { files = files })
failed_world p src dst v w filing files h plan safe o =
    let s = failed_step p w filing files plan safe o in
    record { src_block = h.src_block; dst_block = h.dst_block; pace = h.pace; src_oldest = h.src_oldest; dst_oldest = h.dst_oldest; src_logs = h.src_logs; dst_logs = h.dst_logs; sound = sound_step p w s.0 (moved (Err VaultFault) (record w { files = files })) h.sound s.1 }

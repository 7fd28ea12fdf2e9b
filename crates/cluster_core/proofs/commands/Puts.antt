-- A put of a job's file keeps what is sound, and touches one file and one job.
use Rattle.std.specs.Prelude.{◌≡◌, ℕ, ◌+◌, Bool, true, false, cond, List, Some, None, Err, nat_lt, slice_get, refl}
use Rattle.std.specs.Prelude.{◌≤◌}
use Rattle.std.proofs.Common.{arith, inl, inr}
use Rattle.fb_bytes.specs.Bytes.{Bytes}
use Rattle.container_view.specs.Files.{whole_name}
use Rattle.workload_text.specs.declared.Workload.{Workload}
use Rattle.cluster_core.specs.declared.event.StepFault.TheVariants.{NoMemory}
use Rattle.cluster_core.specs.declared.job.Job.TheVariants as types
use Rattle.cluster_core.specs.Backups.{Backup}
use Rattle.cluster_core.specs.Jobs.{terms_of}
use Rattle.cluster_core.specs.State.{State, history_on, with_job, with_put}
use Rattle.cluster_core.specs.Moves.{Luck, Fine, FailsOld, FailsNew, Starved, moved}
use Rattle.cluster_core.specs.commands.Shared.{puts, putting}
use Rattle.cluster_core.specs.Footprints.{IsJobChanged}
use Rattle.std.specs.Prelude.{◌≡◌, ℕ, ◌+◌, ◌≤◌, Bool, true, false, cond, List, Some, None, nat_lt, slice_get, Err, refl}
use Rattle.std.specs.List.{AllByRecursion}
use Rattle.std.proofs.Common.{ap, sym, ◌∙◌, arith}
use Rattle.std.proofs.lemmas.Bool.{ltb-false}
use Rattle.fb_bytes.specs.Bytes.{Bytes}
use Rattle.fb_outside.specs.declared.File.{File}
use Rattle.fb_outside.specs.Files.{file_of}
use Rattle.file_names.specs.declared.Name.{Name}
use Rattle.file_names.specs.Reading.{name_of}
use Rattle.container_view.specs.Contents.{file_grammars}
use Rattle.container_view.specs.Honest.{listed_by}
use Rattle.database.specs.Commits.{most_version}
use Rattle.backup_core.specs.Backups.{BackupJob}
use Rattle.cluster_core.specs.declared.event.StepFault.TheVariants.{NoMemory}
use Rattle.cluster_core.specs.declared.job.Job.TheVariants as types
use Rattle.cluster_core.specs.Backups.{Backup}
use Rattle.cluster_core.specs.Jobs.{terms_of}
use Rattle.cluster_core.specs.State.{State, history_on, with_job, with_put}
use Rattle.cluster_core.specs.Moves.{Luck, Fine, FailsOld, FailsNew, Starved, moved}
use Rattle.cluster_core.specs.commands.Shared.{puts, putting}
use Rattle.cluster_core.specs.Sound.{IsDrawn, BackupSound, IsStored, Sound}
use Rattle.cluster_core.proofs.Known.{Known}
use Rattle.cluster_core.proofs.Puts.{IsFresh}
use Rattle.cluster_core.proofs.Frames.{sound_gone, sound_drawn, IsGood, sound_filed, put_there, sound_changed}
use Rattle.std.specs.Prelude.{◌≡◌, ℕ, ◌≤◌, Bool, false, List, Some, None, slice_get, refl}
use Rattle.std.proofs.Common.{ap, sym, ◌∙◌}
use Rattle.backup_core.specs.Backups.{BackupJob}
use Rattle.cluster_core.specs.declared.change.Change.{Change}
use Rattle.cluster_core.specs.declared.plan.Filing.{Filing}
use Rattle.cluster_core.specs.declared.job.Job.TheVariants as types
use Rattle.cluster_core.specs.Backups.{Backup}
use Rattle.cluster_core.specs.Jobs.{terms_of}
use Rattle.cluster_core.specs.Moves.{Luck}
use Rattle.cluster_core.specs.State.{State, history_on}
use Rattle.cluster_core.specs.Sound.{Sound}
use Rattle.cluster_core.proofs.Touching.{Touches, same}

abbrev pub IsNextJob : Backup → Backup → Type 0
IsNextJob old new = terms_of (types.Backup new) ≡ terms_of (types.Backup old)

pub next_jobs : (w : State) (place : ℕ) (old new : Backup) → slice_get w.jobs place ≡ Some (types.Backup old) → IsNextJob old new → IsJobChanged w.jobs (with_job place (types.Backup new) w).jobs
next_jobs w place old new at n = record { place = place; before = types.Backup old; after = types.Backup new; found = at; terms = n; is = refl }

puts_touches : (pace : ℕ) (w : State) (place : ℕ) (old new : Backup) (name bytes : Bytes) (luck : Luck) → slice_get w.jobs place ≡ Some (types.Backup old) → IsNextJob old new → Touches pace w (puts w (whole_name old.container name) bytes (with_job place (types.Backup new) w) luck)
puts_touches pace w place old new name bytes (Fine said) at n = record {
  starved = λ e. cc;
  since = omega arith;
  upto = omega arith;
  src = inl refl;
  dst = inl refl;
  sides = inl refl;
  jobs = inr (inl (next_jobs w place old new at n));
  files = inr (record { place = place; backup = old; found = at; name = name; bytes = bytes; is = refl });
}
puts_touches pace w place old new name bytes FailsOld at n = same pace w _
puts_touches pace w place old new name bytes FailsNew at n = record {
  starved = λ e. cc;
  since = omega arith;
  upto = omega arith;
  src = inl refl;
  dst = inl refl;
  sides = inl refl;
  jobs = inl refl;
  files = inr (record { place = place; backup = old; found = at; name = name; bytes = bytes; is = refl });
}
puts_touches pace w place old new name bytes Starved at n = same pace w _

pub putting_touches : (pace : ℕ) (w : State) (place : ℕ) (old new : Backup) (name bytes : Bytes) (luck : Luck) → slice_get w.jobs place ≡ Some (types.Backup old) → IsNextJob old new → Touches pace w (putting w (whole_name old.container name) bytes (with_job place (types.Backup new) w) luck)
putting_touches pace w place old new name bytes luck at n = go _
  where
    go : (b : Bool) → Touches pace w (cond b (moved (Err NoMemory) w) (puts w (whole_name old.container name) bytes (with_job place (types.Backup new) w) luck))
    go true = same pace w _
    go false = puts_touches pace w place old new name bytes luck at n

-- what the command's put owes: its file is good, and once it is there and its ticket is used up, so is the job after it
pub record IsOrder (p : Workload) (w : State) (place : ℕ) (job : Backup) (hand : BackupJob) (name bytes : Bytes) : Type 0 where
  pub fresh : IsFresh w.tickets name
  pub terms : hand.terms ≡ job.job.terms
  pub good : (files : List File) → w.files ≡ Some files → IsGood p w job name bytes files
  pub after : BackupSound p.settings.block w.time (w.tickets + 1) (history_on job.side w) (record job { job = hand })
  pub stored : (files : List File) → file_of files (whole_name job.container name) ≡ Some bytes → IsStored p.settings.block w.time (w.tickets + 1) (history_on job.side w) files job → IsStored p.settings.block w.time (w.tickets + 1) (history_on job.side w) files (record job { job = hand })

puts_keeps : (k : Known) (p : Workload) (w : State) (place : ℕ) (job : Backup) (hand : BackupJob) (name bytes : Bytes) (luck : Luck) → Sound p w → slice_get w.jobs place ≡ Some (types.Backup job) → w.tickets ≤ most_version → IsOrder p w place job hand name bytes → Sound p (puts w (whole_name job.container name) bytes (with_job place (types.Backup (record job { job = hand })) w) luck).state
puts_keeps k p w place job hand name bytes (Fine said) h at t o =
    let filed = sound_filed k p w place job name bytes h at o.fresh o.good in
    let drawn = sound_drawn k p (record w { files = with_put (whole_name job.container name) bytes w.files }) t filed in
    let changed = sound_changed k p (record w { files = with_put (whole_name job.container name) bytes w.files; tickets = w.tickets + 1 }) place job hand drawn at o.terms o.after
    (λ files e. o.stored files (put_there k (whole_name job.container name) bytes w.files files e) ((drawn.containers files e).each place (types.Backup job) at)) in
    sound_gone p (with_job place (types.Backup (record job { job = hand })) (record w { files = with_put (whole_name job.container name) bytes w.files; tickets = w.tickets + 1 })) changed
puts_keeps k p w place job hand name bytes FailsOld h at t o = h
puts_keeps k p w place job hand name bytes FailsNew h at t o = sound_filed k p w place job name bytes h at o.fresh o.good
puts_keeps k p w place job hand name bytes Starved h at t o = h

pub putting_keeps : (k : Known) (p : Workload) (w : State) (place : ℕ) (job : Backup) (hand : BackupJob) (name bytes : Bytes) (luck : Luck) → Sound p w → slice_get w.jobs place ≡ Some (types.Backup job) → (w.tickets ≤ most_version → IsOrder p w place job hand name bytes) → Sound p (putting w (whole_name job.container name) bytes (with_job place (types.Backup (record job { job = hand })) w) luck).state
putting_keeps k p w place job hand name bytes luck h at o = go (nat_lt most_version w.tickets) refl
  where
    go : (b : Bool) → nat_lt most_version w.tickets ≡ b → Sound p (cond b (moved (Err NoMemory) w) (puts w (whole_name job.container name) bytes (with_job place (types.Backup (record job { job = hand })) w) luck)).state
    go true e = h
    go false e = let t = ltb-false most_version w.tickets e in puts_keeps k p w place job hand name bytes luck h at t (o t)

pub nothing_listed : (name : Name) (bytes : Bytes) (text : Bytes) (tickets : ℕ) → name_of text ≡ name → listed_by file_grammars name bytes ≡ None → (names : List Bytes) → listed_by file_grammars (name_of text) bytes ≡ Some names → AllByRecursion (IsDrawn tickets) names
nothing_listed name bytes text tickets e n names l = let q = sym (ap (λ (x : Name). listed_by file_grammars x bytes) e ∙ n) ∙ l in cc

pub later_tickets : (n : ℕ) → n ≤ n + 1
later_tickets n = omega arith

pub same_time : (n : ℕ) → n ≤ n
same_time n = omega arith

-- the file of a job that changes by it
abbrev pub filing_of : ℕ → Backup → Change → Bytes → Bytes → Filing
filing_of place job change name bytes = record { place = place; change = change; whole = whole_name job.container name; bytes = bytes }

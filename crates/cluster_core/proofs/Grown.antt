-- What is kept of jobs stands while time goes on, entries come, and tickets are drawn.
use Rattle.std.specs.Prelude.{◌≡◌, ℕ, ◌<◌, ◌≤◌, false, List, [], ◌∷◌, ◌++◌, Some, slice_get, refl}
use Rattle.std.proofs.Common.{ap, arith}
use Rattle.fb_bytes.specs.Bytes.{Bytes}
use Rattle.fb_outside.specs.declared.File.{File}
use Rattle.mutations.specs.declared.Entry.{Entry}
use Rattle.snapshot_plan.specs.declared.Noted.{Noted}
use Rattle.container_view.specs.Changes.{Grows}
use Rattle.container_view.specs.Contents.{file_grammars}
use Rattle.task_kinds.specs.States.{has_ended}
use Rattle.cluster_core.specs.Jobs.{Job}
use Rattle.cluster_core.specs.declared.job.Job.TheVariants as types
use Rattle.cluster_core.specs.Backups.{Backup}
use Rattle.cluster_core.specs.Sound.{IsNoted, IsDrawn, BackupSound, JobSound, JobStored, IsStored, AreLoggable, source_of}
use Rattle.cluster_core.specs.State.{on_side}
use Rattle.client_core.proofs.Lists.{All-weaker}
use Rattle.cluster_core.proofs.Known.{Known}

-- ---- by the types of jobs

pub each_sound : (block now tickets : ℕ) (src dst : List Entry) (jobs : List Job) → ((m : ℕ) (b : Backup) → slice_get jobs m ≡ Some (types.Backup b) → BackupSound block now tickets (on_side b.side src dst) b) → (m : ℕ) (x : Job) → slice_get jobs m ≡ Some x → JobSound block now tickets src dst x
each_sound block now tickets src dst jobs f m (types.Backup b) e = f m b e

pub each_kept : (block now tickets : ℕ) (src dst : List Entry) (files : List File) (jobs : List Job) → ((m : ℕ) (b : Backup) → slice_get jobs m ≡ Some (types.Backup b) → IsStored block now tickets (on_side b.side src dst) files b) → (m : ℕ) (x : Job) → slice_get jobs m ≡ Some x → JobStored block now tickets src dst files x
each_kept block now tickets src dst files jobs f m (types.Backup b) e = f m b e

-- ---- one backup

noted_later : (block now now' tickets tickets' : ℕ) → now ≤ now' → tickets ≤ tickets' → (noted : Noted) → IsNoted block now tickets noted → IsNoted block now' tickets' noted
noted_later block now now' tickets tickets' n t noted h = record { past = let p = h.past in omega arith; snapshot = h.snapshot; ticket = h.ticket; drawn = let d = h.drawn in omega arith; name = h.name }

pub job_grown : (block now now' tickets tickets' : ℕ) (history history' : List Entry) (job : Backup) → now ≤ now' → tickets ≤ tickets' → (has_ended job.job.state ≡ false → AreLoggable job.job.terms.ranges job.job.begin history') → BackupSound block now tickets history job → BackupSound block now' tickets' history' job
job_grown block now now' tickets tickets' history history' job n t logged h = record {
  named = h.named;
  ranges = h.ranges;
  some = h.some;
  pieces = h.pieces;
  inside = h.inside;
  noted = All-weaker (IsNoted block now tickets) (IsNoted block now' tickets') job.job.noted (noted_later block now now' tickets tickets' n t) h.noted;
  distinct = h.distinct;
  snapshot = let s = h.snapshot in omega arith;
  begun = h.begun;
  erased = h.erased;
  next = let m = h.next in omega arith;
  logged = logged;
}

drawn_later : (tickets tickets' : ℕ) → tickets ≤ tickets' → (name : Bytes) → IsDrawn tickets name → IsDrawn tickets' name
drawn_later tickets tickets' t name h = record { snapshot = h.snapshot; version = h.version; ticket = h.ticket; block = h.block; read = h.read; drawn = let d = h.drawn in omega arith }

pub stored_grown : (k : Known) (block now now' tickets tickets' : ℕ) (history history' : List Entry) (files : List File) (job : Backup) → Grows (source_of block now history job) (source_of block now' history' job) → tickets ≤ tickets' → IsStored block now tickets history files job → IsStored block now' tickets' history' files job
stored_grown k block now now' tickets tickets' history history' files job g t h = record {
  honest = k.store.grows file_grammars (source_of block now history job) (source_of block now' history' job) job.container files g h.honest;
  there = h.there;
  listed = λ name bytes names f l. All-weaker (IsDrawn tickets) (IsDrawn tickets') names (drawn_later tickets tickets' t) (h.listed name bytes names f l);
}

-- time goes on without an entry
pub waits : (block now now' : ℕ) (history : List Entry) (job : Backup) → now ≤ now' → Grows (source_of block now history job) (source_of block now' history job)
waits block now now' history job n = record { later = []; history = append_none history; rising = tt; between = tt; now = n; ranges = refl; block = refl }
  where
    append_none : (xs : List Entry) → xs ≡ xs ++ []
    append_none [] = refl
    append_none (x ∷ xs) = ap (λ ys. x ∷ ys) (append_none xs)

-- or with one entry at its new moment
pub enters : (block now : ℕ) (history : List Entry) (entry : Entry) (job : Backup) → now < entry.version → Grows (source_of block now history job) (source_of block entry.version (history ++ entry ∷ []) job)
enters block now history entry job l = record { later = entry ∷ []; history = refl; rising = (tt, tt); between = ((l, (let s : entry.version ≤ entry.version = omega arith in s)), tt); now = let m : now ≤ entry.version = omega arith in m; ranges = refl; block = refl }

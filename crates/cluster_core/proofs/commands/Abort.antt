-- The command abort.
use Rattle.std.specs.Prelude.{◌≡◌, ℕ, List, refl}
use Rattle.std.proofs.Common.{arith}
use Rattle.cluster_core.specs.declared.job.Job.TheVariants as types
use Rattle.cluster_core.specs.Backups.{Backup}
use Rattle.mutations.specs.declared.Entry.{Entry}
use Rattle.backup_core.specs.Backups.{aborted_job}
use Rattle.cluster_core.specs.Jobs.{Job}
use Rattle.cluster_core.specs.Sound.{BackupSound}
use Rattle.std.specs.Prelude.{◌≡◌, ℕ, List, Some, slice_get, refl}
use Rattle.std.proofs.Common.{arith, inl, inr}
use Rattle.workload_text.specs.declared.Workload.{Workload}
use Rattle.cluster_core.specs.Jobs.{Job, Found, terms_of}
use Rattle.cluster_core.specs.State.{State, history_on, with_job}
use Rattle.cluster_core.specs.commands.Abort.{with_abort, abort_job}
use Rattle.std.specs.Prelude.{◌≡◌, ℕ, List, Some, slice_get, refl}
use Rattle.cluster_core.specs.Jobs.{Job, Found, terms_of}
use Rattle.cluster_core.specs.State.{State, history_on, with_job}
use Rattle.cluster_core.specs.Sound.{BackupSound, Sound}
use Rattle.cluster_core.proofs.Frames.{sound_gone, sound_changed}
use Rattle.cluster_core.proofs.Known.{Known}
use Rattle.cluster_core.proofs.Touching.{Touches}

pub aborted_sound : (block now tickets : ℕ) (history : List Entry) (job : Backup) → BackupSound block now tickets history job → BackupSound block now tickets history (record job { job = aborted_job job.job })
aborted_sound block now tickets history job h = record {
  named = h.named;
  ranges = h.ranges;
  some = h.some;
  pieces = h.pieces;
  inside = h.inside;
  noted = h.noted;
  distinct = h.distinct;
  snapshot = h.snapshot;
  begun = h.begun;
  erased = h.erased;
  next = h.next;
  logged = λ e. cc;
}

kept_terms : (job : Job) → terms_of (with_abort job) ≡ terms_of job
kept_terms (types.Backup backup) = refl

pub abort_touches : (pace : ℕ) (w : State) (found : Found) → slice_get w.jobs found.place ≡ Some found.job → Touches pace w (abort_job w found)
abort_touches pace w found at = record {
  starved = λ e. cc;
  since = omega arith;
  upto = omega arith;
  src = inl refl;
  dst = inl refl;
  sides = inl refl;
  jobs = inr (inl (record { place = found.place; before = found.job; after = with_abort found.job; found = at; terms = kept_terms found.job; is = refl }));
  files = inl refl;
}

backup_keeps : (k : Known) (p : Workload) (w : State) (place : ℕ) (job : Job) → Sound p w → slice_get w.jobs place ≡ Some job → Sound p (with_job place (with_abort job) w)
backup_keeps k p w place (types.Backup backup) h at =
    sound_changed k p w place backup (aborted_job backup.job) h at refl
    (aborted_sound p.settings.block w.time w.tickets (history_on backup.side w) backup (h.jobs.each place (types.Backup backup) at))
    (λ files e. let st = (h.containers files e).each place (types.Backup backup) at in record { honest = st.honest; there = st.there; listed = st.listed })

pub abort_keeps : (k : Known) (p : Workload) (w : State) (found : Found) → Sound p w → slice_get w.jobs found.place ≡ Some found.job → Sound p (abort_job w found).state
abort_keeps k p w found h at = sound_gone p (with_job found.place (with_abort found.job) w) (backup_keeps k p w found.place found.job h at)

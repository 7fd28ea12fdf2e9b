-- The keys that the refusals of a dump and of a seal name are the least.
use Rattle.std.proofs.Common.{◌≡◌, false, Option, Some, None, ap, ◌∙◌, refl}
use Rattle.std.proofs.lemmas.Bool.{cond-false}
use Rattle.fb_bytes.specs.Bytes.{Bytes}
use Rattle.fb_bytes.specs.declared.KeyRange.{KeyRange}
use Rattle.snapshot_plan.specs.declared.MapFault.TheVariants as faults
use Rattle.snapshot_plan.specs.Noted.{pieces_of, unless_inside}
use Rattle.snapshot_plan.specs.Pieces.{outside, overlap}
use Rattle.snapshot_plan.specs.Laws.{IsMap}
use Rattle.snapshot_plan.proofs.Walking as plans
use Rattle.workload_text.specs.declared.Settings.{Settings}
use Rattle.workload_text.specs.declared.Workload.{Workload}
use Rattle.cluster_core.specs.declared.refusal.Refusal.TheVariants.{OutsideRanges, Overlap, WrongState}
use Rattle.cluster_core.specs.declared.job.Job.TheVariants as types
use Rattle.cluster_core.specs.Backups.{FoundBackup}
use Rattle.task_kinds.specs.States.{has_ended}
use Rattle.backup_core.specs.Backups.{map_of}
use Rattle.cluster_core.specs.Jobs.{newest, on_backup}
use Rattle.cluster_core.specs.State.{State}
use Rattle.cluster_core.specs.Moves.{Luck, Moved}
use Rattle.cluster_core.specs.commands.Shared.{refuses, on_found, on_job}
use Rattle.cluster_core.specs.commands.Dump.{dump_put, dump_tested, dump_piece}
use Rattle.cluster_core.specs.commands.Seal.{seal_tested, seal_job}
use Rattle.cluster_core.specs.Sound.{Sound}
use Rattle.cluster_core.specs.LeastKeys.{LeastKeyLaw}
use Rattle.cluster_core.proofs.commands.Jobs.{newest_at}

-- a command of backups on the newest job with the tag
runs : (w : State) (tag : Bytes) (f : FoundBackup → Moved) (found : FoundBackup) → newest tag w.jobs ≡ Some (record { place = found.place; job = types.Backup found.backup }) → has_ended found.backup.job.state ≡ false → on_job w tag (on_backup f) ≡ f found
runs w tag f found e a = ap (on_found w tag (on_backup f)) e ∙ cond-false (has_ended found.backup.job.state) (refuses (WrongState found.backup.job.state) w) (f found) a

tested_outside : (s : Settings) (w : State) (found : FoundBackup) (piece : KeyRange) (luck : Luck) (out held : Option Bytes) (key : Bytes) → unless_inside out held ≡ Some (faults.OutsideRanges key) → dump_tested s w found piece luck out held ≡ refuses (OutsideRanges key) w
tested_outside s w found piece luck (Some k) held key e = let same : k ≡ key = cc in ap (λ (x : Bytes). refuses (OutsideRanges x) w) same
tested_outside s w found piece luck None (Some k) key e = cc
tested_outside s w found piece luck None None key e = cc

tested_held : (s : Settings) (w : State) (found : FoundBackup) (piece : KeyRange) (luck : Luck) (out held : Option Bytes) (key : Bytes) → unless_inside out held ≡ Some (faults.Overlap key) → dump_tested s w found piece luck out held ≡ refuses (Overlap key) w
tested_held s w found piece luck (Some k) held key e = cc
tested_held s w found piece luck None (Some k) key e = let same : k ≡ key = cc in ap (λ (x : Bytes). refuses (Overlap x) w) same
tested_held s w found piece luck None None key e = cc

tested_free : (s : Settings) (w : State) (found : FoundBackup) (piece : KeyRange) (luck : Luck) (out held : Option Bytes) → unless_inside out held ≡ None → dump_tested s w found piece luck out held ≡ dump_put s w found piece luck
tested_free s w found piece luck (Some k) held e = cc
tested_free s w found piece luck None (Some k) e = cc
tested_free s w found piece luck None None e = refl

map_kept : (p : Workload) (w : State) (tag : Bytes) (found : FoundBackup) → Sound p w → newest tag w.jobs ≡ Some (record { place = found.place; job = types.Backup found.backup }) → IsMap (map_of found.backup.job)
map_kept p w tag found h e = let j = h.jobs.each found.place (types.Backup found.backup) (newest_at tag w.jobs (record { place = found.place; job = types.Backup found.backup }) e) in record { ranges = j.ranges.separate; pieces = j.pieces }

pub least_key_law : LeastKeyLaw
least_key_law p w luck tag piece found h e a =
    let m = (map_of found.backup.job) in
    let kept = map_kept p w tag found h e in
    let dumps = runs w tag (dump_piece p.settings w piece luck) found e a in
    let seals = runs w tag (seal_job w luck) found e a in
    let out = outside found.backup.job.terms.ranges piece in
    let over = overlap (pieces_of found.backup.job.noted) piece in (
      record {
        outside = λ key o. dumps ∙ tested_outside p.settings w found piece luck out over key ((plans.least_key_law.outside m piece key kept).1 o);
        held = λ key i o. dumps ∙ tested_held p.settings w found piece luck out over key ((plans.least_key_law.held m piece key kept).1 (i, o));
        free = λ i o. dumps ∙ tested_free p.settings w found piece luck out over ((plans.least_key_law.free m piece kept).1 (i, o));
      },
      record {
        untiled = λ key o. seals ∙ ap (seal_tested w found luck) ((plans.least_key_law.untiled m key kept).1 o);
        tiled = λ o. seals ∙ ap (seal_tested w found luck) ((plans.least_key_law.tiled m kept).1 o);
      },
    )

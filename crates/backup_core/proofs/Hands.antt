-- The commands on a hand job leave the facts on it.
use Rattle.std.proofs.Common.{◌≡◌, ◌≢◌, ℕ, ◌+◌, ◌≤◌, false, List, [], ◌∷◌, None, refl, ap, ◌∙◌, arith}
use Rattle.fb_bytes.specs.Bytes.{is_below}
use Rattle.fb_bytes.specs.declared.KeyRange.{KeyRange}
use Rattle.fb_bytes.specs.Keys.{is_backwards, AreSeparate}
use Rattle.snapshot_plan.specs.declared.Done.{Done}
use Rattle.snapshot_plan.specs.declared.Noted.{Noted}
use Rattle.snapshot_plan.specs.Noted.{fault_of}
use Rattle.snapshot_plan.proofs.Manifests.{placed_all}
use Rattle.snapshot_plan.proofs.Walking.{least_key_law}
use Rattle.backup_core.specs.declared.mode.Mode.{Mode}
use Rattle.backup_core.specs.declared.mode.Mode.TheVariants.{Hand, Once, Continuous}
use Rattle.backup_core.specs.Backups.{BackupJob, opened, map_of, begun_at, dumped, cut_to, sealed}
use Rattle.backup_core.specs.Counts.{strays}
use Rattle.backup_core.specs.Facts.{View, HandFacts, WorkFacts, OpenFacts, JobFacts, IsThere}
use Rattle.backup_core.specs.Laws.{CanNote, IsIdle, HandLaw}
use Rattle.backup_core.specs.Tasks.{IsLoad}
use Rattle.backup_core.proofs.Closes.{no_noted, one_noted}
use Rattle.backup_core.proofs.Sums.{no_task}

hand_of : (m : Mode) (j : BackupJob) (v : View) → m ≡ Hand → WorkFacts m j v → HandFacts j v
hand_of Hand j v e w = w
hand_of Once j v e w = let x : Once ≡ Hand = e in absurd cc
hand_of Continuous j v e w = let x : Continuous ≡ Hand = e in absurd cc

work_by : (m : Mode) (j : BackupJob) (v : View) → m ≡ Hand → HandFacts j v → WorkFacts m j v
work_by Hand j v e w = w
work_by Once j v e w = let x : Once ≡ Hand = e in absurd cc
work_by Continuous j v e w = let x : Continuous ≡ Hand = e in absurd cc

open_is : (number version : ℕ) (ranges : List KeyRange) (v : View) → IsIdle v → AreSeparate ranges → ranges ≢ [] → version ≤ v.now + 1 → JobFacts (opened number Hand ranges version) v
open_is number version ranges v idle separate some l =
    let z = no_task v.load idle.1 idle.0 in
    record {
      separate = separate;
      some = some;
      noted = no_noted ranges v.now;
      snapshot = omega arith;
      goes_on = λ e. record {
        log = record { begun = omega arith; erased = omega arith; next = l; strays = z.strays version version; logs = λ x. refl; waits = λ x. absurd (let y = z.starts in omega arith) };
        work = record { none = idle.1; started = refl };
      };
      ended = λ e. idle.1;
    }

-- the log of a hand job that is as it was
module _ (j i : BackupJob) (v : View) (h : JobFacts j v) (hand : j.terms.mode ≡ Hand) (terms : i.terms ≡ j.terms) where
  same_open : i.begin ≡ j.begin → i.erased ≡ j.erased → i.next ≡ j.next → i.started ≡ j.started → OpenFacts j v → OpenFacts i v
  same_open b d p q o =
      let w = hand_of j.terms.mode j v hand o.work in
      record {
        log = record {
          begun = let x = o.log.begun in omega arith;
          erased = let x = o.log.erased in omega arith;
          next = let x = o.log.next in omega arith;
          strays = ap v.load (λ k. strays (d k) (p k)) ∙ o.log.strays;
          logs = λ z. q ∙ o.log.logs z;
          waits = λ z. q ∙ o.log.waits z;
        };
        work = work_by i.terms.mode i v (ap (λ x. x.mode) terms ∙ hand) (record { none = w.none; started = q ∙ w.started });
      }

snapshot_most : (j : BackupJob) (noted : List Noted) (now : ℕ) → j.snapshot ≤ now → begun_at noted now j.snapshot ≤ now
snapshot_most j [] now l = omega arith
snapshot_most j (n ∷ ns) now l = l

dump_is : (j : BackupJob) (v : View) (piece : KeyRange) (file : Done) → JobFacts j v → is_backwards piece ≡ false → fault_of (map_of j) piece ≡ None → CanNote v.now j file → j.terms.mode ≡ Hand → JobFacts (dumped j piece v.now file) v
dump_is j v piece file h proper none fits hand =
    let f = (least_key_law.free (map_of j) piece (record { ranges = h.separate; pieces = h.noted.pieces })).0 none in
    record {
      separate = h.separate;
      some = h.some;
      noted = one_noted j.terms.ranges v.now j.noted (record { piece = piece; file = file }) proper f.0 f.1 fits.past fits.name fits.new h.noted;
      snapshot = snapshot_most j j.noted v.now h.snapshot;
      goes_on = λ e. same_open j (dumped j piece v.now file) v h hand refl refl refl refl refl (h.goes_on e);
      ended = h.ended;
    }

cut_is : (j : BackupJob) (v : View) → JobFacts j v → j.terms.mode ≡ Hand → IsLoad v.load → JobFacts (cut_to j v.now) v
cut_is j v h hand sums = record {
  separate = h.separate;
  some = h.some;
  noted = h.noted;
  snapshot = h.snapshot;
  goes_on = λ e.
      let o = h.goes_on e in
      let w = hand_of j.terms.mode j v hand o.work in
      record {
        log = record { begun = o.log.begun; erased = let x = o.log.erased in let y = o.log.next in omega arith; next = omega arith; strays = (no_task v.load w.none sums).strays j.erased (v.now + 1); logs = o.log.logs; waits = o.log.waits };
        work = work_by j.terms.mode (cut_to j v.now) v hand (record { none = w.none; started = w.started });
      };
  ended = h.ended;
}

seal_is : (j : BackupJob) (v : View) → JobFacts j v → j.terms.mode ≡ Hand → JobFacts (sealed j) v
seal_is j v h hand = record {
  separate = h.separate;
  some = h.some;
  noted = no_noted j.terms.ranges v.now;
  snapshot = h.snapshot;
  goes_on = λ e. same_open j (sealed j) v h hand refl refl refl refl refl (h.goes_on e);
  ended = h.ended;
}

pub hand_law : HandLaw
hand_law = record {
  open_ = open_is;
  dump = dump_is;
  cut = cut_is;
  seal = seal_is;
  dump_files = λ j source folder piece now file f t. record { ranges = f.ranges; honest = f.honest; there = placed_all (IsThere folder) (λ (m : Noted). is_below m.piece.begin piece.begin) (record { piece = piece; file = file }) j.noted t f.there };
  seal_files = λ j source folder f. record { ranges = f.ranges; honest = f.honest; there = tt };
}

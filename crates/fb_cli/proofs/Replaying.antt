-- What a replay comes to, by what was read and played.
use Rattle.std.specs.Prelude.{◌≡◌, ℕ, List, Option, Some, None, Result, Ok, Err, ◌⊎◌, ◌↔◌, IsSome, IfSome}
use Rattle.std.proofs.Common.{ap, sym, subst, inl, inr}
use Rattle.fb_outside.specs.declared.File.{File}
use Rattle.fb_outside.specs.Faults.{Rose}
use Rattle.fb_cli.specs.Causes.{RoseInEach}
use Rattle.fb_cli.specs.Faults.{last_fault}
use Rattle.fb_cli.specs.Fronts.{LeavesFront}
use Rattle.fb_cli.specs.Outside.{Stream, Store, store_change}
use Rattle.fb_cli.proofs.Counting.{each_last}
use Rattle.fb_cli.proofs.Fronts.{owes}
use Rattle.report_text.specs.declared.EventLine.{EventLine}
use Rattle.workload_text.specs.declared.Workload.{Workload}
use Rattle.workload_text.specs.Grammar.{Built, what}
use Rattle.report_text.specs.declared.Report.{Report}
use Rattle.fb_cli.specs.declared.fault.Fault.{Fault}
use Rattle.fb_cli.specs.declared.fault.Fault.TheVariants.{Usage, TextRefused, SourceFault, SinkFault, VaultFault, NotRestorable, Damaged, CannotExpire, TurnsSpent, VersionsSpent, LogTooLarge, NoMemory, NoContainer, Missing, NotBuilt}
use Rattle.fb_cli.specs.Later.{playable}
use Rattle.fb_cli.specs.Runs.{IsRunReport, fault_in}
use Rattle.fb_cli.specs.Replays.{IsPlayed, AnswersText, IsOfReplay, IsUnplayed, IsSaid, Replays, OwesStore, SaysText, ReadsText}
use Rattle.fb_cli.proofs.Texts.{no_fault}

says_ok : (read : Result Built Fault) (workload : Workload) → SaysText read (Ok workload) → read ≡ Ok (what workload)
says_ok (Ok b) workload h = ap Ok h
says_ok (Err refusal) workload h = absurd h

text_says : (source : Stream) (workload : Workload) → ReadsText source (Ok workload) → IsSaid source.before workload
text_says source workload h = record {
  all = h.all;
  says = λ bytes e. elim (h.answer bytes e) [
    | inl p ↦ cc
    | inr q ↦ elim q [ inl p ↦ cc | inr s ↦ says_ok (playable bytes) workload s ]
  ];
}

run_of : (source : Stream) (store : Store) (workload : Workload) (report : Option Report) → IsSaid source.before workload → IfSome report (IsRunReport workload store) → IfSome report (λ r. (w : Workload) × IsSaid source.before w × IsRunReport w store r)
run_of source store workload None t h = tt
run_of source store workload (Some report) t h = (workload, t, h)

played_kind : (fault : Option Fault) → IsPlayed fault ⊎ (fault ≡ Some NoMemory) → IsOfReplay fault
played_kind None k = tt
played_kind (Some Usage) k = elim k [ inl e ↦ e | inr e ↦ cc ]
played_kind (Some (TextRefused line kind)) k = tt
played_kind (Some SourceFault) k = tt
played_kind (Some SinkFault) k = elim k [ inl e ↦ e | inr e ↦ cc ]
played_kind (Some VaultFault) k = tt
played_kind (Some (TurnsSpent turns)) k = tt
played_kind (Some (VersionsSpent version)) k = tt
played_kind (Some (LogTooLarge bytes)) k = tt
played_kind (Some NoMemory) k = tt
played_kind (Some (NotRestorable low high)) k = elim k [ inl e ↦ e | inr e ↦ cc ]
played_kind (Some (Damaged name fault)) k = elim k [ inl e ↦ e | inr e ↦ cc ]
played_kind (Some (CannotExpire wanted left)) k = elim k [ inl e ↦ e | inr e ↦ cc ]
played_kind (Some NoContainer) k = elim k [ inl e ↦ e | inr e ↦ cc ]
played_kind (Some (Missing name)) k = elim k [ inl e ↦ e | inr e ↦ cc ]
played_kind (Some (NotBuilt line)) k = tt

not_source : (fault : Option Fault) → IsPlayed fault ⊎ (fault ≡ Some NoMemory) → fault ≡ Some SourceFault → ⊥
not_source fault k e = elim k [ inl p ↦ subst IsPlayed e p | inr q ↦ cc ]

pub played : (source : Stream) (store : Store) (workload : Workload) (report : Option Report) (fault : Option Fault) → ReadsText source (Ok workload) → IsPlayed fault ⊎ (fault ≡ Some NoMemory) → (IsSome report ↔ IsPlayed fault) → IfSome report (IsRunReport workload store) → IfSome report (λ r. fault ≡ fault_in r) → LeavesFront workload store → Replays source store report fault
played source store workload report fault h kinds reported run last front = record {
  reported = reported;
  run = run_of source store workload report (text_says source workload h) run;
  last = last;
  front = inr (workload, text_says source workload h, front);
  kind = played_kind fault kinds;
  answer = λ bytes e. inr (subst (λ (r : Result Built Fault). AnswersText r fault) (sym ((text_says source workload h).says bytes e)) kinds);
  count = no_fault (fault ≡ Some SourceFault) (Ok workload ≡ Err SourceFault) source.faults_before source.faults_after h.count (not_source fault kinds);
  read = λ bytes e le r. h.read bytes e le tt;
}

-- ---- the file store

played_not_idle : (fault : Option Fault) → IsPlayed fault ⊎ (fault ≡ Some NoMemory) → IsUnplayed fault → ⊥
played_not_idle None k u = u
played_not_idle (Some Usage) k u = elim k [ inl e ↦ e | inr e ↦ cc ]
played_not_idle (Some (TextRefused line kind)) k u = elim k [ inl e ↦ e | inr e ↦ cc ]
played_not_idle (Some SourceFault) k u = elim k [ inl e ↦ e | inr e ↦ cc ]
played_not_idle (Some SinkFault) k u = u
played_not_idle (Some VaultFault) k u = u
played_not_idle (Some (TurnsSpent turns)) k u = u
played_not_idle (Some (VersionsSpent version)) k u = u
played_not_idle (Some (LogTooLarge bytes)) k u = u
played_not_idle (Some NoMemory) k u = u
played_not_idle (Some (NotRestorable low high)) k u = u
played_not_idle (Some (Damaged name fault)) k u = u
played_not_idle (Some (CannotExpire wanted left)) k u = u
played_not_idle (Some NoContainer) k u = u
played_not_idle (Some (Missing name)) k u = u
played_not_idle (Some (NotBuilt line)) k u = elim k [ inl e ↦ e | inr e ↦ cc ]

-- what a run owes to the store, by the answer of its last event
pub ran : (workload : Workload) (files files' : Option (List File)) (f f' a c : ℕ) (lines : List EventLine) (fault : Option Fault) → LeavesFront workload (store_change files files' f f') → a ≡ f → f' ≡ c → RoseInEach lines a c → (fault ≡ Some VaultFault → last_fault lines ≡ Some VaultFault) → IsPlayed fault ⊎ (fault ≡ Some NoMemory) → OwesStore (store_change files files' f f') fault
ran workload files files' f f' a c lines fault front before after k last kinds =
    owes workload (store_change files files' f f') fault front
    (λ q. subst (λ (n : ℕ). Rose n f') before (subst (λ (n : ℕ). Rose a n) (sym after) (each_last lines a c k (last q))))
    (played_not_idle fault kinds)

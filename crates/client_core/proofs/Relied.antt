-- The laws on clients, over the laws of databases.
use Rattle.std.specs.Prelude.{◌≡◌, ℕ, ◌+◌, Bool, true, false, List, [], ◌∷◌, Option, Some, None, Ok, Err, if◌then◌else◌, nat_lt, refl}
use Rattle.mutations.specs.declared.Mutation.{Mutation}
use Rattle.mutations.specs.Transactions.{writes_of}
use Rattle.database.specs.declared.CommitFault.{CommitFault}
use Rattle.database.specs.declared.CommitFault.TheVariants.{VersionsSpent}
use Rattle.database.specs.declared.JobLog.{JobLog}
use Rattle.database.specs.Commits.{most_version, large_in, unless_large, version_taken, fault_before, unless_fault}
use Rattle.database.specs.Laws.{ReadOnlyLaw}
use Rattle.database.proofs.Causes.{cause_law, large_law}
use Rattle.database.proofs.Committing.{commit_law}
use Rattle.database.proofs.Serial.{leaves_reads_law, serial_law}
use Rattle.client_core.specs.Laws.{NewClientLaw, BeginLaw, TryLaw, WaitLaw, EntryLaw}
use Rattle.client_core.proofs.Known.{Known}
use Rattle.client_core.proofs.Soundness as soundness

not_none : {P : Type 0} (found : Option ℕ) (version : ℕ) → unless_large found version ≡ Ok None → P
not_none None version h = cc
not_none (Some bytes) version h = cc

no_writes : (found : Option CommitFault) (time pace : ℕ) (logs : List JobLog) (muts : List Mutation) → unless_fault found (version_taken time pace logs muts) ≡ Ok None → muts ≡ []
no_writes (Some fault) time pace logs muts h = cc
no_writes None time pace logs [] h = refl
no_writes None time pace logs (m ∷ ms) h = go (nat_lt most_version (time + pace)) h
  where
    go : (b : Bool) → (if b then Err (VersionsSpent time) else unless_large (large_in logs (m ∷ ms)) (time + pace)) ≡ Ok None → m ∷ ms ≡ []
    go true e = cc
    go false e = not_none (large_in logs (m ∷ ms)) (time + pace) e

read_only : ReadOnlyLaw
read_only scene read ops h = no_writes (fault_before scene read ops) scene.time scene.pace scene.logs (writes_of ops) h

pub known : Known
known = record {
  commit = commit_law;
  read_only = read_only;
  cause = cause_law;
  large = large_law;
  leaves = leaves_reads_law;
  serial = serial_law;
}

pub new_client_law : NewClientLaw
new_client_law = soundness.new_client_law

pub begin_law : BeginLaw
begin_law = soundness.begin_law

pub try_law : TryLaw
try_law = soundness.try_law known

pub wait_law : WaitLaw
wait_law = soundness.wait_law

pub entry_law : EntryLaw
entry_law = soundness.entry_law known

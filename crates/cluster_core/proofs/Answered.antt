-- The version that a commit takes is the next one.
use Rattle.std.specs.Prelude.{◌≡◌, ℕ, ◌+◌, ◌≤◌, Bool, true, false, List, [], ◌∷◌, Option, Some, None, Err, if◌then◌else◌, nat_lt, refl}
use Rattle.std.proofs.Common.{arith}
use Rattle.std.proofs.lemmas.Bool.{ltb-false}
use Rattle.mutations.specs.declared.Mutation.{Mutation}
use Rattle.mutations.specs.declared.TxOp.{TxOp}
use Rattle.mutations.specs.Transactions.{writes_of}
use Rattle.database.specs.declared.CommitFault.{CommitFault}
use Rattle.database.specs.declared.CommitFault.TheVariants.{VersionsSpent}
use Rattle.database.specs.declared.Found.{Found}
use Rattle.database.specs.declared.JobLog.{JobLog}
use Rattle.database.specs.Commits.{Scene, most_version, large_in, unless_large, version_taken, fault_before, unless_fault, commit_answer, time_after}
use Rattle.client_core.specs.Ends.{end_of, version_of}

-- where a version was taken it is the next one, and not past the greatest
abbrev pub IsNext : ℕ → ℕ → Option ℕ → Type 0
IsNext time pace None = Unit {0}
IsNext time pace (Some version) = (version ≡ time + pace) × (version ≤ most_version)

by_large : (time pace : ℕ) (found : Option ℕ) (reads : List Found) → time + pace ≤ most_version → IsNext time pace (version_of (end_of (unless_large found (time + pace)) reads))
by_large time pace None reads h = (refl, h)
by_large time pace (Some bytes) reads h = tt

by_test : (time pace : ℕ) (fault : CommitFault) (found : Option ℕ) (reads : List Found) (b : Bool) → nat_lt most_version (time + pace) ≡ b → IsNext time pace (version_of (end_of (if b then Err fault else unless_large found (time + pace)) reads))
by_test time pace fault found reads true h = tt
by_test time pace fault found reads false h = by_large time pace found reads (ltb-false _ _ h)

by_writes : (time pace : ℕ) (logs : List JobLog) (muts : List Mutation) (reads : List Found) → IsNext time pace (version_of (end_of (version_taken time pace logs muts) reads))
by_writes time pace logs [] reads = tt
by_writes time pace logs (m ∷ ms) reads = by_test time pace (VersionsSpent time) (large_in logs (m ∷ ms)) reads (nat_lt most_version (time + pace)) refl

by_fault : (time pace : ℕ) (logs : List JobLog) (found : Option CommitFault) (muts : List Mutation) (reads : List Found) → IsNext time pace (version_of (end_of (unless_fault found (version_taken time pace logs muts)) reads))
by_fault time pace logs None muts reads = by_writes time pace logs muts reads
by_fault time pace logs (Some fault) muts reads = tt

pub answer_is_next : (scene : Scene) (read : ℕ) (ops : List TxOp) (reads : List Found) → IsNext scene.time scene.pace (version_of (end_of (commit_answer scene read ops) reads))
answer_is_next scene read ops reads = by_fault scene.time scene.pace scene.logs (fault_before scene read ops) (writes_of ops) reads

-- time doesn't go back
pub later_time : (time pace : ℕ) (o : Option ℕ) → IsNext time pace o → time ≤ time_after o time
later_time time pace None e = omega arith
later_time time pace (Some version) e = let q = e.0 in omega arith

-- What a database keeps in step.
use Rattle.std.specs.Prelude.{◌≡◌, ℕ, ◌<◌, ◌≤◌, Bool, true, List, [], ◌∷◌, Option}
use Rattle.std.specs.List.{AllByRecursion}
use Rattle.block_frame.specs.Profiles.{limit_of}
use Rattle.mutations.specs.declared.Entry.{Entry}
use Rattle.mutations.specs.declared.Mutation.{Mutation}
use Rattle.mutations.specs.Clipping.{all_clipped}
use Rattle.mutations.specs.Histories.{batches_of, logged, locked}
use Rattle.versioned_kv.specs.Applied.{Contents, Holds}
use Rattle.log_keys.specs.Logs.{Standing, batches_between, with_one}
use Rattle.database.specs.Logs.{JobLog}
use Rattle.database.specs.inner.Logs.{AreInOrder}

-- What stands of a job that logs is what it logs of the history, as far as it isn't erased.
abbrev pub Stands : List Entry → List Standing → JobLog → Type 0
Stands history keys log =
    (begin end : ℕ) → log.erased ≤ begin
    → batches_between log.job begin end keys ≡ logged history log.ranges begin end

-- What stands is of versions of the history.
abbrev pub AreBelow : ℕ → List Standing → Type 0
AreBelow version keys = AllByRecursion (λ (one : Standing). one.version < version) keys

-- Whatever test all versions of the history pass, what stands passes too.
abbrev pub AreNamed : List Entry → List Standing → Type 0
AreNamed history keys =
    (test : ℕ → Bool) → AllByRecursion (λ (entry : Entry). test entry.version ≡ true) history
    → AllByRecursion (λ (one : Standing). test one.version ≡ true) keys

-- The store holds the history from the oldest version on, under the limit of the block. The logs of
-- jobs are in order, and what they logged stands under keys.
pub record IsKept (block : ℕ) (history : List Entry) (lock : Option ℕ) (logs : List JobLog)
    (keys : List Standing) (store : Contents) : Type 0 where
  pub limit : store.limit ≡ limit_of block
  pub holds : Holds store (batches_of history)
  pub lock_is : lock ≡ locked history
  pub in_order : AreInOrder logs
  pub standing : AllByRecursion (Stands history keys) logs
  pub named : AreNamed history keys

-- what a job's log takes of an entry
abbrev pub put_one : ℕ → ℕ → List Mutation → List Standing → List Standing
put_one job version [] keys = keys
put_one job version (m ∷ ms) keys =
    with_one (record { job = job; version = version; muts = m ∷ ms }) keys

-- and what all logs take of it
abbrev pub put_all : ℕ → List Mutation → List JobLog → List Standing → List Standing
put_all version muts [] keys = keys
put_all version muts (log ∷ logs) keys =
    put_all version muts logs (put_one log.job version (all_clipped log.ranges muts) keys)

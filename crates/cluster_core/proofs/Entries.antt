-- One more entry.
use Rattle.std.specs.Prelude.{ℕ, ◌<◌, List, [], ◌∷◌, ◌++◌}
use Rattle.std.specs.List.{AllByRecursion}
use Rattle.mutations.specs.declared.Entry.{Entry}
use Rattle.mutations.specs.declared.Batch.{Batch}
use Rattle.mutations.specs.Histories.{IsRising, batches_of}

later_snoc : (low : ℕ) (history : List Entry) (entry : Entry) → AllByRecursion (λ (y : Batch). low < y.version) (batches_of history) → low < entry.version → AllByRecursion (λ (y : Batch). low < y.version) (batches_of (history ++ entry ∷ []))
later_snoc low [] entry a p = (p, tt)
later_snoc low (x ∷ xs) entry a p = (a.0, later_snoc low xs entry a.1 p)

-- an entry past all others rises
pub IsRising-snoc : (history : List Entry) (entry : Entry) → IsRising history → AllByRecursion (λ (x : Entry). x.version < entry.version) history → IsRising (history ++ entry ∷ [])
IsRising-snoc [] entry r a = (tt, tt)
IsRising-snoc (x ∷ xs) entry r a = (later_snoc x.version xs entry r.0 a.0, IsRising-snoc xs entry r.1 a.1)

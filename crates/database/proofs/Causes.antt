-- Why a commit is refused.
use Rattle.std.proofs.Common.{◌≡◌, ◌≢◌, ℕ, ◌+◌, ◌≤◌, ◌^◌, inl, inr, nat_lt, Bool, true, false, cond, List, [], ◌∷◌, length, Option, Some, None, Result, Err, refl, sym, ap, ◌∙◌, subst}
use Rattle.std.specs.Prelude.{option_map, ◌⊎◌}
use Rattle.std.proofs.lemmas.Bool.{ltb-true, leb-true}
use Rattle.fb_bytes.specs.Options.{IsIn}
use Rattle.block_frame.specs.Profiles.{key_limit_of, limit_of}
use Rattle.mutations.specs.declared.Mutation.{Mutation}
use Rattle.mutations.specs.declared.TxOp.{TxOp}
use Rattle.mutations.specs.declared.TxFault.{TxFault}
use Rattle.mutations.specs.declared.TxFault.TheVariants as tx
use Rattle.mutations.specs.Clipping.{all_clipped}
use Rattle.mutations.specs.Histories.{locked}
use Rattle.mutations.specs.Spelling.{mutations_spelling}
use Rattle.mutations.specs.Transactions.{tx_fault, writes_of, ◌or_else◌}
use Rattle.database.specs.declared.commit_fault.CommitFault.{CommitFault}
use Rattle.database.specs.declared.commit_fault.CommitFault.TheVariants as faults
use Rattle.database.specs.Faults.{of_transaction}
use Rattle.database.specs.Logs.{JobLog}
use Rattle.database.specs.Reads.{first_conflict}
use Rattle.database.specs.Commits.{Scene, most_version, oldest_at, is_large, large_in, unless_large, version_taken, unless_fault, locked_fault, age_fault, conflict_fault, fault_before}
use Rattle.database.specs.Laws.{IsCause, CauseLaw, LargeLaw}

some_same : {X : Type 0} (a b : X) → Some a ≡ Some b → a ≡ b
some_same a b h = cc

abbrev pub as_err : CommitFault → Result (Option ℕ) CommitFault
as_err fault = Err fault

err_same : (a b : CommitFault) → as_err a ≡ as_err b → a ≡ b
err_same a b h = cc

or_some : {X : Type 0} (a b : Option X) (x : X) → (a or_else b) ≡ Some x → (a ≡ Some x) ⊎ (b ≡ Some x)
or_some None b x h = inr h
or_some (Some y) b x h = inl h

-- ---- each test's fault

own_cause : (scene : Scene) (read : ℕ) (ops : List TxOp) (fault : CommitFault) (found : Option TxFault) → tx_fault (key_limit_of scene.block) (limit_of scene.block) ops ≡ found → option_map of_transaction found ≡ Some fault → IsCause scene read ops fault
own_cause scene read ops fault None e h = cc
own_cause scene read ops fault (Some (tx.Outside index)) e h = subst (IsCause scene read ops) (some_same (faults.Outside index) fault h) (ap (option_map of_transaction) e)
own_cause scene read ops fault (Some (tx.KeyTooLarge index)) e h = subst (IsCause scene read ops) (some_same (faults.KeyTooLarge index) fault h) (ap (option_map of_transaction) e)
own_cause scene read ops fault (Some (tx.ValueTooLarge index)) e h = subst (IsCause scene read ops) (some_same (faults.ValueTooLarge index) fault h) (ap (option_map of_transaction) e)
own_cause scene read ops fault (Some (tx.TooLarge bytes)) e h = subst (IsCause scene read ops) (some_same (faults.TooLarge bytes) fault h) (ap (option_map of_transaction) e)

lock_cause : (scene : Scene) (read : ℕ) (ops : List TxOp) (fault : CommitFault) (holder : Option ℕ) → locked scene.history ≡ holder → option_map faults.Locked holder ≡ Some fault → IsCause scene read ops fault
lock_cause scene read ops fault None e h = cc
lock_cause scene read ops fault (Some uid) e h = subst (IsCause scene read ops) (some_same (faults.Locked uid) fault h) e

age_cause : (scene : Scene) (read : ℕ) (ops : List TxOp) (fault : CommitFault) → age_fault scene.time read ≡ Some fault → IsCause scene read ops fault
age_cause scene read ops fault h = go (nat_lt read (oldest_at scene.time)) refl h
  where
    go : (b : Bool) → nat_lt read (oldest_at scene.time) ≡ b → cond b (Some (faults.TooOld read (oldest_at scene.time))) None ≡ Some fault → IsCause scene read ops fault
    go true e f = subst (IsCause scene read ops) (some_same (faults.TooOld read (oldest_at scene.time)) fault f) (refl, refl, ltb-true read (oldest_at scene.time) e)
    go false e f = cc

not_nil : (m : Mutation) (ms : List Mutation) → (m ∷ ms) ≢ []
not_nil m ms e = cc

conflict_cause : (scene : Scene) (read : ℕ) (ops : List TxOp) (fault : CommitFault) (writes : List Mutation) (found : Option ℕ) → writes_of ops ≡ writes → first_conflict ops read scene.history ≡ found → conflict_fault writes ops read scene.history ≡ Some fault → IsCause scene read ops fault
conflict_cause scene read ops fault [] found w e h = cc
conflict_cause scene read ops fault (m ∷ ms) None w e h = let n = sym (ap (option_map faults.NotCommitted) e) ∙ h in cc
conflict_cause scene read ops fault (m ∷ ms) (Some version) w e h =
    subst (IsCause scene read ops) (some_same (faults.NotCommitted version) fault (sym (ap (option_map faults.NotCommitted) e) ∙ h)) ((λ n. not_nil m ms (sym w ∙ n)), e)

before_cause : (scene : Scene) (read : ℕ) (ops : List TxOp) (fault : CommitFault) → fault_before scene read ops ≡ Some fault → IsCause scene read ops fault
before_cause scene read ops fault h =
    let own = option_map of_transaction (tx_fault (key_limit_of scene.block) (limit_of scene.block) ops) in
    elim (or_some (own or_else locked_fault scene.history or_else age_fault scene.time read) (conflict_fault (writes_of ops) ops read scene.history) fault h) [
      | inr late ↦ conflict_cause scene read ops fault (writes_of ops) (first_conflict ops read scene.history) refl refl late
      | inl three ↦ elim (or_some (own or_else locked_fault scene.history) (age_fault scene.time read) fault three) [
        | inr old ↦ age_cause scene read ops fault old
        | inl two ↦ elim (or_some own (locked_fault scene.history) fault two) [
          | inr locks ↦ lock_cause scene read ops fault (locked scene.history) refl locks
          | inl one ↦ own_cause scene read ops fault (tx_fault (key_limit_of scene.block) (limit_of scene.block) ops) refl one
        ]
      ]
    ]

-- ---- the version's faults

large_cause : (scene : Scene) (read : ℕ) (ops : List TxOp) (fault : CommitFault) (found : Option ℕ) (next : ℕ) → large_in scene.logs (writes_of ops) ≡ found → unless_large found next ≡ Err fault → IsCause scene read ops fault
large_cause scene read ops fault None next e h = cc
large_cause scene read ops fault (Some bytes) next e h = subst (IsCause scene read ops) (err_same (faults.LogTooLarge bytes) fault h) e

taken_cause : (scene : Scene) (read : ℕ) (ops : List TxOp) (fault : CommitFault) (writes : List Mutation) → writes_of ops ≡ writes → version_taken scene.time scene.pace scene.logs writes ≡ Err fault → IsCause scene read ops fault
taken_cause scene read ops fault [] w h = cc
taken_cause scene read ops fault (m ∷ ms) w h = go (nat_lt most_version (scene.time + scene.pace)) refl h
  where
    go : (b : Bool) → nat_lt most_version (scene.time + scene.pace) ≡ b → cond b (Err (faults.VersionsSpent scene.time)) (unless_large (large_in scene.logs (m ∷ ms)) (scene.time + scene.pace)) ≡ Err fault → IsCause scene read ops fault
    go true e f = subst (IsCause scene read ops) (err_same (faults.VersionsSpent scene.time) fault f) (refl, ltb-true most_version (scene.time + scene.pace) e)
    go false e f = large_cause scene read ops fault (large_in scene.logs (m ∷ ms)) (scene.time + scene.pace) (ap (large_in scene.logs) w) f

pub cause_law : CauseLaw
cause_law scene read ops fault h = go (fault_before scene read ops) refl h
  where
    go : (found : Option CommitFault) → fault_before scene read ops ≡ found → unless_fault found (version_taken scene.time scene.pace scene.logs (writes_of ops)) ≡ Err fault → IsCause scene read ops fault
    go None e f = taken_cause scene read ops fault (writes_of ops) refl f
    go (Some first) e f = before_cause scene read ops fault (e ∙ ap (λ (x : CommitFault). Some x) (err_same first fault f))

-- ---- what is too large for a log

pub large_law : LargeLaw
large_law [] muts bytes h = cc
large_law (log ∷ logs) muts bytes h = go (is_large (all_clipped log.ranges muts)) refl h (large_law logs muts bytes)
  where
    go : (b : Bool) → is_large (all_clipped log.ranges muts) ≡ b → (cond b (Some (length (mutations_spelling (all_clipped log.ranges muts)))) None or_else large_in logs muts) ≡ Some bytes
        → (large_in logs muts ≡ Some bytes → (one : JobLog) × IsIn one logs × (2 ^ 32 ≤ bytes) × (bytes ≡ length (mutations_spelling (all_clipped one.ranges muts))))
        → (one : JobLog) × IsIn one (log ∷ logs) × (2 ^ 32 ≤ bytes) × (bytes ≡ length (mutations_spelling (all_clipped one.ranges muts)))
    go true e f ih =
        let same : length (mutations_spelling (all_clipped log.ranges muts)) ≡ bytes = some_same _ _ f in
        (log, inl refl, subst (λ n. 2 ^ 32 ≤ n) same (leb-true (2 ^ 32) (length (mutations_spelling (all_clipped log.ranges muts))) e), sym same)
    go false e f ih = let r = ih f in (r.0, inr r.1, r.2, r.3)

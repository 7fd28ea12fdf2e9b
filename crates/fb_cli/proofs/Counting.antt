-- The store's count of faults, over event lines.
use Rattle.std.specs.Prelude.{◌≡◌, ℕ, zero, suc, ◌+◌, ◌<◌, ◌≤◌, List, [], ◌∷◌, ◌++◌, Some, Ok, Err, ◌⊎◌, refl}
use Rattle.std.proofs.Common.{ap, ◌∙◌, arith, inl, inr}
use Rattle.fb_outside.specs.Faults.{Rose, Counts}
use Rattle.cluster_core.specs.declared.DrainFault.TheVariants as drains
use Rattle.cluster_core.specs.declared.StepFault.TheVariants as steps
use Rattle.cluster_core.proofs.Draining.{rose_before, counts_before}
use Rattle.report_text.specs.declared.EventAnswer.{EventAnswer}
use Rattle.report_text.specs.declared.EventAnswer.TheVariants.{Step, Drain}
use Rattle.report_text.specs.declared.EventLine.{EventLine}
use Rattle.fb_cli.specs.declared.fault.Fault.TheVariants.{VaultFault}
use Rattle.fb_cli.specs.Causes.{vault_faults_of, vault_faults, RoseBy, RoseInEach, HaveCauses}
use Rattle.fb_cli.specs.Faults.{fault_of, last_fault}

rose_after : (a b c : ℕ) → Rose a b → b ≤ c → Rose a c
rose_after a b c r h = elim r [ inl l ↦ inl (omega arith) | inr e ↦ inr e ]

-- ---- event by event

pub each_later : (lines : List EventLine) (a c : ℕ) → RoseInEach lines a c → a ≤ c
each_later [] a c r = r
each_later (line ∷ rest) a c r =
    let h : a ≤ r.0 = r.1.later in
    let k : r.0 ≤ c = each_later rest r.0 c r.2 in
    omega arith

pub each_after : (lines : List EventLine) (a b c : ℕ) → RoseInEach lines a b → b ≤ c → RoseInEach lines a c
each_after [] a b c r h = let k : a ≤ b = r in omega arith
each_after (line ∷ rest) a b c r h = (r.0, r.1, each_after rest r.0 b c r.2 h)

-- one more line
pub each_more : (lines : List EventLine) (line : EventLine) (a b c : ℕ) → RoseInEach lines a b → Counts b c (fault_of line.reply ≡ Some VaultFault) → RoseInEach (lines ++ line ∷ []) a c
each_more [] line a b c r k = (c, counts_before a b c _ r k, let e : c ≤ c = omega arith in e)
each_more (x ∷ xs) line a b c r k = (r.0, r.1, each_more xs line r.0 b c r.2 k)

-- the count rose in the last event, if its line says a fault of the store
pub each_last : (lines : List EventLine) (a c : ℕ) → RoseInEach lines a c → last_fault lines ≡ Some VaultFault → Rose a c
each_last [] a c r q = cc
each_last (line ∷ []) a c r q = rose_after a r.0 c (r.1.rose q) r.2
each_last (line ∷ next ∷ rest) a c r q = rose_before a r.0 c r.1.later (each_later (next ∷ rest) r.0 c r.2) (each_last (next ∷ rest) r.0 c r.2 q)

-- ---- all events

-- an event whose line says no fault of the store, and one whose line does
calm : (a b c n : ℕ) → a ≤ b → RoseBy n b c → RoseBy (0 + n) a c
calm a b c n h s = elim s [ inl t ↦ inl (omega arith) | inr e ↦ inr e ]

risen : (a b c n : ℕ) → a ≤ b → Rose a b → b ≤ c → RoseBy n b c → RoseBy (1 + n) a c
risen a b c n l k h s =
    elim k [
      | inl less ↦ elim s [ inl t ↦ inl (omega arith) | inr e ↦ inr e ]
      | inr most ↦ inr (omega arith)
    ]

one_more : (answer : EventAnswer) (a b c n : ℕ) → Counts a b (fault_of answer ≡ Some VaultFault) → b ≤ c → RoseBy n b c → RoseBy (vault_faults_of answer + n) a c
one_more (Step (Ok answer)) a b c n k h s = calm a b c n k.later s
one_more (Step (Err steps.VaultFault)) a b c n k h s = risen a b c n k.later (k.rose refl) h s
one_more (Step (Err (steps.VersionsSpent version))) a b c n k h s = calm a b c n k.later s
one_more (Step (Err (steps.LogTooLarge bytes))) a b c n k h s = calm a b c n k.later s
one_more (Step (Err steps.NoMemory)) a b c n k h s = calm a b c n k.later s
one_more (Drain (Ok steps)) a b c n k h s = calm a b c n k.later s
one_more (Drain (Err (drains.TurnsSpent turns))) a b c n k h s = calm a b c n k.later s
one_more (Drain (Err (drains.Step steps.VaultFault))) a b c n k h s = risen a b c n k.later (k.rose refl) h s
one_more (Drain (Err (drains.Step (steps.VersionsSpent version)))) a b c n k h s = calm a b c n k.later s
one_more (Drain (Err (drains.Step (steps.LogTooLarge bytes)))) a b c n k h s = calm a b c n k.later s
one_more (Drain (Err (drains.Step steps.NoMemory))) a b c n k h s = calm a b c n k.later s

sum_of : (lines : List EventLine) (a c : ℕ) → RoseInEach lines a c → RoseBy (vault_faults lines) a c
sum_of [] a c r = let h : a ≤ c = r in inl (omega arith)
sum_of (line ∷ rest) a c r = one_more line.reply a r.0 c (vault_faults rest) r.1 (each_later rest r.0 c r.2) (sum_of rest r.0 c r.2)

pub causes_of : (lines : List EventLine) (a c : ℕ) → RoseInEach lines a c → HaveCauses lines a c
causes_of lines a c r = record { each = r; sum = sum_of lines a c r }

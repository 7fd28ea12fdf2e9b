-- The logs of jobs in order: one more, and one less.
use Rattle.std.proofs.Common.{◌≡◌, ℕ, suc, ◌<◌, ◌≤◌, nat_lt, nat_le, nat_eq, Bool, true, false, not, cond, List, [], ◌∷◌, length, Some, None, refl, sym, ap, ◌∙◌, arith}
use Rattle.std.specs.List.{AllByRecursion, filter, insert, position}
use Rattle.std.specs.Option.{unwrap_or}
use Rattle.std.proofs.lemmas.Bool.{ltb-true, ltb-false, lt-leb, le-leb}
use Rattle.std.proofs.lemmas.Bool.Decides.{nat_tests}
use Rattle.std.proofs.lemmas.List.Sums.{prefix_len-le-length}
use Rattle.database.specs.Logs.{JobLog, log_of, with_log, without_log}
use Rattle.database.specs.inner.Logs.{AreInOrder, place_of}

-- ---- the place of one more

pub place_within : (job : ℕ) (logs : List JobLog) → place_of job logs ≤ length logs
place_within job logs = prefix_len-le-length (λ (log : JobLog). not (nat_le job log.job)) logs

pub place_or_end : (job : ℕ) (logs : List JobLog) → unwrap_or (position (λ (log : JobLog). nat_le job log.job) logs) (length logs) ≡ place_of job logs
place_or_end job logs = go (nat_lt (place_of job logs) (length logs)) refl
  where
    go : (b : Bool) → nat_lt (place_of job logs) (length logs) ≡ b → unwrap_or (cond b (Some (place_of job logs)) None) (length logs) ≡ place_of job logs
    go true e = refl
    go false e = let h = place_within job logs in grind (arith, nat_tests)

place_behind : (job : ℕ) (y : JobLog) (ys : List JobLog) → nat_le job y.job ≡ false → place_of job (y ∷ ys) ≡ suc (place_of job ys)
place_behind job y ys h = rw h (omega arith)

place_front : (job : ℕ) (y : JobLog) (ys : List JobLog) → nat_le job y.job ≡ true → place_of job (y ∷ ys) ≡ 0
place_front job y ys h = rw h refl

with_behind : (log y : JobLog) (ys : List JobLog) → nat_lt y.job log.job ≡ true → with_log log (y ∷ ys) ≡ y ∷ with_log log ys
with_behind log y ys h = rw h refl

with_front : (log y : JobLog) (ys : List JobLog) → nat_lt y.job log.job ≡ false → with_log log (y ∷ ys) ≡ log ∷ y ∷ ys
with_front log y ys h = rw h refl

pub inserted : (log : JobLog) (logs : List JobLog) → insert logs (place_of log.job logs) log ≡ with_log log logs
inserted log [] = refl
inserted log (y ∷ ys) = go (nat_lt y.job log.job) refl (inserted log ys)
  where
    go : (b : Bool) → nat_lt y.job log.job ≡ b → insert ys (place_of log.job ys) log ≡ with_log log ys → insert (y ∷ ys) (place_of log.job (y ∷ ys)) log ≡ with_log log (y ∷ ys)
    go true b ih = ap (λ n. insert (y ∷ ys) n log) (place_behind log.job y ys (lt-leb log.job y.job (ltb-true y.job log.job b))) ∙ ap (λ (zs : List JobLog). y ∷ zs) ih ∙ sym (with_behind log y ys b)
    go false b ih = ap (λ n. insert (y ∷ ys) n log) (place_front log.job y ys (le-leb log.job y.job (ltb-false y.job log.job b))) ∙ sym (with_front log y ys b)

-- ---- in order

pub all_with : (P : JobLog → Type 0) (log : JobLog) (logs : List JobLog) → P log → AllByRecursion P logs → AllByRecursion P (with_log log logs)
all_with P log [] p h = (p, tt)
all_with P log (y ∷ ys) p h = go (nat_lt y.job log.job) (all_with P log ys p h.1)
  where
    go : (b : Bool) → AllByRecursion P (with_log log ys) → AllByRecursion P (cond b (y ∷ with_log log ys) (log ∷ y ∷ ys))
    go true ih = (h.0, ih)
    go false ih = (p, h)

all_later : (low high : ℕ) (logs : List JobLog) → low < high → AllByRecursion (λ (later : JobLog). high < later.job) logs → AllByRecursion (λ (later : JobLog). low < later.job) logs
all_later low high [] h a = tt
all_later low high (y ∷ ys) h a = let b = a.0 in (omega arith, all_later low high ys h a.1)

-- another job's log in front
others : (job : ℕ) (y : JobLog) (ys : List JobLog) → log_of (y ∷ ys) job ≡ None → (nat_eq y.job job ≡ false) × (log_of ys job ≡ None)
others job y ys h = go (nat_eq y.job job) refl h
  where
    go : (b : Bool) → nat_eq y.job job ≡ b → cond b (Some y) (log_of ys job) ≡ None → (nat_eq y.job job ≡ false) × (log_of ys job ≡ None)
    go true e f = cc
    go false e f = (e, f)

before : (a b : ℕ) → nat_lt a b ≡ false → nat_eq a b ≡ false → b < a
before a b h e = grind (arith, nat_tests)

pub in_order_with : (log : JobLog) (logs : List JobLog) → AreInOrder logs → log_of logs log.job ≡ None → AreInOrder (with_log log logs)
in_order_with log [] h n = (tt, tt)
in_order_with log (y ∷ ys) h n = let other = others log.job y ys n in go (nat_lt y.job log.job) refl other.0 (in_order_with log ys h.1 other.1)
  where
    go : (b : Bool) → nat_lt y.job log.job ≡ b → nat_eq y.job log.job ≡ false → AreInOrder (with_log log ys) → AreInOrder (cond b (y ∷ with_log log ys) (log ∷ y ∷ ys))
    go true b e ih = (all_with (λ (later : JobLog). y.job < later.job) log ys (ltb-true y.job log.job b) h.0, ih)
    go false b e ih = let l = before y.job log.job b e in ((l, all_later log.job y.job ys l h.0), h)

all_kept : (P : JobLog → Type 0) (test : JobLog → Bool) (logs : List JobLog) → AllByRecursion P logs → AllByRecursion P (filter test logs)
all_kept P test [] h = tt
all_kept P test (y ∷ ys) h = go (test y) (all_kept P test ys h.1)
  where
    go : (b : Bool) → AllByRecursion P (filter test ys) → AllByRecursion P (cond b (y ∷ filter test ys) (filter test ys))
    go true ih = (h.0, ih)
    go false ih = ih

in_order_kept : (test : JobLog → Bool) (logs : List JobLog) → AreInOrder logs → AreInOrder (filter test logs)
in_order_kept test [] h = tt
in_order_kept test (y ∷ ys) h = go (test y) (in_order_kept test ys h.1)
  where
    go : (b : Bool) → AreInOrder (filter test ys) → AreInOrder (cond b (y ∷ filter test ys) (filter test ys))
    go true ih = (all_kept (λ (later : JobLog). y.job < later.job) test ys h.0, ih)
    go false ih = ih

pub in_order_without : (job : ℕ) (logs : List JobLog) → AreInOrder logs → AreInOrder (without_log job logs)
in_order_without job logs h = in_order_kept (λ (log : JobLog). not (nat_eq log.job job)) logs h

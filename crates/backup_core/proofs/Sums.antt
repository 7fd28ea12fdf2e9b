-- Sums over a backup's tasks.
use Rattle.std.proofs.Common.{◌≡◌, ℕ, ◌+◌, ◌≤◌, Bool, true, false, not, ◌&&◌, List, refl, ap, arith, nat_le, nat_lt}
use Rattle.fb_bytes.specs.Bytes.{Bytes}
use Rattle.fb_bytes.specs.declared.KeyRange.{KeyRange}
use Rattle.fb_bytes.specs.Keys.{holds, is_backwards}
use Rattle.task_kinds.specs.Works.{BackupWork, BackupStart, BackupDispatch, BackupRange, BackupManifest, BackupLogs, BackupLog, BackupErase, BackupFinish}
use Rattle.backup_core.specs.Counts.{Counts, count, nothing, one_if, starts, dispatches, ranges, manifests, log_dispatches, logs, erases, finishes, any, holding, improper, strays}
use Rattle.backup_core.specs.Tasks.{Load, IsLoad, Adding, adds}

pub one_most : (b : Bool) → one_if b ≤ 1
one_most true = omega arith
one_most false = omega arith

pub one_true : (b : Bool) → b ≡ true → one_if b ≡ 1
one_true b e = ap one_if e

pub one_false : (b : Bool) → b ≡ false → one_if b ≡ 0
one_false b e = ap one_if e

pub from_one : (b : Bool) → 1 ≤ one_if b → b ≡ true
from_one true l = refl
from_one false l = absurd (omega arith)

pub from_none : (b : Bool) → one_if b ≡ 0 → b ≡ false
from_none true l = absurd (omega arith)
from_none false l = refl

-- one task closed, and these added
pub record Balance (old new : Load) (closed : BackupWork) (added : List Adding) : Type 0 where
  pub at : (f : BackupWork → ℕ) → new f + f closed ≡ old f + adds f added
  pub starts : new starts + starts closed ≡ old starts + adds starts added
  pub dispatches : new dispatches + dispatches closed ≡ old dispatches + adds dispatches added
  pub ranges : new ranges + ranges closed ≡ old ranges + adds ranges added
  pub manifests : new manifests + manifests closed ≡ old manifests + adds manifests added
  pub log_dispatches : new log_dispatches + log_dispatches closed ≡ old log_dispatches + adds log_dispatches added
  pub logs : new logs + logs closed ≡ old logs + adds logs added
  pub erases : new erases + erases closed ≡ old erases + adds erases added
  pub finishes : new finishes + finishes closed ≡ old finishes + adds finishes added
  pub improper : new improper + improper closed ≡ old improper + adds improper added

pub balance : (old new : Load) (x : BackupWork) (ys : List Adding) → ((f : BackupWork → ℕ) → new f + f x ≡ old f + adds f ys) → Balance old new x ys
balance old new x ys h = record { at = h; starts = h starts; dispatches = h dispatches; ranges = h ranges; manifests = h manifests; log_dispatches = h log_dispatches; logs = h logs; erases = h erases; finishes = h finishes; improper = h improper }

pub holding_below : (key : Bytes) (x : BackupWork) → holding key x ≤ ranges x
holding_below key BackupStart = omega arith
holding_below key BackupDispatch = omega arith
holding_below key (BackupRange snapshot piece) = one_most (holds piece key)
holding_below key (BackupManifest snapshot) = omega arith
holding_below key BackupLogs = omega arith
holding_below key (BackupLog begin end) = omega arith
holding_below key BackupErase = omega arith
holding_below key BackupFinish = omega arith

pub strays_below : (a b : ℕ) (x : BackupWork) → strays a b x ≤ logs x
strays_below a b BackupStart = omega arith
strays_below a b BackupDispatch = omega arith
strays_below a b (BackupRange snapshot piece) = omega arith
strays_below a b (BackupManifest snapshot) = omega arith
strays_below a b BackupLogs = omega arith
strays_below a b (BackupLog begin end) = one_most (not (nat_le a begin && nat_lt begin end && nat_le end b))
strays_below a b BackupErase = omega arith
strays_below a b BackupFinish = omega arith

-- each task counts in one of the eight
pub any_is : (x : BackupWork) → any x ≤ starts x + dispatches x + ranges x + manifests x + log_dispatches x + logs x + erases x + finishes x
any_is BackupStart = omega arith
any_is BackupDispatch = omega arith
any_is (BackupRange snapshot piece) = omega arith
any_is (BackupManifest snapshot) = omega arith
any_is BackupLogs = omega arith
any_is (BackupLog begin end) = omega arith
any_is BackupErase = omega arith
any_is BackupFinish = omega arith

-- a number that is at most one for each kind
pub count_one : (c : Counts) → c.start ≤ 1 → c.dispatch ≤ 1 → ((p : KeyRange) → c.range p ≤ 1) → c.manifest ≤ 1 → c.logs ≤ 1 → ((b e : ℕ) → c.log b e ≤ 1) → c.erase ≤ 1 → c.finish ≤ 1 → (x : BackupWork) → count c x ≤ any x
count_one c a1 a2 a3 a4 a5 a6 a7 a8 BackupStart = a1
count_one c a1 a2 a3 a4 a5 a6 a7 a8 BackupDispatch = a2
count_one c a1 a2 a3 a4 a5 a6 a7 a8 (BackupRange snapshot piece) = a3 piece
count_one c a1 a2 a3 a4 a5 a6 a7 a8 (BackupManifest snapshot) = a4
count_one c a1 a2 a3 a4 a5 a6 a7 a8 BackupLogs = a5
count_one c a1 a2 a3 a4 a5 a6 a7 a8 (BackupLog begin end) = a6 begin end
count_one c a1 a2 a3 a4 a5 a6 a7 a8 BackupErase = a7
count_one c a1 a2 a3 a4 a5 a6 a7 a8 BackupFinish = a8

-- where a job has no task, each sum is zero
pub record NoTask (l : Load) : Type 0 where
  pub starts : l starts ≡ 0
  pub dispatches : l dispatches ≡ 0
  pub ranges : l ranges ≡ 0
  pub manifests : l manifests ≡ 0
  pub log_dispatches : l log_dispatches ≡ 0
  pub logs : l logs ≡ 0
  pub erases : l erases ≡ 0
  pub finishes : l finishes ≡ 0
  pub improper : l improper ≡ 0
  pub strays : (a b : ℕ) → l (strays a b) ≡ 0

pub no_task : (l : Load) → l any ≡ 0 → IsLoad l → NoTask l
no_task l z b = record {
  starts = none (record nothing { start = 1 }) (omega arith) (λ p. omega arith) (λ b e. omega arith);
  dispatches = none (record nothing { dispatch = 1 }) (omega arith) (λ p. omega arith) (λ b e. omega arith);
  ranges = none (record nothing { range = λ p. 1 }) (omega arith) (λ p. omega arith) (λ b e. omega arith);
  manifests = none (record nothing { manifest = 1 }) (omega arith) (λ p. omega arith) (λ b e. omega arith);
  log_dispatches = none (record nothing { logs = 1 }) (omega arith) (λ p. omega arith) (λ b e. omega arith);
  logs = none (record nothing { log = λ b e. 1 }) (omega arith) (λ p. omega arith) (λ b e. omega arith);
  erases = none (record nothing { erase = 1 }) (omega arith) (λ p. omega arith) (λ b e. omega arith);
  finishes = none (record nothing { finish = 1 }) (omega arith) (λ p. omega arith) (λ b e. omega arith);
  improper = none (record nothing { range = λ p. one_if (is_backwards p) }) (omega arith) (λ p. one_most (is_backwards p)) (λ b e. omega arith);
  strays = λ x y. none (record nothing { log = λ b e. one_if (not (nat_le x b && nat_lt b e && nat_le e y)) }) (omega arith) (λ p. omega arith) (λ b e. one_most (not (nat_le x b && nat_lt b e && nat_le e y)));
}
  where
    none : (c : Counts) → c.start + c.dispatch + c.manifest + c.logs + c.erase + c.finish ≤ 1 → ((p : KeyRange) → c.range p ≤ 1) → ((b e : ℕ) → c.log b e ≤ 1) → l (count c) ≡ 0
    none c a p q = let x = b.less (count c) any (count_one c (omega arith) (omega arith) p (omega arith) (omega arith) q (omega arith) (omega arith)) in omega arith

-- the tasks are those of the eight kinds
pub all_tasks : (l : Load) → IsLoad l → l any ≤ l starts + l dispatches + l ranges + l manifests + l log_dispatches + l logs + l erases + l finishes
all_tasks l b =
    let x = b.less any _ any_is in
    let a1 = b.sum (λ x. starts x + dispatches x + ranges x + manifests x + log_dispatches x + logs x + erases x) finishes in
    let a2 = b.sum (λ x. starts x + dispatches x + ranges x + manifests x + log_dispatches x + logs x) erases in
    let a3 = b.sum (λ x. starts x + dispatches x + ranges x + manifests x + log_dispatches x) logs in
    let a4 = b.sum (λ x. starts x + dispatches x + ranges x + manifests x) log_dispatches in
    let a5 = b.sum (λ x. starts x + dispatches x + ranges x) manifests in
    let a6 = b.sum (λ x. starts x + dispatches x) ranges in
    let a7 = b.sum starts dispatches in
    omega arith

-- How a try ends: what it owes to the ground that it leaves.
use Rattle.std.specs.Prelude.{◌≡◌, ℕ, ◌+◌, ◌-◌, ◌<◌, ◌≤◌, List, [], ◌∷◌, Option, Some, None, Result, Ok, Err, ◌⊎◌, refl}
use Rattle.std.specs.List.{AllByRecursion, filter}
use Rattle.std.proofs.Common.{ap, sym, ◌∙◌, inl, inr, arith}
use Rattle.fb_bytes.specs.declared.KeyRange.{KeyRange}
use Rattle.fb_bytes.specs.Options.{IsIn}
use Rattle.mutations.specs.declared.Entry.{Entry}
use Rattle.mutations.specs.declared.Who.{Who}
use Rattle.mutations.specs.declared.Who.TheVariants as who
use Rattle.mutations.specs.declared.TxOp.{TxOp}
use Rattle.mutations.specs.Histories.{IsRising, lock_after, locked_since, locked}
use Rattle.mutations.specs.Transactions.{writes_of}
use Rattle.database.specs.declared.CommitFault.{CommitFault}
use Rattle.database.specs.declared.CommitFault.TheVariants.{Outside, KeyTooLarge, ValueTooLarge, TooLarge, Locked, TooOld, NotCommitted, VersionsSpent, LogTooLarge, NoMemory}
use Rattle.database.specs.declared.JobLog.{JobLog}
use Rattle.database.specs.Commits.{Scene, commit_answer, history_after, time_after}
use Rattle.database.specs.Laws.{IsTaken, IsCause, LeavesReads}
use Rattle.database.specs.Reads.{reads_at, is_conflict_read}
use Rattle.client_core.specs.declared.outcome.End.{End}
use Rattle.client_core.specs.Ends.{end_of, version_of}
use Rattle.client_core.specs.Legal.{Ground, IsUpto, HasLocked, HasCause, IsEnd}
use Rattle.client_core.proofs.Grounds.{GoesOn, enters, same}
use Rattle.client_core.proofs.Known.{Known}
use Rattle.client_core.proofs.Lists.{of_all}

-- ---- locks

-- who holds a lock took it before the entries, or by one of them
abbrev HasHeld : Option ℕ → ℕ → List Entry → Type 0
HasHeld holder job history = (holder ≡ Some job) ⊎ HasLocked job history

at_front : (entry : Entry) (job : ℕ) (history : List Entry) → HasLocked job history → HasLocked job (entry ∷ history)
at_front entry job history h = record { entry = h.entry; among = inr h.among; by = h.by }

held_before : (holder : Option ℕ) (entry : Entry) (by : Who) (job : ℕ) (history : List Entry) → entry.who ≡ by → HasHeld (lock_after holder by) job history → HasHeld holder job (entry ∷ history)
held_before holder entry (who.Client number place) job history w h = elim h [ inl e ↦ inl e | inr r ↦ inr (at_front entry job history r) ]
held_before holder entry (who.Load other) job history w h = elim h [ inl e ↦ inl e | inr r ↦ inr (at_front entry job history r) ]
held_before holder entry (who.Apply other) job history w h = elim h [ inl e ↦ inl e | inr r ↦ inr (at_front entry job history r) ]
held_before holder entry (who.Lock other) job history w h = elim h [ inl e ↦ inr (let same : other ≡ job = cc in record { entry = entry; among = inl refl; by = w ∙ ap who.Lock same }) | inr r ↦ inr (at_front entry job history r) ]
held_before holder entry (who.Unlock other) job history w h = elim h [ inl e ↦ (let no : None ≡ Some job = e in cc) | inr r ↦ inr (at_front entry job history r) ]

held : (holder : Option ℕ) (job : ℕ) (history : List Entry) → locked_since holder history ≡ Some job → HasHeld holder job history
held holder job [] e = inl e
held holder job (x ∷ xs) e = held_before holder x x.who job xs refl (held (lock_after holder x.who) job xs e)

has_locked : (job : ℕ) (history : List Entry) → locked history ≡ Some job → HasLocked job history
has_locked job history e = elim (held None job history e) [ inl n ↦ (let no : None ≡ Some job = n in cc) | inr r ↦ r ]

-- ---- the ground of a scene

-- the ground that a scene stands on, with so many tries and these jobs
abbrev pub ground_of : Scene → ℕ → List (List KeyRange) → Ground
ground_of scene tries logged = record { block = scene.block; pace = scene.pace; tries = tries; logged = logged; history = scene.history }

cause : (known : Known) (scene : Scene) (tries : ℕ) (logged : List (List KeyRange)) (read : ℕ) (ops : List TxOp) (fault : CommitFault) → AllByRecursion (λ (log : JobLog). IsIn log.ranges logged) scene.logs → IsCause scene read ops fault → HasCause (ground_of scene tries logged) ops read fault
cause known scene tries logged read ops (Outside index) a c = c
cause known scene tries logged read ops (KeyTooLarge index) a c = c
cause known scene tries logged read ops (ValueTooLarge index) a c = c
cause known scene tries logged read ops (TooLarge bytes) a c = c
cause known scene tries logged read ops (Locked uid) a c = has_locked uid scene.history c
cause known scene tries logged read ops (TooOld of oldest) a c = (c.0, c.2)
cause known scene tries logged read ops (NotCommitted version) a c = c.1
cause known scene tries logged read ops (VersionsSpent version) a c = c.1
cause known scene tries logged read ops (LogTooLarge bytes) a c =
    let l = known.large scene.logs (writes_of ops) bytes c in
    record { ranges = l.0.ranges; among = of_all (λ (log : JobLog). IsIn log.ranges logged) scene.logs l.0 a l.1; many = l.2; are = l.3 }
cause known scene tries logged read ops NoMemory a c = absurd c

-- ---- the end

-- How a try ended, and what it left, is right.
pub record IsMade (scene : Scene) (tries : ℕ) (logged : List (List KeyRange)) (by : Who) (read : ℕ) (ops : List TxOp) (end : End) : Type 0 where
  pub since : scene.time ≤ time_after (version_of end) scene.time
  pub goes_on : GoesOn (ground_of scene tries logged) scene.time logged (history_after (version_of end) by (writes_of ops) scene.history)
  pub is_end : IsEnd (record (ground_of scene tries logged) { history = history_after (version_of end) by (writes_of ops) scene.history }) ops read end
  pub upto : IsUpto (time_after (version_of end) scene.time) (version_of end)

last_before : (version : ℕ) → 1 ≤ version → version - 1 < version
last_before version l = omega arith

committed_at : (known : Known) (scene : Scene) (tries : ℕ) (logged : List (List KeyRange)) (by : Who) (read version : ℕ) (ops : List TxOp) → 1 ≤ scene.pace → IsRising scene.history → read ≤ scene.time → IsTaken scene read ops version → IsMade scene tries logged by read ops (end_of (Ok (Some version)) (reads_at scene.block scene.history read ops))
committed_at known scene tries logged by read version ops pace rising seen taken =
    let next : version ≡ scene.time + scene.pace = taken.next in
    let later : scene.time < version = omega arith in
    let first : 1 ≤ version = omega arith in
    let past : read < version = omega arith in
    let upto : read ≤ version - 1 = omega arith in
    let entry : Entry = record { version = version; who = by; muts = writes_of ops } in
    let leaves : LeavesReads scene.block scene.history (record { version = version; who = by; muts = writes_of ops }) = known.leaves scene.block scene.history (record { version = version; who = by; muts = writes_of ops }) in
    record {
      since = omega arith;
      goes_on = enters (ground_of scene tries logged) scene.time (record { version = version; who = by; muts = writes_of ops }) later leaves;
      is_end = (
        sym (leaves.reads read ops past),
        record {
          before = past;
          serial =
              leaves.reads (version - 1) (filter is_conflict_read ops) (last_before version first)
              ∙ known.serial scene.block scene.history read (version - 1) ops rising upto taken.alone
              ∙ sym (leaves.reads read (filter is_conflict_read ops) past);
        },
      );
      upto = (let same : version ≤ version = omega arith in same);
    }

answered : (known : Known) (scene : Scene) (tries : ℕ) (logged : List (List KeyRange)) (by : Who) (read : ℕ) (ops : List TxOp) (answer : Result (Option ℕ) CommitFault) → 1 ≤ scene.pace → IsRising scene.history → AllByRecursion (λ (log : JobLog). IsIn log.ranges logged) scene.logs → read ≤ scene.time → commit_answer scene read ops ≡ answer → IsMade scene tries logged by read ops (end_of answer (reads_at scene.block scene.history read ops))
answered known scene tries logged by read ops (Ok None) pace rising logs seen e = record {
  since = omega arith;
  goes_on = same (ground_of scene tries logged) scene.time;
  is_end = (known.read_only scene read ops e, refl);
  upto = tt;
}
answered known scene tries logged by read ops (Ok (Some version)) pace rising logs seen e = committed_at known scene tries logged by read version ops pace rising seen (known.commit scene read ops version e)
answered known scene tries logged by read ops (Err fault) pace rising logs seen e = record {
  since = omega arith;
  goes_on = same (ground_of scene tries logged) scene.time;
  is_end = cause known scene tries logged read ops fault logs (known.cause scene read ops fault e);
  upto = tt;
}

pub made : (known : Known) (scene : Scene) (tries : ℕ) (logged : List (List KeyRange)) (by : Who) (read : ℕ) (ops : List TxOp) → 1 ≤ scene.pace → IsRising scene.history → AllByRecursion (λ (log : JobLog). IsIn log.ranges logged) scene.logs → read ≤ scene.time → IsMade scene tries logged by read ops (end_of (commit_answer scene read ops) (reads_at scene.block scene.history read ops))
made known scene tries logged by read ops pace rising logs seen = answered known scene tries logged by read ops (commit_answer scene read ops) pace rising logs seen refl

-- What a longer history, and more jobs, leave of earlier outcomes.
use Rattle.std.specs.Prelude.{◌≡◌, ℕ, ◌-◌, ◌<◌, ◌≤◌, List, [], ◌∷◌, ◌++◌, Option, Some, None, refl}
use Rattle.std.specs.List.{AllByRecursion, filter}
use Rattle.std.proofs.Common.{sym, ◌∙◌, arith}
use Rattle.fb_bytes.specs.declared.KeyRange.{KeyRange}
use Rattle.fb_bytes.specs.Options.{IsIn}
use Rattle.mutations.specs.declared.Entry.{Entry}
use Rattle.mutations.specs.declared.TxOp.{TxOp}
use Rattle.database.specs.declared.CommitFault.{CommitFault}
use Rattle.database.specs.declared.CommitFault.TheVariants.{Outside, KeyTooLarge, ValueTooLarge, TooLarge, Locked, TooOld, NotCommitted, VersionsSpent, LogTooLarge, NoMemory}
use Rattle.database.specs.Laws.{LeavesReads}
use Rattle.database.specs.Reads.{reads_at, is_conflict_read, first_conflict}
use Rattle.client_core.specs.declared.outcome.Outcome.{Outcome}
use Rattle.client_core.specs.declared.outcome.End.{End}
use Rattle.client_core.specs.declared.outcome.End.TheVariants.{Commit, ReadOnly, Fault}
use Rattle.client_core.specs.Ends.{version_of}
use Rattle.client_core.specs.Legal.{Ground, IsUpto, ops_of, HasCause, IsEnd}
use Rattle.client_core.proofs.Lists.{in_more}

-- With these jobs and this history all stands that was so up to a time.
pub record GoesOn (ground : Ground) (time : ℕ) (logged : List (List KeyRange)) (history : List Entry) : Type 0 where
  pub logs : (ranges : List KeyRange) → IsIn ranges ground.logged → IsIn ranges logged
  pub reads : (version : ℕ) (ops : List TxOp) → version ≤ time → reads_at ground.block history version ops ≡ reads_at ground.block ground.history version ops
  pub conflict : (read version : ℕ) (ops : List TxOp) → first_conflict ops read ground.history ≡ Some version → first_conflict ops read history ≡ Some version
  pub among : (entry : Entry) → IsIn entry ground.history → IsIn entry history

cause_kept : (ground : Ground) (time : ℕ) (logged : List (List KeyRange)) (history : List Entry) (ops : List TxOp) (read : ℕ) (fault : CommitFault) → GoesOn ground time logged history → HasCause ground ops read fault → HasCause (record ground { logged = logged; history = history }) ops read fault
cause_kept ground time logged history ops read (Outside index) g h = h
cause_kept ground time logged history ops read (KeyTooLarge index) g h = h
cause_kept ground time logged history ops read (ValueTooLarge index) g h = h
cause_kept ground time logged history ops read (TooLarge bytes) g h = h
cause_kept ground time logged history ops read (Locked uid) g h = record { entry = h.entry; among = g.among h.entry h.among; by = h.by }
cause_kept ground time logged history ops read (TooOld of oldest) g h = h
cause_kept ground time logged history ops read (NotCommitted version) g h = g.conflict read version ops h
cause_kept ground time logged history ops read (VersionsSpent version) g h = h
cause_kept ground time logged history ops read (LogTooLarge bytes) g h = record { ranges = h.ranges; among = g.logs h.ranges h.among; many = h.many; are = h.are }
cause_kept ground time logged history ops read NoMemory g h = absurd h

before : (version time : ℕ) → version ≤ time → version - 1 ≤ time
before version time l = omega arith

end_kept : (ground : Ground) (time : ℕ) (logged : List (List KeyRange)) (history : List Entry) (ops : List TxOp) (read : ℕ) (end : End) → GoesOn ground time logged history → read ≤ time → IsUpto time (version_of end) → IsEnd ground ops read end → IsEnd (record ground { logged = logged; history = history }) ops read end
end_kept ground time logged history ops read (Commit version reads) g l u h = (
  h.0 ∙ sym (g.reads read ops l),
  record {
    before = h.1.before;
    serial = g.reads (version - 1) (filter is_conflict_read ops) (before version time u) ∙ h.1.serial ∙ sym (g.reads read (filter is_conflict_read ops) l);
  },
)
end_kept ground time logged history ops read (ReadOnly reads) g l u h = (h.0, h.1 ∙ sym (g.reads read ops l))
end_kept ground time logged history ops read (Fault fault) g l u h = cause_kept ground time logged history ops read fault g h

pub ends_kept : (ground : Ground) (time : ℕ) (logged : List (List KeyRange)) (history : List Entry) (txns : List (List TxOp)) (outcomes : List Outcome) → GoesOn ground time logged history → AllByRecursion (λ (outcome : Outcome). outcome.read ≤ time) outcomes → AllByRecursion (λ (outcome : Outcome). IsUpto time (version_of outcome.end)) outcomes → AllByRecursion (λ (outcome : Outcome). IsEnd ground (ops_of txns outcome.place) outcome.read outcome.end) outcomes → AllByRecursion (λ (outcome : Outcome). IsEnd (record ground { logged = logged; history = history }) (ops_of txns outcome.place) outcome.read outcome.end) outcomes
ends_kept ground time logged history txns [] g s p h = tt
ends_kept ground time logged history txns (o ∷ os) g s p h = (end_kept ground time logged history (ops_of txns o.place) o.read o.end g s.0 p.0 h.0, ends_kept ground time logged history txns os g s.1 p.1 h.1)

-- ---- what goes on

pub waits : (ground : Ground) (time : ℕ) (more : List (List KeyRange)) → GoesOn ground time (ground.logged ++ more) ground.history
waits ground time more = record {
  logs = λ ranges i. in_more ranges ground.logged more i;
  reads = λ version ops l. refl;
  conflict = λ read version ops e. e;
  among = λ entry i. i;
}

pub enters : (ground : Ground) (time : ℕ) (entry : Entry) → time < entry.version → LeavesReads ground.block ground.history entry → GoesOn ground time ground.logged (ground.history ++ entry ∷ [])
enters ground time entry l leaves = record {
  logs = λ ranges i. i;
  reads = λ version ops k. leaves.reads version ops (let k2 : version ≤ time = k in omega arith);
  conflict = leaves.conflict;
  among = λ x i. in_more x ground.history (entry ∷ []) i;
}

pub same : (ground : Ground) (time : ℕ) → GoesOn ground time ground.logged ground.history
same ground time = record {
  logs = λ ranges i. i;
  reads = λ version ops l. refl;
  conflict = λ read version ops e. e;
  among = λ entry i. i;
}

pub still_upto : (time later : ℕ) (version : Option ℕ) → time ≤ later → IsUpto time version → IsUpto later version
still_upto time later None l u = tt
still_upto time later (Some version) l u = (let k : version ≤ time = u in omega arith)

-- The states of a history, and who holds its lock.
use Rattle.std.proofs.Common.{◌≡◌, ℕ, ◌+◌, ◌-◌, min, max, cond, List, [], ◌∷◌, ◌++◌, Option, None, refl, ap, ◌∙◌, arith}
use Rattle.fb_bytes.specs.Bytes.{Bytes}
use Rattle.mutations.specs.declared.batch.Batch.{Batch}
use Rattle.mutations.specs.declared.history.Entry.{Entry}
use Rattle.mutations.specs.Effects.{effects}
use Rattle.mutations.specs.Replay.{is_within, replayed}
use Rattle.mutations.specs.Histories.{batch_of, batches_of, state_at, lock_after, locked_since}
use Rattle.mutations.specs.Laws.{ReplayJoinLaw, ReplayAppendLaw, AppendLaw, StateLaw, LoggedStateLaw, LockLaw}
use Rattle.mutations.proofs.Replays.{within_is, above_within, replayed_join, replayed_append}
use Rattle.mutations.proofs.Logs.{logged_same}

pub replay_join : ReplayJoinLaw
replay_join limit batches low middle high key old r l g = replayed_join limit key batches low middle high old r l g

pub replay_append : ReplayAppendLaw
replay_append limit first second low high key old = replayed_append limit key first second low high old

batches_append : (xs : List Entry) (x : Entry) → batches_of (xs ++ x ∷ []) ≡ batches_of xs ++ batch_of x ∷ []
batches_append [] x = refl
batches_append (y ∷ ys) x = ap (λ (bs : List Batch). batch_of y ∷ bs) (batches_append ys x)

-- the state with one more entry
appended : (limit : ℕ) (history : List Entry) (entry : Entry) (version : ℕ) (key : Bytes) → state_at limit (history ++ entry ∷ []) version key ≡ cond (is_within 0 (version + 1) entry.version) (effects limit entry.muts key (state_at limit history version key)) (state_at limit history version key)
appended limit history entry version key = ap (λ (bs : List Batch). replayed limit bs 0 (version + 1) key None) (batches_append history entry) ∙ replayed_append limit key (batches_of history) (batch_of entry ∷ []) 0 (version + 1) None

pub append_law : AppendLaw
append_law limit history entry = record {
  later = λ version key h. appended limit history entry version key ∙ ap (λ t. cond t (effects limit entry.muts key (state_at limit history version key)) (state_at limit history version key)) (within_is 0 (version + 1) entry.version (omega arith) (omega arith));
  earlier = λ version key h. appended limit history entry version key ∙ ap (λ t. cond t (effects limit entry.muts key (state_at limit history version key)) (state_at limit history version key)) (above_within 0 (version + 1) entry.version (omega arith));
}

pub state_law : StateLaw
state_law limit history earlier version key r h = replayed_join limit key (batches_of history) 0 (earlier + 1) (version + 1) None r (omega arith) (omega arith)

pub logged_state : LoggedStateLaw
logged_state limit history ranges begin end key r positive le h =
    let first : begin - 1 + 1 ≡ begin = omega arith in
    let last : end - 1 + 1 ≡ end = omega arith in
    let low : max begin begin ≡ begin = omega arith in
    let high : min end end ≡ end = omega arith in
    logged_same limit key ranges h history begin end begin end _
    ∙ rw (low, high, first, last) (replayed_join limit key (batches_of history) 0 begin end None r (omega arith) le)

locked_append : (holder : Option ℕ) (xs : List Entry) (x : Entry) → locked_since holder (xs ++ x ∷ []) ≡ lock_after (locked_since holder xs) x.who
locked_append holder [] x = refl
locked_append holder (y ∷ ys) x = locked_append (lock_after holder y.who) ys x

pub lock_law : LockLaw
lock_law history entry = locked_append None history entry

-- The laws on clients, by those of databases.
use Rattle.std.specs.Prelude.{◌≡◌, ℕ, zero, suc, ◌+◌, ◌-◌, ◌≤◌, ◌<◌, Bool, true, false, cond, List, [], ◌∷◌, ◌++◌, length, Option, Some, None, slice_get, refl}
use Rattle.std.specs.List.{AllByRecursion}
use Rattle.std.proofs.Common.{ap, sym, ◌∙◌, subst, arith}
use Rattle.fb_bytes.specs.declared.KeyRange.{KeyRange}
use Rattle.fb_bytes.specs.Options.{IsIn, ◌>>=◌}
use Rattle.mutations.specs.declared.Entry.{Entry}
use Rattle.mutations.specs.declared.TxOp.{TxOp}
use Rattle.mutations.specs.Histories.{IsRising}
use Rattle.database.specs.declared.JobLog.{JobLog}
use Rattle.database.specs.Commits.{Scene}
use Rattle.client_core.specs.declared.outcome.Outcome.{Outcome}
use Rattle.client_core.specs.Clients.{ClientState, Try, next_ops, begun_at, who_of, after_try, outcome_of, try_of}
use Rattle.client_core.specs.Ends.{version_of, goes_again, next_place, next_attempt}
use Rattle.client_core.specs.Laws.{NewClientLaw, BeginLaw, IsSceneOf, TryLaw, WaitLaw, EntryLaw}
use Rattle.client_core.specs.Legal.{Ground, IsUpto, ops_of, txn_or_none, entries_by, committed, entry_of, IsEnd}
use Rattle.client_core.specs.Sound.{StandsAt, IsSoundClient}
use Rattle.client_core.proofs.Entries.{entries_by-other, own_entries, committed-snoc}
use Rattle.client_core.proofs.Following.{Follow-snoc, StandsAt-snoc, AreSince-snoc}
use Rattle.client_core.proofs.Grounds.{GoesOn, ends_kept, waits, enters, still_upto}
use Rattle.client_core.proofs.Known.{Known}
use Rattle.client_core.proofs.Lists.{All-snoc, All-weaker}
use Rattle.client_core.proofs.Trying.{ground_of, made}

-- ---- the start, and a begin

pub new_client_law : NewClientLaw
new_client_law ground time script empty = record {
  numbered = refl;
  tries = refl;
  legal = record { follow = tt; entries = ap (entries_by script.number) empty; since = tt; ends = tt };
  stands = (refl, refl);
  seen = tt;
  past = tt;
  begun = λ read e. (let no : None ≡ Some read = e in cc);
}

stands_same : (tries place attempt : ℕ) (outcomes : List Outcome) (client other : ClientState) → other.place ≡ client.place → other.tried ≡ client.tried → StandsAt tries place attempt outcomes client → StandsAt tries place attempt outcomes other
stands_same tries place attempt [] client other p t s = (ap (λ (n : ℕ). n + 1) p ∙ s.0, ap (λ (n : ℕ). n + 1) t ∙ s.1)
stands_same tries place attempt (o ∷ os) client other p t s = stands_same tries (next_place tries o) (next_attempt tries o) os client other p t s

with_begun : (ground : Ground) (time number : ℕ) (client : ClientState) → IsSoundClient ground time number client → IsSoundClient ground time number (record client { begun = Some time })
with_begun ground time number client h = record {
  numbered = h.numbered;
  tries = h.tries;
  legal = h.legal;
  stands = stands_same ground.tries 1 1 client.outcomes client (record client { begun = Some time }) refl refl h.stands;
  seen = h.seen;
  past = h.past;
  begun = λ read e. (let same : time ≡ read = cc in (omega arith, subst (λ (n : ℕ). AllByRecursion (λ (outcome : Outcome). IsUpto n (version_of outcome.end)) client.outcomes) same h.past));
}

begun_with : (ground : Ground) (time number : ℕ) (client begun : ClientState) (o : Option ℕ) (ops : Option (List TxOp)) → IsSoundClient ground time number client → begun_at time client o ops ≡ Some begun → IsSoundClient ground time number begun
begun_with ground time number client begun None (Some ops) h e = (let same : record client { begun = Some time } ≡ begun = cc in subst (λ (c : ClientState). IsSoundClient ground time number c) same (with_begun ground time number client h))
begun_with ground time number client begun None None h e = cc
begun_with ground time number client begun (Some read) ops h e = cc

pub begin_law : BeginLaw
begin_law ground time number client begun h e = begun_with ground time number client begun client.begun (next_ops client) h e

-- ---- what comes beside the client's own tries

-- all that stands is kept where the ground goes on, and the client's entries are the same
goes_on : (ground : Ground) (time new number : ℕ) (logged : List (List KeyRange)) (history : List Entry) (client : ClientState) → time ≤ new → GoesOn ground time logged history → entries_by number history ≡ entries_by number ground.history → IsSoundClient ground time number client → IsSoundClient (record ground { logged = logged; history = history }) new number client
goes_on ground time new number logged history client l g e h = record {
  numbered = h.numbered;
  tries = h.tries;
  legal = record {
    follow = h.legal.follow;
    entries = e ∙ h.legal.entries;
    since = h.legal.since;
    ends = ends_kept ground time logged history client.script.txns client.outcomes g h.seen h.past h.legal.ends;
  };
  stands = h.stands;
  seen = All-weaker (λ (outcome : Outcome). outcome.read ≤ time) (λ (outcome : Outcome). outcome.read ≤ new) client.outcomes (λ outcome r. (let q : outcome.read ≤ time = r in omega arith)) h.seen;
  past = All-weaker (λ (outcome : Outcome). IsUpto time (version_of outcome.end)) (λ (outcome : Outcome). IsUpto new (version_of outcome.end)) client.outcomes (λ outcome u. still_upto time new (version_of outcome.end) l u) h.past;
  begun = λ read b. (let q = h.begun read b in (let r : read ≤ time = q.0 in omega arith, q.1));
}

pub wait_law : WaitLaw
wait_law ground time later number more client l h = goes_on ground time later number (ground.logged ++ more) ground.history client l (waits ground time more) refl h

pub entry_law : Known → EntryLaw
entry_law known ground time number entry client l other h = goes_on ground time entry.version number ground.logged (ground.history ++ entry ∷ []) client (let k : time < entry.version = l in omega arith) (enters ground time entry l (known.leaves ground.block ground.history entry)) (entries_by-other number ground.history entry other) h

-- ---- a try

place_after : (b : Bool) (place number : ℕ) → number ≡ place + 1 → cond b place (place + 1) + 1 ≡ cond b number (number + 1)
place_after true place number e = sym e
place_after false place number e = ap (λ (n : ℕ). n + 1) (sym e)

try_after : (b : Bool) (tried attempt : ℕ) → attempt ≡ tried + 1 → cond b (tried + 1) 0 + 1 ≡ cond b (attempt + 1) 1
try_after true tried attempt e = ap (λ (n : ℕ). n + 1) (sym e)
try_after false tried attempt e = refl

found : (txns : List (List TxOp)) (place number : ℕ) (ops : List TxOp) → number ≡ place + 1 → slice_get txns place ≡ Some ops → ops_of txns number ≡ ops
found txns place number ops e at = (let back : number - 1 ≡ place = omega arith in ap (λ (n : ℕ). txn_or_none (slice_get txns n)) back ∙ ap txn_or_none at)

within : (txns : List (List TxOp)) (place : ℕ) (ops : List TxOp) → slice_get txns place ≡ Some ops → place + 1 ≤ length txns
within [] zero ops at = cc
within [] (suc place) ops at = cc
within (x ∷ xs) zero ops at = (let n : 0 + 1 ≤ suc (length xs) = omega arith in n)
within (x ∷ xs) (suc place) ops at = (let l : place + 1 ≤ length xs = within xs place ops at in let n : suc place + 1 ≤ suc (length xs) = omega arith in n)

-- a client with one more outcome, over the ground that its try leaves
with_outcome : (ground : Ground) (time new number : ℕ) (history : List Entry) (client : ClientState) (outcome : Outcome) (ops : List TxOp) → IsSoundClient ground time number client → time ≤ new → outcome.place ≡ client.place + 1 → outcome.attempt ≡ client.tried + 1 → client.begun ≡ Some outcome.read → next_ops client ≡ Some ops → entries_by number history ≡ entries_by number ground.history ++ entry_of number outcome ops (version_of outcome.end) → GoesOn ground time ground.logged history → IsEnd (record ground { history = history }) ops outcome.read outcome.end → IsUpto new (version_of outcome.end) → IsSoundClient (record ground { history = history }) new number (after_try client outcome)
with_outcome ground time new number history client outcome ops h l place attempt begun next entries g end upto =
    let at : ops_of client.script.txns outcome.place ≡ ops = found client.script.txns client.place outcome.place ops place next in
    let since = h.begun outcome.read begun in
    record {
      numbered = h.numbered;
      tries = h.tries;
      legal = record {
        follow = Follow-snoc ground.tries (length client.script.txns) 1 1 client.outcomes outcome client h.legal.follow h.stands place attempt (within client.script.txns client.place ops next);
        entries =
            entries
            ∙ ap (λ (xs : List Entry). xs ++ entry_of number outcome ops (version_of outcome.end)) h.legal.entries
            ∙ ap (λ (xs : List TxOp). committed number client.script.txns client.outcomes ++ entry_of number outcome xs (version_of outcome.end)) (sym at)
            ∙ sym (committed-snoc number client.script.txns client.outcomes outcome);
        since = AreSince-snoc client.outcomes outcome h.legal.since since.1;
        ends = All-snoc (λ (o : Outcome). IsEnd (record ground { history = history }) (ops_of client.script.txns o.place) o.read o.end) client.outcomes outcome
            (ends_kept ground time ground.logged history client.script.txns client.outcomes g h.seen h.past h.legal.ends)
            (subst (λ (xs : List TxOp). IsEnd (record ground { history = history }) xs outcome.read outcome.end) (sym at) end);
      };
      stands = StandsAt-snoc ground.tries 1 1 client.outcomes outcome (after_try client outcome)
          (place_after (goes_again client.tries outcome) client.place outcome.place place ∙ ap (λ (n : ℕ). next_place n outcome) h.tries)
          (try_after (goes_again client.tries outcome) client.tried outcome.attempt attempt ∙ ap (λ (n : ℕ). next_attempt n outcome) h.tries);
      seen = All-snoc (λ (o : Outcome). o.read ≤ new) client.outcomes outcome
          (All-weaker (λ (o : Outcome). o.read ≤ time) (λ (o : Outcome). o.read ≤ new) client.outcomes (λ o r. (let q : o.read ≤ time = r in omega arith)) h.seen)
          (let r : outcome.read ≤ time = since.0 in omega arith);
      past = All-snoc (λ (o : Outcome). IsUpto new (version_of o.end)) client.outcomes outcome
          (All-weaker (λ (o : Outcome). IsUpto time (version_of o.end)) (λ (o : Outcome). IsUpto new (version_of o.end)) client.outcomes (λ o u. still_upto time new (version_of o.end) l u) h.past)
          upto;
      begun = λ read b. (let no : None ≡ Some read = b in cc);
    }

-- over the scene's own ground
tried : (known : Known) (scene : Scene) (tries : ℕ) (logged : List (List KeyRange)) (number : ℕ) (client : ClientState) (read : ℕ) (ops : List TxOp) → 1 ≤ scene.pace → IsRising scene.history → AllByRecursion (λ (log : JobLog). IsIn log.ranges logged) scene.logs → client.begun ≡ Some read → next_ops client ≡ Some ops → IsSoundClient (ground_of scene tries logged) scene.time number client → IsSoundClient (record (ground_of scene tries logged) { history = (try_of scene client read ops).history }) (try_of scene client read ops).time number (try_of scene client read ops).client
tried known scene tries logged number client read ops pace rising logs begun next h =
    let m = made known scene tries logged (who_of client) read ops pace rising logs (h.begun read begun).0 in
    with_outcome (ground_of scene tries logged) scene.time (try_of scene client read ops).time number (try_of scene client read ops).history client (outcome_of scene client read ops) ops h m.since refl refl begun next
    (own_entries number client.script.number (outcome_of scene client read ops) ops (version_of (outcome_of scene client read ops).end) scene.history h.numbered)
    m.goes_on m.is_end m.upto

-- over a ground that is the scene's
same_ground : (ground : Ground) (time : ℕ) (scene : Scene) → IsSceneOf ground time scene → ground ≡ ground_of scene ground.tries ground.logged
same_ground ground time scene s =
    ap (λ (n : ℕ). record ground { block = n }) (sym s.block)
    ∙ ap (λ (n : ℕ). record ground { block = scene.block; pace = n }) (sym s.pace)
    ∙ ap (λ (xs : List Entry). record ground { block = scene.block; pace = scene.pace; history = xs }) (sym s.history)

tried_on : (known : Known) (ground : Ground) (time number : ℕ) (client : ClientState) (scene : Scene) (read : ℕ) (ops : List TxOp) → IsSceneOf ground time scene → client.begun ≡ Some read → next_ops client ≡ Some ops → IsSoundClient ground time number client → IsSoundClient (record ground { history = (try_of scene client read ops).history }) (try_of scene client read ops).time number (try_of scene client read ops).client
tried_on known ground time number client scene read ops s begun next h =
    let own : IsSoundClient (ground_of scene ground.tries ground.logged) scene.time number client =
    subst (λ (n : ℕ). IsSoundClient (ground_of scene ground.tries ground.logged) n number client) (sym s.time_is)
    (subst (λ (g : Ground). IsSoundClient g time number client) (same_ground ground time scene s) h) in
    let rising : IsRising scene.history = subst (λ (xs : List Entry). IsRising xs) (sym s.history) s.rising in
    subst (λ (g : Ground). IsSoundClient (record g { history = (try_of scene client read ops).history }) (try_of scene client read ops).time number (try_of scene client read ops).client) (sym (same_ground ground time scene s))
    (tried known scene ground.tries ground.logged number client read ops s.forward rising s.logs begun next own)

try_with_ops : (known : Known) (ground : Ground) (time number : ℕ) (client : ClientState) (scene : Scene) (try : Try) (o : Option ℕ) (found : Option (List TxOp)) → client.begun ≡ o → next_ops client ≡ found → IsSceneOf ground time scene → (o >>= λ read. found >>= λ ops. Some (try_of scene client read ops)) ≡ Some try → IsSoundClient ground time number client → IsSoundClient (record ground { history = try.history }) try.time number try.client
try_with_ops known ground time number client scene try None found b n s e h = cc
try_with_ops known ground time number client scene try (Some read) None b n s e h = cc
try_with_ops known ground time number client scene try (Some read) (Some ops) b n s e h =
    let same : try_of scene client read ops ≡ try = cc in
    subst (λ (t : Try). IsSoundClient (record ground { history = t.history }) t.time number t.client) same (tried_on known ground time number client scene read ops s b n h)

pub try_law : Known → TryLaw
try_law known ground time number client scene try h s e = try_with_ops known ground time number client scene try client.begun (next_ops client) refl refl s e h

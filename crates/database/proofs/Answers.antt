-- What a commit answers, by what was found on the way.
use Rattle.std.specs.Prelude.{◌≡◌, ◌≢◌, ℕ, ◌+◌, ◌<◌, ◌≤◌, Bool, true, false, List, [], ◌∷◌, Option, Some, None, Result, Ok, Err, IfOk, IfErr, option_map, nat_lt, if◌then◌else◌, refl}
use Rattle.std.proofs.Common.{ap, sym, subst, ◌∙◌}
use Rattle.std.proofs.lemmas.Bool.{cond-true, cond-false, lt-ltb, le-ltb}
use Rattle.block_frame.specs.Profiles.{key_limit_of, limit_of}
use Rattle.mutations.specs.declared.Entry.{Entry}
use Rattle.mutations.specs.declared.Mutation.{Mutation}
use Rattle.mutations.specs.declared.TxOp.{TxOp}
use Rattle.mutations.specs.declared.TxFault.{TxFault}
use Rattle.mutations.specs.Histories.{locked}
use Rattle.mutations.specs.Transactions.{tx_fault, writes_of, ◌or_else◌}
use Rattle.versioned_kv.specs.declared.Versions.{Versions}
use Rattle.database.specs.Faults.{of_transaction}
use Rattle.database.specs.Logs.{JobLog}
use Rattle.database.specs.declared.commit_fault.CommitFault.{CommitFault}
use Rattle.database.specs.declared.commit_fault.CommitFault.TheVariants.{Locked, TooOld, NotCommitted, VersionsSpent}
use Rattle.database.specs.inner.Conflicts.{conflict_of}
use Rattle.database.specs.Commits.{Database, scene_of, oldest_at, age_fault, conflict_fault, commit_answer, unless_fault, unless_large, large_in, version_taken, most_version}

-- without writes no version is taken
pub version_taken-none : (time pace : ℕ) (logs : List JobLog) (muts : List Mutation) → muts ≡ [] → Ok None ≡ version_taken time pace logs muts
version_taken-none time pace logs muts h = ap (version_taken time pace logs) (sym h)

by_next : {A : Type 0} (test : Bool) (next version : ℕ) (fault : A) (answer : ℕ → A) → Some version ≡ (if test then None else Some next) → answer version ≡ (if test then fault else answer next)
by_next true next version fault answer h = cc
by_next false next version fault answer h = let e : version ≡ next = cc in ap answer e

by_none : {A : Type 0} (test : Bool) (next : ℕ) (fault answer : A) → None ≡ (if test then None else Some next) → fault ≡ (if test then fault else answer)
by_none true next fault answer h = refl
by_none false next fault answer h = cc

-- with writes the next version is taken where there is one and no log takes too many bytes
pub version_taken-some : (time pace version : ℕ) (logs : List JobLog) (muts : List Mutation) → muts ≢ [] → Some version ≡ (if nat_lt most_version (time + pace) then None else Some (time + pace)) → unless_large (large_in logs muts) version ≡ version_taken time pace logs muts
version_taken-some time pace version logs [] h e = absurd (h refl)
version_taken-some time pace version logs (m ∷ ms) h e = by_next _ _ _ _ (unless_large (large_in logs (m ∷ ms))) e

pub version_taken-spent : (time pace : ℕ) (logs : List JobLog) (muts : List Mutation) → muts ≢ [] → None ≡ (if nat_lt most_version (time + pace) then None else Some (time + pace)) → Err (VersionsSpent time) ≡ version_taken time pace logs muts
version_taken-spent time pace logs [] h e = absurd (h refl)
version_taken-spent time pace logs (m ∷ ms) h e = by_none _ _ _ _ e

-- ---- answers of calls

pub if_ok : {X E : Type 0} (P Q : X → Type 0) → ((x : X) → P x → Q x) → (r : Result X E) → IfOk r P → IfOk r Q
if_ok P Q f (Ok x) h = f x h
if_ok P Q f (Err e) h = tt

pub if_err : {X E : Type 0} (P Q : E → Type 0) → ((e : E) → P e → Q e) → (r : Result X E) → IfErr r P → IfErr r Q
if_err P Q f (Ok x) h = tt
if_err P Q f (Err e) h = f e h

-- the next version, where there is one
pub some_next : (time pace version : ℕ) → Some version ≡ (if nat_lt most_version (time + pace) then None else Some (time + pace)) → version ≡ time + pace
some_next time pace version h = go (nat_lt most_version (time + pace)) h
  where
    go : (b : Bool) → Some version ≡ (if b then None else Some (time + pace)) → version ≡ time + pace
    go true e = cc
    go false e = cc

-- ---- a commit's answer by what was found on the way

pub own_fault : (block key value : ℕ) (ops read : List TxOp) (found : Option TxFault) → key ≡ key_limit_of block → value ≡ limit_of block → read ≡ ops → found ≡ tx_fault key value read → tx_fault (key_limit_of block) (limit_of block) ops ≡ found
own_fault block key value ops read found k v r e =
    ap (λ x. tx_fault x (limit_of block) ops) (sym k) ∙ ap (λ x. tx_fault key x ops) (sym v) ∙ ap (tx_fault key value) (sym r) ∙ sym e

pub age_old : (time read oldest : ℕ) → oldest ≡ oldest_at time → read < oldest → age_fault time read ≡ Some (TooOld read oldest)
age_old time read oldest e l =
    cond-true (nat_lt read (oldest_at time)) (Some (TooOld read (oldest_at time))) None (lt-ltb read (oldest_at time) (subst (λ n. read < n) e l)) ∙ ap (λ n. Some (TooOld read n)) (sym e)

pub age_young : (time read oldest : ℕ) → oldest ≡ oldest_at time → oldest ≤ read → age_fault time read ≡ None
age_young time read oldest e l = cond-false (nat_lt read (oldest_at time)) (Some (TooOld read (oldest_at time))) None (le-ltb read (oldest_at time) (subst (λ n. n ≤ read) e l))

conflict_is : (muts : List Mutation) (ops : List TxOp) (read : ℕ) (history : List Entry) → conflict_fault muts ops read history ≡ option_map NotCommitted (conflict_of muts ops read history)
conflict_is [] ops read history = refl
conflict_is (m ∷ ms) ops read history = refl

pub conflict_found : (muts : List Mutation) (ops : List TxOp) (read : ℕ) (history seen : List Entry) (found : Option ℕ) → seen ≡ history → found ≡ conflict_of muts ops read seen → conflict_fault muts ops read history ≡ option_map NotCommitted found
conflict_found muts ops read history seen found s e = conflict_is muts ops read history ∙ ap (option_map NotCommitted) (ap (conflict_of muts ops read) (sym s) ∙ sym e)

-- the answer by what each test found
abbrev pub answer_by : Option TxFault → Option ℕ → Option CommitFault → Option CommitFault → Result (Option ℕ) CommitFault → Result (Option ℕ) CommitFault
answer_by own holder age conflict taken = unless_fault (option_map of_transaction own or_else option_map Locked holder or_else age or_else conflict) taken

pub answer_is : (view db : Database) (versions : Versions) (read : ℕ) (ops : List TxOp) (logs : List JobLog) (own : Option TxFault) (holder : Option ℕ) (age conflict : Option CommitFault) → view ≡ db
    → tx_fault (key_limit_of view.block) (limit_of view.block) ops ≡ own → locked view.history ≡ holder → age_fault versions.now read ≡ age → conflict_fault (writes_of ops) ops read view.history ≡ conflict → logs ≡ view.logs
    → commit_answer (scene_of db versions) read ops ≡ answer_by own holder age conflict (version_taken versions.now versions.pace logs (writes_of ops))
answer_is view db versions read ops logs own holder age conflict v o h a f l =
    let taken = version_taken versions.now versions.pace view.logs (writes_of ops) in
    ap (λ (d : Database). commit_answer (scene_of d versions) read ops) (sym v)
    ∙ ap (λ x. answer_by x (locked view.history) (age_fault versions.now read) (conflict_fault (writes_of ops) ops read view.history) taken) o
    ∙ ap (λ x. answer_by own x (age_fault versions.now read) (conflict_fault (writes_of ops) ops read view.history) taken) h
    ∙ ap (λ x. answer_by own holder x (conflict_fault (writes_of ops) ops read view.history) taken) a
    ∙ ap (λ x. answer_by own holder age x taken) f
    ∙ ap (λ (xs : List JobLog). answer_by own holder age conflict (version_taken versions.now versions.pace xs (writes_of ops))) (sym l)

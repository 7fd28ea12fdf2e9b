-- The entries past a version, and the first of them with which operations conflict.
use Rattle.std.proofs.Common.{◌≡◌, ◌≢◌, ℕ, suc, ◌+◌, ◌<◌, ◌≤◌, nat_le, Bool, true, false, ◌&&◌, cond, List, [], ◌∷◌, drop, Option, Some, None, refl, sym, ap, ◌∙◌, arith}
use Rattle.std.specs.List.{AllByRecursion, prefix_len}
use Rattle.std.proofs.lemmas.Bool.{leb-true, leb-false, lt-leb, lt-ltb, le-ltb}
use Rattle.fb_bytes.proofs.Halving.{Falls}
use Rattle.mutations.specs.declared.Batch.{Batch}
use Rattle.mutations.specs.declared.Entry.{Entry}
use Rattle.mutations.specs.declared.Mutation.{Mutation}
use Rattle.mutations.specs.declared.TxOp.{TxOp}
use Rattle.mutations.specs.Histories.{batches_of, IsRising}
use Rattle.mutations.proofs.Basics.{all_weaker}
use Rattle.database.specs.Reads.{have_conflict, first_conflict}
use Rattle.database.specs.inner.Conflicts.{conflict_in, conflict_of}

-- an entry at the version or below it
abbrev pub is_seen : ℕ → Entry → Bool
is_seen read entry = nat_le entry.version read

-- all later than the first one
later_than : (low version : ℕ) (history : List Entry) → low ≤ version → AllByRecursion (λ (y : Batch). version < y.version) (batches_of history) → AllByRecursion (λ (entry : Entry). low < entry.version) history
later_than low version [] l h = tt
later_than low version (x ∷ xs) l h = let a = h.0 in (omega arith, later_than low version xs l h.1)

unseen : (read : ℕ) (history : List Entry) → AllByRecursion (λ (entry : Entry). read < entry.version) history → AllByRecursion (λ (entry : Entry). is_seen read entry ≡ false) history
unseen read history h = all_weaker (λ (entry : Entry). read < entry.version) (λ (entry : Entry). is_seen read entry ≡ false) (λ entry l. lt-leb entry.version read l) history h

past_first : (read : ℕ) (x : Entry) (xs : List Entry) → is_seen read x ≡ false → AllByRecursion (λ (y : Batch). x.version < y.version) (batches_of xs) → AllByRecursion (λ (entry : Entry). read < entry.version) xs
past_first read x xs e h = later_than read x.version xs (let l = leb-false x.version read e in omega arith) h

pub seen_falls : (read : ℕ) (history : List Entry) → IsRising history → Falls (is_seen read) history
seen_falls read [] h = tt
seen_falls read (x ∷ xs) h = ((λ e. unseen read xs (past_first read x xs e h.0)), seen_falls read xs h.1)

-- where all entries are past the version
all_past : (ops : List TxOp) (read : ℕ) (history : List Entry) → AllByRecursion (λ (entry : Entry). read < entry.version) history → conflict_in ops history ≡ first_conflict ops read history
all_past ops read [] h = refl
all_past ops read (x ∷ xs) h =
    ap (λ (o : Option ℕ). cond (have_conflict ops x.muts) (Some x.version) o) (all_past ops read xs h.1)
    ∙ sym (ap (λ (b : Bool). cond (b && have_conflict ops x.muts) (Some x.version) (first_conflict ops read xs)) (lt-ltb read x.version h.0))

pub since_is : (ops : List TxOp) (read : ℕ) (history : List Entry) → IsRising history → conflict_in ops (drop (prefix_len (is_seen read) history) history) ≡ first_conflict ops read history
since_is ops read [] h = refl
since_is ops read (x ∷ xs) h = go (is_seen read x) refl (since_is ops read xs h.1)
  where
    go : (b : Bool) → is_seen read x ≡ b → conflict_in ops (drop (prefix_len (is_seen read) xs) xs) ≡ first_conflict ops read xs → conflict_in ops (drop (cond b (1 + prefix_len (is_seen read) xs) 0) (x ∷ xs)) ≡ first_conflict ops read (x ∷ xs)
    go true e ih =
        let one : 1 + prefix_len (is_seen read) xs ≡ suc (prefix_len (is_seen read) xs) = omega arith in
        ap (λ n. conflict_in ops (drop n (x ∷ xs))) one ∙ ih
        ∙ sym (ap (λ (b : Bool). cond (b && have_conflict ops x.muts) (Some x.version) (first_conflict ops read xs)) (le-ltb read x.version (leb-true x.version read e)))
    go false e ih = all_past ops read (x ∷ xs) (let l = leb-false x.version read e in omega arith, past_first read x xs e h.0)

-- with writes
pub conflict_with : (muts : List Mutation) (ops read_ops : List TxOp) (read : ℕ) (history since : List Entry) (found : Option ℕ) → muts ≢ [] → read_ops ≡ ops → IsRising history → since ≡ drop (prefix_len (is_seen read) history) history → found ≡ conflict_in read_ops since → found ≡ conflict_of muts ops read history
conflict_with [] ops read_ops read history since found n o h s f = absurd (n refl)
conflict_with (m ∷ ms) ops read_ops read history since found n o h s f =
    f ∙ ap (λ (xs : List TxOp). conflict_in xs since) o ∙ ap (conflict_in ops) s ∙ since_is ops read history h

pub conflict_without : (muts : List Mutation) (ops : List TxOp) (read : ℕ) (history : List Entry) → muts ≡ [] → None ≡ conflict_of muts ops read history
conflict_without muts ops read history e = sym (ap (λ (xs : List Mutation). conflict_of xs ops read history) e)

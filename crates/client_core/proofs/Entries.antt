-- A client's entries in a longer history, and in more outcomes.
use Rattle.std.specs.Prelude.{◌≡◌, ℕ, Bool, true, false, cond, List, [], ◌∷◌, ◌++◌, Option, Some, None, refl}
use Rattle.std.proofs.Common.{ap, sym, ◌∙◌, append_assoc}
use Rattle.std.proofs.lemmas.Bool.{eq-eqb}
use Rattle.mutations.specs.declared.Entry.{Entry}
use Rattle.mutations.specs.declared.Who.TheVariants as who
use Rattle.mutations.specs.declared.TxOp.{TxOp}
use Rattle.mutations.specs.Transactions.{writes_of}
use Rattle.database.specs.Commits.{history_after}
use Rattle.client_core.specs.declared.outcome.Outcome.{Outcome}
use Rattle.client_core.specs.Ends.{version_of}
use Rattle.client_core.specs.Legal.{is_by, entries_by, entry_of, ops_of, committed}
use Rattle.client_core.proofs.Lists.{append_nil}

in_front : (x : Entry) (b : Bool) (all old new : List Entry) → all ≡ old ++ new → cond b (x ∷ all) all ≡ cond b (x ∷ old) old ++ new
in_front x true all old new e = ap (λ ys. x ∷ ys) e
in_front x false all old new e = e

pub entries_by-append : (client : ℕ) (history more : List Entry) → entries_by client (history ++ more) ≡ entries_by client history ++ entries_by client more
entries_by-append client [] more = refl
entries_by-append client (x ∷ xs) more = in_front x (is_by client x.who) _ _ _ (entries_by-append client xs more)

-- an entry by somebody else is none of the client's
pub entries_by-other : (client : ℕ) (history : List Entry) (entry : Entry) → is_by client entry.who ≡ false → entries_by client (history ++ entry ∷ []) ≡ entries_by client history
entries_by-other client history entry e =
    entries_by-append client history (entry ∷ [])
    ∙ ap (λ (b : Bool). entries_by client history ++ cond b (entry ∷ []) []) e
    ∙ append_nil (entries_by client history)

by_own : (client number place version : ℕ) (ops : List TxOp) → number ≡ client → entries_by client (record { version = version; who = who.Client number place; muts = writes_of ops } ∷ []) ≡ record { version = version; who = who.Client client place; muts = writes_of ops } ∷ []
by_own client number place version ops e =
    ap (λ (b : Bool). cond b (record { version = version; who = who.Client number place; muts = writes_of ops } ∷ []) []) (eq-eqb number client e)
    ∙ ap (λ (k : ℕ). record { version = version; who = who.Client k place; muts = writes_of ops } ∷ []) e

-- the entry of a try is its client's
pub own_entries : (client number : ℕ) (outcome : Outcome) (ops : List TxOp) (o : Option ℕ) (history : List Entry) → number ≡ client → entries_by client (history_after o (who.Client number outcome.place) (writes_of ops) history) ≡ entries_by client history ++ entry_of client outcome ops o
own_entries client number outcome ops None history e = sym (append_nil (entries_by client history))
own_entries client number outcome ops (Some version) history e =
    entries_by-append client history (record { version = version; who = who.Client number outcome.place; muts = writes_of ops } ∷ [])
    ∙ ap (λ xs. entries_by client history ++ xs) (by_own client number outcome.place version ops e)

pub committed-snoc : (client : ℕ) (txns : List (List TxOp)) (outcomes : List Outcome) (outcome : Outcome) → committed client txns (outcomes ++ outcome ∷ []) ≡ committed client txns outcomes ++ entry_of client outcome (ops_of txns outcome.place) (version_of outcome.end)
committed-snoc client txns [] outcome = append_nil (entry_of client outcome (ops_of txns outcome.place) (version_of outcome.end))
committed-snoc client txns (o ∷ os) outcome =
    ap (λ ys. entry_of client o (ops_of txns o.place) (version_of o.end) ++ ys) (committed-snoc client txns os outcome)
    ∙ sym (append_assoc (entry_of client o (ops_of txns o.place) (version_of o.end)) (committed client txns os) (entry_of client outcome (ops_of txns outcome.place) (version_of outcome.end)))

-- One more outcome of a script.
use Rattle.std.specs.Prelude.{◌≡◌, ℕ, ◌+◌, ◌≤◌, List, [], ◌∷◌, ◌++◌}
use Rattle.std.specs.List.{AllByRecursion}
use Rattle.std.proofs.Common.{◌∙◌, subst}
use Rattle.client_core.specs.declared.outcome.Outcome.{Outcome}
use Rattle.client_core.specs.Clients.{ClientState}
use Rattle.client_core.specs.Ends.{version_of, next_place, next_attempt}
use Rattle.client_core.specs.Legal.{Follow, IsUpto, AreSince}
use Rattle.client_core.specs.Sound.{StandsAt}
use Rattle.client_core.proofs.Lists.{All-snoc}

-- the try at which the client stands is the next outcome
pub Follow-snoc : (tries count place attempt : ℕ) (outcomes : List Outcome) (outcome : Outcome) (client : ClientState) → Follow tries count place attempt outcomes → StandsAt tries place attempt outcomes client → outcome.place ≡ client.place + 1 → outcome.attempt ≡ client.tried + 1 → client.place + 1 ≤ count → Follow tries count place attempt (outcomes ++ outcome ∷ [])
Follow-snoc tries count place attempt [] outcome client f s p a l = (p ∙ s.0, a ∙ s.1, subst (λ (n : ℕ). n ≤ count) s.0 l, tt)
Follow-snoc tries count place attempt (o ∷ os) outcome client f s p a l = (f.0, f.1, f.2, Follow-snoc tries count (next_place tries o) (next_attempt tries o) os outcome client f.3 s p a l)

pub StandsAt-snoc : (tries place attempt : ℕ) (outcomes : List Outcome) (outcome : Outcome) (client : ClientState) → client.place + 1 ≡ next_place tries outcome → client.tried + 1 ≡ next_attempt tries outcome → StandsAt tries place attempt (outcomes ++ outcome ∷ []) client
StandsAt-snoc tries place attempt [] outcome client p a = (p, a)
StandsAt-snoc tries place attempt (o ∷ os) outcome client p a = StandsAt-snoc tries (next_place tries o) (next_attempt tries o) os outcome client p a

pub AreSince-snoc : (outcomes : List Outcome) (outcome : Outcome) → AreSince outcomes → AllByRecursion (λ (earlier : Outcome). IsUpto outcome.read (version_of earlier.end)) outcomes → AreSince (outcomes ++ outcome ∷ [])
AreSince-snoc [] outcome s a = (tt, tt)
AreSince-snoc (o ∷ os) outcome s a = (All-snoc (λ (later : Outcome). IsUpto later.read (version_of o.end)) os outcome s.0 a.0, AreSince-snoc os outcome s.1 a.1)

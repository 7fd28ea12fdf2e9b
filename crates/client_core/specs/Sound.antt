-- What is kept of a client and its database.
use Rattle.std.specs.Prelude.{◌≡◌, ℕ, ◌+◌, ◌≤◌, List, [], ◌∷◌, Some}
use Rattle.std.specs.List.{AllByRecursion}
use Rattle.client_core.specs.declared.outcome.Outcome.{Outcome}
use Rattle.client_core.specs.Clients.{ClientState}
use Rattle.client_core.specs.Ends.{version_of, next_place, next_attempt}
use Rattle.client_core.specs.Legal.{Ground, IsUpto, IsLegal}

-- The client stands at the try to which its outcomes have come: at this one, where there are none.
abbrev pub StandsAt : ℕ → ℕ → ℕ → List Outcome → ClientState → Type 0
StandsAt tries place attempt [] client =
    (client.place + 1 ≡ place) × (client.tried + 1 ≡ attempt)
StandsAt tries place attempt (outcome ∷ outcomes) client =
    StandsAt tries (next_place tries outcome) (next_attempt tries outcome) outcomes client

-- The client's outcomes are legal, and it goes on from them. What it has begun sees a version that
-- isn't past the newest one, and not before its own commits.
pub record IsSoundClient (ground : Ground) (time number : ℕ) (client : ClientState)
    : Type 0 where
  pub numbered : client.script.number ≡ number
  pub tries : client.tries ≡ ground.tries
  pub legal : IsLegal ground number client.script.txns client.outcomes
  pub stands : StandsAt ground.tries 1 1 client.outcomes client
  pub seen : AllByRecursion (λ (outcome : Outcome). outcome.read ≤ time) client.outcomes
  -- no commit of it is past the newest version
  pub past : AllByRecursion (λ (outcome : Outcome). IsUpto time (version_of outcome.end))
      client.outcomes
  pub begun : (read : ℕ) → client.begun ≡ Some read → (read ≤ time)
      × AllByRecursion (λ (outcome : Outcome). IsUpto read (version_of outcome.end))
      client.outcomes

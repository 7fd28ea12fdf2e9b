-- What begins, tries and other entries leave of a client's soundness.
use Rattle.std.specs.Prelude.{◌≡◌, ℕ, ◌<◌, ◌≤◌, false, List, [], ◌∷◌, ◌++◌, Some}
use Rattle.std.specs.List.{AllByRecursion}
use Rattle.fb_bytes.specs.declared.KeyRange.{KeyRange}
use Rattle.fb_bytes.specs.Options.{IsIn}
use Rattle.mutations.specs.declared.Entry.{Entry}
use Rattle.mutations.specs.Histories.{IsRising}
use Rattle.workload_text.specs.declared.ClientScript.{ClientScript}
use Rattle.database.specs.Commits.{Scene}
use Rattle.database.specs.declared.JobLog.{JobLog}
use Rattle.client_core.specs.Clients.{ClientState, Try, new_client, begun_client, commit_try}
use Rattle.client_core.specs.Legal.{Ground, is_by}
use Rattle.client_core.specs.Sound.{IsSoundClient}

-- a client at the start is sound, where there is no entry yet
abbrev pub NewClientLaw : Type 0
NewClientLaw =
    (ground : Ground) (time : ℕ) (script : ClientScript) → ground.history ≡ []
    → IsSoundClient ground time script.number (new_client ground.tries script)

-- a begin keeps it
abbrev pub BeginLaw : Type 0
BeginLaw =
    (ground : Ground) (time number : ℕ) (client begun : ClientState)
    → IsSoundClient ground time number client → begun_client time client ≡ Some begun
    → IsSoundClient ground time number begun

-- The scene in which a try is made is the ground's, of this time; each entry is at or before it,
-- and each job that logs is one of the ground's.
pub record IsSceneOf (ground : Ground) (time : ℕ) (scene : Scene) : Type 0 where
  pub block : scene.block ≡ ground.block
  pub time_is : scene.time ≡ time
  pub pace : scene.pace ≡ ground.pace
  pub forward : 1 ≤ scene.pace
  pub history : scene.history ≡ ground.history
  pub rising : IsRising ground.history
  pub past : AllByRecursion (λ (entry : Entry). entry.version ≤ time) ground.history
  pub logs : AllByRecursion (λ (log : JobLog). IsIn log.ranges ground.logged) scene.logs

-- a try keeps it, over the history and the time that the try leaves
abbrev pub TryLaw : Type 0
TryLaw =
    (ground : Ground) (time number : ℕ) (client : ClientState) (scene : Scene) (try : Try)
    → IsSoundClient ground time number client → IsSceneOf ground time scene
    → commit_try scene client ≡ Some try
    → IsSoundClient (record ground { history = try.history }) try.time number try.client

-- What may come to a database beside what the client does: time, jobs, and an entry by somebody
-- else past that time.
abbrev pub WaitLaw : Type 0
WaitLaw =
    (ground : Ground) (time later number : ℕ) (more : List (List KeyRange)) (client : ClientState)
    → time ≤ later → IsSoundClient ground time number client
    → IsSoundClient (record ground { logged = ground.logged ++ more }) later number client

abbrev pub EntryLaw : Type 0
EntryLaw =
    (ground : Ground) (time number : ℕ) (entry : Entry) (client : ClientState)
    → time < entry.version → is_by number entry.who ≡ false
    → IsSoundClient ground time number client
    → IsSoundClient (record ground { history = ground.history ++ entry ∷ [] }) entry.version number
    client

-- What the outside does in a step, and what a step comes to.
use Rattle.std.specs.Prelude.{Bool, true, false, List, [], Option, Result, Err}
use Rattle.fb_bytes.specs.Bytes.{Bytes}
use Rattle.fb_outside.specs.declared.File.{File}
use Rattle.cluster_core.specs.declared.event.Answer.{Answer}
use Rattle.cluster_core.specs.declared.event.StepFault.{StepFault}
use Rattle.cluster_core.specs.declared.event.StepFault.TheVariants.{VaultFault, NoMemory}
use Rattle.cluster_core.specs.State.{State}

-- what a call on the file store said
pub data Said : Type 0 where
  -- nothing that counts, or there was no call
  Silent : Said
  -- a list of a container's files: their names
  Listed : (names : List Bytes) → Said
  -- a get of a file: its bytes, where it is there
  Got : (bytes : Option Bytes) → Said

abbrev pub names_said : Said → List Bytes
names_said (Listed names) = names
names_said other = []

-- What the outside does in a step: memory may be short, and a call on the file store may fail,
-- which leaves the old files or the new ones. Where all goes well, the call said this.
pub data Luck : Type 0 where
  Fine : (said : Said) → Luck
  FailsOld : Luck
  FailsNew : Luck
  Starved : Luck

abbrev pub is_starved : Luck → Bool
is_starved (Fine said) = false
is_starved FailsOld = false
is_starved FailsNew = false
is_starved Starved = true

-- what a step answers, and the state after it
pub record Moved : Type 0 where
  pub answer : Result Answer StepFault
  pub state : State

abbrev pub moved : Result Answer StepFault → State → Moved
moved answer state = record { answer = answer; state = state }

-- ---- a call on the file store

-- A call that asks: what it says decides what comes.
abbrev pub asks : State → Luck → (Said → Moved) → Moved
asks state (Fine said) next = next said
asks state FailsOld next = moved (Err VaultFault) state
asks state FailsNew next = moved (Err VaultFault) state
asks state Starved next = moved (Err NoMemory) state

-- A call that makes these the files. Where it fails, the old files are there or the new ones, and
-- nothing else changes.
abbrev pub changes : State → Option (List File) → Luck → Moved → Moved
changes state files (Fine said) done = done
changes state files FailsOld done = moved (Err VaultFault) state
changes state files FailsNew done = moved (Err VaultFault) (record state { files = files })
changes state files Starved done = moved (Err NoMemory) state

-- The settings: their words, limits and defaults, and what a list of them sets.
use Rattle.std.specs.Prelude.{ℕ, Bool, true, false, ◌&&◌, List, [], ◌∷◌, codes, find}
use Rattle.std.specs.Prelude.{nat_eq, nat_le, Option, Some, None, unwrap_or, if◌then◌else◌}
use Rattle.std.specs.List.{list_any, flat_map}
use Rattle.block_frame.specs.Profiles.{is_block, key_limit_of}
use Rattle.fb_bytes.specs.Bytes.{Bytes, is_same}
use Rattle.mutations.specs.Transactions.{◌or_else◌}
pub use Rattle.workload_text.specs.declared.setting.SettingKind.{SettingKind}
use Rattle.workload_text.specs.declared.setting.SettingKind.TheVariants as kinds
pub use Rattle.workload_text.specs.declared.setting.Setting.{Setting}
use Rattle.workload_text.specs.declared.setting.Setting.TheVariants.{Number, Death, Stall}
use Rattle.workload_text.specs.declared.agent_death.AgentDeath.{AgentDeath}
use Rattle.workload_text.specs.declared.agent_stall.AgentStall.{AgentStall}

-- each setting that is one number
abbrev pub every_setting : List SettingKind
every_setting =
    kinds.Block ∷ kinds.Pace ∷ kinds.Lease ∷ kinds.Rest ∷ kinds.Shard ∷ kinds.Span ∷ kinds.Tries
    ∷ kinds.Agents ∷ kinds.Steps ∷ []

-- the word that begins its line
abbrev pub setting_word : SettingKind → Bytes
setting_word kinds.Block = codes "block"
setting_word kinds.Pace = codes "pace"
setting_word kinds.Lease = codes "lease"
setting_word kinds.Rest = codes "rest"
setting_word kinds.Shard = codes "shard"
setting_word kinds.Span = codes "span"
setting_word kinds.Tries = codes "tries"
setting_word kinds.Agents = codes "agents"
setting_word kinds.Steps = codes "steps"

-- the setting of a word, if the word is one's
abbrev pub setting_of_word : Bytes → Option SettingKind
setting_of_word word = find (λ kind. is_same (setting_word kind) word) every_setting

-- a number from 1 to a greatest
abbrev pub is_up_to : ℕ → ℕ → Bool
is_up_to most n = nat_le 1 n && nat_le n most

-- the number may be set
abbrev pub is_allowed : SettingKind → ℕ → Bool
is_allowed kinds.Block n = is_block n
is_allowed kinds.Pace n = is_up_to 1000000000 n
is_allowed kinds.Lease n = is_up_to 1000000000000 n
is_allowed kinds.Rest n = is_up_to 1000000000000 n
is_allowed kinds.Shard n = is_up_to 1000000 n
is_allowed kinds.Span n = is_up_to 1000000000000 n
is_allowed kinds.Tries n = is_up_to 1000 n
is_allowed kinds.Agents n = is_up_to 64 n
is_allowed kinds.Steps n = is_up_to 1000000 n

-- the number where the setting doesn't come
abbrev pub default_of : SettingKind → ℕ
default_of kinds.Block = 1048576
default_of kinds.Pace = 1000
default_of kinds.Lease = 60000000
default_of kinds.Rest = 20000000
default_of kinds.Shard = 1000
default_of kinds.Span = 1000000000000
default_of kinds.Tries = 100
default_of kinds.Agents = 2
default_of kinds.Steps = 10000

abbrev pub is_same_kind : SettingKind → SettingKind → Bool
is_same_kind a b = is_same (setting_word a) (setting_word b)

-- the number that a setting sets, if it is of that kind
abbrev pub set_to : SettingKind → Setting → Option ℕ
set_to kind (Number other n) = if is_same_kind kind other then Some n else None
set_to kind (Death agent turn) = None
set_to kind (Stall agent turn turns) = None

-- the number that settings set, if one of them does
abbrev pub number_in : SettingKind → List Setting → Option ℕ
number_in kind [] = None
number_in kind (setting ∷ settings) = set_to kind setting or_else number_in kind settings

-- the number that holds: what is set, or the default
abbrev pub number_for : SettingKind → List Setting → ℕ
number_for kind settings = unwrap_or (number_in kind settings) (default_of kind)

-- the longest key that a line of the operator's may have
abbrev pub limit_for : List Setting → ℕ
limit_for settings = key_limit_of (number_for kinds.Block settings)

-- the death that a setting is
abbrev pub death_of : Setting → List AgentDeath
death_of (Death agent turn) = record { agent = agent; turn = turn } ∷ []
death_of (Number kind n) = []
death_of (Stall agent turn turns) = []

-- the deaths among settings, in their order
abbrev pub deaths_in : List Setting → List AgentDeath
deaths_in settings = flat_map death_of settings

-- the stall that a setting is
abbrev pub stall_of : Setting → List AgentStall
stall_of (Stall agent turn turns) = record { agent = agent; turn = turn; turns = turns } ∷ []
stall_of (Number kind n) = []
stall_of (Death agent turn) = []

-- the stalls among settings, in their order
abbrev pub stalls_in : List Setting → List AgentStall
stalls_in settings = flat_map stall_of settings

-- two settings that may not both come: of one kind; a death or a stall of one agent
abbrev pub repeats : Setting → Setting → Bool
repeats (Number kind n) (Number other m) = is_same_kind kind other
repeats (Death agent turn) (Death other then') = nat_eq agent other
repeats (Stall agent turn turns) (Stall other then' more) = nat_eq agent other
repeats setting other = false

-- the setting comes again
abbrev pub comes_in : Setting → List Setting → Bool
comes_in setting settings = list_any (repeats setting) settings

-- its agent is there, by the settings before it; agent 0 always is
abbrev pub has_agent : List Setting → Setting → Bool
has_agent before (Number kind n) = true
has_agent before (Death agent turn) = nat_le agent (number_for kinds.Agents before)
has_agent before (Stall agent turn turns) = nat_le agent (number_for kinds.Agents before)

-- what settings set
pub record Numbers : Type 0 where
  pub block : ℕ
  pub pace : ℕ
  pub lease : ℕ
  pub rest : ℕ
  pub shard : ℕ
  pub span : ℕ
  pub tries : ℕ
  pub agents : ℕ
  pub steps : ℕ
  pub deaths : List AgentDeath
  pub stalls : List AgentStall

abbrev pub set_by : List Setting → Numbers
set_by settings = record {
  block = number_for kinds.Block settings;
  pace = number_for kinds.Pace settings;
  lease = number_for kinds.Lease settings;
  rest = number_for kinds.Rest settings;
  shard = number_for kinds.Shard settings;
  span = number_for kinds.Span settings;
  tries = number_for kinds.Tries settings;
  agents = number_for kinds.Agents settings;
  steps = number_for kinds.Steps settings;
  deaths = deaths_in settings;
  stalls = stalls_in settings;
}

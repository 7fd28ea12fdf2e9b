-- A second reading of the same texts: the lines that say something are those of the workload.
use Rattle.std.specs.Prelude.{◌≡◌, ◌≤◌, ℕ, Bool, true, false, not}
use Rattle.std.specs.Prelude.{◌&&◌, List, [], ◌∷◌, ◌++◌, map, length}
use Rattle.std.specs.Prelude.{Some, Ok, nat_le, if◌then◌else◌}
use Rattle.std.specs.List.{flat_map, list_all}
use Rattle.block_frame.specs.Profiles.{key_limit_of}
use Rattle.fb_bytes.specs.Bytes.{Bytes}
use Rattle.mutations.specs.declared.TxOp.{TxOp}
use Rattle.workload_text.specs.declared.client_script.ClientScript.{ClientScript}
use Rattle.workload_text.specs.declared.command.Command.{Command}
use Rattle.workload_text.specs.declared.schedule.ScheduleLine.{ScheduleLine}
use Rattle.workload_text.specs.declared.setting.Setting.{Setting}
use Rattle.workload_text.specs.declared.keyword.Keyword.{Keyword}
use Rattle.workload_text.specs.declared.keyword.Keyword.TheVariants as words
use Rattle.workload_text.specs.declared.line.Line.{Line}
use Rattle.workload_text.specs.declared.line.Line.TheVariants as lines
use Rattle.workload_text.specs.Allowed.{are_clients, are_events}
use Rattle.workload_text.specs.Grammar.{Built, most_bytes}
use Rattle.workload_text.specs.Keywords.{keyword_of}
use Rattle.workload_text.specs.Kinds.{event_kind_of, numbers_of}
use Rattle.workload_text.specs.Lines.{said}
use Rattle.workload_text.specs.Settings.{set_by, comes_in, has_agent}
use Rattle.workload_text.specs.Sofar.{is_comment, is_first_no_other}
use Rattle.workload_text.specs.Texts.{lines_of, words_of, is_text_byte}

-- ---- lines that say something

-- what a line says, and the number that it spells where it begins a client
abbrev pub Item : Type 0
Item = Line × ℕ

-- a client's line spells its number
abbrev pub spells : Keyword → List Bytes → ℕ → Bool
spells words.Client list number = is_first_no_other number list
spells keyword list number = true

-- the words say this, where keys of the operator's have such a limit
abbrev pub IsSaid : ℕ → List Bytes → Item → Type 0
IsSaid limit [] item = ⊥
IsSaid limit (word ∷ list) item =
    (k : Keyword) × (keyword_of word ≡ Some k) × (said limit k list ≡ Ok item.0)
    × (spells k list item.1 ≡ true)

-- each of the lines says one, in their order
abbrev pub AreSaid : ℕ → List (List Bytes) → List Item → Type 0
AreSaid limit [] [] = Unit {0}
AreSaid limit [] (item ∷ items) = ⊥
AreSaid limit (line ∷ lines) [] = ⊥
AreSaid limit (line ∷ lines) (item ∷ items) = IsSaid limit line item × AreSaid limit lines items

-- the words say something
abbrev pub says_something : List Bytes → Bool
says_something [] = false
says_something (word ∷ list) = not (is_comment word)

-- the words of the lines that say something
abbrev pub speaking : List Bytes → List (List Bytes)
speaking [] = []
speaking (line ∷ lines) =
    if says_something (words_of line) then words_of line ∷ speaking lines else speaking lines

-- ---- the lines of a workload

-- settings that may come one after the other, behind those before them
abbrev pub are_set : List Setting → List Setting → Bool
are_set before [] = true
are_set before (setting ∷ settings) =
    not (comes_in setting before) && has_agent before setting
    && are_set (before ++ setting ∷ []) settings

abbrev pub setting_items : List Setting → List Item
setting_items settings = map (λ setting. (lines.Setting setting, 0)) settings

abbrev pub txn_items : List TxOp → List Item
txn_items ops = (lines.Txn, 0) ∷ map (λ op. (lines.Op op, 0)) ops

abbrev pub client_items : ClientScript → List Item
client_items script = (lines.Client script.side, script.number) ∷ flat_map txn_items script.txns

-- the operator's line may be missing where there are no commands
abbrev pub operator_items : Bool → List Command → List Item
operator_items true operator =
    (lines.Operator, 0) ∷ map (λ command. (lines.Order command, 0)) operator
operator_items false operator = map (λ command. (lines.Order command, 0)) operator

abbrev pub event_item : ScheduleLine → Item
event_item event =
    (lines.Event (event_kind_of event) (numbers_of event).0 (numbers_of event).1, 0)

-- the schedule's line may be missing where there are no events
abbrev pub schedule_items : Bool → List ScheduleLine → List Item
schedule_items true schedule = (lines.Schedule, 0) ∷ map event_item schedule
schedule_items false schedule = map event_item schedule

-- a part without its line has no lines
abbrev pub BegunFor : {A : Type 0} → Bool → List A → Type 0
BegunFor true items = Unit {0}
BegunFor false items = items ≡ []

-- the text says this; in a run it has no schedule
pub record IsTextOf (run : Bool) (text : Bytes) (w : Built) : Type 0 where
  pub short : length text ≤ most_bytes
  pub bytes : list_all (λ line. list_all is_text_byte line) (lines_of text) ≡ true
  pub settings : List Setting
  pub settings_allowed : are_set [] settings ≡ true
  pub set : w.settings ≡ set_by settings
  pub commanded : Bool
  pub commands_begun : BegunFor commanded w.operator
  pub scheduled : Bool
  pub events_begun : BegunFor scheduled w.schedule
  pub played : (run && scheduled) ≡ false
  pub said : AreSaid (key_limit_of w.settings.block) (speaking (lines_of text))
      (setting_items settings ++ flat_map client_items w.clients
      ++ operator_items commanded w.operator ++ schedule_items scheduled w.schedule)
  pub clients_allowed : are_clients w.clients ≡ true
  pub few_commands : nat_le (length w.operator) 1000 ≡ true
  pub events_allowed : are_events (length w.clients) w.settings.agents w.schedule ≡ true

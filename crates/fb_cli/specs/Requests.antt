-- What the words of the program ask for.
use Rattle.std.specs.Prelude.{ℕ, ◌*◌, Bool, true, false, not, ◌&&◌, if◌then◌else◌}
use Rattle.std.specs.Prelude.{nat_eq, nat_le, List, [], ◌∷◌, Option, Some, None, is_some, codes}
use Rattle.std.specs.Prelude.{unwrap_or}
use Rattle.std.specs.List.{filter}
use Rattle.fb_bytes.specs.Bytes.{Bytes, is_same}
use Rattle.fb_bytes.specs.Options.{◌>>=◌}
use Rattle.file_names.specs.Reading.{after}
use Rattle.container_view.specs.Property.{property_of}
use Rattle.workload_text.specs.Commands.{is_container_name}

-- what words ask for
pub data Request : Type 0 where
  Replay : (brief : Bool) → Request
  Restore : (container : Bytes) (version : ℕ) → Request
  Describe : (container : Bytes) → Request
  Expire : (container : Bytes) (cutoff wanted : ℕ) (force : Bool) → Request
  Listing : Request
  -- a command in its form that isn't built yet
  Later : Request
  -- no command in its form
  Misused : Request

-- ---- options and positionals

-- an option begins with `-`
abbrev pub is_option : Bytes → Bool
is_option [] = false
is_option (byte ∷ word) = nat_eq byte 45

-- the options among the words behind a command, in order
abbrev pub options : List Bytes → List Bytes
options words = filter is_option words

-- the others, in order
abbrev pub positionals : List Bytes → List Bytes
positionals words = filter (λ word. not (is_option word)) words

-- ---- what options say

-- whether the one flag that a command takes is given; none where others are, or it is given twice
abbrev pub flag_in : Bytes → List Bytes → Option Bool
flag_in flag [] = Some false
flag_in flag (option ∷ []) = if is_same option flag then Some true else None
flag_in flag (option ∷ other ∷ rest) = None

abbrev pub is_force : Bytes → Bool
is_force option = is_same option (codes "--force")

-- the number behind an option that says the wanted version
abbrev pub wanted_in : Bytes → Option ℕ
wanted_in option = after (codes "--restorable-after=") option >>= property_of

-- the version that is wanted, if an option says one, and whether the expire is forced
abbrev pub terms_with : Bool → Option ℕ → Option (Option ℕ × Bool)
terms_with force None = None
terms_with force (Some wanted) = Some (Some wanted, force)

-- the terms of an expire by both options, in either order, or one, or none
abbrev pub expire_terms : List Bytes → Option (Option ℕ × Bool)
expire_terms [] = Some (None, false)
expire_terms (option ∷ []) =
    if is_force option then Some (None, true) else terms_with false (wanted_in option)
expire_terms (one ∷ other ∷ []) =
    if is_force one then terms_with true (wanted_in other)
    else if is_force other then terms_with true (wanted_in one) else None
expire_terms (one ∷ other ∷ third ∷ rest) = None

-- ---- numbers

-- a number in decimal with no leading zero, at most 2^62
abbrev pub is_number : Bytes → Bool
is_number word = is_some (property_of word)

-- a workload of so many clients with so many transactions each can be generated
abbrev pub are_counts : Option ℕ → Option ℕ → Bool
are_counts (Some clients) (Some transactions) =
    nat_le 1 clients && nat_le clients 64 && nat_le transactions 100000
    && nat_le (clients * transactions) 200000
are_counts clients transactions = false

-- ---- commands, by their positionals and their options

-- a replay, where its option is in its form
abbrev pub replay_with : Option Bool → Request
replay_with None = Misused
replay_with (Some brief) = Replay brief

-- a restore of the version, where its word is one
abbrev pub restore_at : Bytes → Option ℕ → Request
restore_at container None = Misused
restore_at container (Some version) = Restore container version

-- an expire up to the cutoff, where its words are in their form; the cutoff is wanted where no
-- other version is
abbrev pub expire_at : Bytes → Option ℕ → Option (Option ℕ × Bool) → Request
expire_at container (Some cutoff) (Some terms) =
    Expire container cutoff (unwrap_or terms.0 cutoff) terms.1
expire_at container cutoff terms = Misused

-- a command that isn't built yet, where its words are in their form
abbrev pub later_if : Bool → Request
later_if good = if good then Later else Misused

-- replay [--brief]
abbrev pub replay_of : List Bytes → List Bytes → Request
replay_of [] options = replay_with (flag_in (codes "--brief") options)
replay_of (word ∷ words) options = Misused

-- run [--brief]
abbrev pub run_of : List Bytes → List Bytes → Request
run_of [] options = later_if (is_some (flag_in (codes "--brief") options))
run_of (word ∷ words) options = Misused

-- describe CONTAINER
abbrev pub describe_of : List Bytes → List Bytes → Request
describe_of (container ∷ []) [] =
    if is_container_name container then Describe container else Misused
describe_of words options = Misused

-- restore CONTAINER VERSION
abbrev pub restore_of : List Bytes → List Bytes → Request
restore_of (container ∷ version ∷ []) [] =
    if is_container_name container then restore_at container (property_of version) else Misused
restore_of words options = Misused

-- expire CONTAINER CUTOFF [--restorable-after=N] [--force]
abbrev pub expire_of : List Bytes → List Bytes → Request
expire_of (container ∷ cutoff ∷ []) options =
    if is_container_name container
    then expire_at container (property_of cutoff) (expire_terms options) else Misused
expire_of words options = Misused

-- list
abbrev pub list_of : List Bytes → List Bytes → Request
list_of [] [] = Listing
list_of words options = Misused

-- generate SEED CLIENTS TRANSACTIONS [--text]
abbrev pub generate_of : List Bytes → List Bytes → Request
generate_of (seed ∷ clients ∷ transactions ∷ []) options =
    later_if (is_number seed && are_counts (property_of clients) (property_of transactions)
    && is_some (flag_in (codes "--text") options))
generate_of words options = Misused

-- the command by its name
abbrev pub by_command : Bytes → List Bytes → List Bytes → Request
by_command command words options =
    if is_same command (codes "replay") then replay_of words options
    else if is_same command (codes "run") then run_of words options
    else if is_same command (codes "describe") then describe_of words options
    else if is_same command (codes "restore") then restore_of words options
    else if is_same command (codes "expire") then expire_of words options
    else if is_same command (codes "list") then list_of words options
    else if is_same command (codes "generate") then generate_of words options
    else Misused

-- The first word is the command; the options stand anywhere behind it.
abbrev pub request_of : List Bytes → Request
request_of [] = Misused
request_of (command ∷ words) = by_command command (positionals words) (options words)

-- its report leaves out the clients' tries and the entries
abbrev pub is_brief : Request → Bool
is_brief (Replay brief) = brief
is_brief request = false

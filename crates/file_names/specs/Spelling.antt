-- The names of a container's files, one spelling for each.
use Rattle.std.specs.Prelude.{◌≡◌, ℕ, ◌/◌, ◌^◌, Bool, true, false, List, [], ◌∷◌, ◌++◌, Option}
use Rattle.std.specs.Prelude.{Some, None, nat_lt, nat_le, ◌&&◌, if◌then◌else◌, codes, decimal}
use Rattle.fb_bytes.specs.Bytes.{Bytes}
use Rattle.fb_bytes.specs.Blocks.{is_block}
pub use Rattle.file_names.specs.declared.name.Name.{Name}
use Rattle.file_names.specs.declared.name.Name.TheVariants.{Range, Log, Manifest, Unreliable}
use Rattle.file_names.specs.declared.name.Name.TheVariants.{Expired, Other}

-- numbers in names are below this
abbrev pub number_end : ℕ
number_end = 2 ^ 63

abbrev pub is_number : ℕ → Bool
is_number n = nat_lt n number_end

abbrev pub are_numbers : List ℕ → Bool
are_numbers [] = true
are_numbers (n ∷ ns) = is_number n && are_numbers ns

-- each text and the number behind it
abbrev pub spelled : List Bytes → List ℕ → Bytes
spelled [] ns = []
spelled (text ∷ texts) [] = []
spelled (text ∷ texts) (n ∷ ns) = text ++ (decimal n ++ spelled texts ns)

abbrev pub comma : Bytes
comma = codes ","

abbrev pub range_texts : List Bytes
range_texts = codes "kvranges/snapshot." ∷ codes "/" ∷ codes "/range," ∷ comma ∷ comma ∷ []

abbrev pub log_texts : List Bytes
log_texts = codes "logs/" ∷ codes "/log," ∷ comma ∷ comma ∷ comma ∷ []

abbrev pub manifest_texts : List Bytes
manifest_texts = codes "snapshots/snapshot," ∷ comma ∷ comma ∷ comma ∷ []

abbrev pub unreliable_text : Bytes
unreliable_text = codes "properties/unreliable_end"

abbrev pub expired_text : Bytes
expired_text = codes "properties/expired_end"

-- range files stand in folders of a thousand tickets, log files in folders of 10^9 versions
abbrev pub range_numbers : ℕ → ℕ → ℕ → ℕ → List ℕ
range_numbers snapshot version ticket block =
    snapshot ∷ ticket / 1000 ∷ version ∷ ticket ∷ block ∷ []

abbrev pub log_numbers : ℕ → ℕ → ℕ → ℕ → List ℕ
log_numbers begin end ticket block = begin / 1000000000 ∷ begin ∷ end ∷ ticket ∷ block ∷ []

abbrev pub manifest_numbers : ℕ → ℕ → ℕ → ℕ → List ℕ
manifest_numbers begin end bytes ticket = begin ∷ end ∷ bytes ∷ ticket ∷ []

-- the spelling of a name, if its numbers have one
abbrev pub spelling : Name → Option Bytes
spelling (Range snapshot version ticket block) =
    if are_numbers (range_numbers snapshot version ticket block) && is_block block
    then Some (spelled range_texts (range_numbers snapshot version ticket block)) else None
spelling (Log begin end ticket block) =
    if are_numbers (log_numbers begin end ticket block) && is_block block && nat_lt begin end
    then Some (spelled log_texts (log_numbers begin end ticket block)) else None
spelling (Manifest begin end bytes ticket) =
    if are_numbers (manifest_numbers begin end bytes ticket) && nat_le begin end
    then Some (spelled manifest_texts (manifest_numbers begin end bytes ticket)) else None
spelling Unreliable = Some unreliable_text
spelling Expired = Some expired_text
spelling Other = None

-- the text is the spelling of the name
abbrev pub IsNameOf : Bytes → Name → Type 0
IsNameOf text name = spelling name ≡ Some text

abbrev pub is_other : Name → Bool
is_other Other = true
is_other (Range snapshot version ticket block) = false
is_other (Log begin end ticket block) = false
is_other (Manifest begin end bytes ticket) = false
is_other Unreliable = false
is_other Expired = false

-- A text is the spelling of at most one name.
abbrev pub OneName : Type 0
OneName = (text : Bytes) (a b : Name) → IsNameOf text a → IsNameOf text b → a ≡ b

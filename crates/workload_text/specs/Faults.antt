-- Why a line isn't allowed, and readings that end at the first such reason.
use Rattle.std.specs.Prelude.{codes, Result, Err, if◌then◌else◌, Bool}
use Rattle.fb_bytes.specs.Bytes.{Bytes}
pub use Rattle.workload_text.specs.declared.text_fault.TextKind.{TextKind}
use Rattle.workload_text.specs.declared.text_fault.TextKind.TheVariants as kinds
pub use Rattle.workload_text.specs.declared.line_fault.LineFault.{LineFault}
use Rattle.workload_text.specs.declared.line_fault.LineFault.TheVariants.{Refused}

-- the word that stands for a reason in a refusal
abbrev pub kind_word : TextKind → Bytes
kind_word kinds.Byte = codes "byte"
kind_word kinds.Word = codes "word"
kind_word kinds.Place = codes "place"
kind_word kinds.Schedule = codes "schedule"
kind_word kinds.Count = codes "count"
kind_word kinds.Number = codes "number"
kind_word kinds.Range = codes "range"
kind_word kinds.Name = codes "name"
kind_word kinds.Key = codes "key"
kind_word kinds.Long = codes "long"
kind_word kinds.Backwards = codes "backwards"
kind_word kinds.Past = codes "past"
kind_word kinds.Repeat = codes "repeat"
kind_word kinds.Many = codes "many"
kind_word kinds.Nobody = codes "nobody"

-- what is read of a line, or the first reason why it isn't allowed
abbrev pub Read : Type 0 → Type 0
Read A = Result A LineFault

-- the line isn't allowed
abbrev pub refuse : {A : Type 0} → TextKind → Read A
refuse kind = Err (Refused kind)

-- the value, where the test holds
abbrev pub where_so : {A : Type 0} → TextKind → Bool → Read A → Read A
where_so kind test reading = if test then reading else refuse kind

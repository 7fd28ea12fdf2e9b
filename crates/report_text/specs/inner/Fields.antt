-- What stands behind the word of a refusal, by how it is printed.
use Rattle.std.specs.Prelude.{List, [], ◌∷◌, decimal}
use Rattle.fb_bytes.specs.Bytes.{Bytes}
use Rattle.fb_bytes.specs.Words.{printed}
use Rattle.report_text.specs.declared.answers.Fields.{Fields}
use Rattle.report_text.specs.declared.answers.Fields.TheVariants.{Nothing, Number, Numbers, Word}
use Rattle.report_text.specs.declared.answers.Fields.TheVariants.{Name, Key, Damage}
use Rattle.report_text.specs.Descriptions.{number_or_none}
use Rattle.report_text.specs.Faults.{file_fault_words}

abbrev pub field_words : Fields → List Bytes
field_words Nothing = []
field_words (Number number) = decimal number ∷ []
field_words (Numbers first second) = number_or_none first ∷ number_or_none second ∷ []
field_words (Word word) = word.now ∷ []
field_words (Name name) = name.now ∷ []
field_words (Key key) = printed key.now ∷ []
field_words (Damage name fault) = name.now ∷ file_fault_words fault.now

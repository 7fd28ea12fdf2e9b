-- What holds of all names.
use Rattle.std.specs.Prelude.{◌≡◌, ◌<◌, false, length}
use Rattle.fb_bytes.specs.Bytes.{Bytes}
use Rattle.file_names.specs.declared.name.Name.{Name}
use Rattle.file_names.specs.Spelling.{IsNameOf, is_other}
use Rattle.file_names.specs.Reading.{name_of}

pub record SpelledName : Type 0 where
  -- the name is read from its spelling
  pub read : (text : Bytes) (name : Name) → IsNameOf text name → name_of text ≡ name
  -- what is read from a text is spelled so
  pub spelled : (text : Bytes) (name : Name) → name_of text ≡ name → is_other name ≡ false
      → IsNameOf text name
  -- no spelling is empty
  pub some : (text : Bytes) (name : Name) → IsNameOf text name → 0 < length text

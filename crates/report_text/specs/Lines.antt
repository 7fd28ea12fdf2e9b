-- A line of a report: its words with a space between two, and a line feed behind the last.
use Rattle.std.specs.Prelude.{List, [], ◌∷◌, ◌++◌}
use Rattle.fb_bytes.specs.Bytes.{Bytes}

-- what stands behind a word: each further word with a space before it, then the line feed
abbrev pub behind : List Bytes → Bytes
behind [] = 10 ∷ []
behind (word ∷ words) = 32 ∷ (word ++ behind words)

abbrev pub line : List Bytes → Bytes
line [] = 10 ∷ []
line (word ∷ words) = word ++ behind words

-- The lines of a history: one for each entry, and below it one for each of its mutations.
use Rattle.std.specs.Prelude.{List, [], ◌∷◌, ◌++◌, codes, decimal}
use Rattle.std.specs.List.{flat_map}
use Rattle.atomic_ops.specs.Codes.{word_of}
use Rattle.fb_bytes.specs.Bytes.{Bytes}
use Rattle.fb_bytes.specs.Words.{printed}
use Rattle.mutations.specs.declared.Mutation.{Mutation}
use Rattle.mutations.specs.declared.Mutation.TheVariants.{Set, ClearRange, Atomic}
use Rattle.mutations.specs.declared.Entry.{Entry}
use Rattle.mutations.specs.declared.Who.{Who}
use Rattle.mutations.specs.declared.Who.TheVariants as who
use Rattle.report_text.specs.Lines.{line}

-- who made an entry
abbrev pub who_words : Who → List Bytes
who_words (who.Client client place) = codes "client" ∷ decimal client ∷ decimal place ∷ []
who_words (who.Load job) = codes "load" ∷ decimal job ∷ []
who_words (who.Apply job) = codes "apply" ∷ decimal job ∷ []
who_words (who.Lock job) = codes "lock" ∷ decimal job ∷ []
who_words (who.Unlock job) = codes "unlock" ∷ decimal job ∷ []

abbrev pub mutation_line : Mutation → Bytes
mutation_line (Set key value) = line (codes "set" ∷ printed key ∷ printed value ∷ [])
mutation_line (ClearRange begin end) = line (codes "clear" ∷ printed begin ∷ printed end ∷ [])
mutation_line (Atomic op key param) = line (word_of op ∷ printed key ∷ printed param ∷ [])

-- an entry of the database of this name
abbrev pub entry_lines : Bytes → Entry → Bytes
entry_lines database entry =
    line (codes "entry" ∷ database ∷ decimal entry.version ∷ who_words entry.who)
    ++ flat_map mutation_line entry.muts

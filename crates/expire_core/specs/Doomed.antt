-- Which of a container's files an expire deletes, by their names.
use Rattle.std.specs.Prelude.{ℕ, Bool, false, List, filter, nat_lt, nat_le}
use Rattle.fb_bytes.specs.Bytes.{Bytes}
use Rattle.file_names.specs.declared.Name.{Name}
use Rattle.file_names.specs.declared.Name.TheVariants.{Range, Log, Manifest, Unreliable, Expired}
use Rattle.file_names.specs.declared.Name.TheVariants.{Other}
use Rattle.file_names.specs.Reading.{name_of}

-- by what a name says: a range file below the cutoff, a log file whose last version is below it, a
-- manifest whose newest range file is below it
abbrev pub is_doomed : ℕ → Name → Bool
is_doomed cutoff (Range snapshot version ticket block) = nat_lt version cutoff
is_doomed cutoff (Log begin end ticket block) = nat_le end cutoff
is_doomed cutoff (Manifest begin end size ticket) = nat_lt end cutoff
is_doomed cutoff Unreliable = false
is_doomed cutoff Expired = false
is_doomed cutoff Other = false

-- those of the names that are deleted, in the order of the names
abbrev pub doomed : ℕ → List Bytes → List Bytes
doomed cutoff names = filter (λ name. is_doomed cutoff (name_of name)) names

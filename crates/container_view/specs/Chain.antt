-- Chains of log files: which file gives which versions.
use Rattle.std.specs.Prelude.{ℕ, zero, suc, ◌-◌, Bool, ◌&&◌, ◌||◌, List, [], ◌∷◌, Option, Some}
use Rattle.std.specs.Prelude.{None, if◌then◌else◌, nat_lt, nat_le, ◌==◌}
use Rattle.fb_bytes.specs.Bytes.{Bytes, is_below}
use Rattle.fb_bytes.specs.Options.{◌>>=◌, best_of}
use Rattle.container_view.specs.Folder.{LogFile, Folder}

-- a log file, and the versions that a chain takes from it
pub record LogLink : Type 0 where
  pub file : LogFile
  pub from : ℕ
  pub to : ℕ

-- the greater end comes first, then the lesser name
abbrev pub comes_first : ℕ → Bytes → ℕ → Bytes → Bool
comes_first end name other_end other_name =
    nat_lt other_end end || (end == other_end && is_below name other_name)

abbrev pub log_beats : LogFile → LogFile → Bool
log_beats a b = comes_first a.end a.name b.end b.name

-- the log file has the version: begin <= version < end
abbrev pub has_version : ℕ → LogFile → Bool
has_version version file = nat_le file.begin version && nat_lt version file.end

-- of the log files that have the version, the one with the greatest end, then the least name
abbrev pub best_log : List LogFile → ℕ → Option LogFile
best_log logs version = best_of (has_version version) log_beats logs

-- the links from a version on until they reach the end, at most `most` of them
abbrev pub links : ℕ → List LogFile → ℕ → ℕ → Option (List LogLink)
links zero logs version end = if nat_le end version then Some [] else None
links (suc most) logs version end =
    if nat_le end version then Some []
    else (best_log logs version >>= λ file. links most logs file.end end
    >>= λ rest. Some (record { file = file; from = version; to = file.end } ∷ rest))

-- The links from begin until they reach the end. Each has a version at least, so there are at most
-- end - begin.
abbrev pub chain : Folder → ℕ → ℕ → Option (List LogLink)
chain folder begin end = links (end - begin) folder.logs begin end

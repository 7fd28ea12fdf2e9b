use Rattle.std.proofs.Common.{◌≡◌, ◌+◌, ◌≤◌, ◌++◌, List, Some, Ok, drop}
use Rattle.fb_outside.specs.declared.File.{File}
use Rattle.container_view.specs.Files.{inside}
use Rattle.container_view.specs.Sets.{◌>>=◌}
use Rattle.restore_read.specs.Reading as spec
use Rattle.restore_read.proofs.ranges.get_each.Given as goal

-- the store is as it was, and the files so far and those that are left are all
abbrev pub invariant-names : goal.invariant-names
invariant-names g l = record {
  same : g.V.Vault.files l.vault ≡ g.V.Vault.files l.fn.vault;
  called : g.V.Vault.calls l.vault ≤ g.V.Vault.calls l.fn.vault + l.name-index;
  later : g.V.Vault.faults l.fn.vault ≤ g.V.Vault.faults l.vault;
  all : (files : List File) → g.V.Vault.files l.fn.vault ≡ Some files → (spec.each_or (spec.range_at (inside l.container files)) (drop l.name-index l.name-items) >>= λ rest. Ok (l.loaded ++ rest)) ≡ spec.each_or (spec.range_at (inside l.container files)) l.names;
}

use Rattle.std.proofs.Common.{◌≡◌, ◌+◌, ◌≤◌, ◌++◌, List, Some, Ok, drop}
use Rattle.fb_outside.specs.declared.File.{File}
use Rattle.container_view.specs.Files.{inside}
use Rattle.container_view.specs.Sets.{◌>>=◌}
use Rattle.restore_read.specs.Reading as spec
use Rattle.restore_read.proofs.links.get_links.Given as goal

-- the store is as it was, and the links so far and those that are left are all
abbrev pub invariant-links : goal.invariant-links
invariant-links g l = record {
  same : g.V.Vault.files l.vault ≡ g.V.Vault.files l.fn.vault;
  called : g.V.Vault.calls l.vault ≤ g.V.Vault.calls l.fn.vault + l.link-index;
  later : g.V.Vault.faults l.fn.vault ≤ g.V.Vault.faults l.vault;
  all : (files : List File) → g.V.Vault.files l.fn.vault ≡ Some files → (spec.each_or (spec.link_at (inside l.container files)) (drop l.link-index l.link-items) >>= λ rest. Ok (l.loaded ++ rest)) ≡ spec.each_or (spec.link_at (inside l.container files)) l.links;
}

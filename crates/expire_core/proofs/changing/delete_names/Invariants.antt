use Rattle.std.proofs.Common.{◌≡◌, ◌+◌, ◌≤◌, map, take, option_map}
use Rattle.expire_core.specs.Changes.{all_changed, deletion}
use Rattle.expire_core.proofs.changing.delete_names.Given as goal

-- the files so far are gone, in their order
abbrev pub invariant-names : goal.invariant-names
invariant-names g l = record {
  made : g.V.Vault.files l.vault ≡ option_map (all_changed (map (deletion l.container) (take l.name-index l.name-items))) (g.V.Vault.files l.fn.vault);
  called : g.V.Vault.calls l.vault ≤ g.V.Vault.calls l.fn.vault + l.name-index;
  later : g.V.Vault.faults l.fn.vault ≤ g.V.Vault.faults l.vault;
}

-- Versions rise, and leases go on.
use Rattle.std.specs.Prelude.{◌≤◌, nat_le}
use Rattle.std.proofs.lemmas.Bool.{and_parts, leb-true}
use Rattle.workload_text.specs.declared.Workload.{Workload}

-- a commit takes a version at least
pub pace_forward : (p : Workload) → 1 ≤ p.settings.pace
pace_forward p = leb-true 1 p.settings.pace (and_parts (nat_le 1 p.settings.pace) (nat_le p.settings.pace 1000000000) p.settings.pace_allowed).0

-- a lease is for a version at least
pub lease_forward : (p : Workload) → 1 ≤ p.settings.lease
lease_forward p = leb-true 1 p.settings.lease (and_parts (nat_le 1 p.settings.lease) (nat_le p.settings.lease 1000000000000) p.settings.lease_allowed).0

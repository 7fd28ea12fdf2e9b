use Rattle.std.proofs.Common.{◌≡◌, ◌-◌, ◌++◌, ◌+◌, Some}
use Rattle.fb_bytes.specs.Options.{◌>>=◌}
use Rattle.container_view.specs.Names.{chain_named}
use Rattle.container_view.proofs.chaining.sorted_chain.Given as goal

-- the links so far and those from the version on are the chain
abbrev pub invariant-links : goal.invariant-links
invariant-links l = (chain_named l.sorted.names.now l.version (l.last + 1) >>= λ rest. Some (l.links.items ++ rest)) ≡ chain_named l.sorted.names.now l.from (l.last + 1)

abbrev pub decreases-links : goal.decreases-links
decreases-links l = l.last + 1 - l.version

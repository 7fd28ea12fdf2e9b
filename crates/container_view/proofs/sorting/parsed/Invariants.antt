use Rattle.std.proofs.Common.{◌≡◌, take}
use Rattle.container_view.specs.Names.{sealed_named}
use Rattle.container_view.specs.Description.{log_span}
use Rattle.container_view.specs.inner.Listed.{logs_of, sizes_of, plain_logs}
use Rattle.container_view.proofs.sorting.parsed.Given as goal

abbrev pub invariant-names : goal.invariant-names
invariant-names l = (logs_of l.parsed.logs.items ≡ plain_logs (take l.name-index l.names)) × (l.parsed.span ≡ log_span (logs_of l.parsed.logs.items)) × (sizes_of l.parsed.manifests.items ≡ sealed_named (take l.name-index l.names))

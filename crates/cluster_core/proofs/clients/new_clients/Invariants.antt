use Rattle.std.proofs.Common.{◌≡◌, map, take}
use Rattle.client_core.specs.Clients.{new_client}
use Rattle.cluster_core.proofs.clients.new_clients.Given as goal

abbrev pub invariant-loop-script : goal.invariant-loop-script
invariant-loop-script l = l.clients.items ≡ map (new_client l.tries) (take l.script-index l.scripts)

use Rattle.cluster_core.proofs.Worlds.{begins}
use Rattle.cluster_core.proofs.clients.begin_client.Goals as goal

pub returns : goal.returns
returns c = begins c.args.clients.now c.args.number c.index-clients-index.result c.begin.new.self c.args.versions.now.now c.begin.result c.if-number-eq0.false c.if-index-clients.false c.begin.ensures

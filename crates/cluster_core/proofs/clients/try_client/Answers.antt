use Rattle.cluster_core.proofs.Worlds.{tries}
use Rattle.cluster_core.proofs.clients.try_client.Goals as goal

pub returns-clause-ok : goal.returns-clause-ok
returns-clause-ok c = tries c.args.clients.now c.args.number c.index-clients-index.result c.commit.new.self c.args.db.now c.commit.new.db c.args.versions.now c.commit.new.versions c.commit.result c.if-number-eq0.false c.if-index-clients.false c.commit.ensures.ok

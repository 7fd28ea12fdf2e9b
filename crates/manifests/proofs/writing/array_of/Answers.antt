use Rattle.manifests.proofs.Lists.{array_is}
use Rattle.manifests.proofs.writing.array_of.Goals as goal

pub returns : goal.returns
returns c = array_is c.loop-name.items c.args.names.now c.loop-name.name-index c.loop-name.invariant c.loop-name-test.false

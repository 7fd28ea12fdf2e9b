use Rattle.std.proofs.Common.{◌∙◌, ap}
use Rattle.fb_bytes.specs.Pairs.{value_of}
use Rattle.restore_apply.proofs.Rising.{rise, tell}
use Rattle.restore_apply.proofs.stored.stored.Goals as goal

pub from_vec-requires : goal.from_vec-requires
from_vec-requires c = rise c.args.files.now c.args.order.now c.in_ok-pairs.pairs.items c.requires.order c.requires.apart c.in_ok-pairs.ensures.pairs c.in_ok-pairs.ensures.rising

pub returns : goal.returns
returns c = λ key. ap (λ pairs. value_of pairs key) c.from_vec.ensures ∙ tell c.args.files.now c.args.order.now c.in_ok-pairs.pairs.items key c.requires.order c.requires.apart c.in_ok-pairs.ensures.pairs

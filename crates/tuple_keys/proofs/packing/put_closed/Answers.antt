use Rattle.tuple_keys.proofs.Loops.{escaped-more}
use Rattle.tuple_keys.proofs.packing.put_closed.Goals as goal

pub loop-byte-preserved : goal.loop-byte-preserved
loop-byte-preserved c = let step = escaped-more c.args.out.now c.args.bytes.now c.loop-byte.byte-index c.loop-byte-test.true in let e = c.in_ok-put_byte.ensures in cc

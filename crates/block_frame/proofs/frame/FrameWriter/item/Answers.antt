use Rattle.std.proofs.Common.{◌+◌, ◌-◌, arith}
use Rattle.block_frame.proofs.Frames.{first_item, item_fits, item_goes_on}
use Rattle.block_frame.proofs.frame.FrameWriter.item.Goals as goal

pub returns-then-used-eq0-clause-ok : goal.returns-then-used-eq0-clause-ok
returns-then-used-eq0-clause-ok g c =
    rw (← c.self.view_is) (first_item g.row.BLOCK g.row.FORMAT c.self.inside.start c.self.inside.bytes.items c.begin_block.new.out.items c.args.bytes.now c.args.repeat.now (omega arith) (omega arith) c.in_ok-begin_block.ensures.ok)

pub returns-then-bytes-room-clause-ok : goal.returns-then-bytes-room-clause-ok
returns-then-bytes-room-clause-ok g c =
    rw (← c.self.view_is) (item_fits g.row.BLOCK g.row.FORMAT c.self.inside.start c.self.inside.bytes.items c.extend_from_slice.new.self.items c.args.bytes.now c.args.repeat.now (omega arith) (omega arith) (λ z. omega arith) (omega arith) c.in_ok-extend_from_slice.ensures.items)

pub returns-clause-ok : goal.returns-clause-ok
returns-clause-ok g c =
    rw (← c.self.view_is) (item_goes_on g.row.BLOCK g.row.FORMAT c.self.inside.start (g.row.BLOCK - (c.len.result - c.self.inside.start)) (c.len-2.result + (g.row.BLOCK - (c.len.result - c.self.inside.start))) c.self.inside.bytes.items c.begin_block-2.new.out.items c.args.bytes.now c.args.repeat.now (omega arith) (omega arith) (λ z. omega arith) (omega arith) (omega arith) (omega arith) c.in_ok-begin_block-2.ensures.ok)

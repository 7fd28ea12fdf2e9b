use Rattle.std.proofs.Common.{◌+◌, ◌^◌, ◌≤◌, length, sym, subst, ap, arith}
use Rattle.fb_bytes.specs.Bytes.{Bytes}
use Rattle.log_files.specs.Grammar.{LogFile}
use Rattle.log_files.proofs.Written.{spelling_length, written_file}
use Rattle.log_files.proofs.Writer.{batch_spelled, batches_end}
use Rattle.log_files.proofs.writing.write_log.Goals as goal

pub encode_batch-requires : goal.encode_batch-requires
encode_batch-requires g c = batch_spelled c.args.chunk.now.begin c.args.chunk.now.end c.args.chunk.now.batches c.as_slice-batches.result.now c.loop-batch.batch-index c.batch-item.result c.requires.logged c.as_slice-batches.ensures c.loop-batch-test.true c.batch-item.is

pub put_batch-requires : goal.put_batch-requires
put_batch-requires g c =
    let room : 24 + c.part_size-part.result ≤ g.row.BLOCK = omega (arith, (c.blocks_have_room.ensures g.row.BLOCK c.requires.size_listed).record', c.part_size-part.ensures.part) in
    let has = batch_spelled c.args.chunk.now.begin c.args.chunk.now.end c.args.chunk.now.batches c.as_slice-batches.result.now c.loop-batch.batch-index c.batch-item.result c.requires.logged c.as_slice-batches.ensures c.loop-batch-test.true c.batch-item.is in
    let few : length c.as_slice.result.now ≤ 2 ^ 33 = omega (arith, ap length c.as_slice.ensures.same, ap length c.in_ok-bytes.ensures, spelling_length c.batch-item.result, has.few) in
    (omega arith, (room, (c.part_size-part.ensures.least, few)))

pub returns-clause-text : goal.returns-clause-text
returns-clause-text g c = batches_end g.row.BLOCK c.loop-batch.batch-index c.loop-batch.frames c.as_slice-batches.result.now c.args.chunk.now.batches c.finish.result c.finish.ensures c.loop-batch-test.false c.loop-batch.invariant

pub returns-clause-grammar : goal.returns-clause-grammar
returns-clause-grammar g c =
    let same = batches_end g.row.BLOCK c.loop-batch.batch-index c.loop-batch.frames c.as_slice-batches.result.now c.args.chunk.now.batches c.finish.result c.finish.ensures c.loop-batch-test.false c.loop-batch.invariant in
    subst (λ (x : Bytes). LogFile g.row.BLOCK c.args.chunk.now.begin c.args.chunk.now.end x c.args.chunk.now.batches) (sym same)
    (written_file g.row.BLOCK c.args.chunk.now.begin c.args.chunk.now.end c.args.chunk.now.batches (record { size_listed = c.requires.size_listed; logged = c.requires.logged }))

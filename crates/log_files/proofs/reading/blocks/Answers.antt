use Rattle.std.proofs.Common.{◌≡◌, ◌+◌, ◌∙◌, length, arith, sym, ap}
use Rattle.std.proofs.lemmas.Result.{err_from_is_err_and}
use Rattle.log_files.specs.Reading as reading
use Rattle.log_files.specs.inner.Seen.{so_far, records_from}
use Rattle.log_files.specs.declared.fault.LogFault.TheVariants.{NoMemory}
use Rattle.fb_bytes.proofs.Results.{fails_on}
use Rattle.block_frame.proofs.Pieces.{piece_is, rest_is}
use Rattle.log_files.proofs.Loops.{blocks_end, blocks_more, blocks_bad, blocks_untaken, some_left, nothing_left}
use Rattle.log_files.proofs.reading.blocks.Goals as goal

pub returns-in_err-records-clause-err : goal.returns-in_err-records-clause-err
returns-in_err-records-clause-err c =
    let p = err_from_is_err_and c.from_residual.result c.from_residual.ensures.1 in
    let piece = piece_is c.args.size c.min.result c.pieces.rest.now c.split_at.result.0.now c.min.ensures c.split_at.ensures.front in
    let some = some_left (length c.pieces.rest.now) c.is_empty.result c.is_empty.ensures c.pieces-test.true in
    rw (p.1, p.2) (fails_on NoMemory c.in_err-records.field-0.0 _ _ (λ e. blocks_bad c.args.size c.args.end c.pieces.base (so_far c.pieces.batched) c.pieces.rest.now c.in_err-records.field-0.0 _ some (ap (reading.block_records c.pieces.base) (sym piece) ∙ e) c.pieces.invariant.so_far) c.in_err-records.ensures.err)

pub returns-in_err-batched-clause-err : goal.returns-in_err-batched-clause-err
returns-in_err-batched-clause-err c =
    let p = err_from_is_err_and c.from_residual-in_err-batched.result c.from_residual-in_err-batched.ensures.1 in
    let piece = piece_is c.args.size c.min.result c.pieces.rest.now c.split_at.result.0.now c.min.ensures c.split_at.ensures.front in
    let some = some_left (length c.pieces.rest.now) c.is_empty.result c.is_empty.ensures c.pieces-test.true in
    rw (p.1, p.2) (fails_on NoMemory c.in_err-batched.field-0.0 _ _ (λ e. blocks_untaken c.args.size c.args.end c.pieces.base (so_far c.pieces.batched) c.pieces.rest.now (records_from c.in_ok-records.records.items) c.in_err-batched.field-0.0 _ some (ap (reading.block_records c.pieces.base) (sym piece) ∙ c.in_ok-records.ensures.ok) (sym (ap (λ rows. reading.all_taken c.args.end (so_far c.pieces.batched) (records_from rows)) c.deref.ensures.value) ∙ e) c.pieces.invariant.so_far) c.in_err-batched.ensures.err)

pub pieces-preserved : goal.pieces-preserved
pieces-preserved c =
    let piece = piece_is c.args.size c.min.result c.pieces.rest.now c.split_at.result.0.now c.min.ensures c.split_at.ensures.front in
    let after = rest_is c.args.size c.min.result c.pieces.rest.now c.split_at.result.1.now c.min.ensures c.split_at.ensures.back in
    let some = some_left (length c.pieces.rest.now) c.is_empty.result c.is_empty.ensures c.pieces-test.true in
    let whole : c.pieces.base + length c.pieces.rest.now ≡ length c.args.bytes.now = c.pieces.invariant.places some in
    let cut = c.split_at.ensures.back_len in
    let mid = c.min.ensures in
    let wide = c.from-base.ensures in
    let more = blocks_more c.args.size c.args.end c.pieces.base (so_far c.pieces.batched) (so_far c.in_ok-batched.batched) c.pieces.rest.now (records_from c.in_ok-records.records.items) _ c.requires some (ap (reading.block_records c.pieces.base) (sym piece) ∙ c.in_ok-records.ensures.ok) (sym (ap (λ rows. reading.all_taken c.args.end (so_far c.pieces.batched) (records_from rows)) c.deref.ensures.value) ∙ c.in_ok-batched.ensures.ok) c.pieces.invariant.so_far in
    record {
      near = omega arith;
      places = λ left. omega arith;
      so_far = rw (c.from-base.ensures, after) more;
    }

pub returns-clause-ok : goal.returns-clause-ok
returns-clause-ok c = blocks_end c.args.size c.args.end c.pieces.base (so_far c.pieces.batched) c.pieces.rest.now _ (nothing_left (length c.pieces.rest.now) c.is_empty.result c.is_empty.ensures c.pieces-test.false) c.pieces.invariant.so_far

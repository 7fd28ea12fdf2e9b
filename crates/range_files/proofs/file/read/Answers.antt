use Rattle.std.proofs.Common.{◌≡◌, ◌∙◌, arith, sym, ap, inr, Ok}
use Rattle.std.proofs.lemmas.Result.{err_from_is_err_and, IfOk-weaker, IfErr-weaker}
use Rattle.range_files.specs.Grammar.{format}
use Rattle.range_files.specs.Reading as reading
use Rattle.range_files.specs.declared.fault.BlockFault.TheVariants.{NoMemory}
use Rattle.fb_bytes.proofs.Results.{fails_on}
use Rattle.block_frame.proofs.Pieces.{piece_is, rest_is}
use Rattle.range_files.proofs.Files.{file_begins, file_bad_block, file_bad_join, file_last, file_goes_on, finish_rising}
use Rattle.range_files.proofs.file.read.Goals as goal

pub loop-front-init : goal.loop-front-init
loop-front-init c = record { few = omega arith; places = omega arith; so_far = file_begins c.args.size c.args.bytes.now }

pub returns-in_err-block-clause-err : goal.returns-in_err-block-clause-err
returns-in_err-block-clause-err c =
    let p = err_from_is_err_and c.from_residual.result c.from_residual.ensures.1 in
    let piece = piece_is c.args.size c.min.result c.loop-front.rest.now c.split_at.result.0.now c.min.ensures c.split_at.ensures.front in
    rw (p.1, p.2) (fails_on NoMemory c.in_err-block.field-0.0 _ _ (λ e. file_bad_block c.loop-front.front c.args.size c.loop-front.index c.loop-front.base c.loop-front.rest.now _ c.in_err-block.field-0.0 c.loop-front.invariant.so_far (ap (reading.block_of format c.loop-front.base) (sym piece) ∙ e)) c.in_err-block.ensures.err)

pub returns-then-not-joins-clause-err : goal.returns-then-not-joins-clause-err
returns-then-not-joins-clause-err c =
    let piece = piece_is c.args.size c.min.result c.loop-front.rest.now c.split_at.result.0.now c.min.ensures c.split_at.ensures.front in
    inr (file_bad_join c.loop-front.front c.args.size c.loop-front.index c.loop-front.base c.loop-front.rest.now _ c.in_ok-block.block c.loop-front.invariant.so_far (ap (reading.block_of format c.loop-front.base) (sym piece) ∙ c.in_ok-block.ensures.ok) (sym c.joins.ensures ∙ c.if-not-joins.true))

pub finish-requires : goal.finish-requires
finish-requires c = λ some.
    let piece = piece_is c.args.size c.min.result c.loop-front.rest.now c.split_at.result.0.now c.min.ensures c.split_at.ensures.front in
    let last = file_last c.loop-front.front c.args.size c.loop-front.index c.loop-front.base c.loop-front.rest.now _ c.in_ok-block.block c.loop-front.invariant.so_far (ap (reading.block_of format c.loop-front.base) (sym piece) ∙ c.in_ok-block.ensures.ok) (sym c.joins.ensures ∙ c.if-not-joins.false) c.if-rest-size.true in
    finish_rising c.args.size _ c.args.bytes.now _ _ c.in_ok-block.block.end (λ i. omega (arith, c.type_inv.bytes i)) last some

pub returns-then-rest-size-clause-ok : goal.returns-then-rest-size-clause-ok
returns-then-rest-size-clause-ok c =
    let piece = piece_is c.args.size c.min.result c.loop-front.rest.now c.split_at.result.0.now c.min.ensures c.split_at.ensures.front in
    let last = file_last c.loop-front.front c.args.size c.loop-front.index c.loop-front.base c.loop-front.rest.now _ c.in_ok-block.block c.loop-front.invariant.so_far (ap (reading.block_of format c.loop-front.base) (sym piece) ∙ c.in_ok-block.ensures.ok) (sym c.joins.ensures ∙ c.if-not-joins.false) c.if-rest-size.true in
    IfOk-weaker c.finish.result _ (λ body. reading.read c.args.size c.args.bytes.now ≡ Ok body) (λ body h. last ∙ h) c.finish.ensures.ok

pub returns-then-rest-size-clause-err : goal.returns-then-rest-size-clause-err
returns-then-rest-size-clause-err c =
    let piece = piece_is c.args.size c.min.result c.loop-front.rest.now c.split_at.result.0.now c.min.ensures c.split_at.ensures.front in
    let last = file_last c.loop-front.front c.args.size c.loop-front.index c.loop-front.base c.loop-front.rest.now _ c.in_ok-block.block c.loop-front.invariant.so_far (ap (reading.block_of format c.loop-front.base) (sym piece) ∙ c.in_ok-block.ensures.ok) (sym c.joins.ensures ∙ c.if-not-joins.false) c.if-rest-size.true in
    IfErr-weaker c.finish.result _ (λ fault. reading.Fails fault (reading.read c.args.size c.args.bytes.now)) (λ fault h. fails_on NoMemory fault _ _ (λ e. last ∙ e) h) c.finish.ensures.err

pub loop-front-preserved : goal.loop-front-preserved
loop-front-preserved c =
    let piece = piece_is c.args.size c.min.result c.loop-front.rest.now c.split_at.result.0.now c.min.ensures c.split_at.ensures.front in
    let after = rest_is c.args.size c.min.result c.loop-front.rest.now c.split_at.result.1.now c.min.ensures c.split_at.ensures.back in
    let more = file_goes_on c.loop-front.front c.args.size c.loop-front.index c.loop-front.base c.loop-front.rest.now _ c.in_ok-block.block c.in_ok-grown.field-0 c.loop-front.invariant.so_far (ap (reading.block_of format c.loop-front.base) (sym piece) ∙ c.in_ok-block.ensures.ok) (sym c.joins.ensures ∙ c.if-not-joins.false) c.requires c.if-rest-size.false c.in_ok-grown.ensures in
    record {
      few = omega arith;
      places = omega arith;
      so_far = rw (c.from.ensures, after) more;
    }

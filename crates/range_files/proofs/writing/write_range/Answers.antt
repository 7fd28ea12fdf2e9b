use Rattle.std.proofs.Common.{sym, subst, ap, ◌∙◌}
use Rattle.fb_bytes.specs.Bytes.{Bytes}
use Rattle.block_frame.specs.Text.{string}
use Rattle.range_files.specs.Grammar.{RangeFile}
use Rattle.range_files.proofs.Written.{written_file}
use Rattle.range_files.proofs.Writer.{written_text}
use Rattle.range_files.proofs.writing.write_range.Goals as goal

pub returns-clause-text : goal.returns-clause-text
returns-clause-text g c =
    written_text g.row.BLOCK c.loop-pair.frames c.item-2.new.self c.args.chunk.now.begin c.args.chunk.now.end c.args.chunk.now.pairs c.as_slice-pairs.result.now c.loop-pair.repeat.items c.deref-2.result.now c.deref-3.result.now c.finish.result c.loop-pair.pair-index
    c.finish.ensures c.in_ok-item-3.ensures.ok (c.deref-2.ensures.value ∙ c.in_ok-end.ensures ∙ ap string c.as_slice-2.ensures.same) c.deref-3.ensures.value c.loop-pair-test.false c.loop-pair.invariant

pub returns-clause-grammar : goal.returns-clause-grammar
returns-clause-grammar g c =
    let same = written_text g.row.BLOCK c.loop-pair.frames c.item-2.new.self c.args.chunk.now.begin c.args.chunk.now.end c.args.chunk.now.pairs c.as_slice-pairs.result.now c.loop-pair.repeat.items c.deref-2.result.now c.deref-3.result.now c.finish.result c.loop-pair.pair-index
    c.finish.ensures c.in_ok-item-3.ensures.ok (c.deref-2.ensures.value ∙ c.in_ok-end.ensures ∙ ap string c.as_slice-2.ensures.same) c.deref-3.ensures.value c.loop-pair-test.false c.loop-pair.invariant in
    subst (λ (x : Bytes). RangeFile g.row.BLOCK x c.args.chunk.now.begin c.args.chunk.now.end c.args.chunk.now.pairs) (sym same)
    (written_file g.row.BLOCK c.args.chunk.now.begin c.args.chunk.now.end c.args.chunk.now.pairs (record { size_listed = c.requires.size_listed; begin_limit = c.requires.begin_limit; end_limit = c.requires.end_limit; forward = c.requires.forward; each = c.requires.each }) c.as_slice-pairs.ensures.rising)

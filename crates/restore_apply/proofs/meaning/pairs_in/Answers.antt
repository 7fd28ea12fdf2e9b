use Rattle.std.proofs.Common.{option_map, ap, ◌∙◌}
use Rattle.fb_bytes.specs.Pairs.{value_of}
use Rattle.restore_apply.specs.Loaded.{file_with}
use Rattle.restore_apply.specs.inner.Loaded.{stored_at}
use Rattle.restore_apply.specs.inner.Pieces.{since, oldest, some_past, links_since}
use Rattle.restore_apply.specs.inner.Tables.{found}
use Rattle.restore_apply.proofs.Values.{if_ok, loaded_is}
use Rattle.restore_apply.proofs.Waiting.{none_past}
use Rattle.restore_apply.proofs.meaning.pairs_in.Goals as goal

pub returns-then-not-some_past : goal.returns-then-not-some_past
returns-then-not-some_past c = λ key. loaded_is c.args.set.now c.args.version key (since c.in_ok-pieces.pieces.items key) (value_of c.in_ok-pairs.pairs key) (value_of c.in_ok-pairs.pairs key)
    (c.in_ok-pieces.ensures.tell key ∙ ap (λ files. option_map (λ file. file.version) (file_with files key)) c.as_slice-files.ensures)
    (c.in_ok-pairs.ensures key ∙ ap (λ files. stored_at files key) c.as_slice-files.ensures)
    (none_past c.in_ok-pieces.pieces.items c.args.set.now.links c.args.version c.oldest.result c.some_past.result key (value_of c.in_ok-pairs.pairs key)
    (c.oldest.ensures ∙ ap oldest c.deref-2.ensures.value)
    (c.some_past.ensures ∙ ap (λ links. some_past c.oldest.result links c.args.version) c.as_slice-links.ensures)
    c.if-not-some_past.true)

pub returns : goal.returns
returns c = if_ok c.pairs_of.result (λ pairs e key. loaded_is c.args.set.now c.args.version key (since c.in_ok-pieces.pieces.items key) (found c.in_ok-table.table key) (value_of pairs key)
    (c.in_ok-pieces.ensures.tell key ∙ ap (λ files. option_map (λ file. file.version) (file_with files key)) c.as_slice-files.ensures)
    (c.in_ok-table.ensures key ∙ c.in_ok-pairs.ensures key ∙ ap (λ files. stored_at files key) c.as_slice-files.ensures)
    (e key ∙ c.in_ok-replay.ensures key ∙ (λ i. links_since (since (c.deref-3.ensures.value i) key) (c.as_slice-links.ensures i) c.args.version key (found c.in_ok-table.table key)))) c.pairs_of.ensures

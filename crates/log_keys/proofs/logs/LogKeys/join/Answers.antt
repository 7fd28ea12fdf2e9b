use Rattle.std.proofs.Common.{◌≡◌, List, map, sym, ap, ◌∙◌, subst}
use Rattle.std.specs.List.{All}
use Rattle.mutations.specs.declared.batch.Batch.{Batch}
use Rattle.mutations.specs.declared.batch.LogChunk.{LogChunk}
use Rattle.log_keys.specs.Logs.{batches_between}
use Rattle.log_keys.specs.inner.Parts.{Row}
use Rattle.log_keys.specs.inner.Table.{Whole, IsRead, AreRising, joined, batch_in, rows_between}
use Rattle.log_keys.proofs.Groups.{between_read, between_is}
use Rattle.log_keys.proofs.logs.LogKeys.join.Goals as goal

pub rows_between-rows-requires : goal.rows_between-rows-requires
rows_between-rows-requires c = subst AreRising (sym c.deref.ensures.value) c.self.invariant.rise

pub batches_of-requires : goal.batches_of-requires
batches_of-requires c =
    let wholes : c.deref-2.result.now ≡ joined (rows_between c.args.job c.args.begin c.args.end c.self.inside.rows.items) =
    c.deref-2.ensures.value ∙ c.in_ok-wholes.ensures ∙ ap joined c.rows_between-rows.ensures ∙ ap (λ (rows : List Row). joined (rows_between c.args.job c.args.begin c.args.end rows)) c.deref.ensures.value in
    subst (All (λ (whole : Whole). IsRead whole.bytes)) (sym wholes) (between_read c.args.job c.args.begin c.args.end c.self.inside.rows.items c.self.invariant)

pub returns : goal.returns
returns c =
    let wholes : c.deref-2.result.now ≡ joined (rows_between c.args.job c.args.begin c.args.end c.self.inside.rows.items) =
    c.deref-2.ensures.value ∙ c.in_ok-wholes.ensures ∙ ap joined c.rows_between-rows.ensures ∙ ap (λ (rows : List Row). joined (rows_between c.args.job c.args.begin c.args.end rows)) c.deref.ensures.value in
    ap (λ (batches : List Batch). let chunk : LogChunk = record { begin = c.args.begin; end = c.args.end; batches = batches } in chunk)
    (c.in_ok-batches.ensures ∙ ap (map batch_in) wholes ∙ between_is c.args.job c.args.begin c.args.end c.self.inside.rows.items c.self.invariant ∙ ap (batches_between c.args.job c.args.begin c.args.end) c.self.view_is)

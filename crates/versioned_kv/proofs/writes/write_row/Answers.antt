use Rattle.std.proofs.Common.{List, [], ◌∷◌, refl, sym, subst}
use Rattle.fb_bytes.specs.Bytes.{Bytes, is_same}
use Rattle.versioned_kv.specs.Touched.{RowsStay}
use Rattle.versioned_kv.specs.inner.Queued.{Touch, touch, IsNoted}
use Rattle.versioned_kv.proofs.Queues.{noted_one, noted_write}
use Rattle.versioned_kv.proofs.writes.write_row.Goals as goal

pub returns-clause-noted : goal.returns-clause-noted
returns-clause-noted g c =
    let version = c.args.row.version in
    let key = c.args.key.now in
    let more = c.in_ok-note.ensures.ok in
    noted_write version key c.args.chains.now c.write.new.self c.args.queue.now c.note.new.self c.write.ensures.extends.chains
    (subst (λ (k : Bytes). RowsStay (is_same k) c.args.chains.now c.write.new.self) c.as_slice.ensures.same c.write.ensures.others)
    (record { more = touch version key ∷ []; added = more; each = (refl, tt) })
    (subst (λ (queue : List Touch). IsNoted queue version key) (sym more) (noted_one version key c.args.queue.now))

use Rattle.std.proofs.Common.{◌≡◌, false, drop}
use Rattle.fb_bytes.specs.Bytes.{Bytes}
use Rattle.mutations.specs.Effects.{effects}
use Rattle.versioned_kv.specs.Chains.{rows_of, value_at}
use Rattle.versioned_kv.specs.Touched.{touched}
use Rattle.versioned_kv.specs.inner.Queued.{Notes, AreNoted}
use Rattle.versioned_kv.specs.inner.Edits.{Extends}
use Rattle.versioned_kv.proofs.writes.write_all.Given as goal

abbrev pub invariant-loop-mutation : goal.invariant-loop-mutation
invariant-loop-mutation g l = record {
  extends : Extends l.version l.initial.chains l.chains;
  notes : Notes l.version l.initial.queue l.queue;
  noted : AreNoted l.version l.initial.chains l.initial.queue → AreNoted l.version l.chains l.queue;
  stay : (key : Bytes) → touched l.mutations key ≡ false → (touched (drop l.mutation-index l.mutations) key ≡ false) × (rows_of l.chains key ≡ rows_of l.initial.chains key);
  rest : (key : Bytes) → effects l.limit (drop l.mutation-index l.mutations) key (value_at l.chains key l.version) ≡ effects l.limit l.mutations key (value_at l.initial.chains key l.version);
}

use Rattle.std.proofs.Common.{◌<◌, List, None, length, refl, sym, ap, ◌∙◌, subst, rules, arith}
use Rattle.fb_bytes.specs.Bytes.{Bytes}
use Rattle.fb_bytes.specs.declared.Pair.{Pair}
use Rattle.versioned_kv.specs.Chains.{value_at}
use Rattle.versioned_kv.specs.inner.Chunks.{joined, BelongsTo}
use Rattle.versioned_kv.specs.Pages.{IsPage}
use Rattle.versioned_kv.proofs.Places.{read_at}
use Rattle.versioned_kv.proofs.Joined.{chains_at}
use Rattle.versioned_kv.proofs.Pages.{first_pairs, next_pairs, found_rise, found_page, whole_rise, whole_page}
use Rattle.versioned_kv.proofs.chunks.scan.Goals as goal

pub loop-place-init : goal.loop-place-init
loop-place-init g c = record {
  pairs = first_pairs c.args.range.now c.args.version c.chunk_of-first.result c.args.chunks.now c.new-pairs.result.items c.new-pairs.ensures.items (subst (λ (k : Bytes). BelongsTo k c.chunk_of-first.result c.args.chunks.now) c.as_slice.ensures.same c.chunk_of-first.ensures.belongs);
  few = let none = ap length c.new-pairs.ensures.items in omega arith;
}

pub scan-requires-clause-chains : goal.scan-requires-clause-chains
scan-requires-clause-chains g c =
    let chunks = c.args.chunks.now in
    let some : 0 < length chunks = search rules in
    let last = c.chunk_of-last.ensures.within some in
    let here = read_at chunks chunks c.loop-place.place c.index-chunks-place.result refl (omega arith) c.index-chunks-place.is in
    chains_at c.loop-place.place chunks c.index-chunks-place.result c.requires.chains here

pub from_vec-pairs-requires-then-is_some : goal.from_vec-pairs-requires-then-is_some
from_vec-pairs-requires-then-is_some g c =
    let chunks = c.args.chunks.now in
    let some : 0 < length chunks = search rules in
    let last = c.chunk_of-last.ensures.within some in
    let here = read_at chunks chunks c.loop-place.place c.index-chunks-place.result refl (omega arith) c.index-chunks-place.is in
    found_rise c.args.range.now c.args.version c.args.limit c.loop-place.place chunks c.index-chunks-place.result c.loop-place.pairs.items c.scan.new.pairs.items c.in_ok-next.next (sym c.is_some.ensures ∙ c.if-is_some.true) c.requires.chains here c.loop-place.invariant.pairs c.in_ok-next.ensures

pub returns-then-is_some : goal.returns-then-is_some
returns-then-is_some g c =
    let chunks = c.args.chunks.now in
    let some : 0 < length chunks = search rules in
    let last = c.chunk_of-last.ensures.within some in
    let here = read_at chunks chunks c.loop-place.place c.index-chunks-place.result refl (omega arith) c.index-chunks-place.is in
    subst (λ (pairs : List Pair). IsPage (λ key. value_at (joined chunks) key c.args.version) c.args.range.now c.args.limit (record { pairs = pairs; next = c.in_ok-next.next })) (sym c.from_vec-pairs-then-is_some.ensures)
    (found_page c.args.range.now c.args.version c.args.limit c.loop-place.place chunks c.index-chunks-place.result c.loop-place.pairs.items c.scan.new.pairs.items c.in_ok-next.next (sym c.is_some.ensures ∙ c.if-is_some.true) c.requires.chains here c.loop-place.invariant.pairs c.in_ok-next.ensures)

pub loop-place-preserved : goal.loop-place-preserved
loop-place-preserved g c =
    let chunks = c.args.chunks.now in
    let some : 0 < length chunks = search rules in
    let last = c.chunk_of-last.ensures.within some in
    let here = read_at chunks chunks c.loop-place.place c.index-chunks-place.result refl (omega arith) c.index-chunks-place.is in
    record {
      pairs = next_pairs c.args.range.now c.args.version c.args.limit c.loop-place.place chunks c.index-chunks-place.result c.loop-place.pairs.items c.scan.new.pairs.items c.in_ok-next.next (sym c.is_some.ensures ∙ c.if-is_some.false) here c.loop-place.invariant.pairs c.in_ok-next.ensures;
      few = c.in_ok-next.ensures.few;
    }

pub from_vec-pairs-requires-2 : goal.from_vec-pairs-requires-2
from_vec-pairs-requires-2 g c = whole_rise c.args.range.now c.args.version c.loop-place.place c.args.chunks.now c.loop-place.pairs.items c.requires.chains c.loop-place.invariant.pairs

pub returns : goal.returns
returns g c =
    let belongs = subst (λ (k : Bytes). BelongsTo k c.chunk_of-last.result c.args.chunks.now) c.as_slice-2.ensures.same c.chunk_of-last.ensures.belongs in
    subst (λ (pairs : List Pair). IsPage (λ key. value_at (joined c.args.chunks.now) key c.args.version) c.args.range.now c.args.limit (record { pairs = pairs; next = None })) (sym c.from_vec-pairs-2.ensures)
    (whole_page c.args.range.now c.args.version c.args.limit c.loop-place.place c.chunk_of-last.result c.args.chunks.now c.loop-place.pairs.items c.requires.chains belongs (omega arith) c.loop-place.invariant.pairs c.loop-place.invariant.few)

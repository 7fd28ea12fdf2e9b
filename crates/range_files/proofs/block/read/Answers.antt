use Rattle.std.proofs.Common.{◌∙◌, arith, sym, subst}
use Rattle.fb_bytes.specs.Pairs.{AreRising}
use Rattle.range_files.proofs.Items.{HasKey}
use Rattle.range_files.specs.inner.Seen.{items_from}
use Rattle.range_files.proofs.Blocks.{structure_found, structure_sizes}
use Rattle.range_files.proofs.Order.{disorder_none, ordered_rising}
use Rattle.range_files.proofs.block.read.Goals as goal

pub overflow_add-place-2 : goal.overflow_add-place-2
overflow_add-place-2 c =
    let s = structure_found c.args.header c.args.base c.args.bytes.now (c.in_ok-begin.begin, items_from c.in_ok-begin.items) (λ i. omega (arith, c.type_inv.bytes i)) c.in_ok-begin.ensures.ok in
    let n = structure_sizes c.args.header c.args.base c.args.bytes.now c.in_ok-begin.begin (items_from c.in_ok-begin.items) s in
    omega arith

pub padding_fault-requires : goal.padding_fault-requires
padding_fault-requires c =
    let s = structure_found c.args.header c.args.base c.args.bytes.now (c.in_ok-begin.begin, items_from c.in_ok-begin.items) (λ i. omega (arith, c.type_inv.bytes i)) c.in_ok-begin.ensures.ok in
    let n = structure_sizes c.args.header c.args.base c.args.bytes.now c.in_ok-begin.begin (items_from c.in_ok-begin.items) s in
    omega arith

pub disorder-requires : goal.disorder-requires
disorder-requires c =
    let s = structure_found c.args.header c.args.base c.args.bytes.now (c.in_ok-begin.begin, items_from c.in_ok-begin.items) (λ i. omega (arith, c.type_inv.bytes i)) c.in_ok-begin.ensures.ok in
    let n = structure_sizes c.args.header c.args.base c.args.bytes.now c.in_ok-begin.begin (items_from c.in_ok-begin.items) s in
    rw c.deref.ensures.value (omega arith)

pub from_vec-pairs-requires : goal.from_vec-pairs-requires
from_vec-pairs-requires c =
    let s = structure_found c.args.header c.args.base c.args.bytes.now (c.in_ok-begin.begin, items_from c.in_ok-begin.items) (λ i. omega (arith, c.type_inv.bytes i)) c.in_ok-begin.ensures.ok in
    let has : HasKey c.deref.result.now c.in_ok-begin.items.end = rw c.deref.ensures.value s.has in
    subst AreRising c.deref.ensures.value (ordered_rising _ _ c.in_ok-begin.items.end (disorder_none _ _ _ c.deref.result.now c.in_ok-begin.items.end has (sym c.disorder.ensures ∙ c.in_default-disorder.is)))

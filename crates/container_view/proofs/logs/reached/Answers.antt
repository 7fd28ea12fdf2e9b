use Rattle.std.proofs.Common.{rules, refl, sym, ap, ◌∙◌, nat_le, arith}
use Rattle.std.proofs.lemmas.List.Sorted.{IsPartitionPoint-from_clause}
use Rattle.container_view.specs.declared.logs.Run.{Run}
use Rattle.container_view.specs.inner.Listed.{on_to}
use Rattle.container_view.proofs.Begun.{parted, no_place, at_place}
use Rattle.container_view.proofs.logs.reached.Goals as goal

pub returns-then-place-eq0 : goal.returns-then-place-eq0
returns-then-place-eq0 c =
    let point = IsPartitionPoint-from_clause (λ (run : Run). nat_le run.begin c.args.from) c.args.runs.now c.partition_point-place.result c.partition_point-place.ensures.partitioned (parted (λ run. run.begin) c.args.from 0 c.args.runs.now c.requires) (λ a r f' k. search rules) in
    sym (ap (on_to c.args.from) (no_place (λ (run : Run). run.begin) c.args.from c.args.runs.now c.partition_point-place.result point c.if-place-eq0.true))

pub returns : goal.returns
returns c =
    let point = IsPartitionPoint-from_clause (λ (run : Run). nat_le run.begin c.args.from) c.args.runs.now c.partition_point-place.result c.partition_point-place.ensures.partitioned (parted (λ run. run.begin) c.args.from 0 c.args.runs.now c.requires) (λ a r f' k. search rules) in
    let less = c.if-place-eq0.false in
    c.max.ensures ∙ sym (ap (on_to c.args.from) (at_place (λ (run : Run). run.begin) c.args.from c.args.runs.now c.partition_point-place.result _ (record { begin = 0; end = 0 }) c.partition_point-place.ensures.bound point (omega arith) refl))

use Rattle.std.proofs.Common.{rules, None, Some, option_map, sym, ap, ◌∙◌, nat_le, nat_lt, arith}
use Rattle.std.proofs.lemmas.Bool.{cond-true, cond-false, lt-ltb, le-ltb}
use Rattle.std.proofs.lemmas.List.Sorted.{IsPartitionPoint-from_clause}
use Rattle.container_view.specs.declared.logs.NamedLog.{NamedLog}
use Rattle.container_view.specs.inner.Listed.{log_of, held}
use Rattle.container_view.proofs.Begun.{parted, no_place, at_place, mapped_begun}
use Rattle.container_view.proofs.logs.best_at.Goals as goal

pub returns-then-place-eq0 : goal.returns-then-place-eq0
returns-then-place-eq0 c =
    let point = IsPartitionPoint-from_clause (λ (log : NamedLog). nat_le log.begin c.args.version) c.args.logs.now c.partition_point-place.result c.partition_point-place.ensures.partitioned (parted (λ log. log.begin) c.args.version 0 c.args.logs.now c.requires) (λ a r f' k. search rules) in
    record {
      same = sym (ap (held c.args.version) (mapped_begun (λ f. f.begin) c.args.version log_of None c.args.logs.now
          ∙ ap (option_map log_of) (no_place (λ (log : NamedLog). log.begin) c.args.version c.args.logs.now c.partition_point-place.result point c.if-place-eq0.true)));
      later = tt;
    }

pub returns-then-version-log : goal.returns-then-version-log
returns-then-version-log c =
    let point = IsPartitionPoint-from_clause (λ (log : NamedLog). nat_le log.begin c.args.version) c.args.logs.now c.partition_point-place.result c.partition_point-place.ensures.partitioned (parted (λ log. log.begin) c.args.version 0 c.args.logs.now c.requires) (λ a r f' k. search rules) in
    let less = c.if-place-eq0.false in
    record {
      same = sym (ap (held c.args.version) (mapped_begun (λ f. f.begin) c.args.version log_of None c.args.logs.now
          ∙ ap (option_map log_of) (at_place (λ (log : NamedLog). log.begin) c.args.version c.args.logs.now c.partition_point-place.result c.index-logs-place.result c.index-logs-place.result c.partition_point-place.ensures.bound point (omega arith) c.index-logs-place.is))
          ∙ cond-true (nat_lt c.args.version c.index-logs-place.result.end) (Some (c.index-logs-place.result.name.now, c.index-logs-place.result.end)) None (lt-ltb _ _ c.if-version-log.true));
      later = c.if-version-log.true;
    }

pub returns-else-version-log : goal.returns-else-version-log
returns-else-version-log c =
    let point = IsPartitionPoint-from_clause (λ (log : NamedLog). nat_le log.begin c.args.version) c.args.logs.now c.partition_point-place.result c.partition_point-place.ensures.partitioned (parted (λ log. log.begin) c.args.version 0 c.args.logs.now c.requires) (λ a r f' k. search rules) in
    let less = c.if-place-eq0.false in
    record {
      same = sym (ap (held c.args.version) (mapped_begun (λ f. f.begin) c.args.version log_of None c.args.logs.now
          ∙ ap (option_map log_of) (at_place (λ (log : NamedLog). log.begin) c.args.version c.args.logs.now c.partition_point-place.result c.index-logs-place.result c.index-logs-place.result c.partition_point-place.ensures.bound point (omega arith) c.index-logs-place.is))
          ∙ cond-false (nat_lt c.args.version c.index-logs-place.result.end) (Some (c.index-logs-place.result.name.now, c.index-logs-place.result.end)) None (le-ltb _ _ c.if-version-log.false));
      later = tt;
    }

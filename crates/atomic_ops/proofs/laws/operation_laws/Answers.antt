use Rattle.atomic_ops.proofs.OperationLemmas.{result_has_param_length, result_is_no_longer, append_is_limited, result_is_within, result_is_bytes, clears, only_clears, append_that_never_fits}
use Rattle.atomic_ops.proofs.laws.operation_laws.Goals as goal

pub returns : goal.returns
returns c = record {
  param_length = result_has_param_length;
  no_longer = result_is_no_longer;
  limited = append_is_limited;
  within = result_is_within;
  bytes = result_is_bytes;
  clears = clears;
  only_clears = only_clears;
  never_fits = append_that_never_fits;
}

use Rattle.atomic_ops.proofs.CodeLemmas.{code_is_in_table, code_gives_op, op_has_code, word_gives_op, op_has_word}
use Rattle.atomic_ops.proofs.laws.code_laws.Goals as goal

pub returns : goal.returns
returns c = record { in_table = code_is_in_table; gives_op = code_gives_op; has_code = op_has_code; word_gives_op = word_gives_op; has_word = op_has_word }

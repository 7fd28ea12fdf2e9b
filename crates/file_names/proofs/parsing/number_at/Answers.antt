use Rattle.file_names.proofs.Numbers.{front_digits}
use Rattle.file_names.proofs.parsing.number_at.Goals as goal

pub number_of-requires : goal.number_of-requires
number_of-requires c = rw (c.split_at.ensures.front, c.digits_in.ensures.same) (front_digits c.args.bytes.now)

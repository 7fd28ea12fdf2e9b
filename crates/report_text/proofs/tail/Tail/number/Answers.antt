use Rattle.std.proofs.Common.{rules}
use Rattle.report_text.proofs.Tails.{has_room, longer}
use Rattle.report_text.proofs.tail.Tail.number.Goals as goal

pub write_digits-self-inside-requires : goal.write_digits-self-inside-requires
write_digits-self-inside-requires c = has_room c.args.number c.self.inside.start c.self.inside.bytes (search rules) (search rules) (search rules) (search rules)

pub returns-clause-len : goal.returns-clause-len
returns-clause-len c = longer c.args.number _ _ (search rules) (search rules)

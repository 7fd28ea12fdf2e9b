use Rattle.std.specs.Prelude.{codes}
use Rattle.report_text.specs.Descriptions.{number_line}
use Rattle.report_text.proofs.Appends.{two}
use Rattle.report_text.proofs.described.put_restorable.Goals as goal

pub returns : goal.returns
returns c = two c.args.out.now (number_line (codes "MinRestorableVersion") c.args.description.now.min) (number_line (codes "MaxRestorableVersion") c.args.description.now.max) c.put_line.new.out c.put_line-2.new.out c.in_ok-put_line.ensures c.in_ok-put_line-2.ensures

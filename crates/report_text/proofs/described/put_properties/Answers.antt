use Rattle.std.specs.Prelude.{codes}
use Rattle.report_text.specs.Descriptions.{number_line}
use Rattle.report_text.proofs.Appends.{two}
use Rattle.report_text.proofs.described.put_properties.Goals as goal

pub returns : goal.returns
returns c = two c.args.out.now (number_line (codes "UnreliableEndVersion") c.args.description.now.unreliable) (number_line (codes "ExpiredEndVersion") c.args.description.now.expired) c.put_line.new.out c.put_line-2.new.out c.in_ok-put_line.ensures c.in_ok-put_line-2.ensures

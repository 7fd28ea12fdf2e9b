use Rattle.report_text.proofs.Appends.{five}
use Rattle.fb_cli.proofs.fault.push_cannot_expire.Goals as goal

pub returns : goal.returns
returns c = five c.args.out.now _ _ _ _ _ c.extend_from_slice.new.self c.put_number_or_none.new.out c.extend_from_slice-2.new.self c.put_number_or_none-2.new.out c.extend_from_slice-3.new.self c.in_ok-extend_from_slice.ensures.ok c.in_ok-put_number_or_none.ensures c.in_ok-extend_from_slice-2.ensures.ok c.in_ok-put_number_or_none-2.ensures c.in_ok-extend_from_slice-3.ensures.ok

use Rattle.std.proofs.Common.{◌∙◌, ◌++◌, ap}
use Rattle.fb_bytes.specs.Bytes.{Bytes}
use Rattle.report_text.proofs.Appends.{three}
use Rattle.fb_cli.proofs.fault.push_damaged.Goals as goal

pub returns : goal.returns
returns c = three c.args.out.now _ c.args.name.now _ c.extend_from_slice.new.self c.extend_from_slice-2.new.self c.put_file_fault.new.out c.in_ok-extend_from_slice.ensures.ok (c.in_ok-extend_from_slice-2.ensures.ok ∙ ap (λ (x : Bytes). c.extend_from_slice.new.self ++ x) c.as_bytes.ensures) c.in_ok-put_file_fault.ensures

use Rattle.std.proofs.Common.{◌∙◌, ◌++◌, ap}
use Rattle.fb_bytes.specs.Bytes.{Bytes}
use Rattle.report_text.proofs.Appends.{five}
use Rattle.fb_cli.proofs.fault.push_text_refused.Goals as goal

pub returns : goal.returns
returns c = five c.args.out.now _ _ _ _ _ c.extend_from_slice.new.self c.put_number_or_none.new.out c.extend_from_slice-2.new.self c.extend_from_slice-3.new.self c.extend_from_slice-4.new.self c.in_ok-extend_from_slice.ensures.ok c.in_ok-put_number_or_none.ensures c.in_ok-extend_from_slice-2.ensures.ok (c.in_ok-extend_from_slice-3.ensures.ok ∙ ap (λ (x : Bytes). c.extend_from_slice-2.new.self ++ x) (c.as_bytes.ensures.value ∙ c.word.ensures)) c.in_ok-extend_from_slice-4.ensures.ok

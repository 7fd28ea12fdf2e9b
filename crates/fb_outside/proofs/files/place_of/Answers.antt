use Rattle.std.proofs.Common.{length, ap, ◌∙◌}
use Rattle.std.specs.Option.{unwrap_or}
use Rattle.fb_outside.proofs.Filing.{place_or_end}
use Rattle.fb_outside.proofs.files.place_of.Goals as goal

pub returns : goal.returns
returns c =
    c.unwrap_or.ensures ∙ ap (λ o. unwrap_or o (length c.args.files.now)) c.first_from.ensures ∙ place_or_end c.args.files.now c.args.name.now

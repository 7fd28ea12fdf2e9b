use Rattle.fb_cli.proofs.Listing.{rising_filter, are_containers}
use Rattle.fb_cli.proofs.list.names_in.Goals as goal

pub returns-in-Ok-clause-rising : goal.returns-in-Ok-clause-rising
returns-in-Ok-clause-rising g c = rising_filter c.in-Ok.names c.named_well.result c.named_well.ensures c.in-Ok.ensures.rising

pub returns-in-Ok-clause-exact : goal.returns-in-Ok-clause-exact
returns-in-Ok-clause-exact g c = λ files e. are_containers c.in-Ok.names c.named_well.result files c.named_well.ensures (c.in-Ok.ensures.exact files e)

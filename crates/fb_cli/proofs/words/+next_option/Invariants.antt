use Rattle.std.proofs.Common.{length}
use Rattle.fb_cli.proofs.words.+next_option.Given as goal

abbrev pub decreases-next_option : goal.decreases-next_option
decreases-next_option l = length l.words.now

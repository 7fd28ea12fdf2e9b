use Rattle.std.proofs.Common.{length}
use Rattle.fb_cli.proofs.words.+next_positional.Given as goal

abbrev pub decreases-next_positional : goal.decreases-next_positional
decreases-next_positional l = length l.words.now

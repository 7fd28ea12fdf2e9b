use Rattle.fb_bytes.proofs.Separate.{same_list}
use Rattle.fb_bytes.proofs.ranges.one_list.Goals as goal

pub returns : goal.returns
returns c = same_list

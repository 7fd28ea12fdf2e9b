use Rattle.backup_core.proofs.Buckets.{bucket_law}
use Rattle.backup_core.proofs.laws.bucket_law.Goals as goal

pub returns : goal.returns
returns c = bucket_law c.sums_law.ensures

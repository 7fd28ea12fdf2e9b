use Rattle.container_view.specs.Contents.{file_grammars}
use Rattle.container_view.proofs.Honest.{honest_store_law}
use Rattle.cluster_core.specs.declared.job.Job.TheVariants as types
use Rattle.cluster_core.specs.State.{history_on}
use Rattle.cluster_core.specs.Sound.{source_of}
use Rattle.cluster_core.proofs.laws.faithful_law.Goals as goal

pub returns : goal.returns
returns c workload w files h told place job at = honest_store_law.faithful file_grammars (source_of workload.settings.block w.time (history_on job.side w) job) job.container files ((h.containers files told).each place (types.Backup job) at).honest

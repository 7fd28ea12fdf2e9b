use Rattle.std.proofs.Common.{◌≡◌, IfOk, subst, arith}
use Rattle.cluster_core.specs.declared.plan.Filing.{Filing}
use Rattle.cluster_core.specs.World.{Seen}
use Rattle.cluster_core.specs.Sound.{Sound}
use Rattle.cluster_core.proofs.commands.Seal.{sealable, seal_filed}
use Rattle.cluster_core.proofs.world.World.seal.Goals as goal

pub write-requires : goal.write-requires
write-requires g c = (sealable c.args.self.now.workload c.args.self.now.state c.args.place c.args.backup.now c.args.manifest.now (subst (λ (seen : Seen). Sound seen.workload seen.state) c.self.view_is c.self.invariant.sound) c.requires.at c.requires.tiled c.requires.manifest).whole

pub manifest_name-requires-clause-order : goal.manifest_name-requires-clause-order
manifest_name-requires-clause-order g c κs within = (sealable c.args.self.now.workload c.args.self.now.state c.args.place c.args.backup.now c.args.manifest.now (subst (λ (seen : Seen). Sound seen.workload seen.state) c.self.view_is c.self.invariant.sound) c.requires.at c.requires.tiled c.requires.manifest).order

pub manifest_name-requires-clause-end : goal.manifest_name-requires-clause-end
manifest_name-requires-clause-end g c κs within = (sealable c.args.self.now.workload c.args.self.now.state c.args.place c.args.backup.now c.args.manifest.now (subst (λ (seen : Seen). Sound seen.workload seen.state) c.self.view_is c.self.invariant.sound) c.requires.at c.requires.tiled c.requires.manifest).end

pub manifest_name-requires-clause-bytes : goal.manifest_name-requires-clause-bytes
manifest_name-requires-clause-bytes g c κs within = let fits = c.requires.fits in omega arith

pub returns-clause-file : goal.returns-clause-file
returns-clause-file g c = subst (λ (f : Filing). IfOk c.filing.result (λ filing. filing ≡ f)) (seal_filed c.args.self.now.state c.args.place c.args.backup.now c.args.manifest.now c.in_ok-name.name c.in_ok-bytes.bytes c.requires.manifest c.in_ok-name.ensures.name c.in_ok-bytes.ensures.text) c.filing.ensures

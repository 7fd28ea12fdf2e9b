use Rattle.std.proofs.Common.{◌∙◌, ap}
use Rattle.fb_cli.proofs.Restoring.{restored, refused_as}
use Rattle.fb_cli.proofs.restore.restore_words.Goals as goal

pub returns-in-Ok-clause-restores : goal.returns-in-Ok-clause-restores
returns-in-Ok-clause-restores g c =
    let laws = g.met.V.Vault g.world.𝓛 g.world.𝓜 g.world.𝓡 ((λ s x. x), (λ x. x), (λ x. x), λ x. x) in
    restored c.args.container.now c.args.version (g.V.Vault.files c.args.vault) (g.V.Vault.files c.restore.new.vault) _ _ c.restore_law.ensures (laws.ordered c.args.vault) c.in-Ok.ensures.same c.in-Ok.pairs c.in-Ok.ensures.rising c.in-Ok.ensures.ok

pub returns-in-Err-clause-restores : goal.returns-in-Err-clause-restores
returns-in-Err-clause-restores g c =
    let laws = g.met.V.Vault g.world.𝓛 g.world.𝓜 g.world.𝓡 ((λ s x. x), (λ x. x), (λ x. x), λ x. x) in
    refused_as c.args.container.now c.args.version (g.V.Vault.files c.args.vault) (g.V.Vault.files c.refused.result.vault) _ _ c.restore_law.ensures (laws.ordered c.args.vault) (ap g.V.Vault.files c.refused.ensures.vault ∙ c.in-Err.ensures.same) c.refused.result.report c.refused.result.fault c.refusal_of.result c.in-Err.fault c.refused.ensures.report c.refused.ensures.fault c.refusal_of.ensures c.in-Err.ensures.err

use Rattle.std.proofs.Common.{ap}
use Rattle.fb_cli.proofs.Expiring.{expired, refused_as}
use Rattle.fb_cli.proofs.expire.expire_words.Goals as goal

pub returns-in-Ok-clause-expires : goal.returns-in-Ok-clause-expires
returns-in-Ok-clause-expires g c =
    let laws = g.met.V.Vault g.world.𝓛 g.world.𝓜 g.world.𝓡 ((λ s x. x), (λ x. x), (λ x. x), λ x. x) in
    expired c.args.container.now c.args.cutoff c.args.wanted c.args.force (g.V.Vault.files c.args.vault) (g.V.Vault.files c.expire.new.vault) _ _ c.honest_law.ensures (laws.ordered c.args.vault) c.in-Ok.ensures.made c.in-Ok.deleted c.in-Ok.ensures.ok

pub returns-in-Err-clause-expires : goal.returns-in-Err-clause-expires
returns-in-Err-clause-expires g c =
    let laws = g.met.V.Vault g.world.𝓛 g.world.𝓜 g.world.𝓡 ((λ s x. x), (λ x. x), (λ x. x), λ x. x) in
    refused_as c.args.container.now c.args.cutoff c.args.wanted c.args.force (g.V.Vault.files c.args.vault) (g.V.Vault.files c.expire.new.vault) _ _ c.honest_law.ensures (laws.ordered c.args.vault) c.in-Err.ensures.made
    (g.V.Vault.files c.refused.result.vault) c.refused.result.report c.refused.result.fault c.refusal_of_expire.result c.in-Err.fault (ap g.V.Vault.files c.refused.ensures.vault) c.refused.ensures.report c.refused.ensures.fault c.refusal_of_expire.ensures c.in-Err.ensures.kind c.in-Err.ensures.refused c.in-Err.ensures.err

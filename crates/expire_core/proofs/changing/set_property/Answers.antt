use Rattle.std.proofs.Common.{◌≡◌, ◌∙◌, decimal}
use Rattle.expire_core.specs.Changes.{Put, setting}
use Rattle.expire_core.proofs.Making.{call_stopped}
use Rattle.expire_core.proofs.changing.set_property.Goals as goal

pub returns-clause-stopped : goal.returns-clause-stopped
returns-clause-stopped g c =
    let text : c.as_bytes.result.now ≡ decimal c.args.number = c.as_bytes.ensures.value ∙ c.in_ok-text.ensures.ok in
    call_stopped c.put.result (Put c.in_ok-whole.whole c.as_bytes.result.now) (setting c.args.container.now c.args.property.now c.args.number) (g.V.Vault.files c.args.vault.now) (g.V.Vault.files c.put.new.self)
    (λ i. Put (c.in_ok-whole.ensures i) (text i))
    c.put.ensures.failed c.put.ensures.no_memory c.put.ensures.silent

use Rattle.std.proofs.Common.{◌∙◌, ap}
use Rattle.fb_bytes.specs.Bytes.{Bytes}
use Rattle.container_view.specs.Files.{whole_name}
use Rattle.expire_core.specs.Changes.{Delete, deletion}
use Rattle.expire_core.proofs.Making.{call_stopped}
use Rattle.expire_core.proofs.changing.delete_file.Goals as goal

pub returns-clause-stopped : goal.returns-clause-stopped
returns-clause-stopped g c =
    call_stopped c.delete.result (Delete c.in_ok-whole.whole) (deletion c.args.container.now c.args.name.now) (g.V.Vault.files c.args.vault.now) (g.V.Vault.files c.delete.new.self)
    (ap (λ (w : Bytes). Delete w) (c.in_ok-whole.ensures ∙ ap (whole_name c.args.container.now) c.as_str.ensures))
    c.delete.ensures.failed c.delete.ensures.no_memory c.delete.ensures.silent

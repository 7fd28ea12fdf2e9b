use Rattle.std.proofs.Common.{◌∙◌, ap, List}
use Rattle.fb_bytes.specs.Bytes.{Bytes}
use Rattle.fb_outside.specs.Files.{names_in}
use Rattle.container_view.specs.Names.{is_named}
use Rattle.container_view.specs.inner.Parts.{first_parts}
use Rattle.container_view.proofs.Parts.{parts_named}
use Rattle.container_view.proofs.catalog.containers.Goals as goal

pub returns-clause-exact : goal.returns-clause-exact
returns-clause-exact g c files told name =
    c.in_ok-containers.ensures.same name
    ∙ ap (λ (ns : List Bytes). is_named ns name) c.in_ok-parts.ensures
    ∙ ap (λ (ns : List Bytes). is_named (first_parts ns) name) (c.as_slice.ensures ∙ c.in_ok-names.ensures.names files told ∙ ap (λ (folder : Bytes). names_in folder files) c.new-root.ensures)
    ∙ parts_named name files

use Rattle.std.proofs.Common.{ap, ◌∙◌}
use Rattle.fb_outside.specs.Files.{without_file}
use Rattle.fb_outside.proofs.Filing.{files_after_delete}
use Rattle.fb_outside.proofs.files.Files.delete.Goals as goal

pub invariant_of-self : goal.invariant_of-self
invariant_of-self c = rw c.remove_name.ensures (files_after_delete c.self.inside.files.items c.args.name.now c.self.invariant)

pub returns-clause-deleted : goal.returns-clause-deleted
returns-clause-deleted c = c.remove_name.ensures ∙ ap (λ files. without_file files c.args.name.now) c.self.view_is

pub returns-clause-files : goal.returns-clause-files
returns-clause-files c = invariant_of-self c

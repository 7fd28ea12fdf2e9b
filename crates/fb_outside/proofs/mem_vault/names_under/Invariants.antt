use Rattle.std.proofs.Common.{◌≡◌, take}
use Rattle.fb_outside.specs.Files.{names_in}
use Rattle.fb_outside.proofs.mem_vault.names_under.Given as goal

abbrev pub invariant-loop-file : goal.invariant-loop-file
invariant-loop-file l = l.names ≡ names_in l.folder (take l.file-index l.file-items)

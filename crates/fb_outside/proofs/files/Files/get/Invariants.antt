use Rattle.std.proofs.Common.{◌≡◌, drop}
use Rattle.fb_outside.specs.Files.{file_of}
use Rattle.fb_outside.proofs.files.Files.get.Given as goal

abbrev pub invariant-loop-file : goal.invariant-loop-file
invariant-loop-file l = file_of l.file-items l.name ≡ file_of (drop l.file-index l.file-items) l.name

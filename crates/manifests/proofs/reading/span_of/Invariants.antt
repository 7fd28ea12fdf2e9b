use Rattle.std.proofs.Common.{◌≡◌, drop}
use Rattle.manifests.specs.Files.{widest, span_of}
use Rattle.manifests.proofs.reading.span_of.Given as goal

abbrev pub invariant-loop-file : goal.invariant-loop-file
invariant-loop-file l = widest l.span (span_of (drop l.file-index l.files)) ≡ span_of l.files

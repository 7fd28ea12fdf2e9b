-- The keys of a manifest's fields.
use Rattle.std.specs.Prelude.{codes}
use Rattle.fb_bytes.specs.Bytes.{Bytes}
use Rattle.manifests.specs.declared.fault.Field.{Field}
use Rattle.manifests.specs.declared.fault.Field.TheVariants.{BeginVersion, EndVersion, Files}
use Rattle.manifests.specs.declared.fault.Field.TheVariants.{Format, TotalBytes}

-- the key of a field
abbrev pub word_of : Field → Bytes
word_of BeginVersion = codes "beginVersion"
word_of EndVersion = codes "endVersion"
word_of Files = codes "files"
word_of Format = codes "format"
word_of TotalBytes = codes "totalBytes"

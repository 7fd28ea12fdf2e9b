-- The bytes of a batch, wherever they lie.
use Rattle.fb_bytes.specs.Bytes.{Bytes}
use Rattle.log_files.specs.declared.joined.Joined.{Joined}
use Rattle.log_files.specs.declared.joined.Joined.TheVariants.{One, More}

abbrev pub joined_from : Joined → Bytes
joined_from (One bytes) = bytes.now
joined_from (More bytes) = bytes

-- The words for what is wrong with a file of a container.
use Rattle.std.specs.Prelude.{List, [], ◌∷◌, codes, decimal}
use Rattle.fb_bytes.specs.Bytes.{Bytes}
use Rattle.fb_bytes.specs.Words.{printed}
use Rattle.mutations.specs.declared.WireFault.{WireFault}
use Rattle.mutations.specs.declared.WireFault.TheVariants as wire
use Rattle.range_files.specs.declared.BlockFault.{BlockFault}
use Rattle.range_files.specs.declared.BlockFault.TheVariants as blocks
use Rattle.log_files.specs.declared.LogFault.{LogFault}
use Rattle.log_files.specs.declared.LogFault.TheVariants as logs
use Rattle.manifests.specs.Fields.{word_of}
use Rattle.manifests.specs.declared.ManifestFault.{ManifestFault}
use Rattle.manifests.specs.declared.ManifestFault.TheVariants as manifests
use Rattle.container_view.specs.declared.FileFault.{FileFault}
use Rattle.container_view.specs.declared.FileFault.TheVariants as files

abbrev pub wire_words : WireFault → List Bytes
wire_words (wire.Short at) = codes "short" ∷ decimal at ∷ []
wire_words (wire.Protocol found) = codes "protocol" ∷ decimal found ∷ []
wire_words (wire.Length said found) = codes "length" ∷ decimal said ∷ decimal found ∷ []
wire_words (wire.Code at code) = codes "code" ∷ decimal at ∷ decimal code ∷ []
wire_words (wire.Backwards at) = codes "backwards" ∷ decimal at ∷ []
wire_words wire.NoMemory = codes "no-memory" ∷ []

abbrev pub block_words : BlockFault → List Bytes
block_words (blocks.Format found) = codes "format" ∷ decimal found ∷ []
block_words (blocks.Short at) = codes "short" ∷ decimal at ∷ []
block_words (blocks.Padding at) = codes "padding" ∷ decimal at ∷ []
block_words (blocks.Order at) = codes "order" ∷ decimal at ∷ []
block_words (blocks.Join block) = codes "join" ∷ decimal block ∷ []
block_words blocks.NoMemory = codes "no-memory" ∷ []

abbrev pub log_words : LogFault → List Bytes
log_words (logs.Format found) = codes "format" ∷ decimal found ∷ []
log_words (logs.Short at) = codes "short" ∷ decimal at ∷ []
log_words (logs.Padding at) = codes "padding" ∷ decimal at ∷ []
log_words (logs.KeyLength at) = codes "key-length" ∷ decimal at ∷ []
log_words (logs.Version at version) = codes "version" ∷ decimal at ∷ decimal version ∷ []
log_words (logs.Part at part) = codes "part" ∷ decimal at ∷ decimal part ∷ []
log_words (logs.Batch at fault) = codes "batch" ∷ decimal at ∷ wire_words fault
log_words logs.NoMemory = codes "no-memory" ∷ []

abbrev pub manifest_words : ManifestFault → List Bytes
manifest_words manifests.Json = codes "json" ∷ []
manifest_words (manifests.Field name) = codes "field" ∷ word_of name ∷ []
manifest_words (manifests.Order at) = codes "order" ∷ decimal at ∷ []
manifest_words manifests.Versions = codes "versions" ∷ []
manifest_words manifests.NoMemory = codes "no-memory" ∷ []

abbrev pub file_fault_words : FileFault → List Bytes
file_fault_words files.Property = codes "property" ∷ []
file_fault_words (files.Manifest fault) = manifest_words fault
file_fault_words (files.Range fault) = block_words fault
file_fault_words (files.Log fault) = log_words fault
file_fault_words (files.Overlap key) = codes "overlap" ∷ printed key ∷ []

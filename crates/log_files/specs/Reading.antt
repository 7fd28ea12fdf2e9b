-- Reading a log file from left to right, with the first fault that is met.
use Rattle.std.specs.Prelude.{ℕ, zero, suc, ◌+◌, ◌-◌, Bool, false, List, [], ◌∷◌, ◌++◌, length}
use Rattle.std.specs.Prelude.{take, drop, Option, Some, None, Result, Ok, Err, nat_le, nat_lt, ◌==◌}
use Rattle.std.specs.Prelude.{◌&&◌, if◌then◌else◌}
use Rattle.std.specs.Int.{w32, w64, from_be_bytes}
use Rattle.fb_bytes.specs.Bytes.{Bytes}
pub use Rattle.fb_bytes.specs.Results.{◌>>=◌, found_or, ok_side}
use Rattle.fb_bytes.specs.Results.{FailsBut}
use Rattle.block_frame.specs.Text.{header_at, string_at, is_over, unpadded_at}
use Rattle.mutations.specs.declared.Mutation.{Mutation}
use Rattle.mutations.specs.declared.Batch.{Batch}
use Rattle.mutations.specs.declared.WireFault.{WireFault}
use Rattle.mutations.specs.Reading.{decoded}
use Rattle.log_files.specs.declared.fault.LogFault.{LogFault}
use Rattle.log_files.specs.declared.fault.LogFault.TheVariants as faults

-- the number that each block begins with
abbrev pub format : ℕ
format = 2001

-- a failed call answers want of memory, or the fault that the reading meets
abbrev pub Fails : {A : Type 0} → LogFault → Result A LogFault → Type 0
Fails fault reading = FailsBut faults.NoMemory fault reading

-- ---- the records of a block

-- the string in front; the bytes end at the place t, so they begin at t less their length
unfoldable pub string_or : ℕ → Bytes → Result (Bytes × Bytes) LogFault
string_or t bytes = found_or (faults.Short (t - length bytes)) (string_at bytes)

-- a piece of a batch under its key, and its place in the file
pub record Record : Type 0 where
  pub at : ℕ
  pub key : Bytes
  pub value : Bytes

abbrev pub record_at : ℕ → Bytes → Bytes → Record
record_at at key value = record { at = at; key = key; value = value }

-- records until the block is over, and the bytes behind them. The first number is one more than the
-- bytes that are left, so it is never used up.
unfoldable pub records_at : ℕ → ℕ → Bytes → Result (List Record × Bytes) LogFault
records_at zero t bytes = Err (faults.Short t)
records_at (suc fuel) t bytes =
    if is_over bytes then Ok ([], bytes)
    else (string_or t bytes >>= λ key. string_or t key.1 >>= λ value.
    records_at fuel t value.1 >>= λ more.
    Ok (record_at (t - length bytes) key.0 value.0 ∷ more.0, more.1))

-- a byte other than ff in the padding
abbrev pub padding_at : {A : Type 0} → ℕ → Option ℕ → A → Result A LogFault
padding_at at None x = Ok x
padding_at at (Some place) x = Err (faults.Padding (at + place))

unfoldable pub unless_padded : {A : Type 0} → ℕ → Bytes → A → Result A LogFault
unless_padded t rest x = padding_at (t - length rest) (unpadded_at rest) x

abbrev pub behind_header : ℕ → Result Bytes LogFault → Result (List Record) LogFault
behind_header t head =
    head >>= λ rest. records_at (length rest + 1) t rest >>= λ found.
    unless_padded t found.1 found.0

-- the bytes behind a header that is this format's
unfoldable pub header_or : ℕ → Bytes → Result Bytes LogFault
header_or base bytes =
    found_or (faults.Short base) (header_at bytes) >>= λ head.
    (if head.0 == format then Ok head.1 else Err (faults.Format head.0))

-- the records of the block that the bytes are, where its header stands at the place base
unfoldable pub block_records : ℕ → Bytes → Result (List Record) LogFault
block_records base bytes = behind_header (base + length bytes) (header_or base bytes)

-- ---- batches

-- the batch that is being joined: the place of its first record, its version, the next part's
-- number and the bytes so far
pub record OpenBatch : Type 0 where
  pub at : ℕ
  pub version : ℕ
  pub next : ℕ
  pub joined : Bytes

-- the batches so far, the least version that may follow, and the batch that is being joined
pub record SoFar : Type 0 where
  pub batches : List Batch
  pub low : ℕ
  pub joining : Option OpenBatch

abbrev pub nothing_yet : ℕ → SoFar
nothing_yet begin = record { batches = []; low = begin; joining = None }

abbrev pub with_batch : SoFar → OpenBatch → Result (List Mutation) WireFault → Result SoFar LogFault
with_batch so_far batch (Ok muts) =
    Ok (record {
      batches = so_far.batches ++ record { version = batch.version; muts = muts } ∷ [];
      low = batch.version + 1;
      joining = None;
    })
with_batch so_far batch (Err wire) = Err (faults.Batch batch.at wire)

abbrev pub finish_at : SoFar → Option OpenBatch → Result SoFar LogFault
finish_at so_far None = Ok so_far
finish_at so_far (Some batch) = with_batch so_far batch (decoded batch.joined)

-- the batch that is being joined is read
unfoldable pub finished : SoFar → Result SoFar LogFault
finished so_far = finish_at so_far so_far.joining

abbrev pub some : Bytes → Bool
some value = nat_lt 0 (length value)

-- one more piece of the batch that is being joined
abbrev pub continued_at : SoFar → Option OpenBatch → Record → ℕ → Result SoFar LogFault
continued_at so_far None r part = Err (faults.Part r.at part)
continued_at so_far (Some batch) r part =
    if part == batch.next && some r.value
    then Ok (record {
      batches = so_far.batches;
      low = so_far.low;
      joining = Some (record {
        at = batch.at;
        version = batch.version;
        next = batch.next + 1;
        joined = batch.joined ++ r.value;
      });
    })
    else Err (faults.Part r.at part)

unfoldable pub continued : SoFar → Record → ℕ → Result SoFar LogFault
continued so_far r part = continued_at so_far so_far.joining r part

-- the first piece of another batch
unfoldable pub begun : ℕ → SoFar → Record → ℕ → ℕ → Result SoFar LogFault
begun end so_far r version part =
    if nat_le so_far.low version && nat_lt version end
    then (if part == 0 && some r.value
    then Ok (record {
      batches = so_far.batches;
      low = so_far.low;
      joining = Some (record { at = r.at; version = version; next = 1; joined = r.value });
    })
    else Err (faults.Part r.at part))
    else Err (faults.Version r.at version)

-- a batch of this version is being joined
abbrev pub continues : Option OpenBatch → ℕ → Bool
continues None version = false
continues (Some batch) version = version == batch.version

abbrev pub placed : ℕ → SoFar → Record → ℕ → ℕ → Result SoFar LogFault
placed end so_far r version part =
    if continues so_far.joining version then continued so_far r part
    else (finished so_far >>= λ done. begun end done r version part)

-- a key is a version in eight bytes and a part's number in four, the high byte first
abbrev pub version_in : Bytes → ℕ
version_in key = from_be_bytes w64 (take 8 key)

abbrev pub part_in : Bytes → ℕ
part_in key = from_be_bytes w32 (drop 8 key)

unfoldable pub taken : ℕ → SoFar → Record → Result SoFar LogFault
taken end so_far r =
    if length r.key == 12 then placed end so_far r (version_in r.key) (part_in r.key)
    else Err (faults.KeyLength r.at)

abbrev pub all_taken : ℕ → SoFar → List Record → Result SoFar LogFault
all_taken end so_far [] = Ok so_far
all_taken end so_far (r ∷ rs) = taken end so_far r >>= λ more. all_taken end more rs

-- ---- the file

-- the blocks whose bytes begin at the place base, each wholly before its records; the first number
-- is never used up
unfoldable pub blocks_from : ℕ → ℕ → ℕ → ℕ → SoFar → Bytes → Result SoFar LogFault
blocks_from fuel size end base so_far [] = Ok so_far
blocks_from zero size end base so_far (byte ∷ bytes) = Err (faults.Short base)
blocks_from (suc fuel) size end base so_far (byte ∷ bytes) =
    block_records base (take size (byte ∷ bytes)) >>= λ records.
    all_taken end so_far records >>= λ more.
    blocks_from fuel size end (base + size) more (drop size (byte ∷ bytes))

-- what a reader answers: the batches, or the first fault
unfoldable pub read : ℕ → ℕ → ℕ → Bytes → Result (List Batch) LogFault
read size begin end bytes =
    blocks_from (length bytes) size end 0 (nothing_yet begin) bytes >>= finished >>= λ done.
    Ok done.batches

-- the batches of a log file, if the bytes are one
abbrev pub log_file_of : ℕ → ℕ → ℕ → Bytes → Option (List Batch)
log_file_of size begin end bytes = ok_side (read size begin end bytes)

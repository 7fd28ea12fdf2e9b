-- What a reader has found so far, without where it lies in memory.
use Rattle.std.specs.Prelude.{List, map, Option, Some, None}
use Rattle.log_files.specs.declared.batched as declared
use Rattle.log_files.specs.declared.record as rows
use Rattle.log_files.specs.inner.Joined.{joined_from}
use Rattle.log_files.specs.Reading.{OpenBatch, Record, SoFar}

abbrev pub record_from : rows.Record.Record → Record
record_from row = record { at = row.at; key = row.key.now; value = row.value.now }

abbrev pub records_from : List rows.Record.Record → List Record
records_from rows = map record_from rows

abbrev pub batch_from : declared.Joining.Joining → OpenBatch
batch_from batch =
    record {
      at = batch.at;
      version = batch.version;
      next = batch.next;
      joined = joined_from batch.joined;
    }

abbrev pub joining_from : Option declared.Joining.Joining → Option OpenBatch
joining_from None = None
joining_from (Some batch) = Some (batch_from batch)

abbrev pub so_far : declared.Batched.Batched → SoFar
so_far b = record { batches = b.batches; low = b.low; joining = joining_from b.joining }

-- The reader, seen as what the lines so far say.
use Rattle.workload_text.specs.declared.reader.Reader.{Reader}
use Rattle.workload_text.specs.Sofar.{Sofar}

abbrev pub sofar : Reader → Sofar
sofar r = record {
  part = r.part;
  settings = r.settings;
  clients = r.clients;
  side = r.side;
  txns = r.txns;
  ops = r.ops;
  operator = r.operator;
  schedule = r.schedule;
}

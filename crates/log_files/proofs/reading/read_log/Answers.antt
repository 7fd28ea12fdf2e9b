use Rattle.std.proofs.Common.{arith}
use Rattle.log_files.proofs.Files.{chunk_found, chunk_only, chunk_ok, chunk_span, chunk_err}
use Rattle.log_files.proofs.reading.read_log.Goals as goal

pub returns-clause-found : goal.returns-clause-found
returns-clause-found c = chunk_found c.args.block c.args.begin c.args.end c.args.begin c.args.end c.args.bytes.now c.batches_of-read.result c.chunk_of.result c.requires (λ i. omega (arith, c.type_inv.bytes i)) c.batches_of-read.ensures.ok c.chunk_of.ensures.chunk

pub returns-clause-only : goal.returns-clause-only
returns-clause-only c = λ batches file. chunk_only c.args.block c.args.begin c.args.end c.args.begin c.args.end c.args.bytes.now batches c.batches_of-read.result c.chunk_of.result c.requires (omega arith) file c.batches_of-read.ensures.ok c.batches_of-read.ensures.err c.chunk_of.ensures.chunk c.chunk_of.ensures.fault

pub returns-clause-ok : goal.returns-clause-ok
returns-clause-ok c = chunk_ok c.args.block c.args.begin c.args.end c.args.begin c.args.end c.args.bytes.now c.batches_of-read.result c.chunk_of.result c.batches_of-read.ensures.ok c.chunk_of.ensures.chunk

pub returns-clause-span : goal.returns-clause-span
returns-clause-span c = chunk_span c.args.begin c.args.end c.batches_of-read.result c.chunk_of.result c.chunk_of.ensures.chunk

pub returns-clause-err : goal.returns-clause-err
returns-clause-err c = chunk_err c.args.block c.args.begin c.args.end c.args.bytes.now c.batches_of-read.result c.chunk_of.result c.batches_of-read.ensures.err c.chunk_of.ensures.fault

use Rattle.mutations.specs.Histories.{batches_of}
use Rattle.database.proofs.Firsts.{page_first}
use Rattle.database.proofs.reading.first_pairs.Goals as goal

pub returns : goal.returns
returns c block history limit holds = page_first block c.args.store.now.limit history c.args.version c.args.range.now c.args.limit c.in_ok-page.page limit c.as_slice-rising.ensures.rising (c.in_ok-page.ensures (batches_of history) holds)

-- The items of a block without where they lie in memory.
use Rattle.range_files.specs.declared.block as declared
use Rattle.range_files.specs.Reading.{Items}

abbrev pub items_from : declared.Items.Items → Items
items_from items = record { pairs = items.pairs.items; end = items.end; rest = items.rest.now }

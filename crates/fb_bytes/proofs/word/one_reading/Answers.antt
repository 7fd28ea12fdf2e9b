use Rattle.fb_bytes.proofs.Letters.{one_word}
use Rattle.fb_bytes.proofs.word.one_reading.Goals as goal

pub returns : goal.returns
returns c = one_word

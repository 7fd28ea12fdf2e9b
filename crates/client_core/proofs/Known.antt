-- The laws of databases that the proofs on clients use.
use Rattle.database.specs.Laws.{CommitLaw, ReadOnlyLaw, CauseLaw, LargeLaw, LeavesReadsLaw, SerialLaw}

pub record Known : Type 0 where
  pub commit : CommitLaw
  pub read_only : ReadOnlyLaw
  pub cause : CauseLaw
  pub large : LargeLaw
  pub leaves : LeavesReadsLaw
  pub serial : SerialLaw

use Rattle.std.proofs.Common.{◌≡◌, drop}
use Rattle.fb_bytes.specs.Bytes.{Bytes}
use Rattle.restore_apply.specs.inner.Pieces.{since, links_since}
use Rattle.restore_apply.specs.inner.Tables.{found}
use Rattle.restore_apply.proofs.replay.replay.Given as goal

abbrev pub invariant-loop-link : goal.invariant-loop-link
invariant-loop-link l = (key : Bytes) → links_since (since l.pieces key) (drop l.link-index l.links) l.upto key (found l.table key) ≡ links_since (since l.pieces key) l.links l.upto key (found l.initial.table key)

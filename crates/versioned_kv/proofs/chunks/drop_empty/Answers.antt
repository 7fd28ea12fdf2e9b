use Rattle.std.proofs.Common.{◌≡◌, ◌<◌, length, refl, sym, ap, ◌∙◌, arith}
use Rattle.versioned_kv.specs.inner.Chunks.{joined}
use Rattle.versioned_kv.proofs.Places.{read_at}
use Rattle.versioned_kv.proofs.Changes.{joined_without, filled_all}
use Rattle.versioned_kv.proofs.chunks.drop_empty.Goals as goal

pub returns-then-len-eq0-clause-same : goal.returns-then-len-eq0-clause-same
returns-then-len-eq0-clause-same c =
    let chunks = c.args.chunks.now.items in
    let here = read_at chunks chunks c.args.place c.index.result.now refl c.requires.place c.index.ensures in
    ap joined c.remove.ensures.items ∙ joined_without c.args.place chunks c.index.result.now here (sym c.len.ensures ∙ c.if-len-eq0.true)

pub returns-else-len-eq0-clause-filled : goal.returns-else-len-eq0-clause-filled
returns-else-len-eq0-clause-filled c =
    let chunks = c.args.chunks.now.items in
    let here = read_at chunks chunks c.args.place c.index.result.now refl c.requires.place c.index.ensures in
    let all : c.len.result ≡ length c.index.result.now = c.len.ensures in
    let some : 0 < length c.index.result.now = omega (arith, c.if-len-eq0.false) in
    filled_all c.args.place chunks c.index.result.now here some c.requires.before c.requires.behind

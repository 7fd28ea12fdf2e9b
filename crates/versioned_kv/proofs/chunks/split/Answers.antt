use Rattle.std.proofs.Common.{◌≡◌, ◌/◌, ◌≤◌, length, Some, arith}
use Rattle.std.specs.List.{slice_get}
use Rattle.versioned_kv.proofs.Places.{read_at}
use Rattle.versioned_kv.proofs.Joined.{split_same, split_some}
use Rattle.versioned_kv.proofs.chunks.split.Goals as goal

pub returns-clause-filled : goal.returns-clause-filled
returns-clause-filled c =
    let chunks = c.args.chunks.now.items in
    let chunk = c.index_mut-chunk.result.now in
    let here : slice_get chunks c.args.place ≡ Some chunk = read_at c.reserve.new.self.items chunks c.args.place chunk c.reserve.ensures.items c.requires.place c.index_mut-chunk.ensures.value in
    let two : 2 ≤ length chunk = c.requires.two chunk here in
    let all : c.len-middle.result ≡ length chunk = c.len-middle.ensures in
    split_some c.args.place (c.len-middle.result / 2) chunks c.reserve.new.self.items c.insert.new.self.items chunk c.split_off.new.self c.in_ok-upper.upper here c.reserve.ensures.items c.in_ok-upper.ensures.ok c.in_ok-upper.ensures.rest c.in_ok-insert.ensures.items c.requires.filled (omega arith) (omega arith)

pub returns-clause-same : goal.returns-clause-same
returns-clause-same c =
    let chunks = c.args.chunks.now.items in
    let chunk = c.index_mut-chunk.result.now in
    let here : slice_get chunks c.args.place ≡ Some chunk = read_at c.reserve.new.self.items chunks c.args.place chunk c.reserve.ensures.items c.requires.place c.index_mut-chunk.ensures.value in
    split_same c.args.place (c.len-middle.result / 2) chunks c.reserve.new.self.items c.insert.new.self.items chunk c.split_off.new.self c.in_ok-upper.upper here c.reserve.ensures.items c.in_ok-upper.ensures.ok c.in_ok-upper.ensures.rest c.in_ok-insert.ensures.items

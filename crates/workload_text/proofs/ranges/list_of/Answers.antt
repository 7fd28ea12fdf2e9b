use Rattle.std.proofs.Common.{◌∷◌, List, ap, ◌∙◌}
use Rattle.fb_bytes.specs.Bytes.{Bytes}
use Rattle.workload_text.specs.Texts.{words_of}
use Rattle.workload_text.proofs.Pairs.{one_pair}
use Rattle.workload_text.proofs.ranges.list_of.Goals as goal

pub pairs-preserved : goal.pairs-preserved
pairs-preserved c =
    let begin = c.in-Some.begin.now in
    let end = c.in-Some-first_word.end.now in
    let more = words_of c.in-Some-first_word.after.now in
    let two = c.in-Some.ensures.some ∙ ap (λ (ws : List Bytes). begin ∷ ws) c.in-Some-first_word.ensures.some in
    one_pair (words_of c.args.words.now) (words_of c.pairs.rest.now) more begin end c.pairs.list c.push.new.self c.in_ok-range.range
    c.pairs.invariant two c.in_ok-range.ensures c.in_ok-push.ensures.ok

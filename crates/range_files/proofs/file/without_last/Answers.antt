use Rattle.std.proofs.Common.{length, arith, ap, ◌∙◌, ◌≡◌, vec_len}
use Rattle.range_files.specs.Reading as reading
use Rattle.range_files.proofs.Files.{popped}
use Rattle.range_files.proofs.file.without_last.Goals as goal

pub returns-in-None-clause-front : goal.returns-in-None-clause-front
returns-in-None-clause-front c =
    let len : vec_len c.into_vec-front.result ≡ length c.into_vec-front.result.items = omega arith in
    (popped c.into_vec-front.result.items c.pop-last.new.self.items c.pop-last.result (vec_len c.into_vec-front.result) _ _ c.pop-last.ensures.items len c.pop-last.ensures.cases).0 ∙ ap reading.all_but_last c.into_vec-front.ensures.same

pub returns-in-None-clause-last : goal.returns-in-None-clause-last
returns-in-None-clause-last c =
    let len : vec_len c.into_vec-front.result ≡ length c.into_vec-front.result.items = omega arith in
    rw c.in-None.is ((popped c.into_vec-front.result.items c.pop-last.new.self.items c.pop-last.result (vec_len c.into_vec-front.result) _ _ c.pop-last.ensures.items len c.pop-last.ensures.cases).1 ∙ ap reading.last_of c.into_vec-front.ensures.same)

pub returns-in-Some-clause-front : goal.returns-in-Some-clause-front
returns-in-Some-clause-front c =
    let len : vec_len c.into_vec-front.result ≡ length c.into_vec-front.result.items = omega arith in
    (popped c.into_vec-front.result.items c.pop-last.new.self.items c.pop-last.result (vec_len c.into_vec-front.result) _ _ c.pop-last.ensures.items len c.pop-last.ensures.cases).0 ∙ ap reading.all_but_last c.into_vec-front.ensures.same

use Rattle.std.proofs.Common.{ap, ◌∙◌, ◌-◌, length, take, drop}
use Rattle.std.specs.List.{prefix_len}
use Rattle.fb_bytes.specs.inner.Keys.{is_passed}
use Rattle.mutations.specs.inner.Clipping.{begins_before}
use Rattle.mutations.proofs.Meets.{separate_behind, met_alone}
use Rattle.mutations.proofs.clipping.met.Goals as goal

pub begun_before-begun-requires : goal.begun_before-begun-requires
begun_before-begun-requires c = separate_behind c.passed_by-passed.result c.args.ranges.now c.requires

pub returns : goal.returns
returns c =
    let passed = c.passed_by-passed.result in
    let rest = take (length c.args.ranges.now - passed) (drop passed c.args.ranges.now) in
    met_alone c.args.begin.now c.args.end.now c.args.ranges.now passed c.begun_before-begun.result c.requires
    (c.passed_by-passed.ensures.count ∙ ap (λ key. prefix_len (is_passed key) c.args.ranges.now) c.as_slice.ensures.same)
    (c.begun_before-begun.ensures.count ∙ ap (λ key. prefix_len (begins_before key) rest) c.as_slice-2.ensures.same)

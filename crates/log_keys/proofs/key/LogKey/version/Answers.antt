use Rattle.std.proofs.Common.{◌≡◌, length, take, drop, ap, ◌∙◌, arith}
use Rattle.std.specs.Int.{w64, from_be_bytes}
use Rattle.fb_bytes.specs.Bytes.{Bytes}
use Rattle.log_keys.specs.Keys.{key_in}
use Rattle.log_keys.proofs.KeyOrder.{key_length, version_is}
use Rattle.log_keys.proofs.key.LogKey.version.Goals as goal

pub number_at-requires : goal.number_at-requires
number_at-requires c =
    let len : length c.as_slice.result.now ≡ 28 = ap length (c.as_slice.ensures.same ∙ c.self.invariant.0) ∙ key_length (key_in c.self.inside.bytes) in
    omega arith

pub returns : goal.returns
returns c = c.number_at.ensures ∙ ap (λ (x : Bytes). from_be_bytes w64 (take 8 (drop 16 x))) c.as_slice.ensures.same ∙ version_is c.self.inside.bytes c.args.self.now c.self.view_is

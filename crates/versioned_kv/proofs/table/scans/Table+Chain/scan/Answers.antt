use Rattle.std.proofs.Common.{◌≡◌, suc, ◌+◌, List, ◌++◌, length, Option, Some, None, inl, inr, is_some, rules, sym, ap, ◌∙◌, subst, arith}
use Rattle.fb_bytes.specs.Bytes.{Bytes}
use Rattle.fb_bytes.specs.declared.Pair.{Pair}
use Rattle.versioned_kv.specs.inner.Chains.{keys_below}
use Rattle.versioned_kv.specs.inner.Pages.{IsPart}
use Rattle.versioned_kv.proofs.Forgets.{rising_at}
use Rattle.versioned_kv.proofs.Scans.{pairs_upto, pairs_none, append_none, length_end, part_step, full_part, last_part}
use Rattle.versioned_kv.proofs.table.scans.Table+Chain.scan.Goals as goal

pub loop-place-init : goal.loop-place-init
loop-place-init g c =
    let first : c.place_of-first.result ≡ keys_below c.args.range.now.begin c.args.self.now = c.place_of-first.ensures.place ∙ ap (λ (k : Bytes). keys_below k c.args.self.now) c.as_slice.ensures.same in
    record {
      ends = inl (omega arith);
      pairs = sym (ap (λ (ps : List Pair). c.args.pairs.now.items ++ ps) (pairs_none c.place_of-first.result c.args.range.now.begin c.args.version c.args.self.now (omega arith)) ∙ append_none c.args.pairs.now.items);
      few = c.requires.few;
    }

pub value-requires : goal.value-requires
value-requires g c = rising_at c.loop-place.place c.args.self.now c.at-chain.result.now c.requires.chains c.at-chain.ensures.entry

pub loop-place-preserved-in_default : goal.loop-place-preserved-in_default
loop-place-preserved-in_default g c =
    let range = c.args.range.now in
    let first : c.place_of-first.result ≡ keys_below range.begin c.args.self.now = c.place_of-first.ensures.place ∙ ap (λ (k : Bytes). keys_below k c.args.self.now) c.as_slice.ensures.same in
    let last : c.place_of-last.result ≡ keys_below range.end c.args.self.now = c.place_of-last.ensures.place ∙ ap (λ (k : Bytes). keys_below k c.args.self.now) c.as_slice-2.ensures.same in
    let next : suc c.loop-place.place ≡ c.loop-place.place + 1 = omega arith in
    record {
      ends = inr (omega arith);
      pairs = subst (λ place. c.loop-place.pairs.items ≡ c.args.pairs.now.items ++ pairs_upto place range.begin c.args.version c.args.self.now) next (part_step c.loop-place.place range c.args.version c.args.self.now c.at-chain.result.now c.args.pairs.now.items c.loop-place.pairs.items c.loop-place.pairs.items None c.requires.chains (omega arith) c.at-chain.ensures.entry c.in_default.ensures.value c.loop-place.invariant.pairs (sym (append_none c.loop-place.pairs.items)));
      few = c.loop-place.invariant.few;
    }

pub returns-then-len-limit : goal.returns-then-len-limit
returns-then-len-limit g c =
    let range = c.args.range.now in
    let chains = c.args.self.now in
    let first : c.place_of-first.result ≡ keys_below range.begin chains = c.place_of-first.ensures.place ∙ ap (λ (k : Bytes). keys_below k chains) c.as_slice.ensures.same in
    let last : c.place_of-last.result ≡ keys_below range.end chains = c.place_of-last.ensures.place ∙ ap (λ (k : Bytes). keys_below k chains) c.as_slice-2.ensures.same in
    let count : c.len.result ≡ length c.loop-place.pairs.items = search rules in
    subst (λ (key : Bytes). IsPart range c.args.version c.args.limit chains c.args.pairs.now.items c.loop-place.pairs.items (Some key)) (sym c.in_ok-next.ensures)
    (full_part c.loop-place.place range c.args.version c.args.limit chains c.at-chain.result.now c.args.pairs.now.items c.loop-place.pairs.items c.requires.chains (omega arith) (omega arith) c.at-chain.ensures.entry (ap (λ (o : Option Bytes). is_some o) (sym c.in-Some.ensures.value)) c.loop-place.invariant.pairs (sym count ∙ c.if-len-limit.true))

pub loop-place-preserved : goal.loop-place-preserved
loop-place-preserved g c =
    let range = c.args.range.now in
    let first : c.place_of-first.result ≡ keys_below range.begin c.args.self.now = c.place_of-first.ensures.place ∙ ap (λ (k : Bytes). keys_below k c.args.self.now) c.as_slice.ensures.same in
    let last : c.place_of-last.result ≡ keys_below range.end c.args.self.now = c.place_of-last.ensures.place ∙ ap (λ (k : Bytes). keys_below k c.args.self.now) c.as_slice-2.ensures.same in
    let count : c.len.result ≡ length c.loop-place.pairs.items = search rules in
    let next : suc c.loop-place.place ≡ c.loop-place.place + 1 = omega arith in
    let longer = ap length c.in_ok-push_pair.ensures ∙ length_end c.loop-place.pairs.items (record { key = c.at-chain.result.now.key; value = c.in-Some.value.now }) in
    record {
      ends = inr (omega arith);
      pairs = subst (λ place. c.push_pair.new.pairs.items ≡ c.args.pairs.now.items ++ pairs_upto place range.begin c.args.version c.args.self.now) next (part_step c.loop-place.place range c.args.version c.args.self.now c.at-chain.result.now c.args.pairs.now.items c.loop-place.pairs.items c.push_pair.new.pairs.items (Some c.in-Some.value.now) c.requires.chains (omega arith) c.at-chain.ensures.entry c.in-Some.ensures.value c.loop-place.invariant.pairs c.in_ok-push_pair.ensures);
      few = omega arith;
    }

pub returns : goal.returns
returns g c =
    let range = c.args.range.now in
    let chains = c.args.self.now in
    let last : c.place_of-last.result ≡ keys_below range.end chains = c.place_of-last.ensures.place ∙ ap (λ (k : Bytes). keys_below k chains) c.as_slice-2.ensures.same in
    last_part c.loop-place.place range c.args.version c.args.limit chains c.args.pairs.now.items c.loop-place.pairs.items c.requires.chains (omega arith) c.loop-place.invariant.ends c.loop-place.invariant.pairs c.loop-place.invariant.few

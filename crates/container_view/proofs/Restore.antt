-- What a restore writes is the meaning.
use Rattle.std.proofs.Common.{◌≡◌, ℕ, suc, ◌+◌, min, max, Bool, true, false, cond, ◌&&◌, List, [], ◌∷◌, ◌++◌, Option, Some, None, refl, sym, ap, ◌∙◌, arith, subst, if◌then◌else◌, nat_lt, nat_le, add-one}
use Rattle.std.specs.List.{AllByRecursion}
use Rattle.std.proofs.lemmas.Bool.{and_parts, and_from, and_right, or_parts, false_from_ne_true, not-true, cond-false}
use Rattle.std.proofs.lemmas.Bool.Decides.{nat_tests}
use Rattle.fb_bytes.specs.Bytes.{Bytes, is_below, is_same}
use Rattle.fb_bytes.specs.declared.KeyRange.{KeyRange}
use Rattle.fb_bytes.specs.Keys.{holds, in_ranges}
use Rattle.fb_bytes.specs.Options.{◌>>=◌, each_of}
use Rattle.fb_bytes.specs.declared.Pair.{Pair}
use Rattle.fb_bytes.specs.Pairs.{value_of, KeyPast, AreRising}
use Rattle.block_frame.specs.Profiles.{limit_of}
use Rattle.mutations.specs.declared.Mutation.{Mutation}
use Rattle.mutations.specs.declared.Batch.{Batch}
use Rattle.mutations.specs.Effects.{effects}
use Rattle.mutations.specs.Clipping.{all_clipped}
use Rattle.mutations.specs.Replay.{is_within, replayed}
use Rattle.mutations.proofs.Basics.{by_test, not_both, all_weaker}
use Rattle.fb_bytes.proofs.Order.{below_up, below_trans, below_itself, same_eq}
use Rattle.mutations.proofs.Clips.{effects_append, clips_same, clips_none}
use Rattle.container_view.specs.Folder.{Folder}
use Rattle.container_view.specs.Chain.{chain}
use Rattle.container_view.specs.Advertised.{chosen}
use Rattle.container_view.specs.Meaning.{Piece, Part, overlaps, overlaps_any, are_disjoint, piece_of, value_at, replayed_parts, piece_named, read_chain, Needed, needed}
use Rattle.container_view.specs.Restore.{loads, all_loads, older, applied, all_applied, IsWhole, AppliedLaw, RestoredLaw}
use Rattle.fb_bytes.proofs.Options.{bind_some}
use Rattle.container_view.proofs.Faithful.{container_law}

-- ---- pairs whose keys rise

next_past : (key : Bytes) (p : Pair) (ps : List Pair) → is_below key p.key ≡ true → KeyPast p.key ps → KeyPast key ps
next_past key p [] h g = tt
next_past key p (q ∷ qs) h g = below_trans key p.key q.key h g

later_key : (key : Bytes) (q : Pair) → is_below key q.key ≡ true → is_same q.key key ≡ false
later_key key q h = false_from_ne_true (is_same q.key key) (λ e. not_both (sym (ap (is_below key) (same_eq q.key key e)) ∙ h) (below_itself key))

-- no later pair has the key
keys_differ : (key : Bytes) (ps : List Pair) → KeyPast key ps → AreRising ps → AllByRecursion (λ q. is_same q.key key ≡ false) ps
keys_differ key [] h r = tt
keys_differ key (p ∷ ps) h r = (later_key key p h, keys_differ key ps (next_past key p ps h r.0) r.1)

-- ---- pieces that don't overlap

begins_before : (b e key : Bytes) → is_below key b ≡ false → is_below key e ≡ true → is_below b e ≡ true
begins_before b e key h g = go (is_below b e) refl
  where
    go : (t : Bool) → is_below b e ≡ t → is_below b e ≡ true
    go true q = q
    go false q = not_both (below_up key b e g q) h

pub both_hold : (a b : KeyRange) (key : Bytes) → holds a key ≡ true → holds b key ≡ true → overlaps a b ≡ true
both_hold a b key h g =
    let p = and_parts _ _ h in
    let q = and_parts _ _ g in
    and_from _ _ (begins_before a.begin b.end key (not-true _ p.0) q.1) (begins_before b.begin a.end key (not-true _ q.0) p.1)

pub not_held : (r : KeyRange) (ps : List Piece) (key : Bytes) → overlaps_any r ps ≡ false → holds r key ≡ true → AllByRecursion (λ q. holds q.range key ≡ false) ps
not_held r [] key h g = tt
not_held r (p ∷ ps) key h g =
    let o = or_parts _ _ h in
    (false_from_ne_true (holds p.range key) (λ k. not_both (both_hold r p.range key g k) o.0), not_held r ps key o.1 g)

max_le : (a b n : ℕ) → nat_le (max a b) n ≡ (nat_le a n && nat_le b n)
max_le a b n = grind (arith, nat_tests)

module _ (limit : ℕ) (key : Bytes) where
  -- ---- loads

  loads_other : (ps : List Pair) (old : Option Bytes) → AllByRecursion (λ q. is_same q.key key ≡ false) ps → effects limit (loads ps) key old ≡ old
  loads_other [] old h = refl
  loads_other (p ∷ ps) old h = ap (effects limit (loads ps) key) (cond-false _ (Some p.value) old h.0) ∙ loads_other ps old h.1

  pub loads_at : (ps : List Pair) → AreRising ps → effects limit (loads ps) key None ≡ value_of ps key
  loads_at [] d = refl
  loads_at (p ∷ ps) d = go (is_same p.key key) refl (loads_at ps d.1)
    where
      go : (b : Bool) → is_same p.key key ≡ b → effects limit (loads ps) key None ≡ value_of ps key → effects limit (loads ps) key (cond b (Some p.value) None) ≡ cond b (Some p.value) (value_of ps key)
      go true e ih = loads_other ps (Some p.value) (subst (λ k. AllByRecursion (λ q. is_same q.key k ≡ false) ps) (same_eq p.key key e) (keys_differ p.key ps d.0 d.1))
      go false e ih = ih

  -- a piece that doesn't hold the key
  pub loads_past : (p : Piece) (old : Option Bytes) → IsWhole p → holds p.range key ≡ false → effects limit (loads p.pairs) key old ≡ old
  loads_past p old w h = loads_other p.pairs old (all_weaker _ _ (λ q k. false_from_ne_true (is_same q.key key) (λ e. not_both (sym (ap (holds p.range) (same_eq q.key key e)) ∙ k) h)) p.pairs w.inside)

  all_past : (ps : List Piece) (old : Option Bytes) → AllByRecursion IsWhole ps → AllByRecursion (λ q. holds q.range key ≡ false) ps → effects limit (all_loads ps) key old ≡ old
  all_past [] old w h = refl
  all_past (p ∷ ps) old w h = effects_append limit key (loads p.pairs) _ old ∙ all_past ps _ w.1 h.1 ∙ loads_past p old w.0 h.0

  all_loads_at : (ps : List Piece) → AllByRecursion IsWhole ps → are_disjoint ps ≡ true → effects limit (all_loads ps) key None ≡ (piece_of ps key >>= λ p. value_of p.pairs key)
  all_loads_at [] w d = refl
  all_loads_at (p ∷ ps) w d =
      let h = and_parts _ _ d in
      effects_append limit key (loads p.pairs) _ None ∙ go (holds p.range key) refl (not-true _ h.0) (all_loads_at ps w.1 h.1)
    where
      go : (b : Bool) → holds p.range key ≡ b → overlaps_any p.range ps ≡ false → effects limit (all_loads ps) key None ≡ (piece_of ps key >>= λ p. value_of p.pairs key) → effects limit (all_loads ps) key (effects limit (loads p.pairs) key None) ≡ (cond b (Some p) (piece_of ps key) >>= λ p. value_of p.pairs key)
      go true e o ih = all_past ps _ w.1 (not_held p.range ps key o e) ∙ loads_at p.pairs w.0.rising
      go false e o ih = ap (effects limit (all_loads ps) key) (loads_past p None w.0 e) ∙ ih

  -- ---- clipped to the older pieces

  older_none : (ps : List Piece) (n : ℕ) → AllByRecursion (λ q. holds q.range key ≡ false) ps → in_ranges (older ps n) key ≡ false
  older_none [] n h = refl
  older_none (p ∷ ps) n h = by_test (nat_lt p.version n) (λ rs. in_ranges rs key ≡ false) _ _ (λ t. rw h.0 (older_none ps n h.1)) (λ t. older_none ps n h.1)

  pub no_piece : (ps : List Piece) → piece_of ps key ≡ None → AllByRecursion (λ q. holds q.range key ≡ false) ps
  no_piece [] e = tt
  no_piece (p ∷ ps) e = go (holds p.range key) refl (no_piece ps) e
    where
      go : (b : Bool) → holds p.range key ≡ b → (piece_of ps key ≡ None → AllByRecursion (λ q. holds q.range key ≡ false) ps) → cond b (Some p) (piece_of ps key) ≡ None → (holds p.range key ≡ false) × AllByRecursion (λ q. holds q.range key ≡ false) ps
      go true h ih e = cc
      go false h ih e = (h, ih e)

  pub older_at : (ps : List Piece) (p : Piece) (n : ℕ) → are_disjoint ps ≡ true → piece_of ps key ≡ Some p → in_ranges (older ps n) key ≡ nat_lt p.version n
  older_at [] p n d e = cc
  older_at (q ∷ qs) p n d e =
      let h = and_parts _ _ d in
      go (holds q.range key) refl (not-true _ h.0) (older_at qs p n h.1) e
    where
      go : (b : Bool) → holds q.range key ≡ b → overlaps_any q.range qs ≡ false → (piece_of qs key ≡ Some p → in_ranges (older qs n) key ≡ nat_lt p.version n) → cond b (Some q) (piece_of qs key) ≡ Some p → in_ranges (cond (nat_lt q.version n) (q.range ∷ older qs n) (older qs n)) key ≡ nat_lt p.version n
      go true h o ih e =
          let s : q ≡ p = cc in
          by_test (nat_lt q.version n) (λ rs. in_ranges rs key ≡ nat_lt p.version n) _ _
          (λ t. rw h (sym (ap (λ x. nat_lt x.version n) (sym s) ∙ t)))
          (λ t. older_none qs n (not_held q.range qs key o h) ∙ sym (ap (λ x. nat_lt x.version n) (sym s) ∙ t))
      go false h o ih e = by_test (nat_lt q.version n) (λ rs. in_ranges rs key ≡ nat_lt p.version n) _ _ (λ t. rw h (ih e)) (λ t. ih e)

  -- ---- applied mutations

  clips_at : (ranges : List KeyRange) (b : Bool) → in_ranges ranges key ≡ b → (ms : List Mutation) (old : Option Bytes) → effects limit (all_clipped ranges ms) key old ≡ cond b (effects limit ms key old) old
  clips_at ranges true h ms old = clips_same limit key ranges h ms old
  clips_at ranges false h ms old = clips_none limit key ranges h ms old

  entry_at : (ranges : List KeyRange) (t b : Bool) → in_ranges ranges key ≡ b → (ms : List Mutation) (old : Option Bytes) → effects limit (if t then all_clipped ranges ms else []) key old ≡ cond (t && b) (effects limit ms key old) old
  entry_at ranges true b h ms old = clips_at ranges b h ms old
  entry_at ranges false b h ms old = refl

  pub applied_none : (ps : List Piece) → piece_of ps key ≡ None → (xs : List Batch) (low high : ℕ) (old : Option Bytes) → effects limit (applied ps xs low high) key old ≡ old
  applied_none ps e [] low high old = refl
  applied_none ps e (x ∷ xs) low high old =
      effects_append limit key (if is_within low high x.version then all_clipped (older ps x.version) x.muts else []) _ old
      ∙ applied_none ps e xs low high _
      ∙ entry_at (older ps x.version) (is_within low high x.version) false (older_none ps x.version (no_piece ps e)) x.muts old
      ∙ cond-false _ _ _ (and_right (is_within low high x.version) false refl)

  within_past : (low high f n : ℕ) → is_within (max low (f + 1)) high n ≡ (is_within low high n && nat_lt f n)
  within_past low high f n = rw add-one (ap (λ t. t && nat_lt n high) (max_le low (suc f) n) ∙ swap (nat_le low n) (nat_lt f n) (nat_lt n high))
    where
      swap : (a b c : Bool) → ((a && b) && c) ≡ ((a && c) && b)
      swap false b c = refl
      swap true false false = refl
      swap true false true = refl
      swap true true false = refl
      swap true true true = refl

  pub applied_at : (ps : List Piece) (p : Piece) → are_disjoint ps ≡ true → piece_of ps key ≡ Some p → (xs : List Batch) (low high : ℕ) (old : Option Bytes) → effects limit (applied ps xs low high) key old ≡ replayed limit xs (max low (p.version + 1)) high key old
  applied_at ps p d e [] low high old = refl
  applied_at ps p d e (x ∷ xs) low high old =
      effects_append limit key (if is_within low high x.version then all_clipped (older ps x.version) x.muts else []) _ old
      ∙ applied_at ps p d e xs low high _
      ∙ ap (replayed limit xs (max low (p.version + 1)) high key) (entry_at (older ps x.version) (is_within low high x.version) (nat_lt p.version x.version) (older_at ps p x.version d e) x.muts old ∙ ap (λ t. cond t (effects limit x.muts key old) old) (sym (within_past low high p.version x.version)))

module _ (block : ℕ) (key : Bytes) (pieces : List Piece) where
  all_none : piece_of pieces key ≡ None → (parts : List Part) (high : ℕ) (old : Option Bytes) → effects (limit_of block) (all_applied pieces parts high) key old ≡ old
  all_none e [] high old = refl
  all_none e (p ∷ ps) high old = effects_append (limit_of block) key (applied pieces p.batches p.from (min p.to high)) _ old ∙ all_none e ps high _ ∙ applied_none (limit_of block) key pieces e p.batches p.from (min p.to high) old

  all_at : (q : Piece) → are_disjoint pieces ≡ true → piece_of pieces key ≡ Some q → (parts : List Part) (high : ℕ) (old : Option Bytes) → AllByRecursion (λ p. p.block ≡ block) parts → effects (limit_of block) (all_applied pieces parts high) key old ≡ replayed_parts parts (q.version + 1) high key old
  all_at q d e [] high old b = refl
  all_at q d e (p ∷ ps) high old b =
      effects_append (limit_of block) key (applied pieces p.batches p.from (min p.to high)) _ old
      ∙ all_at q d e ps high _ b.1
      ∙ ap (replayed_parts ps (q.version + 1) high key) (applied_at (limit_of block) key pieces q d e p.batches p.from (min p.to high) old ∙ ap (λ c. replayed (limit_of c) p.batches (max p.from (q.version + 1)) (min p.to high) key old) (sym b.0))

restored_by : (block : ℕ) (pieces : List Piece) (parts : List Part) (v : ℕ) → AllByRecursion IsWhole pieces → are_disjoint pieces ≡ true → AllByRecursion (λ p. p.block ≡ block) parts → (key : Bytes) (o : Option Piece) → piece_of pieces key ≡ o → effects (limit_of block) (all_loads pieces ++ all_applied pieces parts (v + 1)) key None ≡ (o >>= λ p. replayed_parts parts (p.version + 1) (v + 1) key (value_of p.pairs key))
restored_by block pieces parts v w d b key None e =
    effects_append (limit_of block) key (all_loads pieces) _ None
    ∙ all_none block key pieces e parts (v + 1) _
    ∙ all_loads_at (limit_of block) key pieces w d
    ∙ ap (λ o. o >>= λ p. value_of p.pairs key) e
restored_by block pieces parts v w d b key (Some q) e =
    effects_append (limit_of block) key (all_loads pieces) _ None
    ∙ all_at block key pieces q d e parts (v + 1) _ b
    ∙ ap (replayed_parts parts (q.version + 1) (v + 1) key) (all_loads_at (limit_of block) key pieces w d ∙ ap (λ o. o >>= λ p. value_of p.pairs key) e)

-- what was read doesn't overlap
pub needed_disjoint : (folder : Folder) (v : ℕ) (n : Needed) → needed folder v ≡ Some n → are_disjoint n.pieces ≡ true
needed_disjoint folder v n e =
    let m = bind_some (chosen folder v) _ n e in
    let names = bind_some m.0.content _ n m.2 in
    let pieces = bind_some (each_of (piece_named folder.ranges) names.0) _ n names.2 in
    let parts = bind_some (read_chain (chain folder m.0.begin (v + 1))) _ n pieces.2 in
    go (are_disjoint pieces.0) pieces.0 parts.0 refl parts.2
  where
    go : (b : Bool) (pieces : List Piece) (parts : List Part) → are_disjoint pieces ≡ b → cond b (Some (record { pieces = pieces; parts = parts })) None ≡ Some n → are_disjoint n.pieces ≡ true
    go true pieces parts h e = let q : record { pieces = pieces; parts = parts } ≡ n = cc in ap (λ x. are_disjoint x.pieces) (sym q) ∙ h
    go false pieces parts h e = cc

pub applied_law : AppliedLaw
applied_law folder v block n e r meaning h key =
    let same : Some (value_at n.pieces n.parts v) ≡ Some meaning = sym (ap (λ o. o >>= λ n. Some (value_at n.pieces n.parts v)) e) ∙ h in
    let f : value_at n.pieces n.parts v ≡ meaning = cc in
    restored_by block n.pieces n.parts v r.whole (needed_disjoint folder v n e) r.of_block key (piece_of n.pieces key) refl ∙ ap (λ g. g key) f

pub restored_law : RestoredLaw
restored_law s folder v honest a n e r key =
    let f = (container_law s folder honest).each v a in
    applied_law folder v s.block n e r f.meaning f.defined key ∙ f.same key

-- The pairs of a range, chunk by chunk.
use Rattle.std.proofs.Common.{◌≡◌, ℕ, zero, suc, ◌+◌, ◌<◌, ◌≤◌, Bool, true, false, not, ◌&&◌, cond, List, [], ◌∷◌, ◌++◌, length, Option, Some, None, take, drop, refl, sym, ap, ◌∙◌, subst, arith, is_some}
use Rattle.std.specs.List.{slice_get, AllByRecursion}
use Rattle.fb_bytes.specs.Bytes.{Bytes, is_below, is_same}
use Rattle.fb_bytes.specs.declared.KeyRange.{KeyRange}
use Rattle.fb_bytes.specs.Keys.{holds}
use Rattle.fb_bytes.specs.declared.Pair.{Pair}
use Rattle.fb_bytes.specs.Pairs.{AreRising}
use Rattle.fb_bytes.proofs.Order.{not_both, below_trans, below_not_back, same_eq}
use Rattle.mutations.proofs.Basics.{all_weaker}
use Rattle.versioned_kv.specs.Chains.{Row, Chain, value_in, rows_of, value_at}
use Rattle.versioned_kv.specs.inner.Chains.{AreChains}
use Rattle.versioned_kv.specs.inner.Chunks.{joined, AreKeysBelow, AreKeysPast, BelongsTo}
use Rattle.versioned_kv.specs.Pages.{IsPage}
use Rattle.versioned_kv.specs.inner.Pages.{pair_of, pairs_in, range_upto, IsPart}
use Rattle.versioned_kv.proofs.Joined.{assoc, none_behind as append_none, all_parts, chains_parts, cut_joined, parted, past_later, rows_joined}
use Rattle.versioned_kv.proofs.Scans.{none_behind, none_before, in_both, in_rise, last_page, full_page}

-- ---- a key that has a value is one of the keys

key_has : (P : Bytes → Type 0) (key : Bytes) (version : ℕ) (chains : List Chain) → is_some (value_at chains key version) ≡ true → AllByRecursion (λ (c : Chain). P c.key) chains → P key
key_has P key version [] s h = not_both s refl
key_has P key version (c ∷ cs) s h = go (is_same c.key key) refl (λ t. key_has P key version cs t h.1)
  where
    go : (b : Bool) → is_same c.key key ≡ b → (is_some (value_at cs key version) ≡ true → P key) → P key
    go true e rest = subst P (same_eq c.key key e) h.0
    go false e rest = rest (subst (λ b. is_some (value_in (cond b c.rows (rows_of cs key)) version None) ≡ true) e s)

before_key : (key : Bytes) (version : ℕ) (before chunk behind : List Chain) → AreChains (before ++ (chunk ++ behind)) → is_some (value_at chunk key version) ≡ true → AreKeysBelow key before
before_key key version [] chunk behind h s = tt
before_key key version (c ∷ cs) chunk behind h s =
    let rest = (all_parts (λ (d : Chain). is_below c.key d.key ≡ true) cs (chunk ++ behind) h.0).1 in
    let here = (all_parts (λ (d : Chain). is_below c.key d.key ≡ true) chunk behind rest).0 in
    (key_has (λ k. is_below c.key k ≡ true) key version chunk s here, before_key key version cs chunk behind h.3 s)

each_past : (chunk behind : List Chain) → AreChains (chunk ++ behind) → AllByRecursion (λ (c : Chain). AreKeysPast c.key behind) chunk
each_past [] behind h = tt
each_past (c ∷ cs) behind h = ((all_parts (λ (d : Chain). is_below c.key d.key ≡ true) cs behind h.0).1, each_past cs behind h.3)

behind_key : (key : Bytes) (version : ℕ) (before chunk behind : List Chain) → AreChains (before ++ (chunk ++ behind)) → is_some (value_at chunk key version) ≡ true → AreKeysPast key behind
behind_key key version before chunk behind h s = key_has (λ k. AreKeysPast k behind) key version chunk s (each_past chunk behind (chains_parts before (chunk ++ behind) h).1)

-- ---- up to such a key

before_same : (range : KeyRange) (key : Bytes) (version : ℕ) (chains : List Chain) → is_below key range.end ≡ true → AreKeysBelow key chains → pairs_in (range_upto range (Some key)) version chains ≡ pairs_in range version chains
before_same range key version [] e h = refl
before_same range key version (c ∷ cs) e h =
    let a : is_below c.key key ≡ true = h.0 in
    let b : is_below c.key range.end ≡ true = below_trans c.key key range.end a e in
    let same : holds (range_upto range (Some key)) c.key ≡ holds range c.key = ap (λ t. not (is_below c.key range.begin) && t) (a ∙ sym b) in
    ap (λ t. cond t (pair_of c.key (value_in c.rows version None)) [] ++ pairs_in (range_upto range (Some key)) version cs) same
    ∙ ap (λ (ps : List Pair). cond (holds range c.key) (pair_of c.key (value_in c.rows version None)) [] ++ ps) (before_same range key version cs e h.1)

past_none : (range : KeyRange) (version : ℕ) (chains : List Chain) → AreKeysPast range.end chains → pairs_in range version chains ≡ []
past_none range version chains h = none_behind range version chains (all_weaker (λ (c : Chain). is_below range.end c.key ≡ true) (λ (c : Chain). is_below c.key range.end ≡ false) (λ c e. below_not_back range.end c.key e) chains h)

found_whole : (range : KeyRange) (version limit : ℕ) (before chunk behind : List Chain) (old new : List Pair) (key : Bytes) → AreChains (before ++ (chunk ++ behind)) → old ≡ pairs_in range version before → IsPart range version limit chunk old new (Some key) → new ≡ pairs_in (range_upto range (Some key)) version (before ++ (chunk ++ behind))
found_whole range version limit before chunk behind old new key h e p =
    let some = p.left.1 in
    let lower = before_key key version before chunk behind h some in
    let upper = behind_key key version before chunk behind h some in
    let part = range_upto range (Some key) in
    let end : is_below key range.end ≡ true = right (not (is_below key range.begin)) (is_below key range.end) p.left.0 in
    p.pairs
    ∙ ap (λ (ps : List Pair). ps ++ pairs_in part version chunk) (e ∙ sym (before_same range key version before end lower))
    ∙ ap (λ (ps : List Pair). pairs_in part version before ++ ps) (sym (in_both part version chunk behind ∙ ap (λ (ps : List Pair). pairs_in part version chunk ++ ps) (past_none part version behind upper) ∙ append_none (pairs_in part version chunk)))
    ∙ sym (in_both part version before (chunk ++ behind))
  where
    right : (a b : Bool) → (a && b) ≡ true → b ≡ true
    right true b e = e
    right false b e = not_both e refl

found : (range : KeyRange) (version limit : ℕ) (before chunk behind : List Chain) (old new : List Pair) (key : Bytes) → AreChains (before ++ (chunk ++ behind)) → old ≡ pairs_in range version before → IsPart range version limit chunk old new (Some key) → IsPage (λ k. value_at (before ++ (chunk ++ behind)) k version) range limit (record { pairs = new; next = Some key })
found range version limit before chunk behind old new key h e p =
    let some = p.left.1 in
    let lower = before_key key version before chunk behind h some in
    let upper = behind_key key version before chunk behind h some in
    let same : value_at chunk key version ≡ value_at (before ++ (chunk ++ behind)) key version = ap (λ (rs : List Row). value_in rs version None) (sym (rows_joined key before chunk behind lower upper)) in
    full_page range version limit (before ++ (chunk ++ behind)) new key h (found_whole range version limit before chunk behind old new key h e p) p.few (p.left.0, ap is_some (sym same) ∙ some, p.left.2)

-- ---- the loop

pub first_pairs : (range : KeyRange) (version first : ℕ) (chunks : List (List Chain)) (pairs : List Pair) → pairs ≡ [] → BelongsTo range.begin first chunks → pairs ≡ pairs_in range version (joined (take first chunks))
first_pairs range version first chunks pairs e b = e ∙ sym (none_before range version (joined (take first chunks)) b.before)

take_next : (place : ℕ) (chunks : List (List Chain)) (chunk : List Chain) → slice_get chunks place ≡ Some chunk → joined (take (suc place) chunks) ≡ joined (take place chunks) ++ chunk
take_next place [] chunk g = cc
take_next zero (x ∷ xs) chunk g = let same : x ≡ chunk = cc in one xs ∙ same
  where
    one : (ys : List (List Chain)) → joined (take 1 (x ∷ ys)) ≡ x
    one [] = append_none x
    one (y ∷ ys) = append_none x
take_next (suc place) (x ∷ xs) chunk g = ap (λ (cs : List Chain). x ++ cs) (take_next place xs chunk g) ∙ sym (assoc x (joined (take place xs)) chunk)

pub next_pairs : (range : KeyRange) (version limit place : ℕ) (chunks : List (List Chain)) (chunk : List Chain) (old new : List Pair) (next : Option Bytes) → is_some next ≡ false → slice_get chunks place ≡ Some chunk → old ≡ pairs_in range version (joined (take place chunks)) → IsPart range version limit chunk old new next → new ≡ pairs_in range version (joined (take (place + 1) chunks))
next_pairs range version limit place chunks chunk old new (Some key) none g e p = not_both refl none
next_pairs range version limit place chunks chunk old new None none g e p =
    let next : suc place ≡ place + 1 = omega arith in
    p.pairs ∙ ap (λ (ps : List Pair). ps ++ pairs_in range version chunk) e
    ∙ sym (in_both range version (joined (take place chunks)) chunk)
    ∙ ap (pairs_in range version) (sym (take_next place chunks chunk g))
    ∙ ap (λ i. pairs_in range version (joined (take i chunks))) next

pub found_rise : (range : KeyRange) (version limit place : ℕ) (chunks : List (List Chain)) (chunk : List Chain) (old new : List Pair) (next : Option Bytes) → is_some next ≡ true → AreChains (joined chunks) → slice_get chunks place ≡ Some chunk → old ≡ pairs_in range version (joined (take place chunks)) → IsPart range version limit chunk old new next → AreRising new
found_rise range version limit place chunks chunk old new None some h g e p = not_both some refl
found_rise range version limit place chunks chunk old new (Some key) some h g e p =
    let parts = parted place chunks chunk g in
    let all : List Chain = joined (take place chunks) ++ (chunk ++ joined (drop (suc place) chunks)) in
    let chains : AreChains all = subst AreChains parts h in
    subst AreRising (sym (found_whole range version limit (joined (take place chunks)) chunk (joined (drop (suc place) chunks)) old new key chains e p)) (in_rise (range_upto range (Some key)) version all chains)

pub found_page : (range : KeyRange) (version limit place : ℕ) (chunks : List (List Chain)) (chunk : List Chain) (old new : List Pair) (next : Option Bytes) → is_some next ≡ true → AreChains (joined chunks) → slice_get chunks place ≡ Some chunk → old ≡ pairs_in range version (joined (take place chunks)) → IsPart range version limit chunk old new next → IsPage (λ k. value_at (joined chunks) k version) range limit (record { pairs = new; next = next })
found_page range version limit place chunks chunk old new None some h g e p = not_both some refl
found_page range version limit place chunks chunk old new (Some key) some h g e p =
    let parts = parted place chunks chunk g in
    subst (λ (cs : List Chain). IsPage (λ k. value_at cs k version) range limit (record { pairs = new; next = Some key })) (sym parts)
    (found range version limit (joined (take place chunks)) chunk (joined (drop (suc place) chunks)) old new key (subst AreChains parts h) e p)

pub whole_rise : (range : KeyRange) (version place : ℕ) (chunks : List (List Chain)) (pairs : List Pair) → AreChains (joined chunks) → pairs ≡ pairs_in range version (joined (take place chunks)) → AreRising pairs
whole_rise range version place chunks pairs h e = subst AreRising (sym e) (in_rise range version (joined (take place chunks)) (chains_parts (joined (take place chunks)) (joined (drop place chunks)) (subst AreChains (cut_joined place chunks) h)).0)

pub whole_page : (range : KeyRange) (version limit place last : ℕ) (chunks : List (List Chain)) (pairs : List Pair) → AreChains (joined chunks) → BelongsTo range.end last chunks → last < place → pairs ≡ pairs_in range version (joined (take place chunks)) → length pairs ≤ limit → IsPage (λ k. value_at (joined chunks) k version) range limit (record { pairs = pairs; next = None })
whole_page range version limit place last chunks pairs h b l e few =
    let rest = past_none range version (joined (drop place chunks)) (past_later range.end (suc last) place chunks (omega arith) b.behind) in
    last_page range version limit (joined chunks) pairs h
    (e ∙ sym (append_none (pairs_in range version (joined (take place chunks))))
    ∙ ap (λ (ps : List Pair). pairs_in range version (joined (take place chunks)) ++ ps) (sym rest)
    ∙ sym (in_both range version (joined (take place chunks)) (joined (drop place chunks)))
    ∙ ap (pairs_in range version) (sym (cut_joined place chunks)))
    few

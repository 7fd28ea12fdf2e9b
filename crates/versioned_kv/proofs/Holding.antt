-- A store holds what was applied: one entry more, one entry back.
use Rattle.std.proofs.Common.{◌≡◌, ℕ, suc, ◌+◌, ◌-◌, ◌<◌, ◌≤◌, cond, List, [], ◌∷◌, ◌++◌, length, map, Option, Some, None, IsSome, ⊎_elim, refl, sym, ap, ◌∙◌, subst, arith}
use Rattle.std.specs.List.{slice_get, AllByRecursion}
use Rattle.std.specs.Option.{option_to_list}
use Rattle.std.proofs.lemmas.Bool.{cases_lt, false≢true}
use Rattle.fb_bytes.specs.Bytes.{Bytes}
use Rattle.mutations.specs.declared.batch.Batch.{Batch}
use Rattle.mutations.specs.declared.mutation.Mutation.{Mutation}
use Rattle.mutations.specs.Effects.{effects}
use Rattle.mutations.specs.Replay.{is_within, AreRising}
use Rattle.mutations.proofs.Basics.{all_weaker}
use Rattle.mutations.proofs.Replays.{within_is, above_within, replayed_append, replayed_agree}
use Rattle.versioned_kv.specs.Chains.{Row, Chain, value_in, rows_of, value_at}
use Rattle.versioned_kv.specs.inner.Chains.{AreChains}
use Rattle.versioned_kv.specs.Edits.{without}
use Rattle.versioned_kv.specs.inner.Edits.{AreUpto, Extends}
use Rattle.versioned_kv.specs.inner.Sound.{AreVersions, AreOf, IsSound}
use Rattle.versioned_kv.specs.Applied.{Contents, Holds, IsPast, IsRetractable, applied_at, with_entry}
use Rattle.versioned_kv.proofs.Puts.{value_without}
use Rattle.versioned_kv.proofs.Cuts.{rows_left, value_below, value_later, value_back, upto_below, below_all, left_alone, versions_end, of_more, front_versions, chains_left, of_fewer, all_in, in_last}

-- ---- entries

applied_end : (limit : ℕ) (entries : List Batch) (entry : Batch) (at : ℕ) (key : Bytes) → applied_at limit (entries ++ entry ∷ []) at key ≡ cond (is_within 0 (at + 1) entry.version) (effects limit entry.muts key (applied_at limit entries at key)) (applied_at limit entries at key)
applied_end limit entries entry at key = replayed_append limit key entries (entry ∷ []) 0 (at + 1) None

applied_later : (limit : ℕ) (entries : List Batch) (entry : Batch) (at : ℕ) (key : Bytes) → entry.version ≤ at → applied_at limit (entries ++ entry ∷ []) at key ≡ effects limit entry.muts key (applied_at limit entries at key)
applied_later limit entries entry at key l = applied_end limit entries entry at key ∙ ap (λ t. cond t (effects limit entry.muts key (applied_at limit entries at key)) (applied_at limit entries at key)) (within_is 0 (at + 1) entry.version (omega arith) (omega arith))

applied_earlier : (limit : ℕ) (entries : List Batch) (entry : Batch) (at : ℕ) (key : Bytes) → at < entry.version → applied_at limit (entries ++ entry ∷ []) at key ≡ applied_at limit entries at key
applied_earlier limit entries entry at key l = applied_end limit entries entry at key ∙ ap (λ t. cond t (effects limit entry.muts key (applied_at limit entries at key)) (applied_at limit entries at key)) (above_within 0 (at + 1) entry.version (omega arith))

-- versions at or past all entries have one state
applied_same : (limit : ℕ) (entries : List Batch) (a b : ℕ) (key : Bytes) → AllByRecursion (λ (x : Batch). x.version ≤ a) entries → a ≤ b → applied_at limit entries b key ≡ applied_at limit entries a key
applied_same limit entries a b key h l = replayed_agree limit key entries 0 (b + 1) 0 (a + 1) None (all_weaker (λ (x : Batch). x.version ≤ a) (λ (x : Batch). is_within 0 (b + 1) x.version ≡ is_within 0 (a + 1) x.version) (λ x k. within_is 0 (b + 1) x.version (omega arith) (omega arith) ∙ sym (within_is 0 (a + 1) x.version (omega arith) (omega arith))) entries h)

rising_end : (entries : List Batch) (entry : Batch) → AreRising entries → AllByRecursion (λ (x : Batch). x.version < entry.version) entries → AreRising (entries ++ entry ∷ [])
rising_end [] entry h a = (tt, tt)
rising_end (x ∷ xs) entry h a = (all_snoc xs h.0, rising_end xs entry h.1 a.1)
  where
    all_snoc : (ys : List Batch) → AllByRecursion (λ (y : Batch). x.version < y.version) ys → AllByRecursion (λ (y : Batch). x.version < y.version) (ys ++ entry ∷ [])
    all_snoc [] k = (a.0, tt)
    all_snoc (y ∷ ys) k = (k.0, all_snoc ys k.1)

rising_front : (entries : List Batch) (entry : Batch) → AreRising (entries ++ entry ∷ []) → AreRising entries × AllByRecursion (λ (x : Batch). x.version < entry.version) entries
rising_front [] entry h = (tt, tt)
rising_front (x ∷ xs) entry h = let rest = rising_front xs entry h.1 in let k = snoc xs h.0 in ((k.0, rest.0), (k.1, rest.1))
  where
    snoc : (ys : List Batch) → AllByRecursion (λ (y : Batch). x.version < y.version) (ys ++ entry ∷ []) → AllByRecursion (λ (y : Batch). x.version < y.version) ys × (x.version < entry.version)
    snoc [] k = (tt, k.0)
    snoc (y ∷ ys) k = let r = snoc ys k.1 in ((k.0, r.0), r.1)

map_end : (entries : List Batch) (entry : Batch) → map (λ (x : Batch). x.version) (entries ++ entry ∷ []) ≡ map (λ (x : Batch). x.version) entries ++ entry.version ∷ []
map_end [] entry = refl
map_end (x ∷ xs) entry = ap (λ (ys : List ℕ). x.version ∷ ys) (map_end xs entry)

past_entries : (version : ℕ) (entries : List Batch) → IsPast version (map (λ (x : Batch). x.version) entries) → AllByRecursion (λ (x : Batch). x.version < version) entries
past_entries version [] h = tt
past_entries version (x ∷ xs) h = (h.0, past_entries version xs h.1)

pub snoc_same : (xs ys : List ℕ) (x y : ℕ) → xs ++ x ∷ [] ≡ ys ++ y ∷ [] → (xs ≡ ys) × (x ≡ y)
snoc_same [] [] x y e = (refl, cc)
snoc_same [] (b ∷ []) x y e = cc
snoc_same [] (b ∷ c ∷ ys) x y e = cc
snoc_same (a ∷ []) [] x y e = cc
snoc_same (a ∷ b ∷ xs) [] x y e = cc
snoc_same (a ∷ xs) (b ∷ ys) x y e =
    let first : a ≡ b = cc in
    let rest : xs ++ x ∷ [] ≡ ys ++ y ∷ [] = cc in
    let same = snoc_same xs ys x y rest in
    (ap (λ n. n ∷ xs) first ∙ ap (λ (zs : List ℕ). b ∷ zs) same.0, same.1)

-- ---- one entry more

pub holds_more : (limit oldest : ℕ) (versions : List ℕ) (old new : List Chain) (version : ℕ) (muts : List Mutation) → AreChains old → AreUpto version old → IsPast version versions → Extends version old new → ((key : Bytes) → value_at new key version ≡ effects limit muts key (value_at old key version)) → (entries : List Batch) → Holds (record { limit = limit; oldest = oldest; versions = versions; chains = old }) entries → Holds (record { limit = limit; oldest = oldest; versions = versions ++ version ∷ []; chains = new }) (with_entry entries version muts)
holds_more limit oldest versions old new version muts chains upto past extends told entries h =
    let entry : Batch = record { version = version; muts = muts } in
    record {
      rising = rising_end entries entry h.rising (past_entries version entries (subst (IsPast version) h.versions past));
      versions = ap (λ (vs : List ℕ). vs ++ version ∷ []) h.versions ∙ sym (map_end entries entry);
      states = λ key at live. ⊎_elim
          (λ l. value_below version at old new key chains extends l ∙ h.states key at live ∙ sym (applied_earlier limit entries entry at key l))
          (λ l. value_later version at new key extends.upto l ∙ told key ∙ ap (effects limit muts key) (sym (value_later version at old key upto l) ∙ h.states key at live) ∙ sym (applied_later limit entries entry at key l))
          (cases_lt at version);
    }

-- ---- one entry back

pub holds_back : (limit oldest : ℕ) (versions rest : List ℕ) (version : ℕ) (chains : List Chain) → AreChains chains → AreUpto version chains → versions ≡ rest ++ version ∷ [] → oldest < version → (entries : List Batch) (entry : Batch) → Holds (record { limit = limit; oldest = oldest; versions = versions; chains = chains }) (entries ++ entry ∷ []) → Holds (record { limit = limit; oldest = oldest; versions = rest; chains = without version chains }) entries
holds_back limit oldest versions rest version chains ordered upto split live entries entry h =
    let same = snoc_same rest (map (λ (x : Batch). x.version) entries) version entry.version (sym split ∙ h.versions ∙ map_end entries entry) in
    let front = rising_front entries entry h.rising in
    let newest : version ≡ entry.version = same.1 in
    let last : version - 1 + 1 ≡ version = omega arith in
    record {
      rising = front.0;
      versions = same.0;
      states = λ key at alive. ⊎_elim
          (λ l. ap (λ (rs : List Row). value_in rs at None) (rows_left version chains key ordered) ∙ value_without version at (rows_of chains key) None l ∙ h.states key at alive ∙ applied_earlier limit entries entry at key (omega arith))
          (λ l. value_back version at chains key ordered upto (omega arith) (omega arith) ∙ h.states key (version - 1) (omega arith) ∙ applied_earlier limit entries entry (version - 1) key (omega arith) ∙ sym (applied_same limit entries (version - 1) at key (all_weaker (λ (x : Batch). x.version < entry.version) (λ (x : Batch). x.version ≤ version - 1) (λ x k. omega arith) entries front.1) (omega arith)))
          (cases_lt at version);
    }

-- ---- a version that was added and taken back

pub pop_back : (r : Option ℕ) (xs ys : List ℕ) (version : ℕ) → xs ++ version ∷ [] ≡ ys ++ option_to_list r → IsSome r → ys ≡ xs
pop_back None xs ys version e some = absurd (false≢true some)
pop_back (Some w) xs ys version e some = sym (snoc_same xs ys version w e).0

-- ---- what an apply is called with

pub upto_past : (version : ℕ) (versions : List ℕ) (chains : List Chain) → IsPast version versions → AreOf versions chains → AreUpto version chains
upto_past version versions chains past known = upto_below version chains (below_all version versions chains past known)

-- what is left of an apply once its rows are taken away
pub cut_back : (version : ℕ) (versions : List ℕ) (old new : List Chain) → AreChains old → IsPast version versions → AreOf versions old → Extends version old new → without version new ≡ old
cut_back version versions old new ordered past known extends = extends.same ∙ left_alone version old ordered (below_all version versions old past known)

pub sound_more : (version : ℕ) (versions : List ℕ) (old new : List Chain) → IsSound versions old → IsPast version versions → Extends version old new → IsSound (versions ++ version ∷ []) new
sound_more version versions old new sound past extends = record {
  versions_rise = versions_end version versions sound.versions_rise past;
  in_order = extends.chains;
  known = of_more version versions new (subst (AreOf versions) (sym (cut_back version versions old new sound.in_order past sound.known extends)) sound.known);
}

pub sound_back : (version : ℕ) (versions : List ℕ) (chains : List Chain) → IsSound (versions ++ version ∷ []) chains → IsSound versions (without version chains)
sound_back version versions chains sound = record {
  versions_rise = (front_versions version versions sound.versions_rise).0;
  in_order = chains_left version chains sound.in_order;
  known = of_fewer version versions chains sound.known;
}

-- ---- the newest version

last_all : (versions : List ℕ) (last : ℕ) → AreVersions versions → slice_get versions (length versions - 1) ≡ Some last → AllByRecursion (λ (v : ℕ). v ≤ last) versions
last_all [] last h g = tt
last_all (x ∷ []) last h g = let same : x ≡ last = cc in (omega arith, tt)
last_all (x ∷ y ∷ ys) last h g =
    let m : length (x ∷ y ∷ ys) - 1 ≡ suc (length (y ∷ ys) - 1) = omega arith in
    let rest = last_all (y ∷ ys) last h.1 (subst (λ i. slice_get (x ∷ y ∷ ys) i ≡ Some last) m g) in
    (let l = h.0.0 in let k = rest.0 in omega arith, rest)

pub past_last : (version last : ℕ) (versions : List ℕ) → AreVersions versions → Some last ≡ slice_get versions (length versions - 1) → last < version → IsPast version versions
past_last version last versions h g l = all_weaker (λ (v : ℕ). v ≤ last) (λ (v : ℕ). v < version) (λ v k. omega arith) versions (last_all versions last h (sym g))

pub last_past : (version last : ℕ) (versions : List ℕ) → Some last ≡ slice_get versions (length versions - 1) → IsPast version versions → last < version
last_past version last [] g h = cc
last_past version last (x ∷ []) g h = let same : x ≡ last = cc in let l = h.0 in omega arith
last_past version last (x ∷ y ∷ ys) g h =
    let m : length (x ∷ y ∷ ys) - 1 ≡ suc (length (y ∷ ys) - 1) = omega arith in
    last_past version last (y ∷ ys) (subst (λ i. Some last ≡ slice_get (x ∷ y ∷ ys) i) m g) h.1

pub past_none : (version : ℕ) (versions : List ℕ) → None ≡ slice_get versions (length versions - 1) → IsPast version versions
past_none version [] g = tt
past_none version (x ∷ []) g = cc
past_none version (x ∷ y ∷ ys) g =
    let m : length (x ∷ y ∷ ys) - 1 ≡ suc (length (y ∷ ys) - 1) = omega arith in
    absurd (some_last y ys (subst (λ i. None ≡ slice_get (x ∷ y ∷ ys) i) m g))
  where
    some_last : (z : ℕ) (zs : List ℕ) → None ≡ slice_get (z ∷ zs) (length (z ∷ zs) - 1) → ⊥
    some_last z [] e = cc
    some_last z (w ∷ ws) e = let n : length (z ∷ w ∷ ws) - 1 ≡ suc (length (w ∷ ws) - 1) = omega arith in some_last w ws (subst (λ i. None ≡ slice_get (z ∷ w ∷ ws) i) n e)

pub last_split : (last : ℕ) (versions : List ℕ) → Some last ≡ slice_get versions (length versions - 1) → (front : List ℕ) × (version : ℕ) × (versions ≡ front ++ version ∷ []) × (version ≡ last)
last_split last [] g = cc
last_split last (x ∷ []) g = ([], x, refl, cc)
last_split last (x ∷ y ∷ ys) g =
    let m : length (x ∷ y ∷ ys) - 1 ≡ suc (length (y ∷ ys) - 1) = omega arith in
    let rest = last_split last (y ∷ ys) (subst (λ i. Some last ≡ slice_get (x ∷ y ∷ ys) i) m g) in
    (x ∷ rest.0, rest.1, ap (λ (zs : List ℕ). x ∷ zs) rest.2, rest.3)

-- ---- an entry that may be taken back

pub back_from : (store : Contents) (newest : ℕ) → Some newest ≡ slice_get store.versions (length store.versions - 1) → store.oldest < newest → IsRetractable store
back_from store newest g l = let split = last_split newest store.versions g in let same : split.1 ≡ newest = split.3 in (split.0, split.1, split.2, omega arith)

pub back_past : (store : Contents) (newest : ℕ) → Some newest ≡ slice_get store.versions (length store.versions - 1) → IsRetractable store → store.oldest < newest
back_past store newest g r =
    let split = last_split newest store.versions g in
    let end : split.1 ≡ newest = split.3 in
    let same = snoc_same r.0 split.0 r.1 split.1 (sym r.2 ∙ split.2) in
    let one : r.1 ≡ split.1 = same.1 in
    let live : store.oldest < r.1 = r.3 in
    omega arith

pub none_back : (store : Contents) → None ≡ slice_get store.versions (length store.versions - 1) → IsRetractable store → ⊥
none_back store g r =
    let below : r.1 < 0 = all_in (λ n. n < 0) r.1 (r.0 ++ r.1 ∷ []) (subst (IsPast 0) r.2 (past_none 0 store.versions g)) (in_last r.1 r.0) in
    omega arith

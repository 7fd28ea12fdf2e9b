-- The first pairs of a range.
use Rattle.std.proofs.Common.{◌≡◌, ℕ, Bool, true, false, ◌&&◌, cond, List, [], ◌∷◌, length, take, Option, Some, None, refl, sym, ap, ◌∙◌}
use Rattle.std.proofs.lemmas.List.{take_all}
use Rattle.fb_bytes.specs.Bytes.{Bytes, is_below, is_same}
use Rattle.fb_bytes.specs.declared.KeyRange.{KeyRange}
use Rattle.fb_bytes.specs.declared.Pair.{Pair}
use Rattle.fb_bytes.specs.Keys.{holds}
use Rattle.fb_bytes.specs.Pairs.{value_of, KeyPast, AreRising}
use Rattle.fb_bytes.proofs.Order.{below_up, same_eq}
use Rattle.block_frame.specs.Profiles.{limit_of}
use Rattle.mutations.specs.declared.Entry.{Entry}
use Rattle.mutations.specs.Histories.{batches_of, state_at}
use Rattle.versioned_kv.specs.Applied.{applied_at}
use Rattle.versioned_kv.specs.declared.Page.{Page}
use Rattle.versioned_kv.specs.Pages.{IsPage, IsNext, is_before}
use Rattle.mutations.proofs.Basics.{and_true}
use Rattle.database.specs.Dumps.{keys_of, value_within, pairs_at}
use Rattle.database.proofs.Keys.{keys_of_history}
use Rattle.database.proofs.PairLists.{pairs_rising, same_pairs, value_past}
use Rattle.database.proofs.Dumping.{told, dump_is}

-- ---- the pairs in front of a key

abbrev pub front : Bytes → List Pair → List Pair
front end [] = []
front end (pair ∷ pairs) = cond (is_below pair.key end) (pair ∷ front end pairs) []

take_front : (end : Bytes) (pairs : List Pair) → take (length (front end pairs)) pairs ≡ front end pairs
take_front end [] = refl
take_front end (x ∷ xs) = go (is_below x.key end) (take_front end xs)
  where
    go : (b : Bool) → take (length (front end xs)) xs ≡ front end xs → take (length (cond b (x ∷ front end xs) [])) (x ∷ xs) ≡ cond b (x ∷ front end xs) []
    go true ih = ap (λ (ys : List Pair). x ∷ ys) ih
    go false ih = refl

front_past : (key end : Bytes) (pairs : List Pair) → KeyPast key pairs → KeyPast key (front end pairs)
front_past key end [] h = tt
front_past key end (x ∷ xs) h = go (is_below x.key end)
  where
    go : (b : Bool) → KeyPast key (cond b (x ∷ front end xs) [])
    go true = h
    go false = tt

front_rising : (end : Bytes) (pairs : List Pair) → AreRising pairs → AreRising (front end pairs)
front_rising end [] h = tt
front_rising end (x ∷ xs) h = go (is_below x.key end) (front_rising end xs h.1)
  where
    go : (b : Bool) → AreRising (front end xs) → AreRising (cond b (x ∷ front end xs) [])
    go true ih = (front_past x.key end xs h.0, ih)
    go false ih = tt

-- behind the front nothing is below its end
none_behind : (key end : Bytes) (x : Pair) (xs : List Pair) → is_below x.key end ≡ false → AreRising (x ∷ xs) → None ≡ cond (is_below key end) (value_of (x ∷ xs) key) None
none_behind key end x xs e h = go (is_below key end) refl
  where
    go : (b : Bool) → is_below key end ≡ b → None ≡ cond b (value_of (x ∷ xs) key) None
    go true f = sym (value_past key (x ∷ xs) (below_up key x.key end f e) h)
    go false f = refl

front_tells : (end : Bytes) (pairs : List Pair) (key : Bytes) → AreRising pairs → value_of (front end pairs) key ≡ cond (is_below key end) (value_of pairs key) None
front_tells end [] key h = go (is_below key end)
  where
    go : (b : Bool) → None ≡ cond b (value_of [] key) None
    go true = refl
    go false = refl
front_tells end (x ∷ xs) key h = go (is_below x.key end) refl (is_same x.key key) refl (front_tells end xs key h.1)
  where
    go : (b : Bool) → is_below x.key end ≡ b → (s : Bool) → is_same x.key key ≡ s → value_of (front end xs) key ≡ cond (is_below key end) (value_of xs key) None → value_of (cond b (x ∷ front end xs) []) key ≡ cond (is_below key end) (value_of (x ∷ xs) key) None
    go true b true s ih = let below : is_below key end ≡ true = sym (ap (λ k. is_below k end) (same_eq x.key key s)) ∙ b in rw (s, below) refl
    go true b false s ih = rw s ih
    go false b s e ih = none_behind key end x xs b h

-- ---- a page has the first pairs

swap : {X : Type 0} (h b : Bool) (o : Option X) → cond (h && b) o None ≡ cond b (cond h o None) None
swap true b o = refl
swap false true o = refl
swap false false o = refl

pub page_first : (block limit : ℕ) (history : List Entry) (version : ℕ) (range : KeyRange) (count : ℕ) (page : Page) → limit ≡ limit_of block → AreRising page.pairs → IsPage (applied_at limit (batches_of history) version) range count page → page.pairs ≡ take count (pairs_at block history version range)
page_first block limit history version range count page e rising h = go page.next refl h.next
  where
    all : List Pair
    all = pairs_at block history version range

    sorted : AreRising all
    sorted = pairs_rising (value_within block history version range) (keys_of history) (keys_of_history history)

    same_limit : (b : Bool) (key : Bytes) → cond b (applied_at limit (batches_of history) version key) None ≡ cond b (state_at (limit_of block) history version key) None
    same_limit b key = ap (λ n. cond b (applied_at n (batches_of history) version key) None) e

    go : (o : Option Bytes) → page.next ≡ o → IsNext (applied_at limit (batches_of history) version) range count page.pairs o → page.pairs ≡ take count all
    go None n q =
        let whole : page.pairs ≡ all = dump_is block history version range page.pairs rising (λ key.
        h.told key ∙ ap (λ (x : Option Bytes). cond (holds range key && is_before x key) (applied_at limit (batches_of history) version key) None) n
        ∙ ap (λ b. cond b (applied_at limit (batches_of history) version key) None) (and_true (holds range key))
        ∙ same_limit (holds range key) key) in
        sym (take_all count page.pairs h.few) ∙ ap (take count) whole
    go (Some next) n q =
        let part : page.pairs ≡ front next all = same_pairs page.pairs (front next all) rising (front_rising next all sorted) (λ key.
        h.told key ∙ ap (λ (x : Option Bytes). cond (holds range key && is_before x key) (applied_at limit (batches_of history) version key) None) n
        ∙ same_limit (holds range key && is_below key next) key
        ∙ swap (holds range key) (is_below key next) (state_at (limit_of block) history version key)
        ∙ ap (λ (x : Option Bytes). cond (is_below key next) x None) (sym (told block history version range key))
        ∙ sym (front_tells next all key sorted)) in
        part ∙ sym (take_front next all) ∙ ap (λ n. take n all) (sym (ap length part) ∙ q.2)

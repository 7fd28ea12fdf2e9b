-- What is done to each chunk in turn is done to all keys.
use Rattle.std.proofs.Common.{◌≡◌, ℕ, zero, suc, ◌+◌, ◌<◌, ◌≤◌, Bool, true, false, not, ◌&&◌, cond, List, [], ◌∷◌, ◌++◌, length, Some, None, take, drop, refl, sym, ap, ◌∙◌, subst, arith}
use Rattle.std.specs.List.{slice_get, slice_set}
use Rattle.fb_bytes.specs.Bytes.{Bytes, is_below}
use Rattle.fb_bytes.specs.declared.KeyRange.{KeyRange}
use Rattle.fb_bytes.specs.Keys.{holds}
use Rattle.fb_bytes.proofs.Order.{below_not_back}
use Rattle.fb_bytes.proofs.Mapped.{mapped}
use Rattle.mutations.proofs.Basics.{all_weaker}
use Rattle.versioned_kv.specs.Chains.{Row, Chain, value_at}
use Rattle.versioned_kv.specs.inner.Chains.{AreChains, has_key_below, keys_below}
use Rattle.versioned_kv.specs.Edits.{with_rows}
use Rattle.versioned_kv.specs.inner.Edits.{clear_chain, cleared_upto, all_cleared, IsClearedUpto, AreUpto, Extends}
use Rattle.versioned_kv.specs.inner.Chunks.{joined, AreFilled, AreKeysBelow, AreKeysPast, BelongsTo}
use Rattle.versioned_kv.proofs.Search.{front_upto}
use Rattle.versioned_kv.proofs.Clears.{AreFrom, from_drop, clear_extends, value_clear}
use Rattle.versioned_kv.proofs.Joined.{assoc, all_parts, cut_joined, filled_set, filled_at, past_later}

-- ---- one chunk after the other

pub there_yet : {A : Type 0} (f : A → A) (i : ℕ) (xs : List A) → slice_get (mapped f i xs) i ≡ slice_get xs i
there_yet f zero xs = refl
there_yet f (suc i) [] = refl
there_yet f (suc i) (x ∷ xs) = there_yet f i xs

set_next : {A : Type 0} (f : A → A) (i : ℕ) (xs : List A) (x : A) → slice_get xs i ≡ Some x → slice_set (mapped f i xs) i (f x) ≡ mapped f (suc i) xs
set_next f i [] x g = cc
set_next f zero (y ∷ ys) x g = let same : y ≡ x = cc in ap (λ z. f z ∷ ys) (sym same)
set_next f (suc i) (y ∷ ys) x g = ap (λ zs. f y ∷ zs) (set_next f i ys x g)

pub next_done : {A : Type 0} (f : A → A) (i : ℕ) (xs now new : List A) (x y : A) → now ≡ mapped f i xs → slice_get now i ≡ Some x → y ≡ f x → new ≡ slice_set now i y → new ≡ mapped f (i + 1) xs
next_done f i xs now new x y e g h n =
    let next : suc i ≡ i + 1 = omega arith in
    n ∙ ap (λ zs. slice_set zs i y) e ∙ ap (slice_set (mapped f i xs) i) h
    ∙ set_next f i xs x (sym (there_yet f i xs) ∙ ap (λ zs. slice_get zs i) (sym e) ∙ g)
    ∙ ap (λ k. mapped f k xs) next

pub here_yet : {A : Type 0} (f : A → A) (i : ℕ) (xs now : List A) (x : A) → now ≡ mapped f i xs → slice_get now i ≡ Some x → slice_get xs i ≡ Some x
here_yet f i xs now x e g = sym (there_yet f i xs) ∙ ap (λ zs. slice_get zs i) (sym e) ∙ g

pub mapped_len : {A : Type 0} (f : A → A) (i : ℕ) (xs : List A) → length (mapped f i xs) ≡ length xs
mapped_len f zero xs = refl
mapped_len f (suc i) [] = refl
mapped_len f (suc i) (x ∷ xs) = ap suc (mapped_len f i xs)

pub within_now : {A : Type 0} (f : A → A) (i : ℕ) (xs now : List A) → now ≡ mapped f i xs → i < length xs → i < length now
within_now f i xs now e l = let n = ap length e ∙ mapped_len f i xs in omega arith

-- a change of all keys that can be made part by part
abbrev pub IsByParts : (List Chain → List Chain) → Type 0
IsByParts f = (f [] ≡ []) × ((xs ys : List Chain) → f (xs ++ ys) ≡ f xs ++ f ys)

pub joined_upto : (f : List Chain → List Chain) → IsByParts f → (i : ℕ) (chunks : List (List Chain)) → joined (mapped f i chunks) ≡ f (joined (take i chunks)) ++ joined (drop i chunks)
joined_upto f p zero [] = ap (λ (cs : List Chain). cs ++ []) (sym p.0)
joined_upto f p zero (x ∷ xs) = ap (λ (cs : List Chain). cs ++ joined (x ∷ xs)) (sym p.0)
joined_upto f p (suc i) [] = ap (λ (cs : List Chain). cs ++ []) (sym p.0)
joined_upto f p (suc i) (x ∷ xs) = ap (λ (cs : List Chain). f x ++ cs) (joined_upto f p i xs) ∙ sym (assoc (f x) (f (joined (take i xs))) (joined (drop i xs))) ∙ ap (λ (cs : List Chain). cs ++ joined (drop i xs)) (sym (p.1 x (joined (take i xs))))

-- once the other chunks would stay as they are, all is done
pub all_done : (f : List Chain → List Chain) → IsByParts f → (i : ℕ) (chunks : List (List Chain)) → f (joined (drop i chunks)) ≡ joined (drop i chunks) → joined (mapped f i chunks) ≡ f (joined chunks)
all_done f p i chunks rest =
    joined_upto f p i chunks
    ∙ ap (λ (cs : List Chain). f (joined (take i chunks)) ++ cs) (sym rest)
    ∙ sym (p.1 (joined (take i chunks)) (joined (drop i chunks)))
    ∙ ap f (sym (cut_joined i chunks))

-- ---- a chain in front

pub with_both : (key : Bytes) (rows : List Row) (xs ys : List Chain) → with_rows key rows (xs ++ ys) ≡ with_rows key rows xs ++ ys
with_both key [] xs ys = refl
with_both key (r ∷ rs) xs ys = refl

-- ---- a range is cleared

cleared_both : (range : KeyRange) (version : ℕ) (xs ys : List Chain) → all_cleared range version (xs ++ ys) ≡ all_cleared range version xs ++ all_cleared range version ys
cleared_both range version [] ys = refl
cleared_both range version (x ∷ xs) ys = ap (λ (cs : List Chain). cond (holds range x.key) (clear_chain version x) x ∷ cs) (cleared_both range version xs ys)

pub clear_by_parts : (range : KeyRange) (version : ℕ) → IsByParts (all_cleared range version)
clear_by_parts range version = (refl, cleared_both range version)

before_stays : (range : KeyRange) (version : ℕ) (chains : List Chain) → AreKeysBelow range.begin chains → all_cleared range version chains ≡ chains
before_stays range version [] h = refl
before_stays range version (c ∷ cs) h =
    let e : is_below c.key range.begin ≡ true = h.0 in
    rw e (ap (λ (xs : List Chain). c ∷ xs) (before_stays range version cs h.1))

from_stays : (range : KeyRange) (version : ℕ) (chains : List Chain) → AreFrom range.end chains → all_cleared range version chains ≡ chains
from_stays range version [] h = refl
from_stays range version (c ∷ cs) h =
    let out : holds range c.key ≡ false = right (not (is_below c.key range.begin)) (is_below c.key range.end) h.0 in
    rw out (ap (λ (xs : List Chain). c ∷ xs) (from_stays range version cs h.1))
  where
    right : (a b : Bool) → b ≡ false → (a && b) ≡ false
    right false b f = refl
    right true b f = f

behind_stays : (range : KeyRange) (version : ℕ) (chains : List Chain) → AreKeysPast range.end chains → all_cleared range version chains ≡ chains
behind_stays range version chains h = from_stays range version chains (all_weaker (λ (c : Chain). is_below range.end c.key ≡ true) (λ (c : Chain). is_below c.key range.end ≡ false) (λ c e. below_not_back range.end c.key e) chains h)

rest_stays : (range : KeyRange) (version : ℕ) (place : ℕ) (chains : List Chain) → AreFrom range.end (drop place chains) → cleared_upto place range version chains ≡ all_cleared range version chains
rest_stays range version zero [] h = refl
rest_stays range version zero (c ∷ cs) h = sym (from_stays range version (c ∷ cs) h)
rest_stays range version (suc place) [] h = refl
rest_stays range version (suc place) (c ∷ cs) h = ap (λ (xs : List Chain). cond (holds range c.key) (clear_chain version c) c ∷ xs) (rest_stays range version place cs h)

pub range_done : (range : KeyRange) (version : ℕ) (place : ℕ) (chains : List Chain) → AreChains chains → keys_below range.end chains ≤ place → cleared_upto place range version chains ≡ all_cleared range version chains
range_done range version place chains h l = rest_stays range version place chains (from_drop range.end chains place h l)

-- the chunks before the range are as they were
pub first_cleared : (range : KeyRange) (version : ℕ) (place : ℕ) (chunks : List (List Chain)) → AreKeysBelow range.begin (joined (take place chunks)) → chunks ≡ mapped (all_cleared range version) place chunks
first_cleared range version zero chunks h = refl
first_cleared range version (suc place) [] h = refl
first_cleared range version (suc place) (x ∷ xs) h =
    let parts = all_parts (λ (c : Chain). is_below c.key range.begin ≡ true) x (joined (take place xs)) h in
    ap (λ (c : List Chain). c ∷ xs) (sym (before_stays range version x parts.0))
    ∙ ap (λ (cs : List (List Chain)). all_cleared range version x ∷ cs) (first_cleared range version place xs parts.1)

-- those behind it would stay as they are
pub last_cleared : (range : KeyRange) (version : ℕ) (place last : ℕ) (chunks now : List (List Chain)) → now ≡ mapped (all_cleared range version) place chunks → BelongsTo range.end last chunks → last < place → joined now ≡ all_cleared range version (joined chunks)
last_cleared range version place last chunks now e b l =
    ap joined e
    ∙ all_done (all_cleared range version) (clear_by_parts range version) place chunks (behind_stays range version (joined (drop place chunks)) (past_later range.end (suc last) place chunks (omega arith) b.behind))

-- ---- some keys of the range are cleared

pub all_upto : (range : KeyRange) (version : ℕ) (chains : List Chain) → all_cleared range version chains ≡ cleared_upto (length chains) range version chains
all_upto range version [] = refl
all_upto range version (c ∷ cs) = ap (λ (xs : List Chain). cond (holds range c.key) (clear_chain version c) c ∷ xs) (all_upto range version cs)

within : (range : KeyRange) (version : ℕ) (place : ℕ) (xs ys : List Chain) → IsClearedUpto range version (xs ++ ys) (cleared_upto place range version xs ++ ys)
within range version zero xs ys = record { place = zero; cleared = refl }
within range version (suc place) [] ys = record { place = zero; cleared = refl }
within range version (suc place) (x ∷ xs) ys =
    let rest = within range version place xs ys in
    record { place = suc rest.place; cleared = ap (λ (cs : List Chain). cond (holds range x.key) (clear_chain version x) x ∷ cs) rest.cleared }

pub after : (range : KeyRange) (version : ℕ) (xs ys zs : List Chain) → IsClearedUpto range version ys zs → IsClearedUpto range version (xs ++ ys) (all_cleared range version xs ++ zs)
after range version [] ys zs h = h
after range version (x ∷ xs) ys zs h =
    let rest = after range version xs ys zs h in
    record { place = suc rest.place; cleared = ap (λ (cs : List Chain). cond (holds range x.key) (clear_chain version x) x ∷ cs) rest.cleared }

part_there : (range : KeyRange) (version : ℕ) (place : ℕ) (chunks : List (List Chain)) (chunk left : List Chain) → slice_get chunks place ≡ Some chunk → IsClearedUpto range version chunk left → IsClearedUpto range version (joined chunks) (joined (slice_set (mapped (all_cleared range version) place chunks) place left))
part_there range version place [] chunk left g h = cc
part_there range version zero (x ∷ xs) chunk left g h =
    let same : x ≡ chunk = cc in
    subst (λ (c : List Chain). IsClearedUpto range version (c ++ joined xs) (left ++ joined xs)) (sym same)
    (subst (λ (c : List Chain). IsClearedUpto range version (chunk ++ joined xs) (c ++ joined xs)) (sym h.cleared) (within range version h.place chunk (joined xs)))
part_there range version (suc place) (x ∷ xs) chunk left g h = after range version x (joined xs) (joined (slice_set (mapped (all_cleared range version) place xs) place left)) (part_there range version place xs chunk left g h)

pub part_cleared : (range : KeyRange) (version : ℕ) (place : ℕ) (chunks now new : List (List Chain)) (chunk left : List Chain) → now ≡ mapped (all_cleared range version) place chunks → slice_get now place ≡ Some chunk → IsClearedUpto range version chunk left → new ≡ slice_set now place left → IsClearedUpto range version (joined chunks) (joined new)
part_cleared range version place chunks now new chunk left e g h n =
    subst (λ (cs : List (List Chain)). IsClearedUpto range version (joined chunks) (joined cs)) (sym (n ∙ ap (λ (cs : List (List Chain)). slice_set cs place left) e))
    (part_there range version place chunks chunk left (here_yet (all_cleared range version) place chunks now chunk e g) h)

pub cleared_len : (range : KeyRange) (version : ℕ) (place : ℕ) (chains : List Chain) → length (cleared_upto place range version chains) ≡ length chains
cleared_len range version zero chains = refl
cleared_len range version (suc place) [] = refl
cleared_len range version (suc place) (c ∷ cs) = ap suc (cleared_len range version place cs)

pub part_some : (range : KeyRange) (version : ℕ) (chunk left : List Chain) → IsClearedUpto range version chunk left → 0 < length chunk → 0 < length left
part_some range version chunk left h l = let n = ap length h.cleared ∙ cleared_len range version h.place chunk in omega arith

pub mapped_filled : (range : KeyRange) (version : ℕ) (place : ℕ) (chunks : List (List Chain)) → AreFilled chunks → AreFilled (mapped (all_cleared range version) place chunks)
mapped_filled range version zero chunks h = h
mapped_filled range version (suc place) [] h = tt
mapped_filled range version (suc place) (x ∷ xs) h = (let n = ap length (all_upto range version x) ∙ cleared_len range version (length x) x in let l = h.0 in omega arith, mapped_filled range version place xs h.1)

pub part_filled : (range : KeyRange) (version : ℕ) (place : ℕ) (chunks now new : List (List Chain)) (chunk left : List Chain) → now ≡ mapped (all_cleared range version) place chunks → slice_get now place ≡ Some chunk → IsClearedUpto range version chunk left → new ≡ slice_set now place left → AreFilled chunks → AreFilled new
part_filled range version place chunks now new chunk left e g p n h =
    let filled : AreFilled now = subst AreFilled (sym e) (mapped_filled range version place chunks h) in
    subst AreFilled (sym n) (filled_set place now left filled (part_some range version chunk left p (filled_at place now chunk filled g)))

pub all_part : (range : KeyRange) (version : ℕ) (old new : List Chain) → new ≡ all_cleared range version old → IsClearedUpto range version old new
all_part range version old new e = record { place = length old; cleared = e ∙ all_upto range version old }

-- ---- what the keys have then

pub part_extends : (range : KeyRange) (version : ℕ) (old new : List Chain) → AreChains old → AreUpto version old → IsClearedUpto range version old new → Extends version old new
part_extends range version old new h u p = subst (Extends version old) (sym p.cleared) (clear_extends range version p.place old h u)

pub all_value : (range : KeyRange) (version : ℕ) (old new : List Chain) (key : Bytes) → AreChains old → new ≡ all_cleared range version old → value_at new key version ≡ cond (holds range key) None (value_at old key version)
all_value range version old new key h e =
    ap (λ (cs : List Chain). value_at cs key version) (e ∙ all_upto range version old)
    ∙ value_clear range version (length old) old key h (front_upto (has_key_below range.end) old)

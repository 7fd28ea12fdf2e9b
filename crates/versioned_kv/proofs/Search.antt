-- Where a test turns in a list in order, and in how many looks it is found.
use Rattle.std.proofs.Common.{◌≡◌, ℕ, zero, suc, ◌+◌, ◌*◌, ◌^◌, ◌<◌, ◌≤◌, Bool, true, false, List, [], ◌∷◌, length, Some, sym, ap, ◌∙◌, subst, arith}
use Rattle.std.specs.List.{slice_get, AllByRecursion}
use Rattle.std.proofs.Math.Nat.{pow-suc}
use Rattle.std.proofs.lemmas.Bool.{le-leb, leb-true}
use Rattle.fb_bytes.specs.Bytes.{Bytes, is_below}
use Rattle.fb_bytes.proofs.Order.{not_both, below_trans}
use Rattle.mutations.proofs.Basics.{by_test, all_weaker}
use Rattle.versioned_kv.specs.Chains.{Row, Chain, front_len, is_row_upto, rows_upto}
use Rattle.versioned_kv.specs.inner.Chains.{AreRising, AreChains, has_key_below, keys_below}

-- once an entry fails, all behind it do
abbrev pub TurnsOnce : {A : Type 0} → (A → Bool) → List A → Type 0
TurnsOnce test [] = Unit {0}
TurnsOnce test (x ∷ xs) = AllByRecursion (λ later. test later ≡ true → test x ≡ true) xs × TurnsOnce test xs

pub front_upto : {A : Type 0} (test : A → Bool) (xs : List A) → front_len test xs ≤ length xs
front_upto test [] = omega arith
front_upto test (x ∷ xs) = by_test (test x) (λ n. n ≤ suc (length xs)) (suc (front_len test xs)) zero (λ e. let h = front_upto test xs in omega arith) (λ e. omega arith)

-- an entry that fails isn't in the front
pub fails_past : {A : Type 0} (test : A → Bool) (xs : List A) (i : ℕ) (x : A) → slice_get xs i ≡ Some x → test x ≡ false → front_len test xs ≤ i
fails_past test [] i x h f = omega arith
fails_past test (y ∷ ys) zero x h f = let e : y ≡ x = cc in by_test (test y) (λ n. n ≤ zero) (suc (front_len test ys)) zero (λ t. not_both (ap test (sym e) ∙ t) f) (λ t. omega arith)
fails_past test (y ∷ ys) (suc i) x h f = by_test (test y) (λ n. n ≤ suc i) (suc (front_len test ys)) zero (λ t. let g = fails_past test ys i x h f in omega arith) (λ t. omega arith)

pub all_at : {A : Type 0} (P : A → Type 0) (xs : List A) (i : ℕ) (x : A) → slice_get xs i ≡ Some x → AllByRecursion P xs → P x
all_at P (y ∷ ys) zero x h a = let e : y ≡ x = cc in subst P e a.0
all_at P (y ∷ ys) (suc i) x h a = all_at P ys i x h a.1
all_at P [] i x h a = cc

-- an entry that passes is in the front
pub passes_within : {A : Type 0} (test : A → Bool) (xs : List A) (i : ℕ) (x : A) → TurnsOnce test xs → slice_get xs i ≡ Some x → test x ≡ true → i + 1 ≤ front_len test xs
passes_within test [] i x o h p = cc
passes_within test (y ∷ ys) zero x o h p = let e : y ≡ x = cc in by_test (test y) (λ n. zero + 1 ≤ n) (suc (front_len test ys)) zero (λ t. omega arith) (λ t. not_both (ap test e ∙ p) t)
passes_within test (y ∷ ys) (suc i) x o h p =
    let first : test y ≡ true = all_at (λ later. test later ≡ true → test y ≡ true) ys i x h o.0 p in
    by_test (test y) (λ n. suc i + 1 ≤ n) (suc (front_len test ys)) zero (λ t. let g = passes_within test ys i x o.1 h p in omega arith) (λ t. not_both first t)

pub keys_turn : (key : Bytes) (chains : List Chain) → AreChains chains → TurnsOnce (has_key_below key) chains
keys_turn key [] h = tt
keys_turn key (c ∷ cs) h = (all_weaker (λ (d : Chain). is_below c.key d.key ≡ true) (λ (d : Chain). has_key_below key d ≡ true → has_key_below key c ≡ true) (λ d b t. below_trans c.key d.key key b t) cs h.0, keys_turn key cs h.3)

pub rows_turn : (version : ℕ) (rows : List Row) → AreRising rows → TurnsOnce (is_row_upto version) rows
rows_turn version [] h = tt
rows_turn version (r ∷ rs) h = (all_weaker (λ (s : Row). r.version < s.version) (λ (s : Row). is_row_upto version s ≡ true → is_row_upto version r ≡ true) (λ s b t. let u : s.version ≤ version = leb-true s.version version t in le-leb r.version version (omega arith)) rs h.0, rows_turn version rs h.1)

pub key_within : (key : Bytes) (chains : List Chain) (i : ℕ) (c : Chain) → AreChains chains → slice_get chains i ≡ Some c → is_below c.key key ≡ true → i + 1 ≤ keys_below key chains
key_within key chains i c h e t = passes_within (has_key_below key) chains i c (keys_turn key chains h) e t

pub row_within : (version : ℕ) (rows : List Row) (i : ℕ) (r : Row) → AreRising rows → slice_get rows i ≡ Some r → r.version ≤ version → i + 1 ≤ rows_upto version rows
row_within version rows i r h e t = passes_within (is_row_upto version) rows i r (rows_turn version rows h) e (le-leb r.version version t)

-- A span that is looked at in the middle: what is left of it takes one look less.
abbrev pub Halves : ℕ → ℕ → ℕ → ℕ → Type 0
Halves n span start now = (d : ℕ) → n < 2 ^ d → (left : ℕ) × (span < 2 ^ left) × (now + left ≤ start + d)

pub halves_first : (n start : ℕ) → Halves n n start start
halves_first n start d h = (d, h, omega arith)

pub halved : (n span less start now : ℕ) → less * 2 ≤ span → 0 < span → Halves n span start now → Halves n less start (now + 1)
halved n span less start now h p f d g = let w = f d g in go w.0 w.1 w.2
  where
    go : (left : ℕ) → span < 2 ^ left → now + left ≤ start + d → (left : ℕ) × (less < 2 ^ left) × (now + 1 + left ≤ start + d)
    go zero l m = absurd (omega arith)
    go (suc k) l m = let e = pow-suc 2 k in (k, omega arith, omega arith)

pub halves_last : (n span start now d : ℕ) → Halves n span start now → n < 2 ^ d → now ≤ start + d
halves_last n span start now d f g = let w = f d g in let h = w.2 in omega arith

-- Pairs in the order of their keys.
use Rattle.std.proofs.Common.{◌≡◌, Bool, true, false, cond, List, [], ◌∷◌, ◌++◌, Option, Some, None, refl, sym, ap, ◌∙◌}
use Rattle.std.specs.List.{AllByRecursion}
use Rattle.fb_bytes.specs.Bytes.{Bytes, is_below, is_same}
use Rattle.fb_bytes.specs.declared.Pair.{Pair}
use Rattle.fb_bytes.specs.Pairs.{value_of, KeyPast, AreRising}
use Rattle.fb_bytes.proofs.Order.{not_both, below_trans, below_itself, same_eq, same_itself, neither_below}
use Rattle.mutations.proofs.Basics.{all_weaker}
use Rattle.database.specs.Dumps.{pair_of, pairs_of}
use Rattle.database.proofs.Keys.{AreKeys, IsNone}

same_past : (k x : Bytes) → is_below k x ≡ true → is_same x k ≡ false
same_past k x h = go (is_same x k) refl
  where
    go : (t : Bool) → is_same x k ≡ t → t ≡ false
    go false e = refl
    go true e = not_both h (ap (is_below k) (same_eq x k e) ∙ below_itself k)

-- ---- the pairs of keys in order

past_with : (key k : Bytes) (o : Option Bytes) (rest : List Pair) → is_below key k ≡ true → KeyPast key rest → KeyPast key (pair_of k o ++ rest)
past_with key k None rest e h = h
past_with key k (Some v) rest e h = e

past_all : (state : Bytes → Option Bytes) (key : Bytes) (keys : List Bytes) → AllByRecursion (λ later. is_below key later ≡ true) keys → KeyPast key (pairs_of state keys)
past_all state key [] h = tt
past_all state key (k ∷ ks) h = past_with key k (state k) (pairs_of state ks) h.0 (past_all state key ks h.1)

rising_with : (k : Bytes) (o : Option Bytes) (rest : List Pair) → KeyPast k rest → AreRising rest → AreRising (pair_of k o ++ rest)
rising_with k None rest p h = h
rising_with k (Some v) rest p h = (p, h)

pub pairs_rising : (state : Bytes → Option Bytes) (keys : List Bytes) → AreKeys keys → AreRising (pairs_of state keys)
pairs_rising state [] h = tt
pairs_rising state (k ∷ ks) h = rising_with k (state k) (pairs_of state ks) (past_all state k ks h.0) (pairs_rising state ks h.1)

none_with : (k key : Bytes) (o : Option Bytes) (rest : List Pair) → is_same k key ≡ false → value_of (pair_of k o ++ rest) key ≡ value_of rest key
none_with k key None rest e = refl
none_with k key (Some v) rest e = rw e refl

value_none : (state : Bytes → Option Bytes) (keys : List Bytes) (key : Bytes) → IsNone key keys → value_of (pairs_of state keys) key ≡ None
value_none state [] key n = refl
value_none state (k ∷ ks) key n = none_with k key (state k) (pairs_of state ks) n.0 ∙ value_none state ks key n.1

none_past : (k key : Bytes) (keys : List Bytes) → k ≡ key → AllByRecursion (λ later. is_below k later ≡ true) keys → IsNone key keys
none_past k key keys e h = all_weaker _ _ (λ x b. same_past key x (ap (λ z. is_below z x) (sym e) ∙ b)) keys h

value_here : (k key : Bytes) (o : Option Bytes) (rest : List Pair) → is_same k key ≡ true → value_of rest key ≡ None → value_of (pair_of k o ++ rest) key ≡ o
value_here k key None rest s n = n
value_here k key (Some v) rest s n = rw s refl

-- where none but the keys have a value, the pairs tell the state
pub pairs_tell : (state : Bytes → Option Bytes) (keys : List Bytes) (key : Bytes) → AreKeys keys → (IsNone key keys → state key ≡ None) → value_of (pairs_of state keys) key ≡ state key
pairs_tell state [] key h n = sym (n tt)
pairs_tell state (k ∷ ks) key h n = go (is_same k key) refl (pairs_tell state ks key h.1)
  where
    go : (s : Bool) → is_same k key ≡ s → ((IsNone key ks → state key ≡ None) → value_of (pairs_of state ks) key ≡ state key) → value_of (pair_of k (state k) ++ pairs_of state ks) key ≡ state key
    go true s ih = value_here k key (state k) (pairs_of state ks) s (value_none state ks key (none_past k key ks (same_eq k key s) h.0)) ∙ ap state (same_eq k key s)
    go false s ih = none_with k key (state k) (pairs_of state ks) s ∙ ih (λ m. n (s, m))

all_pair : (P : Pair → Type 0) (k : Bytes) (o : Option Bytes) (rest : List Pair) → ((v : Bytes) → o ≡ Some v → P (record { key = k; value = v })) → AllByRecursion P rest → AllByRecursion P (pair_of k o ++ rest)
all_pair P k None rest f h = h
all_pair P k (Some v) rest f h = (f v refl, h)

-- what each of the keys has and each value of the state
pub pairs_all : (Q : Bytes → Type 0) (P : Pair → Type 0) (state : Bytes → Option Bytes) (keys : List Bytes) → ((k v : Bytes) → Q k → state k ≡ Some v → P (record { key = k; value = v })) → AllByRecursion Q keys → AllByRecursion P (pairs_of state keys)
pairs_all Q P state [] f h = tt
pairs_all Q P state (k ∷ ks) f h = all_pair P k (state k) (pairs_of state ks) (λ v e. f k v h.0 e) (pairs_all Q P state ks f h.1)

-- ---- pairs in order are told by their values

past_more : (key k : Bytes) (pairs : List Pair) → is_below key k ≡ true → KeyPast k pairs → KeyPast key pairs
past_more key k [] p q = tt
past_more key k (x ∷ xs) p q = below_trans key k x.key p q

pub value_past : (key : Bytes) (pairs : List Pair) → KeyPast key pairs → AreRising pairs → value_of pairs key ≡ None
value_past key [] p h = refl
value_past key (x ∷ xs) p h = let e = same_past key x.key p in rw e (value_past key xs (past_more key x.key xs p h.0) h.1)

-- the value of the first pair
first_value : (x : Pair) (xs : List Pair) → value_of (x ∷ xs) x.key ≡ Some x.value
first_value x xs = let e = same_itself x.key in rw e refl

some_none : {P X : Type 0} (x : X) (o : Option X) → o ≡ None → o ≡ Some x → P
some_none x o e f = cc

-- a list that tells the same doesn't begin past the first key
not_past : (x : Pair) (xs ys : List Pair) → value_of (x ∷ xs) x.key ≡ value_of ys x.key → KeyPast x.key ys → AreRising ys → ⊥
not_past x xs ys e p h = some_none x.value (value_of ys x.key) (value_past x.key ys p h) (sym e ∙ first_value x xs)

same_key : (x y : Pair) (xs ys : List Pair) → AreRising (x ∷ xs) → AreRising (y ∷ ys) → ((key : Bytes) → value_of (x ∷ xs) key ≡ value_of (y ∷ ys) key) → x.key ≡ y.key
same_key x y xs ys h g e = go (is_below x.key y.key) refl (is_below y.key x.key) refl
  where
    go : (b : Bool) → is_below x.key y.key ≡ b → (c : Bool) → is_below y.key x.key ≡ c → x.key ≡ y.key
    go true b c d = absurd (not_past x xs (y ∷ ys) (e x.key) b g)
    go false b true d = absurd (not_past y ys (x ∷ xs) (sym (e y.key)) d h)
    go false b false d = neither_below x.key y.key b d

same_value : (x y : Pair) (xs ys : List Pair) → x.key ≡ y.key → value_of (x ∷ xs) x.key ≡ value_of (y ∷ ys) x.key → x.value ≡ y.value
same_value x y xs ys k e = some_same x.value y.value (sym (first_value x xs) ∙ e ∙ ap (value_of (y ∷ ys)) k ∙ first_value y ys)
  where
    some_same : (a b : Bytes) → Some a ≡ Some b → a ≡ b
    some_same a b f = cc

same_pair : (x y : Pair) → x.key ≡ y.key → x.value ≡ y.value → x ≡ y
same_pair x y k v = λ i. record { key = k i; value = v i }

-- the rest tells the same
rest_tells : (x y : Pair) (xs ys : List Pair) (key : Bytes) → x.key ≡ y.key → AreRising (x ∷ xs) → AreRising (y ∷ ys) → value_of (x ∷ xs) key ≡ value_of (y ∷ ys) key → value_of xs key ≡ value_of ys key
rest_tells x y xs ys key k h g e = go (is_same x.key key) refl e
  where
    go : (b : Bool) → is_same x.key key ≡ b → cond b (Some x.value) (value_of xs key) ≡ cond (is_same y.key key) (Some y.value) (value_of ys key) → value_of xs key ≡ value_of ys key
    go true b f = let at = same_eq x.key key b in ap (value_of xs) (sym at) ∙ value_past x.key xs h.0 h.1 ∙ sym (value_past y.key ys g.0 g.1) ∙ ap (value_of ys) (sym k ∙ at)
    go false b f = f ∙ ap (λ t. cond t (Some y.value) (value_of ys key)) (ap (λ z. is_same z key) (sym k) ∙ b)

pub same_pairs : (xs ys : List Pair) → AreRising xs → AreRising ys → ((key : Bytes) → value_of xs key ≡ value_of ys key) → xs ≡ ys
same_pairs [] [] h g e = refl
same_pairs [] (y ∷ ys) h g e = absurd (some_none y.value None refl (e y.key ∙ first_value y ys))
same_pairs (x ∷ xs) [] h g e = absurd (some_none x.value None refl (sym (e x.key) ∙ first_value x xs))
same_pairs (x ∷ xs) (y ∷ ys) h g e =
    let k = same_key x y xs ys h g e in
    let first = same_pair x y k (same_value x y xs ys k (e x.key)) in
    let rest = same_pairs xs ys h.1 g.1 (λ key. rest_tells x y xs ys key k h g (e key)) in
    λ i. first i ∷ rest i

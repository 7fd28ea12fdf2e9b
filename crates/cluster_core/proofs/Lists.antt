-- Clients in their list, by number.
use Rattle.std.specs.Prelude.{◌≡◌, ◌≢◌, ℕ, zero, suc, List, [], ◌∷◌, map, Some, ◌⊎◌, slice_get, slice_set, refl}
use Rattle.std.proofs.Common.{ap, sym, ◌∙◌, inl, inr, arith, subst}
use Rattle.client_core.specs.Clients.{ClientState}
use Rattle.cluster_core.specs.State.{client_at, put_client}

pub get_set_same : {X : Type 0} (xs : List X) (n : ℕ) (x y : X) → slice_get xs n ≡ Some x → slice_get (slice_set xs n y) n ≡ Some y
get_set_same [] zero x y h = cc
get_set_same [] (suc n) x y h = cc
get_set_same (z ∷ zs) zero x y h = refl
get_set_same (z ∷ zs) (suc n) x y h = get_set_same zs n x y h

pub get_set_other : {X : Type 0} (xs : List X) (n m : ℕ) (y : X) → n ≢ m → slice_get (slice_set xs n y) m ≡ slice_get xs m
get_set_other [] zero m y h = refl
get_set_other [] (suc n) m y h = refl
get_set_other (z ∷ zs) zero zero y h = absurd (h refl)
get_set_other (z ∷ zs) zero (suc m) y h = refl
get_set_other (z ∷ zs) (suc n) zero y h = refl
get_set_other (z ∷ zs) (suc n) (suc m) y h = get_set_other zs n m y (λ e. h (ap suc e))

pub map_set_same : {X Y : Type 0} (f : X → Y) (xs : List X) (n : ℕ) (x y : X) → slice_get xs n ≡ Some x → f y ≡ f x → map f (slice_set xs n y) ≡ map f xs
map_set_same f [] zero x y h e = refl
map_set_same f [] (suc n) x y h e = refl
map_set_same f (z ∷ zs) zero x y h e = let k : z ≡ x = cc in ap (λ v. v ∷ map f zs) (e ∙ sym (ap f k))
map_set_same f (z ∷ zs) (suc n) x y h e = ap (λ v. f z ∷ v) (map_set_same f zs n x y h e)

pub same_or_other : (n m : ℕ) → (n ≡ m) ⊎ (n ≢ m)
same_or_other zero zero = inl refl
same_or_other zero (suc m) = inr (λ e. omega arith)
same_or_other (suc n) zero = inr (λ e. omega arith)
same_or_other (suc n) (suc m) = elim (same_or_other n m) [ inl e ↦ inl (ap suc e) | inr d ↦ inr (λ e. d (omega arith)) ]

-- after a change at a number the client there is the new one, and every other stands
pub put_same : (clients : List ClientState) (n : ℕ) (old new : ClientState) → client_at clients n ≡ Some old → client_at (put_client clients n new) n ≡ Some new
put_same clients zero old new h = cc
put_same clients (suc n) old new h = get_set_same clients n old new h

pub put_other : (clients : List ClientState) (n m : ℕ) (new : ClientState) → n ≢ m → client_at (put_client clients n new) m ≡ client_at clients m
put_other clients zero zero new h = refl
put_other clients zero (suc m) new h = refl
put_other clients (suc n) zero new h = refl
put_other clients (suc n) (suc m) new h = get_set_other clients n m new (λ e. h (ap suc e))

pub scripts_put : (clients : List ClientState) (n : ℕ) (old new : ClientState) → client_at clients n ≡ Some old → new.script ≡ old.script → map (λ client. client.script) (put_client clients n new) ≡ map (λ client. client.script) clients
scripts_put clients zero old new h e = refl
scripts_put clients (suc n) old new h e = map_set_same (λ (client : ClientState). client.script) clients n old new h e

-- a fact of each client stands where the one at a number is exchanged for another of which it holds
pub each_put : (P : ℕ → ClientState → Type 0) (clients : List ClientState) (n : ℕ) (old new : ClientState) → client_at clients n ≡ Some old → P n new → ((m : ℕ) (c : ClientState) → n ≢ m → client_at clients m ≡ Some c → P m c) → (m : ℕ) (c : ClientState) → client_at (put_client clients n new) m ≡ Some c → P m c
each_put P clients n old new at here there m c h =
    elim (same_or_other n m) [
      | inl e ↦ subst (λ (k : ℕ). client_at (put_client clients n new) k ≡ Some c → P k c) e (λ g. let same : new ≡ c = cc (put_same clients n old new at) in subst (λ (x : ClientState). P n x) same here) h
      | inr d ↦ there m c d (sym (put_other clients n m new d) ∙ h)
    ]

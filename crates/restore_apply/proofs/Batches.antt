-- What batches leave at a key that has a value since a version.
use Rattle.std.proofs.Common.{◌≡◌, ℕ, ◌+◌, max, min, Bool, true, false, cond, List, [], ◌∷◌, Option, Some, None, refl, sym, ap, ◌∙◌, arith}
use Rattle.fb_bytes.specs.Bytes.{Bytes, is_same}
use Rattle.fb_bytes.proofs.Order.{same_eq}
use Rattle.mutations.specs.declared.batch.Batch.{Batch}
use Rattle.mutations.specs.declared.mutation.Mutation.{Mutation}
use Rattle.mutations.specs.Effects.{effect, effects}
use Rattle.mutations.specs.Replay.{replayed}
use Rattle.restore_apply.specs.Loaded.{LoadedLink, replayed_links}
use Rattle.restore_apply.specs.inner.Pieces.{is_older, is_due, gives, effects_if, batches_since, links_since}

-- ---- at one key

first_or : {X : Type 0} (p : Bool) (x y : X) → x ≡ y → x ≡ cond p x y
first_or true x y e = refl
first_or false x y e = e

other_or : {X : Type 0} (p : Bool) (x y : X) → x ≡ y → y ≡ cond p x y
other_or true x y e = sym e
other_or false x y e = refl

-- a test that passes at the key passes at each equal one
pub made_at : (test : Bytes → Bool) (k at : Bytes) (b : Bool) (value old : Option Bytes) → b ≡ test k → b ≡ true → cond (is_same k at) value old ≡ cond (test at) (cond (is_same k at) value old) old
made_at test k at b value old h t = go (is_same k at) refl
  where
    left : Option Bytes
    left = cond (is_same k at) value old

    go : (s : Bool) → is_same k at ≡ s → left ≡ cond (test at) left old
    go true e = sym (ap (λ p. cond p left old) (ap test (sym (same_eq k at e)) ∙ sym h ∙ t))
    go false e = first_or (test at) left old (ap (λ p. cond p value old) e)

pub unmade_at : (test : Bytes → Bool) (k at : Bytes) (b : Bool) (value old : Option Bytes) → b ≡ test k → b ≡ false → old ≡ cond (test at) (cond (is_same k at) value old) old
unmade_at test k at b value old h t = go (is_same k at) refl
  where
    left : Option Bytes
    left = cond (is_same k at) value old

    go : (s : Bool) → is_same k at ≡ s → old ≡ cond (test at) left old
    go true e = sym (ap (λ p. cond p left old) (ap test (sym (same_eq k at e)) ∙ sym h ∙ t))
    go false e = other_or (test at) left old (ap (λ p. cond p value old) e)

pub left_at : (state : Bytes → Option Bytes) (step : Option Bytes → Option Bytes) (k at : Bytes) (value : Option Bytes) → value ≡ step (state k) → cond (is_same k at) value (state at) ≡ cond (is_same k at) (step (state at)) (state at)
left_at state step k at value h = go (is_same k at) refl
  where
    go : (s : Bool) → is_same k at ≡ s → cond (is_same k at) value (state at) ≡ cond (is_same k at) (step (state at)) (state at)
    go true e = ap (λ v. cond (is_same k at) v (state at)) (h ∙ ap (λ z. step (state z)) (same_eq k at e))
    go false e = ap (λ p. cond p value (state at)) e ∙ sym (ap (λ p. cond p (step (state at)) (state at)) e)

-- ---- a batch

pub effects_if_is : (made : Bool) (limit : ℕ) (ms : List Mutation) (key : Bytes) (old : Option Bytes) → effects_if made limit ms key old ≡ cond made (effects limit ms key old) old
effects_if_is true limit [] key old = refl
effects_if_is false limit [] key old = refl
effects_if_is true limit (m ∷ ms) key old = effects_if_is true limit ms key (effect limit m key old)
effects_if_is false limit (m ∷ ms) key old = effects_if_is false limit ms key old

pub due_is : (since : Option ℕ) (link : LoadedLink) (upto version : ℕ) (b : Bool) → b ≡ gives link upto version → b ≡ true → is_older since version ≡ is_due since link upto version
due_is None link upto version b h t = refl
due_is (Some s) link upto version b h t = grind arith

-- ---- links

batches_none : (link : LoadedLink) (batches : List Batch) (upto : ℕ) (key : Bytes) (old : Option Bytes) → batches_since None link batches upto key old ≡ old
batches_none link [] upto key old = refl
batches_none link (b ∷ bs) upto key old = batches_none link bs upto key old

batches_some : (s : ℕ) (link : LoadedLink) (batches : List Batch) (upto : ℕ) (key : Bytes) (old : Option Bytes) → batches_since (Some s) link batches upto key old ≡ replayed link.limit batches (max link.from (s + 1)) (min link.to (upto + 1)) key old
batches_some s link [] upto key old = refl
batches_some s link (b ∷ bs) upto key old = batches_some s link bs upto key (cond (is_due (Some s) link upto b.version) (effects link.limit b.muts key old) old)

pub links_none : (links : List LoadedLink) (upto : ℕ) (key : Bytes) (old : Option Bytes) → links_since None links upto key old ≡ old
links_none [] upto key old = refl
links_none (l ∷ ls) upto key old = links_none ls upto key (batches_since None l l.chunk.batches upto key old) ∙ batches_none l l.chunk.batches upto key old

pub links_some : (s : ℕ) (links : List LoadedLink) (upto : ℕ) (key : Bytes) (old : Option Bytes) → links_since (Some s) links upto key old ≡ replayed_links links (s + 1) (upto + 1) key old
links_some s [] upto key old = refl
links_some s (l ∷ ls) upto key old = links_some s ls upto key (batches_since (Some s) l l.chunk.batches upto key old) ∙ ap (replayed_links ls (s + 1) (upto + 1) key) (batches_some s l l.chunk.batches upto key old)

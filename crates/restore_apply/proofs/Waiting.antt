-- Where no batch is past the oldest piece, the links leave each value.
use Rattle.std.proofs.Common.{◌≡◌, ℕ, ◌≤◌, ◌<◌, ◌^◌, Bool, true, false, ◌&&◌, cond, List, [], ◌∷◌, Option, Some, None, nat_lt, refl, sym, ap, ◌∙◌, arith}
use Rattle.fb_bytes.specs.Bytes.{Bytes}
use Rattle.fb_bytes.specs.Keys.{holds}
use Rattle.mutations.specs.declared.batch.Batch.{Batch}
use Rattle.mutations.specs.Effects.{effects}
use Rattle.restore_apply.specs.Loaded.{LoadedLink}
use Rattle.restore_apply.specs.inner.Pieces.{Piece, since, oldest, is_due, gives, some_batch_past, some_past, batches_since, links_since}
use Rattle.restore_apply.proofs.Lines.{not_left, not_right}

pub oldest_small : (pieces : List Piece) → oldest pieces < 2 ^ 64
oldest_small [] = omega arith
oldest_small (piece ∷ pieces) = let rest = oldest_small pieces in omega (arith, rest)

-- a key has a value since a version only of a piece that is no older than the oldest
abbrev IsFrom : ℕ → Option ℕ → Type 0
IsFrom version None = Unit {0}
IsFrom version (Some since) = version ≤ since

from_oldest : (pieces : List Piece) (key : Bytes) (version : ℕ) → version ≤ oldest pieces → IsFrom version (since pieces key)
from_oldest [] key version l = tt
from_oldest (piece ∷ pieces) key version l = go (holds piece.range key) (from_oldest pieces key version (omega (arith, l)))
  where
    go : (b : Bool) → IsFrom version (since pieces key) → IsFrom version (cond b (Some piece.version) (since pieces key))
    go true h = omega (arith, l)
    go false h = h

not_due : (version : ℕ) (since : Option ℕ) (link : LoadedLink) (upto at : ℕ) → IsFrom version since → (nat_lt version at && gives link upto at) ≡ false → is_due since link upto at ≡ false
not_due version None link upto at f h = refl
not_due version (Some s) link upto at f h = grind (arith, f, h)

batches_wait : (version : ℕ) (since : Option ℕ) (link : LoadedLink) (batches : List Batch) (upto : ℕ) (key : Bytes) (old : Option Bytes) → IsFrom version since → some_batch_past version link batches upto ≡ false → batches_since since link batches upto key old ≡ old
batches_wait version since link [] upto key old f h = refl
batches_wait version since link (b ∷ bs) upto key old f h =
    ap (λ t. batches_since since link bs upto key (cond t (effects link.limit b.muts key old) old)) (not_due version since link upto b.version f (not_left (nat_lt version b.version && gives link upto b.version) (some_batch_past version link bs upto) h))
    ∙ batches_wait version since link bs upto key old f (not_right (nat_lt version b.version && gives link upto b.version) (some_batch_past version link bs upto) h)

links_wait : (version : ℕ) (since : Option ℕ) (links : List LoadedLink) (upto : ℕ) (key : Bytes) (old : Option Bytes) → IsFrom version since → some_past version links upto ≡ false → links_since since links upto key old ≡ old
links_wait version since [] upto key old f h = refl
links_wait version since (l ∷ ls) upto key old f h =
    ap (links_since since ls upto key) (batches_wait version since l l.chunk.batches upto key old f (not_left (some_batch_past version l l.chunk.batches upto) (some_past version ls upto) h))
    ∙ links_wait version since ls upto key old f (not_right (some_batch_past version l l.chunk.batches upto) (some_past version ls upto) h)

pub none_past : (pieces : List Piece) (links : List LoadedLink) (upto version : ℕ) (b : Bool) (key : Bytes) (old : Option Bytes) → version ≡ oldest pieces → b ≡ some_past version links upto → b ≡ false → old ≡ links_since (since pieces key) links upto key old
none_past pieces links upto version b key old v s f = sym (links_wait version (since pieces key) links upto key old (from_oldest pieces key version (omega (arith, v))) (sym s ∙ f))

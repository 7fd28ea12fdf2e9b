-- Replaying batches from within a part of them.
use Rattle.std.proofs.Common.{◌≡◌, ℕ, ◌<◌, ◌≤◌, min, max, List, Option, ⊎_elim, ap, arith}
use Rattle.std.proofs.lemmas.Bool.{cases_lt}
use Rattle.fb_bytes.specs.Bytes.{Bytes}
use Rattle.mutations.specs.declared.Batch.{Batch}
use Rattle.mutations.specs.Replay.{replayed, AreRising}
use Rattle.mutations.proofs.Replays.{replayed_empty, replayed_join}

module _ (limit : ℕ) (key : Bytes) where
  -- From the later of c and low on: a part from c to the earlier of t and end, and then the rest from t on.
  pub replayed_cut : (xs : List Batch) (c t low end : ℕ) (old : Option Bytes) → AreRising xs → c ≤ t → replayed limit xs (max t low) end key (replayed limit xs (max c low) (min t end) key old) ≡ replayed limit xs (max c low) end key old
  replayed_cut xs c t low end old r h = ⊎_elim at_low above (cases_lt low t)
    where
      at_low : low < t → replayed limit xs (max t low) end key (replayed limit xs (max c low) (min t end) key old) ≡ replayed limit xs (max c low) end key old
      at_low l = ⊎_elim
          (λ g. let e : max t low ≡ t = omega arith in let f : min t end ≡ t = omega arith in rw (e, f) (replayed_join limit key xs (max c low) t end old r (omega arith) (omega arith)))
          (λ g. let f : min t end ≡ end = omega arith in rw f (replayed_empty limit key xs (max t low) end _ (omega arith)))
          (cases_lt t end)

      above : t ≤ low → replayed limit xs (max t low) end key (replayed limit xs (max c low) (min t end) key old) ≡ replayed limit xs (max c low) end key old
      above l = let e : max t low ≡ max c low = omega arith in rw e (ap (replayed limit xs (max c low) end key) (replayed_empty limit key xs (max c low) (min t end) old (omega arith)))

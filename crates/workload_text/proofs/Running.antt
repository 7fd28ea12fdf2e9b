-- Lines, one after the other.
use Rattle.std.proofs.Common.{◌≡◌, ◌∙◌, ℕ, ◌+◌, Bool, List, ◌∷◌, Ok, ap}
use Rattle.fb_bytes.specs.Bytes.{Bytes}
use Rattle.workload_text.specs.Faults.{Read}
use Rattle.workload_text.specs.Sofar.{Sofar, with_lines, with_bytes, numbered}
use Rattle.workload_text.specs.Words.{◌>>=◌}

-- the lines behind one that was read
pub one_line : (run : Bool) (number : ℕ) (s next : Sofar) (line : Bytes) (all rest : List Bytes) → all ≡ line ∷ rest → with_bytes run s line ≡ Ok next → with_lines run number s all ≡ with_lines run (number + 1) next rest
one_line run number s next line all rest e h =
    ap (λ (ls : List Bytes). with_lines run number s ls) e
    ∙ ap (λ (r : Read Sofar). numbered number r >>= λ n. with_lines run (number + 1) n rest) h

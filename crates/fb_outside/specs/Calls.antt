-- Which calls of an object in memory fail, and how many did.
use Rattle.std.specs.Prelude.{ℕ, nat_eq, nat_lt, Bool, ◌||◌, List}
use Rattle.std.specs.List.{list_any}
use Rattle.fb_outside.specs.Faults.{counted}

-- the calls so far, those that are to fail, the last that may go well, and the faults so far
pub record Calls : Type 0 where
  pub made : ℕ
  pub failing : List ℕ
  pub last : ℕ
  pub faults : ℕ

-- whether a call of that number fails
abbrev pub fails : Calls → ℕ → Bool
fails calls number =
    list_any (λ listed. nat_eq listed number) calls.failing || nat_lt calls.last number

-- whether the next call fails
abbrev pub next_fails : Calls → Bool
next_fails calls = fails calls (counted calls.made)

-- one call more
abbrev pub after_call : Calls → Calls
after_call calls = record calls { made = counted calls.made }

-- one fault more
abbrev pub after_fault : Calls → Calls
after_fault calls = record calls { faults = counted calls.faults }

-- one call more, which failed
abbrev pub after_failed_call : Calls → Calls
after_failed_call calls = after_fault (after_call calls)

-- nothing was called yet
abbrev pub fresh : List ℕ → ℕ → Calls
fresh failing last = record { made = 0; failing = failing; last = last; faults = 0 }

-- Single steps of reading a tuple.
use Rattle.std.specs.Prelude.{ℕ, ◌-◌, zero, suc, Bool, true, false, List, [], ◌∷◌, Option, Some}
use Rattle.std.specs.Prelude.{None, Result, Err, ◌==◌, if◌then◌else◌}
use Rattle.fb_bytes.specs.Results.{GivesBut}
use Rattle.tuple_keys.specs.declared.element.Element.{Element}
use Rattle.tuple_keys.specs.declared.fault.TupleFault.{TupleFault}
use Rattle.tuple_keys.specs.declared.fault.TupleFault.TheVariants.{Open, NoMemory}
use Rattle.tuple_keys.specs.Reading.{coded_at, reading}

-- what a function returned, seen by view, is what the reading gives, unless memory ran out
abbrev pub Gives : {X Y : Type 0} → (X → Y) → Result X TupleFault → Result Y TupleFault → Type 0
Gives view answer reading = GivesBut NoMemory view answer reading

-- the next byte of an escaped text, and none where it ends
abbrev pub next_of : List ℕ → Option (ℕ × List ℕ)
next_of [] = None
next_of (zero ∷ []) = None
next_of (zero ∷ c ∷ bytes) = if c == 255 then Some (0, bytes) else None
next_of (suc b ∷ bytes) = Some (suc b, bytes)

abbrev pub digit_of : Bool → ℕ → ℕ
digit_of true b = 255 - b
digit_of false b = b

-- the element in front of bytes, and what stands behind it
abbrev pub element_at : ℕ → List ℕ → Result (Element × List ℕ) TupleFault
element_at at [] = Err (Open at)
element_at at (code ∷ rest) = coded_at at code rest

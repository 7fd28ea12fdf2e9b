-- Words on results that readings of many crates are made of: what is read, or the first fault.
use Rattle.std.specs.Prelude.{◌≡◌, Option, Some, None, Result, Ok, Err, ◌⊎◌}

-- the second step, where the first one has no fault
infixl 10 ◌>>=◌
abbrev pub ◌>>=◌ : {A B E : Type 0} → Result A E → (A → Result B E) → Result B E
(Ok x) >>= f = f x
(Err fault) >>= f = Err fault

-- what is there, or the fault
abbrev pub found_or : {A E : Type 0} → E → Option A → Result A E
found_or fault None = Err fault
found_or fault (Some x) = Ok x

-- what was read, if it has no fault
abbrev pub ok_side : {A E : Type 0} → Result A E → Option A
ok_side (Ok x) = Some x
ok_side (Err fault) = None

-- a failed call answers want of memory, by the fault that stands for it, or the fault that the
-- reading meets
abbrev pub FailsBut : {A E : Type 0} → E → E → Result A E → Type 0
FailsBut no_memory fault reading = (fault ≡ no_memory) ⊎ (reading ≡ Err fault)

-- what a call answered, seen by `view`, is what the reading gives, unless memory ran out
abbrev pub GivesBut : {X Y E : Type 0} → E → (X → Y) → Result X E → Result Y E → Type 0
GivesBut no_memory view (Ok x) reading = reading ≡ Ok (view x)
GivesBut no_memory view (Err fault) reading = FailsBut no_memory fault reading

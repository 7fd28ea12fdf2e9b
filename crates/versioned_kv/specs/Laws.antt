-- What holds of all histories and numbers.
use Rattle.std.specs.Prelude.{◌≡◌, ℕ, List}
use Rattle.fb_bytes.specs.Bytes.{Bytes}
use Rattle.mutations.specs.declared.history.Entry.{Entry}
use Rattle.mutations.specs.Histories.{batches_of, state_at}
use Rattle.versioned_kv.specs.Applied.{applied_at}
use Rattle.versioned_kv.specs.Digits.{digits, AreDigits}

-- once the entries of a history are applied, a store has the history's states
abbrev pub HistoryLaw : Type 0
HistoryLaw =
    (limit : ℕ) (history : List Entry) (version : ℕ) (key : Bytes)
    → applied_at limit (batches_of history) version key ≡ state_at limit history version key

-- the digits of a number are the least that are enough
abbrev pub DigitsLaw : Type 0
DigitsLaw = (n : ℕ) → AreDigits n (digits n)

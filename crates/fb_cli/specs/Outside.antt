-- What the outside tells.
use Rattle.std.specs.Prelude.{◌≡◌, ℕ, List, Option}
use Rattle.fb_bytes.specs.Bytes.{Bytes}
use Rattle.fb_outside.specs.declared.File.{File}

-- What an end of the outside tells before and after a call, and its counts of faults.
pub record Change (T : Type 0) : Type 0 where
  pub before : T
  pub after : T
  pub faults_before : ℕ
  pub faults_after : ℕ

-- a source, by the bytes that it has left, and a sink, by those that it holds
abbrev pub Stream : Type 0
Stream = Change (Option Bytes)

-- a file store, by its files
abbrev pub Store : Type 0
Store = Change (Option (List File))

-- the bytes before and after, and the counts
abbrev pub stream_change : Option Bytes → Option Bytes → ℕ → ℕ → Stream
stream_change before after faults_before faults_after =
    record {
      before = before;
      after = after;
      faults_before = faults_before;
      faults_after = faults_after;
    }

-- the files before and after, and the counts
abbrev pub store_change : Option (List File) → Option (List File) → ℕ → ℕ → Store
store_change before after faults_before faults_after =
    record {
      before = before;
      after = after;
      faults_before = faults_before;
      faults_after = faults_after;
    }

-- it was left alone
pub record IsLeft {T : Type 0} (end : Change T) : Type 0 where
  pub same : end.after ≡ end.before
  pub count : end.faults_after ≡ end.faults_before

-- What contracts see of the objects in memory.
use Rattle.std.specs.Prelude.{ℕ, List, if◌then◌else◌}
use Rattle.fb_bytes.specs.Bytes.{Bytes}
use Rattle.fb_outside.specs.Files.{File}
use Rattle.fb_outside.specs.Calls.{Calls, next_fails, after_call, after_failed_call}

-- a source: the bytes that are left
pub record Reading : Type 0 where
  pub left : Bytes
  pub calls : Calls

-- a sink: the bytes that it holds, and how many it has room for
pub record Writing : Type 0 where
  pub held : Bytes
  pub room : ℕ
  pub calls : Calls

-- a store: its files
pub record Storing : Type 0 where
  pub files : List File
  pub calls : Calls

-- the calls after one more, which fails where it is to fail
abbrev pub called : Calls → Calls
called calls = if next_fails calls then after_failed_call calls else after_call calls

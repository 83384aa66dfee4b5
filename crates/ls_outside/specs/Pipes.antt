-- The two halves of a pipe: what reads leave of it, and what writes leave of it.
use Rattle.std.specs.Prelude.{ℕ, List, None}
use Rattle.std.specs.declared.option.Option.{Option}

-- a pipe as a sink: the bytes that it holds, where it tells, and its count of faults
pub record Holding : Type 0 where
  pub held : Option (List ℕ)
  pub faults : ℕ

-- a pipe as a source: the bytes that aren't read yet, where it tells, and its counts of faults and of idle calls
pub record Giving : Type 0 where
  pub unread : Option (List ℕ)
  pub faults : ℕ
  pub waits : ℕ

-- of a source that is no sink
abbrev pub no_sink : Holding
no_sink = record { held = None; faults = 0 }

-- of a sink that is no source
abbrev pub no_source : Giving
no_source = record { unread = None; faults = 0; waits = 0 }

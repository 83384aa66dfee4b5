-- The stream of a connection (this project's profile).
use Rattle.std.specs.Prelude.{◌≡◌, ℕ, Bool}
use mathlib.Core.List.{IsPrefix}
use Rattle.ls_told.specs.Seen.{Testified}

-- the stream that a connection has, or had last: what was seen of its session, its epoch, and whether it goes on
pub record StreamState : Type 0 where
  pub told : Testified
  pub epoch : ℕ
  pub runs : Bool

-- a stream later: more was seen of its session
pub record GrewFrom (s u : StreamState) : Type 0 where
  pub number : u.told.number ≡ s.told.number
  pub epoch : u.epoch ≡ s.epoch
  pub lines : IsPrefix s.told.lines u.told.lines

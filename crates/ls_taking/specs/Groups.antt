-- What contracts see of the seats of a subscription (this project's profile).
use Rattle.std.specs.Prelude.{ℕ, List}
use Rattle.ls_seated.specs.Seats.{SeatSeen}

-- the seats of a subscription, in the order of its items
pub record SubSeen : Type 0 where
  pub sub : ℕ
  pub seats : List SeatSeen

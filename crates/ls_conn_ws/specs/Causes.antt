-- What the end of a WebSocket says of the counts of its talk.
use Rattle.std.specs.Prelude.{◌≤◌, ℕ, Option, None, Some}
use Rattle.ls_outside.specs.Causes.{Rose, RoseBy}
use Rattle.ls_talk.specs.Lines.{Counts}
use Rattle.ls_conn.specs.declared.ended.ConnEnd.{ConnEnd}
use Rattle.ls_conn.specs.declared.ended.ConnEnd.TheVariants as end
use Rattle.ls_conn.specs.declared.ended.TheConstants.{MOST_IDLES}

-- no count fell
pub record Rises (c d : Counts) (f g : ℕ) : Type 0 where
  pub faults : c.faults ≤ d.faults
  pub idles : c.idles ≤ d.idles
  pub closes : c.closes ≤ d.closes
  pub puts : f ≤ g

-- the cause of an end, by the counts before (c, and f of puts) and after it (d, g)
abbrev pub HasCause : ConnEnd → Counts → Counts → ℕ → ℕ → Type 0
HasCause end.Served c d f g = ⊥
HasCause (end.Refused status) c d f g = ⊥
HasCause end.PeerLeft c d f g = Rose c.closes d.closes
HasCause end.TooSlow c d f g = RoseBy MOST_IDLES c.idles d.idles
HasCause end.ReadFault c d f g = Rose c.faults d.faults
HasCause end.WriteFault c d f g = Rose f g
HasCause end.Stopped c d f g = Unit {0}
HasCause end.NoMemory c d f g = Unit {0}

-- where there is an end, it has its cause
abbrev pub MayHaveCause : Option ConnEnd → Counts → Counts → ℕ → ℕ → Type 0
MayHaveCause None c d f g = Unit {0}
MayHaveCause (Some ending) c d f g = HasCause ending c d f g

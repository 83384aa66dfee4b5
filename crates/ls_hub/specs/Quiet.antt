-- What a hub stands for after a step that failed for want of memory, and whether a session has a line to give.
use Rattle.std.specs.Prelude.{◌≡◌, ◌<◌, ℕ, length, Bool, true, not, ◌&&◌, nat_lt}
use Rattle.ls_world.specs.World.{World}
use Rattle.ls_record.specs.Records.{Session, is_alive, is_unsent}
use Rattle.ls_record.specs.Records.{is_bound, is_to_loop}
use Rattle.ls_step.specs.declared.step.Step.{Step}
use Rattle.ls_world.specs.Steps.{Once}
use Rattle.ls_world.specs.Repeats.{nth_world, all_go_on}
use Rattle.ls_world.specs.Failing.{PassedSilentCuts, MayLeave}
use Rattle.ls_hub.specs.Hub.{StandsHub}
use Rattle.ls_hub.specs.declared.hub.Hub.{Hub}

-- a hub stands for a world that is as before, except that slots passed silent cuts
pub record StandsQuiet (w : World) (h : Hub) : Type 0 where
  pub after : World
  pub passed : PassedSilentCuts w after
  pub stands : StandsHub h after

-- some of so many like steps were done, each of which asks for a next one, and the one after them failed: in it no
-- line was numbered or given
pub record FailedBehind (f : World → Once) (w : World) (times : ℕ) (h : Hub) : Type 0 where
  pub done : ℕ
  pub fewer : done < times
  pub goes : all_go_on f done w ≡ true
  pub quiet : StandsQuiet (nth_world f done w) h

-- some of so many like steps were done, each of which asks for a next one, and of the one after them nothing
pub record DidFewer (f : World → Once) (w : World) (times : ℕ) (h : Hub) : Type 0 where
  pub done : ℕ
  pub fewer : done < times
  pub goes : all_go_on f done w ≡ true
  pub stands : StandsHub h (nth_world f done w)

-- a step failed for want of memory, and the hub stands for a world that it may leave then
abbrev pub FailedIn : World → Step → ℕ → Hub → Type 0
FailedIn w s times h = (v : World) × MayLeave w s times v × StandsHub h v

-- whether a session is alive and gives lines on the stream of an epoch: it has no newer one, and this one is bound and
-- isn't over
abbrev pub is_open : ℕ → Session → Bool
is_open epoch s =
    not (nat_lt epoch (length s.streams)) && is_bound s && is_alive s.life && not (is_to_loop s.streams)

-- whether it has a numbered line to give there next
abbrev pub has_line : ℕ → Session → Bool
has_line epoch s = is_open epoch s && is_unsent s

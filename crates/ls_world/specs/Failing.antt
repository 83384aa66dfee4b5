-- The worlds that a step may leave which failed for want of memory.
use Rattle.std.specs.Prelude.{◌≡◌, ◌<◌, ℕ, true}
use Rattle.ls_record.specs.Quiet.{AreQuiet}
use Rattle.ls_step.specs.declared.step.Step.{Step}
use Rattle.ls_step.specs.declared.step.Step.TheVariants as step
use Rattle.ls_world.specs.World.{World}
use Rattle.ls_world.specs.Steps.{Once, take_once, enqueue_once}
use Rattle.ls_world.specs.Repeats.{nth_world, all_go_on}

-- a world is another one, except that slots passed silent cuts
pub record PassedSilentCuts (w v : World) : Type 0 where
  pub rest : v ≡ record w { sessions = v.sessions }
  pub sessions : AreQuiet w.items w.sessions v.sessions

-- some of so many like turns were taken, each of which asks for a next one, and in the one after them no line was
-- numbered or given
pub record TookSome (f : World → Once) (w : World) (times : ℕ) (v : World) : Type 0 where
  pub done : ℕ
  pub fewer : done < times
  pub goes : all_go_on f done w ≡ true
  pub passed : PassedSilentCuts (nth_world f done w) v

-- some of so many like steps were done, each of which asks for a next one, and nothing of the one after them
pub record DidSome (f : World → Once) (w : World) (times : ℕ) (v : World) : Type 0 where
  pub done : ℕ
  pub fewer : done < times
  pub goes : all_go_on f done w ≡ true
  pub is : v ≡ nth_world f done w

-- what a step may leave that is made at most so often: some of its turns were taken, or of its enqueues made; of another
-- step nothing was done
abbrev pub MayLeave : World → Step → ℕ → World → Type 0
MayLeave w (step.Take connection) times v = TookSome (take_once connection) w times v
MayLeave w (step.Enqueue connection sub rank) times v = DidSome (enqueue_once connection sub rank) w times v
MayLeave w s times v = v ≡ w

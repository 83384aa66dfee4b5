-- What requests do to the sessions of a hub: which session one names, and what it does to that.
use Rattle.std.specs.Prelude.{◌≡◌, ℕ, zero, suc, List, [], Bool, true, false, Option, None, Some, slice_get}
use Rattle.ls_record.specs.Cases.{with_found}
use Rattle.ls_request.specs.declared.request.Bind.{Bind}
use Rattle.ls_step.specs.declared.out.Out.{Out}
use Rattle.ls_step.specs.declared.out.Out.TheVariants as out
use Rattle.ls_request.specs.declared.request.Op.{Op}
use Rattle.ls_request.specs.declared.request.Op.TheVariants as op
use Rattle.ls_record.specs.Acting.{bind_code, free_slots}
use Rattle.ls_world.specs.Steps.{Stepped, stays, bound, refuses_stream, with_living}
use Rattle.ls_world.specs.World.{World}
use Rattle.ls_record.specs.Records.{Session, definitions, free_number, is_alive, change}
use Rattle.ls_session.specs.declared.session.Lost.{Lost}
use Rattle.ls_session.specs.declared.session.Lost.TheVariants as lost
use Rattle.ls_acts.specs.Acting.{op_code, acted}
use Rattle.ls_hub.specs.declared.hub.Hub.{Hub}
use Rattle.ls_hub.specs.Hub.{StandsHub}

-- the place, from 0, of the session of a number from 1
abbrev pub place_of_number : ℕ → Option ℕ
place_of_number zero = None
place_of_number (suc n) = Some n

-- the session of a place, if there is one that hasn't ended
abbrev pub living_place : List Session → Option ℕ → Option ℕ
living_place sessions place = with_living sessions place None (λ n s. Some n)

-- the session of a place, which hasn't ended
pub record IsLiving (w : World) (place : ℕ) (s : Session) : Type 0 where
  pub found : slice_get w.sessions place ≡ Some s
  pub alive : is_alive s.life ≡ true

-- the world after an operation on the session of a place, which the code of a refusal leaves as it is
abbrev pub unless_refused : Option ℕ → ℕ → (Session → Session) → World → World
unless_refused None place f w = record w { sessions = change place f w.sessions }
unless_refused (Some code) place f w = w

-- an operation on the session of a place was refused for the cause of this code, if there is one, or was done
pub record DidOperate (w : World) (place : ℕ) (code : Option ℕ) (f : Session → Session) (answer : Option ℕ) (h : Hub)
    : Type 0 where
  pub answered : answer ≡ code
  pub stands : StandsHub h (unless_refused code place f w)

-- what an operation is refused for, what it makes of the session, and whether it ends it
abbrev pub operation_code : World → Session → Op → Option ℕ
operation_code w s o = op_code (definitions w.items) (free_slots w.sessions) s o

abbrev pub operation : World → Op → Session → Session
operation w o = acted w.items (free_number w.sessions) o

abbrev pub is_end : Op → Bool
is_end (op.Add a) = false
is_end (op.Delete sub) = false
is_end (op.Reconf sub frequency) = false
is_end (op.Constrain limit) = false
is_end op.Destroy = true
is_end op.ForceRebind = false

-- a bind_session of the session of a place, which hasn't ended
abbrev pub binds_living : World → ℕ → Bind → ℕ → Session → Stepped
binds_living w connection b n s =
    with_found (bind_code s b) (stays (bound w connection n s b) []) (refuses_stream w connection)

-- what the loss of a stream prints
abbrev pub out_of_loss : Lost → Out
out_of_loss lost.Unbound = out.Lost
out_of_loss (lost.Superseded epoch) = out.Superseded epoch
out_of_loss lost.NotBound = out.Unbound

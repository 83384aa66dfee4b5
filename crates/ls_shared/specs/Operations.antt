-- What an operation says of a session and of the register beyond what it appends and why it is refused (TLCP 2.1, control;
-- this project's profile).
use Rattle.std.specs.Prelude.{◌≡◌, ◌≤◌, ◌⊎◌, ℕ, ◌+◌, List, [], ◌∷◌, ◌++◌, length, true, None}
use mathlib.Core.List.{IsPrefix}
use Rattle.ls_event.specs.declared.item.ItemDef.{ItemDef}
use Rattle.ls_request.specs.declared.request.Add.{Add}
use Rattle.ls_request.specs.declared.request.Op.{Op}
use Rattle.ls_request.specs.declared.request.Op.TheVariants as op
use Rattle.ls_record.specs.Acting.{asks_of}
use Rattle.ls_record.specs.Records.{Session, timed_out}
use Rattle.ls_record.specs.declared.TheConstants.{MOST_UNSENT}
use Rattle.ls_register.specs.declared.made.Made.{Made}
use Rattle.ls_register.specs.declared.made.Made.TheVariants.{Claimed}
use Rattle.ls_register.specs.declared.told.Told.{Told}
use Rattle.ls_register.specs.declared.told.Told.TheVariants.{Ended}
use Rattle.ls_told.specs.Heard.{heard, counts_as, has_rebind, rates_of}
use Rattle.ls_told.specs.Seen.{Testified, IsTold}
use Rattle.ls_told.specs.Requests.{free_in, is_spent_for, op_code}
use Rattle.ls_live_session.specs.Leaving.{IsOverdue}

-- the room for the slots of a subscription was claimed when the register was this one, by which nothing stood against it
pub record ClaimsRoom (config : List ItemDef) (a : Add) (old new : Testified) : Type 0 where
  pub before : List Told
  pub begins : IsPrefix old.later before
  pub room : List Made
  pub room_then : IsPrefix old.register room
  pub claimed : IsPrefix (room ++ Claimed (length (asks_of config a)) ∷ []) new.register
  pub earlier : Session
  pub was : IsTold config old.number before new.watches earlier
  pub none : op_code config (free_in room) (is_spent_for (op.Add a) before room) earlier (op.Add a) ≡ None

-- so it is where an operation asks for slots
abbrev pub ClaimsFor : List ItemDef → Op → Testified → Testified → Type 0
ClaimsFor config (op.Add a) old new = ClaimsRoom config a old new
ClaimsFor config (op.Delete sub) old new = Unit {0}
ClaimsFor config (op.Reconf sub frequency) old new = Unit {0}
ClaimsFor config (op.Constrain bandwidth) old new = Unit {0}
ClaimsFor config op.ForceRebind old new = Unit {0}
ClaimsFor config op.Destroy old new = Unit {0}

-- after a force_rebind a wish for LOOP stands after the last Bound
abbrev pub HasWish : Op → List Told → Type 0
HasWish (op.Add a) es = Unit {0}
HasWish (op.Delete sub) es = Unit {0}
HasWish (op.Reconf sub frequency) es = Unit {0}
HasWish (op.Constrain bandwidth) es = Unit {0}
HasWish op.ForceRebind es = has_rebind es ≡ true
HasWish op.Destroy es = Unit {0}

-- another bandwidth isn't taken for want of room only where as many as may wait, but for the four other lines that a
-- stream begins with, were set after the last Bound
abbrev pub HadRates : Op → List Told → Type 0
HadRates (op.Add a) es = Unit {0}
HadRates (op.Delete sub) es = Unit {0}
HadRates (op.Reconf sub frequency) es = Unit {0}
HadRates (op.Constrain bandwidth) es = MOST_UNSENT ≤ rates_of es + 4
HadRates op.ForceRebind es = Unit {0}
HadRates op.Destroy es = Unit {0}

-- a session's history to which a request added nothing: it is as it was, or has its end, where the session was without a
-- stream for too long
abbrev pub AddsNothing : ℕ → ℕ → List Told → List Told → Type 0
AddsNothing number now before es =
    (es ≡ before)
    ⊎ (IsOverdue (counts_as now before) (heard number before) × (es ≡ before ++ Ended timed_out (counts_as now before) ∷ []))

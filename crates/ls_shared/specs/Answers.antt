-- What the calls on the sessions of a server say of what was seen of them and of the register (this project's profile).
use Rattle.ls_request.specs.declared.request.Add.{Add}
use Rattle.ls_request.specs.declared.request.Op.{Op}
use Rattle.ls_request.specs.declared.request.Op.TheVariants as op
use Rattle.ls_record.specs.Acting.{asks_of}
use Rattle.ls_record.specs.Records.{Session}
use Rattle.ls_live_session.specs.Leaving.{Finds}
use Rattle.std.specs.Prelude.{◌≡◌, ◌<◌, ◌⊎◌, ℕ, List, [], ◌∷◌, ◌++◌, length, Bool, true, false, not, Option, None, Some}
use Rattle.std.specs.Prelude.{nat_le, nat_lt}
use mathlib.Core.List.{IsPrefix}
use Rattle.ls_value.specs.Values.{text_eq}
use Rattle.ls_event.specs.declared.item.ItemDef.{ItemDef}
use Rattle.ls_request.specs.declared.request.Bind.{Bind}
use Rattle.ls_request.specs.declared.request.Create.{Create}
use Rattle.ls_record.specs.Cases.{first_code}
use Rattle.ls_record.specs.declared.TheConstants.{MOST_SESSIONS}
use Rattle.ls_register.specs.declared.made.Made.{Made}
use Rattle.ls_register.specs.declared.made.Made.TheVariants.{Claimed, Session as Opened}
use Rattle.ls_register.specs.declared.told.Told.{Told}
use Rattle.ls_register.specs.declared.told.Told.TheVariants.{Bound, Rate, Unbound}
use Rattle.ls_register.specs.Sessions.{live_of, is_live, are_spent, is_spent, free_in}
use Rattle.ls_session.specs.declared.session.Lost.{Lost}
use Rattle.ls_session.specs.declared.session.Lost.TheVariants as lost
use Rattle.ls_session.specs.declared.session.Turn.{Turn}
use Rattle.ls_session.specs.declared.session.Turn.TheVariants as turn
use Rattle.ls_live_session.specs.Speaking.{Speaking}
use Rattle.ls_live_session.specs.Sights.{ShowsAll}
use Rattle.ls_told.specs.Heard.{heard, counts_as}
use Rattle.ls_told.specs.Seen.{Testified, Grows, IsTold}
use Rattle.ls_told.specs.Requests.{AddsSub, Binds, DoneBy, HasBound, op_code, is_spent_for}
pub use Rattle.ls_told.specs.Turns.{GivesLine}
use Rattle.ls_told.specs.Turns.{HasEnded, IsIdle, IsNotDue, IsSpent, IsUnbound, SpokeInTime}

-- whether a set is named that isn't the server's
abbrev pub is_other : List ℕ → Option (List ℕ) → Bool
is_other set None = false
is_other set (Some name) = not (text_eq name set)

-- what a new session is refused for, by the adapter set and by the register, in this order: a set is named that isn't
-- the server's, too many sessions live, or no number or no entry is left
abbrev pub create_code : List ℕ → Create → List Made → Option ℕ
create_code set c ms =
    first_code
    ((2, is_other set c.set)
    ∷ (8, nat_le MOST_SESSIONS (length (live_of ms)))
    ∷ (74, are_spent ms)
    ∷ [])

-- what the maker of a new session has seen of it: its bandwidth and its first stream
pub record Begins (c : Create) (now session epoch : ℕ) (seen : Testified) : Type 0 where
  pub epoch_is : epoch ≡ 1
  pub number : seen.number ≡ session
  pub lines : seen.lines ≡ Rate c.bandwidth now ∷ Bound 1 0 false c.keepalive c.length ∷ []
  pub later : seen.later ≡ seen.lines
  pub mine : seen.mine ≡ []
  pub watches : seen.watches ≡ []

-- a new session: what its maker has seen of it is its bandwidth and its first stream, and it lives by the register, in
-- which it stands last, where nothing stood against it before
pub record Opens (set : List ℕ) (c : Create) (now : ℕ) (old new : List Made) (session epoch : ℕ) (seen : Testified)
    : Type 0 where
  pub is : Begins c now session epoch seen
  pub before : List Made
  pub made : new ≡ before ++ Opened session seen.table ∷ []
  pub begins : IsPrefix old before
  pub none : create_code set c before ≡ None
  pub lives : is_live new session ≡ true
  pub is_new : is_live old session ≡ false

-- a caller has seen all of a session that lives, and gave nothing yet
pub record Testifies (session : ℕ) (seen : Testified) : Type 0 where
  pub number : seen.number ≡ session
  pub later : seen.later ≡ seen.lines
  pub mine : seen.mine ≡ []

-- nothing was seen, or more
abbrev pub SeesOn : Testified → Testified → Type 0
SeesOn old new = (new ≡ old) ⊎ Grows old new

-- a caller has reached a session, and sees all that it has; the session has seen of its items what the caller had
pub record Reaches (was live : Speaking) (old new : Testified) : Type 0 where
  pub number : old.number ≡ was.number
  pub sees : ShowsAll live new
  pub grows : Grows old new
  pub mine : new.mine ≡ old.mine

-- a stream was bound: its Bound stands last, behind what the caller had seen
pub record BindsOn (b : Bind) (now epoch : ℕ) (old new : Testified) : Type 0 where
  pub before : List Told
  pub begins : IsPrefix old.later before
  pub bound : Binds old.number b now epoch before new.lines

-- a turn's answer
abbrev pub Turns : List ItemDef → ℕ → ℕ → Testified → Testified → List ℕ → Turn → Type 0
Turns config epoch now old new text turn.Send = GivesLine config epoch now old new text
Turns config epoch now old new text (turn.Ask ask) = ⊥
Turns config epoch now old new text turn.Idle =
    (new.mine ≡ old.mine) × IsIdle config old.number epoch new.lines new.watches old.watches
    × SpokeInTime epoch (counts_as now new.lines) new.lines
Turns config epoch now old new text (turn.NotDue at) =
    (new.mine ≡ old.mine)
    × IsNotDue config old.number epoch (counts_as now new.lines) at new.lines new.watches old.watches
    × SpokeInTime epoch (counts_as now new.lines) new.lines
Turns config epoch now old new text (turn.Ended code) = (new.mine ≡ old.mine) × HasEnded old.number code new.lines
Turns config epoch now old new text (turn.Superseded e) = (new.mine ≡ old.mine) × (epoch < e) × HasBound e new.lines
Turns config epoch now old new text turn.Unbound = (new.mine ≡ old.mine) × IsUnbound old.number new.lines
Turns config epoch now old new text turn.Spent = (new.mine ≡ old.mine) × IsSpent old.number new.lines

-- a stream was lost, by the longer list: the loss stands last; or there is a newer stream; or there is none, and none is bound
abbrev pub Loses : ℕ → ℕ → Testified → Testified → Lost → Type 0
Loses epoch now old new lost.Unbound =
    (before : List Told) × IsPrefix old.later before × (new.later ≡ before ++ Unbound (counts_as now before) ∷ [])
Loses epoch now old new (lost.Superseded e) = (epoch < e) × HasBound e new.later
Loses epoch now old new lost.NotBound =
    IsUnbound old.number new.later × (nat_lt epoch (length (heard old.number new.later).streams) ≡ false)

-- an operation was done to a session that a caller saw all of: nothing stood against it
pub record Changes (config : List ItemDef) (o : Op) (now : ℕ) (live : Speaking) (old new : Testified) : Type 0 where
  pub finds : Finds config live.number live.lines live.watches o None
  pub watches : new.watches ≡ live.watches
  pub done : DoneBy config live.number (counts_as now live.lines) live.lines new old.register o

-- room for the slots of a subscription was claimed, where the register wasn't spent, nor was the session's history
pub record HasRoom (config : List ItemDef) (a : Add) (es : List Told) (free : ℕ) (old new : List Made) : Type 0 where
  pub room : List Made
  pub begins : IsPrefix old room
  pub free_is : free ≡ free_in room
  pub left : is_spent es ≡ false
  pub unspent : is_spent room ≡ false
  pub claimed : new ≡ room ++ Claimed (length (asks_of config a)) ∷ []

-- a subscription was added to a session that a caller saw all of: nothing stood against it when the register was this one
pub record AddsOn (config : List ItemDef) (a : Add) (now : ℕ) (live : Speaking) (old new : Testified) : Type 0 where
  pub room : List Made
  pub room_then : IsPrefix old.register room × IsPrefix room new.register
  pub claims : IsPrefix (room ++ Claimed (length (asks_of config a)) ∷ []) new.register
  pub earlier : Session
  pub was : IsTold config live.number live.lines new.watches earlier
  pub none : op_code config (free_in room) (is_spent_for (op.Add a) live.lines room) earlier (op.Add a) ≡ None
  pub done : AddsSub config live.number a (counts_as now live.lines) live.lines new old.register

-- an operation asks for slots
abbrev pub AsksSlots : Op → Type 0
AsksSlots (op.Add a) = Unit {0}
AsksSlots (op.Delete sub) = ⊥
AsksSlots (op.Reconf sub frequency) = ⊥
AsksSlots (op.Constrain bandwidth) = ⊥
AsksSlots op.ForceRebind = ⊥
AsksSlots op.Destroy = ⊥

-- What requests and losses append to a session's history, and what requests are refused for, by what was told of the
-- session (TLCP 2.1, bind_session and control; the codes are this project's profile).
use Rattle.std.specs.Prelude.{◌≡◌, ◌≤◌, ◌<◌, ◌⊎◌, ℕ, ◌+◌, List, [], ◌∷◌, ◌++◌, length, Bool, true, false, not, ◌&&◌, ◌||◌}
use Rattle.std.specs.Prelude.{Option, None, Some, is_some, unwrap_or, nat_lt, nat_le, take, slice_get}
use Rattle.std.specs.List.{filter}
use Rattle.std.specs.Option.{ForSome}
use mathlib.Core.List.{IsPrefix}
use Rattle.ls_value.specs.declared.limits.TheConstants.{GREATEST_NUMBER}
use Rattle.ls_event.specs.declared.item.ItemDef.{ItemDef}
use Rattle.ls_event.specs.Joining.{plan_of, rows_asked}
use Rattle.ls_request.specs.declared.request.Add.{Add}
use Rattle.ls_request.specs.declared.request.Bind.{Bind}
use Rattle.ls_request.specs.declared.request.Op.{Op}
use Rattle.ls_request.specs.declared.request.Op.TheVariants as op
use Rattle.ls_record.specs.Acting.{asks_of, add_refusals, are_too_many, are_spent, destroyed}
use Rattle.ls_record.specs.Cases.{first_code}
use Rattle.ls_record.specs.Cutting.{Ask}
use Rattle.ls_record.specs.Lines.{Begins, Ends, Configures, line_text}
use Rattle.ls_record.specs.Records.{LiveSlot, Session, is_alive, is_of, is_used, shape_in, keys_shown}
use Rattle.ls_record.specs.Records.{frequency_of, are_filtered, frequency_in, is_filtered, mode_in}
use Rattle.ls_record.specs.declared.TheConstants.{MOST_UNBOUND, MOST_UNSENT}
use Rattle.ls_register.specs.Begun.{BegunSeen}
use Rattle.ls_register.specs.declared.begun.SlotBegun.{SlotBegun}
use Rattle.ls_register.specs.declared.made.Made.{Made}
use Rattle.ls_register.specs.declared.made.Made.TheVariants.{Gone, Claimed, Freed}
use Rattle.ls_register.specs.declared.told.Told.{Told}
use Rattle.ls_register.specs.declared.told.Told.TheVariants.{Numbered, Bound, Rate, Rebind, Ended}
use Rattle.ls_register.specs.Sessions.{Gains}
pub use Rattle.ls_register.specs.Sessions.{free_in, is_spent}
use Rattle.ls_told.specs.Spoken.{Spoken, is_forced}
use Rattle.ls_told.specs.Heard.{heard, counts_as}
use Rattle.ls_told.specs.Seen.{Watched, Testified, IsTold, items_seen, seen_of}

-- a stream of this epoch was bound
abbrev pub HasBound : ℕ → List Told → Type 0
HasBound epoch es =
    (k from : ℕ) × (counted : Bool) × (keepalive : ℕ) × (content : Option ℕ)
    × (slice_get es k ≡ Some (Bound epoch from counted keepalive content))

-- a session that has no stream isn't without one for too long
abbrev pub InTime : ℕ → Spoken → Type 0
InTime now s = ForSome s.unbound (λ since. now < since + MOST_UNBOUND)

-- whether a client may go on behind the lines that it says it has: the next one is kept, or is yet to be numbered
abbrev pub may_go_on : Spoken → Option ℕ → Bool
may_go_on s None = true
may_go_on s (Some count) = nat_le s.given_up count && nat_le count (length s.texts)

-- what a bind to a session is refused for, in this order: the session has ended, the line after the count isn't kept,
-- or was never numbered, or no epoch is left
abbrev pub bind_code_of : ℕ → List Told → Option ℕ → Option ℕ
bind_code_of number es recover =
    first_code
    ((20, not (is_alive (heard number es).life))
    ∷ (4, not (may_go_on (heard number es) recover))
    ∷ (74, nat_le GREATEST_NUMBER (length (heard number es).streams) || is_spent es)
    ∷ [])

-- a bind was done: it was in time and nothing stood against it, its stream has the next epoch, and begins behind the
-- client's count, and else behind the line given last
pub record Binds (number : ℕ) (b : Bind) (now epoch : ℕ) (before es : List Told) : Type 0 where
  pub in_time : InTime (counts_as now before) (heard number before)
  pub none : bind_code_of number before b.recover ≡ None
  pub epoch_is : epoch ≡ length (heard number before).streams + 1
  pub lines : es
      ≡ before ++ Bound epoch (unwrap_or b.recover (heard number before).sent) (is_some b.recover) b.keepalive b.length ∷ []

-- what an operation is refused for, by the slots that the server may still give and by whether a history that it adds
-- to is spent: each code beside its condition, in their order
abbrev pub op_refusals : List ItemDef → ℕ → Bool → Session → Op → List (ℕ × Bool)
op_refusals config free spent s (op.Add a) = add_refusals config free s a ++ (74, spent) ∷ []
op_refusals config free spent s (op.Delete sub) =
    (19, not (is_used sub s.board.round)) ∷ (70, are_too_many s 1) ∷ (74, are_spent s 1 || spent) ∷ []
op_refusals config free spent s (op.Reconf sub frequency) =
    (19, not (is_used sub s.board.round)) ∷ (70, are_too_many s 1) ∷ (74, are_spent s 1 || spent) ∷ []
op_refusals config free spent s (op.Constrain bandwidth) = (70, nat_lt MOST_UNSENT (length s.owed + 1)) ∷ []
op_refusals config free spent s op.ForceRebind = []
op_refusals config free spent s op.Destroy = []

-- its code, on a session that may have ended
abbrev pub op_code : List ItemDef → ℕ → Bool → Session → Op → Option ℕ
op_code config free spent s o = first_code ((20, not (is_alive s.life)) ∷ op_refusals config free spent s o)

-- an add begins in the register too
abbrev pub is_spent_for : Op → List Told → List Made → Bool
is_spent_for (op.Add a) es ms = is_spent es || is_spent ms
is_spent_for o es ms = is_spent es

-- an operation is refused for a code, by what was told and by the register
abbrev pub RefusesOp : List ItemDef → ℕ → Op → ℕ → List Told → List Watched → List Made → Type 0
RefusesOp config number o code es ws ms =
    (s : Session) × IsTold config number es ws s
    × (op_code config (free_in ms) (is_spent_for o es ms) s o ≡ Some code)

-- a line without a slot is numbered
abbrev pub plain : List ℕ → ℕ → Told
plain text tick =
    Numbered (record { text = text; slot = None; before = 0; upto = 0; at = 0; begun = None; tick = tick })

-- so is the one with which a subscription begins
abbrev pub begins_with : List ℕ → BegunSeen → ℕ → Told
begins_with text b tick =
    Numbered (record { text = text; slot = None; before = 0; upto = 0; at = 0; begun = Some b; tick = tick })

-- a slot with which a subscription began is the one that was asked for: of its item, with its mode, its size and its
-- snapshot, and it joined behind no more than was seen of the item
pub record IsBegunFor (ws : List Watched) (a : Ask) (t : SlotBegun) : Type 0 where
  pub item : t.item ≡ a.item
  pub mode : t.mode ≡ a.mode
  pub size : t.size ≡ a.size
  pub snapshot : rows_asked t.snapshot ≡ a.wanted.snapshot
  pub base : t.base ≤ length (seen_of ws a.item)

-- one for each that was asked for, in order
abbrev pub AreBegunFor : List Watched → List Ask → List SlotBegun → Type 0
AreBegunFor ws [] [] = Unit {0}
AreBegunFor ws [] (t ∷ ts) = ⊥
AreBegunFor ws (a ∷ asks) [] = ⊥
AreBegunFor ws (a ∷ asks) (t ∷ ts) = IsBegunFor ws a t × AreBegunFor ws asks ts

-- the slots of a subscription
abbrev pub slots_in : ℕ → Session → List LiveSlot
slots_in sub s = filter (is_of sub) s.board.round

-- a live slot is the one that was asked for, of a rank in a subscription: of its item, with its mode, its fields, its
-- size and its snapshot, and joined behind no more than was seen of the item
pub record IsAsked (config : List ItemDef) (ws : List Watched) (sub rank : ℕ) (a : Ask) (v : LiveSlot) : Type 0 where
  pub sub_is : v.sub ≡ sub
  pub rank_is : v.rank ≡ rank
  pub item_is : v.item ≡ a.item
  pub frequency_is : v.frequency ≡ a.frequency
  pub wanted_is : v.wanted ≡ a.wanted
  pub base : v.slot.plan.base ≤ length (seen_of ws a.item)
  pub plan : v.slot.plan
      ≡ plan_of (shape_in config a.item) (take v.slot.plan.base (seen_of ws a.item)) a.mode a.size

-- one for each that was asked for, in order
abbrev pub AreAsked : List ItemDef → List Watched → ℕ → ℕ → List Ask → List LiveSlot → Type 0
AreAsked config ws sub rank [] [] = Unit {0}
AreAsked config ws sub rank [] (v ∷ vs) = ⊥
AreAsked config ws sub rank (a ∷ asks) [] = ⊥
AreAsked config ws sub rank (a ∷ asks) (v ∷ vs) =
    IsAsked config ws sub rank a v × AreAsked config ws sub (rank + 1) asks vs

-- a new subscription: SUBOK or SUBCMD, and CONF, are numbered, it begins with a slot for each item of the group, which the
-- session then has, and room for them was taken
pub record AddsSub (config : List ItemDef) (number : ℕ) (a : Add) (tick : ℕ) (before : List Told) (new : Testified)
    (old : List Made) : Type 0 where
  pub begun : BegunSeen
  pub schema : begun.schema ≡ a.schema
  pub begins : AreBegunFor new.watches (asks_of config a) begun.slots
  pub lines : new.lines
      ≡ before
      ++ begins_with (line_text [] (Begins a.sub (length (asks_of config a)) (length a.schema)
      (keys_shown (items_seen config new.watches) (asks_of config a)))) begun tick
      ∷ plain (line_text [] (Configures a.sub (frequency_of (asks_of config a)) (are_filtered (asks_of config a)))) tick
      ∷ []
  pub session : Session
  pub told : IsTold config number new.lines new.watches session
  pub slots : AreAsked config new.watches a.sub 1 (asks_of config a) (slots_in a.sub session)
  pub claimed : Gains (Claimed (length (asks_of config a))) old new.register

-- the end of a subscription: UNSUB is numbered, its slots are gone, and their room was given back
pub record EndsSub (config : List ItemDef) (number sub tick : ℕ) (before : List Told) (new : Testified)
    (old : List Made) : Type 0 where
  pub lines : new.lines ≡ before ++ plain (line_text [] (Ends sub)) tick ∷ []
  pub earlier : Session
  pub was : IsTold config number before new.watches earlier
  pub session : Session
  pub told : IsTold config number new.lines new.watches session
  pub gone : is_used sub session.board.round ≡ false
  pub freed : Gains (Freed (length (slots_in sub earlier))) old new.register

-- another frequency of a subscription: CONF is numbered
pub record Reconfigures (config : List ItemDef) (number sub : ℕ) (frequency : Option ℕ) (tick : ℕ) (before : List Told)
    (new : Testified) : Type 0 where
  pub earlier : Session
  pub was : IsTold config number before new.watches earlier
  pub lines : new.lines
      ≡ before
      ++ plain (line_text [] (Configures sub (frequency_in (mode_in sub earlier.board.round) frequency)
      (is_filtered (mode_in sub earlier.board.round)))) tick
      ∷ []

-- the stream is to be left by LOOP: that is told once
pub record ForcesRebind (number : ℕ) (before es : List Told) : Type 0 where
  pub lines : (es ≡ before ++ Rebind ∷ []) ⊎ (es ≡ before)
  pub forced : is_forced (heard number es).streams ≡ true

-- the session's end: the room of its slots was given back, and so is the session; one that has ended has none
pub record Destroys (config : List ItemDef) (number tick : ℕ) (before : List Told) (new : Testified)
    (old : List Made) : Type 0 where
  pub lines : new.lines ≡ before ++ Ended destroyed tick ∷ []
  pub earlier : Session
  pub was : IsTold config number before new.watches earlier
  pub freed : Gains (Freed (length earlier.board.round)) old new.register
  pub gone : Gains (Gone number) old new.register

-- what an operation that was done says of the history before it, of what was seen after it, and of the register
abbrev pub DoneBy : List ItemDef → ℕ → ℕ → List Told → Testified → List Made → Op → Type 0
DoneBy config number tick before new old (op.Add a) = AddsSub config number a tick before new old
DoneBy config number tick before new old (op.Delete sub) = EndsSub config number sub tick before new old
DoneBy config number tick before new old (op.Reconf sub frequency) =
    Reconfigures config number sub frequency tick before new
DoneBy config number tick before new old (op.Constrain bandwidth) = new.lines ≡ before ++ Rate bandwidth tick ∷ []
DoneBy config number tick before new old op.ForceRebind = ForcesRebind number before new.lines
DoneBy config number tick before new old op.Destroy = Destroys config number tick before new old

-- an operation was done: it was in time, and nothing stood against it when the register was this one
pub record Does (config : List ItemDef) (o : Op) (now : ℕ) (old new : Testified) : Type 0 where
  pub before : List Told
  pub begins : IsPrefix old.later before
  pub in_time : InTime (counts_as now before) (heard old.number before)
  pub room : List Made
  pub room_then : IsPrefix old.register room × IsPrefix room new.register
  pub earlier : Session
  pub was : IsTold config old.number before new.watches earlier
  pub none : op_code config (free_in room) (is_spent_for o before room) earlier o ≡ None
  pub done : DoneBy config old.number (counts_as now before) before new old.register o

-- only of the session's history more was seen, by the longer of both lists
pub record OnlyLater (old new : Testified) : Type 0 where
  pub rest : new ≡ record old { later = new.later; register = new.register }
  pub later : IsPrefix old.later new.later
  pub register : IsPrefix old.register new.register

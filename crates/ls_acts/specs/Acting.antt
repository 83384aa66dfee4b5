-- What an operation on a session is refused for, and what becomes of the session and of its slots (TLCP 2.1, control; the
-- codes are this project's profile).
use Rattle.std.specs.Prelude.{◌≡◌, ◌≤◌, ℕ, ◌-◌, List, ◌++◌, length, Option, None, Some}
use Rattle.ls_value.specs.declared.limits.TheConstants.{GREATEST_TICK}
use Rattle.ls_event.specs.declared.item.ItemDef.{ItemDef}
use Rattle.ls_event.specs.declared.limits.TheConstants.{MOST_SLOTS}
use Rattle.ls_request.specs.declared.request.Op.{Op}
use Rattle.ls_request.specs.declared.request.Op.TheVariants as op
use Rattle.ls_record.specs.Acting.{add_refusals, change_code, constrain_code, destroyed, subscribed_on}
use Rattle.ls_record.specs.Cases.{first_code}
use Rattle.ls_record.specs.Records.{Item, LiveSlot, Session, definitions, numbered, removed, reconfigured, constrained}
use Rattle.ls_record.specs.Records.{ended, forced}
use Rattle.ls_cells.specs.Cells.{free_in}
use Rattle.ls_session.specs.Record.{Record, rests, unless_ended}
use Rattle.ls_session.specs.Session.{StandsSession}
use Rattle.ls_session.specs.declared.session.Session.{Session as Kept}

-- what an operation is refused for on a session that hasn't ended, where the server may still give so many slots
abbrev pub op_code : List ItemDef → ℕ → Session → Op → Option ℕ
op_code defs free s (op.Add a) = first_code (add_refusals defs free s a)
op_code defs free s (op.Delete sub) = change_code s sub
op_code defs free s (op.Reconf sub frequency) = change_code s sub
op_code defs free s (op.Constrain limit) = constrain_code s
op_code defs free s op.Destroy = None
op_code defs free s op.ForceRebind = None

-- on one that has ended it is refused as on an unknown one
abbrev pub act_code : List ItemDef → ℕ → Session → Op → Option ℕ
act_code defs free s o = unless_ended s (op_code defs free s o)

-- what it makes of a session, where an item's next slot gets this number
abbrev pub acted : List Item → (ℕ → ℕ) → Op → Session → Session
acted items numbers (op.Add a) = subscribed_on items numbers a
acted items numbers (op.Delete sub) = numbered (removed sub)
acted items numbers (op.Reconf sub frequency) = numbered (reconfigured sub frequency)
acted items numbers (op.Constrain limit) = constrained limit
acted items numbers op.Destroy = ended destroyed
acted items numbers op.ForceRebind = forced

-- the floor or the tick of its record: another bandwidth is from a tick on
abbrev pub acted_at : ℕ → Op → ℕ → ℕ
acted_at now (op.Add a) tick = tick
acted_at now (op.Delete sub) tick = tick
acted_at now (op.Reconf sub frequency) tick = tick
acted_at now (op.Constrain limit) tick = now
acted_at now op.Destroy tick = tick
acted_at now op.ForceRebind tick = tick

-- the record after it was refused for a code, or done at a tick
abbrev pub after_act : Option ℕ → ℕ → List Item → (ℕ → ℕ) → Op → Record → Record
after_act None now items numbers o r =
    rests r.number (acted_at now o r.floor) (acted_at now o r.tick) (acted items numbers o r.session)
after_act (Some code) now items numbers o r = r

-- what is kept of a session stands for a record, whose slots stand among those of other sessions
abbrev pub StandsAmong : (List Item → List LiveSlot → Type 0) → Kept → List Item → List LiveSlot → List LiveSlot → Record
    → Type 0
StandsAmong stands k items before after r =
    StandsSession k r × stands items (before ++ (r.session.board.round ++ after))

-- an operation was refused for the code that is answered, or done: the other sessions' slots are as they were
abbrev pub Acts : (List Item → List LiveSlot → Type 0) → (List Item → List LiveSlot → Type 0) → Kept → Kept
    → List ItemDef → ℕ → Op → Option ℕ → Type 0
Acts stands stands' k k' defs now o code =
    (items : List Item) (before after : List LiveSlot) (r : Record) → StandsAmong stands k items before after r
    → defs ≡ definitions items → r.floor ≤ now → now ≤ GREATEST_TICK
    → (code ≡ act_code defs (MOST_SLOTS - length (before ++ (r.session.board.round ++ after))) r.session o)
    × StandsAmong stands' k' items before after
    (after_act code now items (free_in (before ++ (r.session.board.round ++ after))) o r)

-- the same of an operation that touches no slot
abbrev pub ActsAlone : Kept → Kept → ℕ → Op → Option ℕ → Type 0
ActsAlone k k' now o code =
    (defs : List ItemDef) (items : List Item) (free : ℕ) (numbers : ℕ → ℕ) (r : Record) → StandsSession k r
    → r.floor ≤ now → now ≤ GREATEST_TICK
    → (code ≡ act_code defs free r.session o) × StandsSession k' (after_act code now items numbers o r)

-- what it stood for it stands for, and so do the slots
abbrev pub StaysAs : (List Item → List LiveSlot → Type 0) → (List Item → List LiveSlot → Type 0) → Kept → Kept → Type 0
StaysAs stands stands' k k' =
    ((items : List Item) (lives : List LiveSlot) → stands items lives → stands' items lives)
    × ((r : Record) → StandsSession k r → StandsSession k' r)

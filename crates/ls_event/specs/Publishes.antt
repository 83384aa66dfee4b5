-- Why a publish is refused, and what a history of an item is (General Concepts, items; this project's profile for the
-- limits).
use Rattle.std.specs.Prelude.{◌≡◌, ℕ, ◌+◌, ◌<◌, ◌≤◌, List, [], ◌∷◌, ◌++◌, length, nat_le, Option, None, Some}
use Rattle.std.specs.Prelude.{if◌then◌else◌, option_map}
use Rattle.std.specs.Option.{option_or}
use Rattle.ls_event.specs.declared.event.Entry.{Entry}
use Rattle.ls_event.specs.declared.event.Stored.{Stored}
use Rattle.ls_event.specs.declared.event.PushRefused.{PushRefused}
use Rattle.ls_event.specs.declared.event.PushRefused.TheVariants as push
use Rattle.ls_event.specs.declared.event.PublishRefused.{PublishRefused}
use Rattle.ls_event.specs.declared.event.PublishRefused.TheVariants as refused
use Rattle.ls_event.specs.Shapes.{Shape}
use Rattle.ls_event.specs.History.{HasFields, last_seq}
use Rattle.ls_event.specs.States.{state_at, key_row, push_refusal}
use Rattle.ls_value.specs.declared.limits.TheConstants.{GREATEST_NUMBER}

-- entries of a history with their numbers, the first of which is n + 1
abbrev pub stored_from : Shape → List Entry → ℕ → List Entry → List Stored
stored_from p h n [] = []
stored_from p h n (e ∷ es) =
    record { no = n + 1; event = e.event; after = key_row p (state_at p h (n + 1)) e.event }
    ∷ stored_from p h (n + 1) es

-- a cause to refuse an event, as a cause to refuse its publish
abbrev pub publish_cause : PushRefused → PublishRefused
publish_cause push.NoKey = refused.NoKey
publish_cause push.BadCommand = refused.BadCommand
publish_cause (push.TooLong bytes) = refused.TooLong bytes
publish_cause push.TooManyKeys = refused.TooManyKeys
publish_cause push.NoMemory = refused.NoMemory

-- a slot that lags comes before what follows in the order
abbrev pub backlog_or : Option ℕ → Option PublishRefused → Option PublishRefused
backlog_or None rest = rest
backlog_or (Some slot) rest = Some (refused.Backlog slot)

-- why an entry is refused after a history, by the first cause of the order; far is the least slot that lags by as much
-- as it may, if one does
abbrev pub refusal : Shape → List Entry → Option ℕ → Entry → Option PublishRefused
refusal p h far e =
    if nat_le e.seq (last_seq e.adapter h) then Some (refused.Repeated (last_seq e.adapter h))
    else option_or (option_map publish_cause (push_refusal p (state_at p h (length h)) e.event))
    (backlog_or far (if nat_le GREATEST_NUMBER (length h) then Some refused.Spent else None))

-- an entry may follow a history: it has a cell for each field, nothing stands against it in the state, and its
-- adapter's seq rises
pub record MayFollow (p : Shape) (h : List Entry) (e : Entry) : Type 0 where
  pub fits : HasFields p.fields e.event
  pub admitted : push_refusal p (state_at p h (length h)) e.event ≡ None
  pub rises : last_seq e.adapter h < e.seq

-- each of these entries may follow those before it
abbrev pub EachFollows : Shape → List Entry → List Entry → Type 0
EachFollows p before [] = Unit {0}
EachFollows p before (e ∷ es) = MayFollow p before e × EachFollows p (before ++ e ∷ []) es

-- a history of an item of a shape
pub record IsHistory (p : Shape) (h : List Entry) : Type 0 where
  pub few : length h ≤ GREATEST_NUMBER
  pub each : EachFollows p [] h

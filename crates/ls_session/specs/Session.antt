-- What a session keeps, and the record that it stands for. It says nothing of items or their histories.
use Rattle.std.specs.Prelude.{◌≡◌, ◌≤◌, ◌<◌, ◌⊎◌, ℕ, ◌+◌, List, [], ◌∷◌, length, map, Bool, true, false}
use Rattle.std.specs.Prelude.{Option, None, Some, is_some, option_map, slice_get, nat_eq, if◌then◌else◌}
use Rattle.std.specs.Option.{ForSome}
use Rattle.ls_value.specs.declared.limits.TheConstants.{GREATEST_NUMBER, GREATEST_TICK}
use Rattle.ls_budget.specs.Budget.{Spend, credit_tick}
use Rattle.ls_budget.specs.Kept.{KeptCredit, StandsBandwidth}
use Rattle.ls_budget.specs.Due.{due_at as due_answer}
use Rattle.ls_turns.specs.Round.{node_of_place, slots_of}
use Rattle.ls_turns.specs.declared.slot_ref.SlotRef.{SlotRef}
use Rattle.ls_stream.specs.Standing.{StandsLines, IsShort, IsReadyFor, current_text}
use Rattle.ls_stream.specs.declared.lines.StreamTurn.{StreamTurn}
use Rattle.ls_stream.specs.declared.lines.StreamTurn.TheVariants as stream
use Rattle.ls_record.specs.Lines.{Line as NumberedLine, Configures, spends_behind}
use Rattle.ls_record.specs.Records.{Board, LiveSlot, Rate, Session, due_at, with_frequency}
use Rattle.ls_record.specs.declared.TheConstants.{MOST_GROUP_ITEMS}
use Rattle.ls_subs.specs.declared.plan.AddPlan.{AddPlan}
use Rattle.ls_subs.specs.declared.plan.PlanItem.{PlanItem}
use Rattle.ls_subs.specs.Kept.{has_sub, room_of}
use Rattle.ls_subs.specs.Plans.{IsReady as IsReadyItems}
use Rattle.ls_subs.specs.Standing.{ref_of, StandsSubs}
use Rattle.ls_session.specs.Asking.{Asking, Passes}
use Rattle.ls_session.specs.Front.{IsFront, HoldsFirst}
use Rattle.ls_session.specs.Record.{Record, Question, question_of, Gives, Send, Asks, Idle, NotDue, Spent}
use Rattle.ls_session.specs.Record.{Superseded, Unbound, Ended, from_place, wait_from}
use Rattle.ls_session.specs.declared.asking.Asked.{Asked}
use Rattle.ls_session.specs.declared.session.Ask.{Ask}
use Rattle.ls_session.specs.declared.session.Reply.{Reply}
use Rattle.ls_session.specs.declared.session.Reply.TheVariants as reply
use Rattle.ls_session.specs.declared.session.Session.{Session as Kept}
use Rattle.ls_session.specs.declared.session.Turn.{Turn}
use Rattle.ls_session.specs.declared.session.Turn.TheVariants as turn

-- the line that the last turn gave
abbrev pub current_of : Kept → List ℕ
current_of k = current_text k.lines

-- a question as it is kept
abbrev pub asked_of : ℕ → Session → Question → Asked
asked_of tick s q = record { slot = ref_of q.live; due = due_answer (due_at tick s q.live) tick }

-- the round that is kept stands for that of a record, and how far it was asked; the question of a slot that is due
-- stands only where a number is left
pub record StandsRound (k : Asking) (r : Record) : Type 0 where
  pub slots : slots_of k.turns ≡ map ref_of r.session.board.round
  pub tick : k.tick ≡ r.tick
  pub above : r.floor ≤ r.tick
  pub most : r.tick ≤ GREATEST_TICK
  pub next : k.next ≡ node_of_place k.turns r.asked
  pub asks : is_some k.question ≡ r.asks
  pub question : k.question ≡ option_map (asked_of r.tick r.session) (question_of r)
  pub wait : k.wait ≡ r.wait
  pub left : (q : Question) → question_of r ≡ Some q → q.due ≡ true → length r.session.board.lines < GREATEST_NUMBER

-- the bandwidth that is kept stands for that of a session, and for what its lines took since it was set; neither was at
-- a tick above the floor
pub record StandsRate (k : KeptCredit) (rate : Rate) (lines : List NumberedLine) (floor : ℕ) : Type 0 where
  pub latest : k.latest ≤ floor
  pub behind : rate.behind ≤ length lines
  pub spends : StandsBandwidth k rate.limit (spends_behind rate.behind lines)

-- what is kept stands for a record
pub record StandsSession (k : Kept) (r : Record) : Type 0 where
  pub number : k.number ≡ r.number
  pub lines : StandsLines k.lines r.session
  pub round : StandsRound k.asking r
  pub subs : StandsSubs k.subs r.session.board.lines r.session.board.round
  pub rate : StandsRate k.bandwidth r.session.rate r.session.board.lines r.floor
  pub front : ForSome k.asking.front
      (λ f. IsFront k.asking.turns f r.session.board.lines r.session.board.round)

-- a slot is asked next, and is named so
abbrev pub IsNext : Record → LiveSlot → SlotRef → Type 0
IsNext r v slot = (slice_get r.session.board.round r.asked ≡ Some v) × (slot ≡ ref_of v)

-- the round of a session goes on at a tick, or begins anew and its first slots, which wait, are passed over
pub record PassesFront (now : ℕ) (r : Record) (k : Kept) : Type 0 where
  pub asked : ℕ
  pub wait : Option ℕ
  pub session : StandsSession k (record r { tick = now; asked = asked; asks = false; wait = wait })
  pub passed : ((asked ≡ from_place now r) × (wait ≡ wait_from now r))
      ⊎ ((from_place now r ≡ 0) × (wait_from now r ≡ None) × HoldsFirst now r.session asked wait)

-- what a turn answers, by what was given before the round is asked
abbrev pub turn_of : StreamTurn → Turn
turn_of stream.Line = turn.Send
turn_of (stream.Superseded epoch) = turn.Superseded epoch
turn_of stream.Unbound = turn.Unbound
turn_of (stream.Ended code) = turn.Ended code
turn_of stream.Nothing = turn.Idle

-- where nothing is left to ask
abbrev pub turn_of_wait : Option ℕ → Turn
turn_of_wait None = turn.Idle
turn_of_wait (Some tick) = turn.NotDue tick

-- and by what it gives; the line is the session's current one
abbrev pub AnswersTurn : Gives → Turn → Kept → Type 0
AnswersTurn (Send text) t k = (t ≡ turn.Send) × (current_of k ≡ text)
AnswersTurn (Asks q) t k = t ≡ turn.Ask (record { slot = ref_of q.live; due = q.due })
AnswersTurn Idle t k = t ≡ turn.Idle
AnswersTurn (NotDue tick) t k = t ≡ turn.NotDue tick
AnswersTurn Spent t k = t ≡ turn.Spent
AnswersTurn (Superseded epoch) t k = t ≡ turn.Superseded epoch
AnswersTurn Unbound t k = t ≡ turn.Unbound
AnswersTurn (Ended code) t k = t ≡ turn.Ended code

-- whether a reply suits a question: a slot that is due has a cut or nothing, and another waits or has nothing
abbrev pub suits : Bool → Reply → Bool
suits due reply.Nothing = true
suits true (reply.Taken t) = true
suits true reply.Waiting = false
suits false (reply.Taken t) = false
suits false reply.Waiting = true

-- a question and a reply aren't of the question that stands
abbrev pub ask_in : Question → Ask
ask_in q = record { slot = ref_of q.live; due = q.due }

abbrev pub IsOther : Record → Ask → Reply → Type 0
IsOther r ask answer = (option_map ask_in (question_of r) ≡ Some ask → ⊥) ⊎ (suits ask.due answer ≡ false)

-- a board whose subscription has this greatest frequency: CONF is numbered
abbrev pub configured : ℕ → Option ℕ → Bool → Board → Board
configured sub frequency filtered b =
    record {
      lines = Configures sub frequency filtered ∷ b.lines;
      round = map (with_frequency sub frequency) b.round;
    }

-- the next slot of a round is asked next, and all else stays
pub record PassesOver (a : Asking) (old new : Kept) : Type 0 where
  pub asking : Passes a new.asking
  pub rest : new ≡ record old { asking = new.asking }

-- a text took of the bandwidth, with CR LF, at a tick
abbrev pub SpendsText : List ℕ → ℕ → KeptCredit → KeptCredit → Type 0
SpendsText text tick old new =
    (limit : Option ℕ) (spends : List Spend) → StandsBandwidth old limit spends → old.latest ≤ tick
    → tick ≤ GREATEST_TICK
    → credit_tick limit spends tick ≡ tick → IsShort text
    → (new.latest ≡ tick) × StandsBandwidth new limit (record { tick = tick; bytes = length text + 2 } ∷ spends)

-- a session is ready for a subscription: it isn't live, its items are ranked, and there is room for its slots and its
-- lines, which are short
pub record IsReady (k : Kept) (p : AddPlan) : Type 0 where
  pub new : has_sub k.subs p.sub ≡ false
  pub items : IsReadyItems p.sub p.items.items
  pub few : length p.items.items ≤ MOST_GROUP_ITEMS
  pub subs : 1 ≤ room_of k.subs
  pub spare : length p.items.items ≤ k.asking.turns.spare
  pub room : length k.asking.turns.seats + length p.items.items ≤ k.asking.room
  pub lines : IsReadyFor 2 k.lines
  pub begins : IsShort p.begins
  pub configures : IsShort p.configures

-- how the slots of a subscription's items are named, from this place on
abbrev pub refs_from : ℕ → ℕ → List PlanItem → List ℕ → List SlotRef
refs_from sub place [] numbers = []
refs_from sub place (p ∷ items) [] = []
refs_from sub place (p ∷ items) (n ∷ numbers) =
    record { sub = sub; place = place; item = p.item; slot = n } ∷ refs_from sub (place + 1) items numbers

-- the slots of a subscription among others as they are named
abbrev pub refs_of : ℕ → List SlotRef → List SlotRef
refs_of sub [] = []
refs_of sub (s ∷ slots) = if nat_eq sub s.sub then s ∷ refs_of sub slots else refs_of sub slots

-- What a turn of a session in threads gives, by its history (TLCP 2.1, session life; this project's profile).
use Rattle.std.specs.Prelude.{◌≡◌, ◌≤◌, ◌<◌, ◌⊎◌, ℕ, List, [], ◌∷◌, ◌++◌, length, Bool, false, not, ◌&&◌, None, Some, is_some, nat_lt, nat_le, if◌then◌else◌, Option}
use Rattle.ls_value.specs.declared.limits.TheConstants.{GREATEST_NUMBER}
use Rattle.ls_event.specs.declared.item.ItemDef.{ItemDef}
use Rattle.ls_record.specs.Records.{Alive, is_alive}
use Rattle.ls_register.specs.declared.told.Told.{Told}
use Rattle.ls_register.specs.declared.told.Told.TheVariants.{Gave}
use Rattle.ls_session.specs.declared.session.Session.{Session as Kept}
use Rattle.ls_session.specs.Record.{Record, Question, Turned, Asks, turned, round_turned, Spent}
use Rattle.ls_told.specs.Spoken.{Spoken, spoken_of, next_of, text_of_next, GivesNothing}
use Rattle.ls_told.specs.Heard.{heard, counts_as}
use Rattle.ls_told.specs.Seen.{Watched}
use Rattle.ls_session.specs.declared.session.Ask.{Ask}
use Rattle.ls_session.specs.declared.session.Turn.{Turn}
use Rattle.ls_session.specs.Session.{AnswersTurn, ask_in}
use Rattle.ls_told.specs.Turns.{HasEnded, IsUnbound, IsSpent}
use Rattle.ls_session.specs.declared.session.Turn.TheVariants as turn
use Rattle.ls_taking.specs.Groups.{SubSeen}
use Rattle.ls_taking.specs.Lives.{LivesAs}

-- whether a session speaks on the stream of an epoch: it is the newest one and bound, and the session hasn't ended
abbrev pub speaks : ℕ → Spoken → Bool
speaks epoch p = not (nat_lt epoch (length p.streams)) && (not (is_some p.unbound) && is_alive p.life)

-- a turn where the history has so many entries: one that is spent takes no line but END
abbrev pub given : ℕ → ℕ → ℕ → Record → Turned
given entries now epoch r =
    if nat_le GREATEST_NUMBER entries && speaks epoch (spoken_of r.session)
    then record { after = r; gives = Spent }
    else turned now epoch r

-- on the stream of an epoch, which is the newest one and bound, nothing waits to be given, and the history isn't spent
pub record StaysStill (number epoch : ℕ) (es : List Told) : Type 0 where
  pub newest : nat_lt epoch (length (heard number es).streams) ≡ false
  pub bound : (heard number es).unbound ≡ None
  pub alive : (heard number es).life ≡ Alive
  pub none : next_of (heard number es) ≡ GivesNothing
  pub room : length es < GREATEST_NUMBER

-- what is to be given next on the stream of an epoch, which is the newest one and bound, was given
pub record GivesNext (number epoch now : ℕ) (before es : List Told) (text : List ℕ) : Type 0 where
  pub newest : nat_lt epoch (length (heard number before).streams) ≡ false
  pub bound : (heard number before).unbound ≡ None
  pub what : text_of_next (next_of (heard number before)) ≡ Some text
  pub lines : es ≡ before ++ Gave epoch text (counts_as now before) ∷ []

-- what was answered to a turn at an epoch and a tick, and what the history and the record are then
pub record Gives (config : List ItemDef) (number epoch now : ℕ) (before es : List Told) (ws : List Watched) (subs : List SubSeen)
    (k : Kept) (r : Record) (answer : Turn) (text : List ℕ) : Type 0 where
  pub answers : AnswersTurn (given (length before) (counts_as now before) epoch r).gives answer k
  pub lives : LivesAs config number es ws subs k (given (length before) (counts_as now before) epoch r).after
  pub sent : answer ≡ turn.Send → GivesNext number epoch now before es text
  pub stays : (answer ≡ turn.Send → ⊥) → es ≡ before
  pub asks : (ask : Ask) → answer ≡ turn.Ask ask → StaysStill number epoch before
  pub idle : answer ≡ turn.Idle → StaysStill number epoch before
  pub not_due : (at : ℕ) → answer ≡ turn.NotDue at → StaysStill number epoch before
  pub superseded : (newest : ℕ) → answer ≡ turn.Superseded newest
      → (epoch < newest) × (newest ≡ length (heard number before).streams)
  pub ended : (code : ℕ) → answer ≡ turn.Ended code → HasEnded number code before
  pub unbound : answer ≡ turn.Unbound → IsUnbound number before
  pub spent : answer ≡ turn.Spent → IsSpent number before

-- the next slot of a round was asked at a tick, whatever lines wait to be given, of a session that lives
pub record AsksSlot (config : List ItemDef) (number now : ℕ) (es : List Told) (ws : List Watched) (subs : List SubSeen) (k : Kept)
    (r : Record) (ask : Ask) : Type 0 where
  pub q : Question
  pub gives : (round_turned (counts_as now es) r).gives ≡ Asks q
  pub ask_is : ask ≡ ask_in q
  pub lives : LivesAs config number es ws subs k (round_turned (counts_as now es) r).after
  pub alive : (heard number es).life ≡ Alive
  pub room : length es < GREATEST_NUMBER

-- none was, as the history is spent or the session has ended
pub record StaysUnasked (config : List ItemDef) (number : ℕ) (es : List Told) (ws : List Watched) (subs : List SubSeen) (k : Kept)
    (r : Record) : Type 0 where
  pub lives : LivesAs config number es ws subs k r
  pub cause : (GREATEST_NUMBER ≤ length es) ⊎ (is_alive (heard number es).life ≡ false)

-- or as the round has none that may be asked
pub record AsksNone (config : List ItemDef) (number now : ℕ) (es : List Told) (ws : List Watched) (subs : List SubSeen) (k : Kept)
    (r : Record) : Type 0 where
  pub lives : LivesAs config number es ws subs k (round_turned (counts_as now es) r).after
  pub none : (q : Question) → (round_turned (counts_as now es) r).gives ≡ Asks q → ⊥

-- what is asked next of a round, whatever lines wait to be given
abbrev pub AsksOn : List ItemDef → ℕ → ℕ → List Told → List Watched → List SubSeen → Kept → Record → Option Ask → Type 0
AsksOn config number now es ws subs k r None =
    StaysUnasked config number es ws subs k r ⊎ AsksNone config number now es ws subs k r
AsksOn config number now es ws subs k r (Some ask) = AsksSlot config number now es ws subs k r ask

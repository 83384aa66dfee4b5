-- What the slot of a session tells that is asked (TLCP 2.1, notifications; this project's profile).
use Rattle.std.specs.Prelude.{◌≡◌, ℕ, List, [], ◌∷◌, ◌++◌, length, Bool, true, false, Option, None, Some, is_some}
use Rattle.ls_event.specs.declared.event.Entry.{Entry}
use Rattle.ls_event.specs.declared.event.Taken.{Taken}
use Rattle.ls_event.specs.declared.item.ItemDef.{ItemDef}
use Rattle.ls_event.specs.Cuts.{cut, is_pending}
use Rattle.ls_event.specs.Slots.{Slot}
use Rattle.ls_record.specs.Came.{Came}
use Rattle.ls_record.specs.Lines.{text_at}
use Rattle.ls_record.specs.Records.{LiveSlot}
use Rattle.ls_register.specs.declared.told.Told.{Told}
use Rattle.ls_register.specs.declared.told.Told.TheVariants.{Numbered}
use Rattle.ls_register.specs.declared.told.Numbered.{Numbered as NumberedLine}
use Rattle.ls_seated.specs.Seats.{SeatSeen}
use Rattle.ls_session.specs.declared.session.Reply.{Reply}
use Rattle.ls_session.specs.declared.session.Session.{Session as Kept}
use Rattle.ls_session.specs.Record.{Record, Question, passed_over, waited, answered}
use Rattle.ls_subs.specs.Standing.{what_of}
use Rattle.ls_told.specs.Seen.{Watched}
use Rattle.ls_told.specs.Telling.{TellsOf}
use Rattle.ls_session.specs.declared.session.Reply.TheVariants as reply
use Rattle.ls_taking.specs.Groups.{SubSeen}
use Rattle.ls_taking.specs.Lives.{LivesAs}
use Rattle.ls_taking.specs.Taking.{asked_now, caught_up, cursor_after}

-- the reply of a slot, by whether it is due, its next cut, and whether it is pending
abbrev pub reply_by : Bool → Option Taken → Bool → Reply
reply_by true None pends = reply.Nothing
reply_by true (Some t) pends = reply.Taken t
reply_by false o true = reply.Waiting
reply_by false o false = reply.Nothing

abbrev pub reply_of : Bool → List Entry → Slot → Reply
reply_of due h s = reply_by due (cut h s) (is_pending h s)

-- the record after a reply, and whether a line is numbered by it
abbrev pub replied : Record → LiveSlot → Reply → Record
replied r v reply.Nothing = passed_over r
replied r v reply.Waiting = waited r v
replied r v (reply.Taken t) = answered r v t

abbrev pub tells : Record → LiveSlot → Reply → Bool
tells r v reply.Nothing = false
tells r v reply.Waiting = false
tells r v (reply.Taken t) = is_some (what_of r.session.board.lines v t)

-- a seat after a cut with so many events enqueued
abbrev pub seat_after : SeatSeen → ℕ → Taken → SeatSeen
seat_after t n c = record t { list = t.list ++ n ∷ []; quiet = false; cursor = cursor_after t.cursor c }

-- a line was numbered: the history has an entry of it, and its text is that of the last line
pub record TellsLine (before es : List Told) (sub rank tick : ℕ) (after : Record) : Type 0 where
  pub line : NumberedLine
  pub came : Came
  pub lines : es ≡ before ++ Numbered line ∷ []
  pub of : TellsOf line sub rank tick came
  pub text : line.text ≡ text_at after.session.board.lines (length after.session.board.lines)

-- a slot that has every event of its item, whose history this is, was asked, and what it had to tell was answered: a line
-- is numbered where its cut makes one; else the history stays
pub record Replies (config : List ItemDef) (number : ℕ) (before es : List Told) (ws : List Watched) (subs : List SubSeen)
    (k : Kept) (r : Record) (q : Question) (h : List Entry) (told : Bool) : Type 0 where
  pub reply : Reply
  pub reply_is : reply ≡ reply_of q.due h q.live.slot
  pub lives : LivesAs config number es ws subs k (replied r q.live reply)
  pub told_is : told ≡ tells r q.live reply
  pub line : told ≡ true → TellsLine before es q.live.sub q.live.rank r.tick (replied r q.live reply)
  pub none : told ≡ false → es ≡ before

-- the same of a slot into which every event was enqueued first
abbrev pub TakesFrom : List ItemDef → ℕ → List Told → List Told → List Watched → List SubSeen → Kept → Record → Question
    → List Entry → Bool → Type 0
TakesFrom config number before es ws subs k r q h told =
    Replies config number before es ws subs k (caught_up (length h) r) (asked_now (length h) q) h told

-- What is answered to a session that asks what a slot has to tell, and what becomes of the slot and of the session by it
-- (TLCP 2.1, notifications).
use Rattle.std.specs.Prelude.{List, Bool, true, false, is_some, if◌then◌else◌}
use Rattle.ls_event.specs.declared.event.Entry.{Entry}
use Rattle.ls_event.specs.Cuts.{cut, is_pending}
use Rattle.ls_record.specs.Cases.{with_found}
use Rattle.ls_record.specs.Lines.{Line}
use Rattle.ls_record.specs.Records.{LiveSlot}
use Rattle.ls_subs.specs.Standing.{what_of, passed_live}
use Rattle.ls_session.specs.Record.{Record, Question, passed_over, waited, answered}
use Rattle.ls_session.specs.declared.session.Reply.{Reply}
use Rattle.ls_session.specs.declared.session.Reply.TheVariants as reply
use Rattle.ls_acts.specs.declared.telling.Found.{Found}
use Rattle.ls_acts.specs.declared.telling.Found.TheVariants as found

-- the reply to a question, by the history of the slot's item: of a slot that is due its next cut, where there is one; of
-- another one that it waits, where something is pending
abbrev pub reply_to : List Entry → Question → Reply
reply_to h q =
    if q.due then with_found (cut h q.live.slot) reply.Nothing (λ t. reply.Taken t)
    else if is_pending h q.live.slot then reply.Waiting else reply.Nothing

-- what becomes of the slot: it moves past a cut that is told
abbrev pub moved_by : Reply → LiveSlot → LiveSlot
moved_by reply.Nothing v = v
moved_by reply.Waiting v = v
moved_by (reply.Taken t) v = passed_live t v

-- and of the session that asked
abbrev pub replied_by : Reply → LiveSlot → Record → Record
replied_by reply.Nothing v r = passed_over r
replied_by reply.Waiting v r = waited r v
replied_by (reply.Taken t) v r = answered r v t

-- what a slot had whose cut makes a line, or none
abbrev pub found_in : Bool → Found
found_in true = found.Line
found_in false = found.Silent

-- what a slot had, after the numbered lines of its session
abbrev pub found_by : Reply → List Line → LiveSlot → Found
found_by reply.Nothing lines v = found.Nothing
found_by reply.Waiting lines v = found.Waits
found_by (reply.Taken t) lines v = found_in (is_some (what_of lines v t))

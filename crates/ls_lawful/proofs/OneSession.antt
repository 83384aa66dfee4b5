-- A session by itself: what is kept of it so that it is lawful, the small steps of a turn that keep it, and its requests.
use Rattle.std.proofs.Common.{◌≡◌, ℕ, ◌≤◌, List, length, refl, sym, arith, subst, Option, Some, None, slice_get}
use Rattle.ls_event.specs.declared.event.Entry.{Entry}
use Rattle.ls_event.specs.declared.event.Taken.{Taken}
use Rattle.ls_event.specs.Slots.{passed}
use Rattle.ls_event.specs.Cuts.{cut}
use Rattle.ls_event.specs.Publishes.{IsHistory}
use Rattle.ls_mirror.specs.Client.{What}
use Rattle.ls_record.specs.Cutting.{what_of_cut}
use Rattle.ls_record.specs.Lines.{came, MessageOutcome, outcome_line}
use Rattle.ls_value.specs.Each.{Each}
use Rattle.ls_lawful.specs.Lawful.{IsSound, LawfulSession, LawfulAlone}
use Rattle.ls_event.specs.Textual.{Textual}
use Rattle.ls_line.specs.Lines.{IsWritable}
use Rattle.ls_record.specs.Records.{Item, LiveSlot, Session, history_of, shape_at, change, on_board, numbered}
use Rattle.ls_record.specs.Records.{with_outcome, definitions, opened, rebound, unbound_at, forced, constrained}
use Rattle.ls_record.specs.Records.{ended, given_next, reconfigured, removed}
use Rattle.ls_lawful.proofs.Sessions.{session_later, answered_lawful, opened_lawful, rebound_lawful, unbound_lawful}
use Rattle.ls_lawful.proofs.Sessions.{forced_lawful, constrained_lawful, ended_lawful, numbered_keeps, next_keeps}
use Rattle.ls_lawful.proofs.Sessions.{next_rule}
use Rattle.ls_lawful.proofs.Heard.{HasNoOutcome}
use Rattle.ls_lawful.proofs.Legible.{LegibleBoard, AreTextual, legible_answered, decoded, legible_added}
use Rattle.ls_lawful.proofs.Legible.{legible_removed, legible_reconfigured}
use Rattle.ls_lawful.proofs.SmallSteps.{moved_at, told_at, told_lawful, silent_lawful, caught_up_lawful, seen_to}
use Rattle.ls_lawful.proofs.SmallSteps.{later_seen}
use Rattle.ls_lawful.proofs.SmallLegible.{told_legible, silent_legible, caught_up_legible, textual_seen, sound_seen}
use Rattle.ls_request.specs.declared.request.Add.{Add}
use Rattle.ls_request.specs.declared.request.Bind.{Bind}
use Rattle.ls_record.specs.Cases.{first_code}
use Rattle.ls_record.specs.Acting.{bind_code, add_refusals, subscribed_on}
use Rattle.ls_lawful.specs.Ranges.{IsOrdinal}
use Rattle.ls_lawful.proofs.Adding.{add_lawful}
use Rattle.ls_lawful.proofs.Asked.{asked_is}
use Rattle.ls_lawful.proofs.Requested.{IsAdd}
use Rattle.ls_lawful.proofs.Frame.{remove_keeps, reconf_keeps}
use mathlib.Core.List.{IsPrefix}

-- a session is lawful on sound items whose texts are UTF-8, and its lines can be written
pub record KeptAlone (items : List Item) (s : Session) : Type 0 where
  pub sound : Each IsSound items
  pub textual : AreTextual items
  pub session : LawfulSession items s
  pub board : LegibleBoard s.board

-- it is lawful by itself while none of its lines is a MSGDONE or MSGFAIL, which aren't read yet
pub alone_lawful : (items : List Item) (s : Session) → HasNoOutcome s.board.lines → KeptAlone items s → LawfulAlone items s
alone_lawful items s none k = record { sound = k.sound; session = k.session; clients = decoded items s k.sound k.session k.board none }

-- more of an item's history was seen
pub alone_seen : (items : List Item) (n : ℕ) (h : List Entry) (s : Session) → IsPrefix (history_of items n) h → IsHistory (shape_at items n) h → Textual h
    → KeptAlone items s → KeptAlone (change n (seen_to h) items) s
alone_seen items n h s more is textual k =
    record {
      sound = sound_seen items n h is k.sound;
      textual = textual_seen items n h textual k.textual;
      session = session_later items (change n (seen_to h) items) (later_seen items n h more) s k.session;
      board = k.board;
    }

-- a slot enqueued events up to a number
pub alone_caught_up : (items : List Item) (n m : ℕ) (v : LiveSlot) (s : Session) → slice_get s.board.round n ≡ Some v → v.slot.last ≤ m
    → m ≤ length (history_of items v.item) → KeptAlone items s → KeptAlone items (on_board (moved_at n (λ x. record x { last = m })) s)
alone_caught_up items n m v s is low high k =
    record {
      sound = k.sound;
      textual = k.textual;
      session = caught_up_lawful items n m v s is low high k.session;
      board = caught_up_legible n m v s.board is k.board;
    }

-- a slot passed a cut that makes no line
pub alone_silent : (items : List Item) (n : ℕ) (v : LiveSlot) (t : Taken) (s : Session) → slice_get s.board.round n ≡ Some v
    → cut (history_of items v.item) v.slot ≡ Some t → what_of_cut v.wanted v.slot (came v.sub v.rank s.board.lines) t ≡ None → KeptAlone items s
    → KeptAlone items (on_board (moved_at n (λ x. passed x t)) s)
alone_silent items n v t s is cuts silent k =
    record {
      sound = k.sound;
      textual = k.textual;
      session = silent_lawful items n v t s is cuts silent k.session;
      board = silent_legible n v t s.board is k.board;
    }

-- a slot gave a line at a tick
pub alone_told : (items : List Item) (now n : ℕ) (v : LiveSlot) (t : Taken) (what : What) (s : Session) → slice_get s.board.round n ≡ Some v
    → cut (history_of items v.item) v.slot ≡ Some t → what_of_cut v.wanted v.slot (came v.sub v.rank s.board.lines) t ≡ Some what
    → KeptAlone items s → KeptAlone items (numbered (told_at now n v t what) s)
alone_told items now n v t what s is cuts tells k =
    record {
      sound = k.sound;
      textual = k.textual;
      session = told_lawful items now n v t what s is cuts tells k.session;
      board = told_legible items now n v t what s.board k.sound k.textual is cuts tells k.session.board k.board;
    }

-- a change that leaves the board
on_rest : (items : List Item) (s t : Session) → t.board ≡ s.board → LawfulSession items t → KeptAlone items s → KeptAlone items t
on_rest items s t same l k =
    record { sound = k.sound; textual = k.textual; session = l; board = subst LegibleBoard (sym same) k.board }

-- the next line is given, or none
pub alone_given : (items : List Item) (s : Session) → KeptAlone items s → KeptAlone items (given_next s)
alone_given items s k =
    record {
      sound = k.sound;
      textual = k.textual;
      session = next_keeps items s k.session;
      board = next_rule (λ (t : Session). LegibleBoard t.board) s k.board k.board;
    }

-- a session begins, and its streams come, are lost, and are forced to be over
pub alone_opened : (items : List Item) (number keepalive : ℕ) (limit content : Option ℕ) → Each IsSound items → AreTextual items
    → KeptAlone items (opened number keepalive limit content)
alone_opened items number keepalive limit content sound textual =
    record {
      sound = sound;
      textual = textual;
      session = opened_lawful items number keepalive limit content;
      board = record { lines = tt; slots = tt };
    }

pub alone_rebound : (items : List Item) (number : ℕ) (s : Session) (b : Bind) → bind_code s b ≡ None → KeptAlone items s
    → KeptAlone items (rebound number b s)
alone_rebound items number s b none k = on_rest items s (rebound number b s) refl (rebound_lawful items number s b none k.session) k

pub alone_unbound : (items : List Item) (tick : ℕ) (s : Session) → KeptAlone items s → KeptAlone items (unbound_at tick s)
alone_unbound items tick s k = on_rest items s (unbound_at tick s) refl (unbound_lawful items tick s k.session) k

pub alone_forced : (items : List Item) (s : Session) → KeptAlone items s → KeptAlone items (forced s)
alone_forced items s k = on_rest items s (forced s) refl (forced_lawful items s k.session) k

-- it has another bandwidth, and it ends
pub alone_constrained : (items : List Item) (limit : Option ℕ) (s : Session) → KeptAlone items s → KeptAlone items (constrained limit s)
alone_constrained items limit s k = on_rest items s (constrained limit s) refl (constrained_lawful items limit s k.session) k

pub alone_ended : (items : List Item) (code : ℕ) (s : Session) → KeptAlone items s → KeptAlone items (ended code s)
alone_ended items code s k =
    record {
      sound = k.sound;
      textual = k.textual;
      session = ended_lawful items code s k.session;
      board = record { lines = k.board.lines; slots = tt };
    }

-- a subscription is added, has another frequency, and ends
pub alone_added : (items : List Item) (number : ℕ → ℕ) (free : ℕ) (s : Session) (a : Add) → IsAdd a
    → first_code (add_refusals (definitions items) free s a) ≡ None → KeptAlone items s → KeptAlone items (subscribed_on items number a s)
alone_added items number free s a add none k =
    record {
      sound = k.sound;
      textual = k.textual;
      session = add_lawful items number free s a k.sound add none k.session;
      board = legible_added items free s a number add (asked_is items free s a none) k.board;
    }

pub alone_reconfigured : (items : List Item) (sub : ℕ) (frequency : Option ℕ) (s : Session) → IsOrdinal sub → KeptAlone items s
    → KeptAlone items (numbered (reconfigured sub frequency) s)
alone_reconfigured items sub frequency s is k =
    record {
      sound = k.sound;
      textual = k.textual;
      session = numbered_keeps items (reconfigured sub frequency) s (reconf_keeps items sub frequency s.board) (omega arith) k.session;
      board = legible_reconfigured sub frequency s.board is k.board;
    }

pub alone_removed : (items : List Item) (sub : ℕ) (s : Session) → IsOrdinal sub → KeptAlone items s → KeptAlone items (numbered (removed sub) s)
alone_removed items sub s is k =
    record {
      sound = k.sound;
      textual = k.textual;
      session = numbered_keeps items (removed sub) s (remove_keeps items sub s.board) (omega arith) k.session;
      board = legible_removed sub s.board is k.board;
    }

-- its client is told what became of a message
pub alone_answered : (items : List Item) (outcome : MessageOutcome) (s : Session) → IsWritable (outcome_line outcome) → KeptAlone items s
    → KeptAlone items (numbered (with_outcome outcome) s)
alone_answered items outcome s written k =
    record {
      sound = k.sound;
      textual = k.textual;
      session = answered_lawful items outcome s k.session;
      board = legible_answered outcome s.board written k.board;
    }

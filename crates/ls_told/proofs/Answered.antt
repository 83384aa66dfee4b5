-- What is kept of a session is kept by its turns and by the answers to what they ask.
use Rattle.std.proofs.Common.{◌≡◌, ℕ, suc, ◌+◌, List, [], ◌∷◌, ◌++◌, take, drop, refl, sym, ◌∙◌, ap, arith, subst, true, false}
use Rattle.std.proofs.Common.{Option, Some, None, slice_get}
use Rattle.ls_value.specs.Each.{Each}
use Rattle.ls_event.specs.declared.event.Taken.{Taken}
use Rattle.ls_event.specs.declared.item.ItemDef.{ItemDef}
use Rattle.ls_event.specs.Cuts.{cut}
use Rattle.ls_event.specs.Slots.{passed}
use Rattle.ls_mirror.specs.Client.{What}
use Rattle.ls_record.specs.Came.{came_by}
use Rattle.ls_record.specs.Lines.{Tells, line_text}
use Rattle.ls_record.specs.Records.{LiveSlot, Board, Session, Item, Life, Closed, numbered, on_stream}
use Rattle.ls_record.specs.Records.{with_text, timed_out, is_alive, is_used}
use Rattle.ls_record.specs.Turning.{end_text}
use Rattle.ls_lawful.proofs.Heard.{HasNoOutcome}
use Rattle.ls_lawful.proofs.OneSession.{KeptAlone, alone_given, alone_unbound}
use Rattle.ls_lawful.proofs.Counting.{stream_counted}
use Rattle.ls_lawful.proofs.Sessions.{next_rule}
use Rattle.ls_subs.specs.Standing.{what_of, told_of}
use Rattle.ls_session.specs.Record.{Record, Turned, Send, turned, answered, answered_by}
use Rattle.ls_session.specs.Record.{round_turned}
use Rattle.ls_register.specs.declared.told.Told.{Told}
use Rattle.ls_register.specs.declared.told.Told.TheVariants.{Numbered, Gave, Ended}
use Rattle.ls_register.specs.declared.told.Numbered.{Numbered as NumberedLine}
use Rattle.ls_told.specs.Telling.{numbered_of, TellsOf, AreOf, is_open}
use Rattle.ls_told.specs.Seen.{Watched, seen_of, items_seen, IsWatched}
use Rattle.ls_told.specs.Keeping.{KeepsTold}
use Rattle.ls_told.proofs.Turns.{turned_rule, round_quiet, turn_sends}
use Rattle.ls_told.proofs.Keeps.{keeps_step, keeps_passed, keeps_line}
use Rattle.ls_told.proofs.Settled.{slots_same}

-- a line was given that isn't numbered
alone_text : (items : List Item) (text : List ℕ) (s : Session) → KeptAlone items s → KeptAlone items (on_stream (with_text text) s)
alone_text items text s k =
    let c = stream_counted (with_text text) s (λ t. refl) (λ t. refl)
    (record { sent = k.session.sent; given_up = k.session.given_up; streams = k.session.streams }) in
    record {
      sound = k.sound;
      textual = k.textual;
      session = record { board = k.session.board; sent = c.sent; given_up = c.given_up; streams = c.streams };
      board = k.board;
    }

-- what is owed and whether it has ended is no part of what is kept by itself
alone_owing : (items : List Item) (owed : List (List ℕ)) (life : Life) (s : Session) → KeptAlone items s
    → KeptAlone items (record s { owed = owed; life = life })
alone_owing items owed life s k =
    record {
      sound = k.sound;
      textual = k.textual;
      session = record { board = k.session.board; sent = k.session.sent; given_up = k.session.given_up; streams = k.session.streams };
      board = k.board;
    }

-- a turn leaves the board, and keeps the rest
pub record TurnKeeps (items : List Item) (s t : Session) : Type 0 where
  pub board : t.board ≡ s.board
  pub alive : is_alive t.life ≡ true → is_alive s.life ≡ true
  pub life : is_alive t.life ≡ is_alive s.life
  pub alone : KeptAlone items t

pub turn_keeps : (items : List Item) (now epoch : ℕ) (r : Record) → KeptAlone items r.session
    → TurnKeeps items r.session (turned now epoch r).after.session
turn_keeps items now epoch r k = turned_rule (λ (t : Turned). TurnKeeps items r.session t.after.session) now epoch r (record {
  superseded = λ newer. record { board = refl; alive = λ a. a; life = refl; alone = k };
  unbound = λ own none. record { board = refl; alive = λ a. a; life = refl; alone = k };
  owes = λ text owed own bound alive is. record {
    board = refl;
    alive = λ a. a;
    life = refl;
    alone = alone_text items text (record r.session { owed = owed }) (alone_owing items owed r.session.life r.session k);
  };
  loops = λ own bound alive none over. record { board = refl; alive = λ a. a; life = refl; alone = alone_unbound items now r.session k };
  next = λ own bound alive none stays unsent. record {
    board = next_rule (λ (t : Session). t.board ≡ r.session.board) r.session refl refl;
    alive = next_rule (λ (t : Session). is_alive t.life ≡ true → is_alive r.session.life ≡ true) r.session (λ a. a) (λ a. a);
    life = next_rule (λ (t : Session). is_alive t.life ≡ is_alive r.session.life) r.session refl refl;
    alone = alone_given items r.session k;
  };
  round = λ own bound alive none stays sent. quiet (round_turned now r).after.session (round_quiet now r).same;
  ending = λ code own bound ends. record {
    board = refl;
    alive = λ a. absurd (let x : false ≡ true = a in cc);
    life = sym (ap is_alive ends);
    alone = alone_text items (end_text code) (record r.session { life = Closed code }) (alone_owing items r.session.owed (Closed code) r.session k);
  };
  over = λ code own bound closed. record { board = refl; alive = λ a. a; life = refl; alone = k };
})
  where
    quiet : (t : Session) → t ≡ r.session → TurnKeeps items r.session t
    quiet t same = subst (λ (x : Session). TurnKeeps items r.session x) (sym same) (record { board = refl; alive = λ a. a; life = refl; alone = k })

-- a turn that gives a line
pub keeps_turned : (config : List ItemDef) (number : ℕ) (lines : List Told) (ws : List Watched) (now epoch e : ℕ) (r : Record) (text : List ℕ)
    → (turned now epoch r).gives ≡ Send text → KeepsTold config number lines ws r.session
    → KeepsTold config number (lines ++ Gave e text now ∷ []) ws (turned now epoch r).after.session
keeps_turned config number lines ws now epoch e r text sends k =
    let kept = turn_keeps (items_seen config ws) now epoch r k.alone in
    keeps_step config number lines ws r.session (turned now epoch r).after.session (Gave e text now)
    (record {
      spoken = (turn_sends now epoch r text sends).spoken;
      alone = kept.alone;
      none = subst (λ (b : Board). HasNoOutcome b.lines) (sym kept.board) k.none;
      watched = subst (λ (b : Board). Each (λ (v : LiveSlot). IsWatched ws v.item) b.round) (sym kept.board) k.watched;
      ends = λ tick is. absurd (let x : Gave e text now ≡ Ended timed_out tick = is in cc);
      counts = tt;
      subs = λ alive sub. ap (is_used sub) (ap (λ (b : Board). b.round) kept.board)
          ∙ k.subs (kept.alive alive) sub ∙ ap (is_open sub) (ap (λ (b : Board). b.lines) (sym kept.board));
      numbered = subst (λ (b : Board). AreOf (numbered_of lines) b.lines) (sym kept.board) k.numbered;
      slots = slots_same config (numbered_of lines) r.session (turned now epoch r).after.session kept.board kept.life k.slots;
    }) k

-- one that gives none leaves the session
pub turn_silent : (now epoch : ℕ) (r : Record) → ((text : List ℕ) → (turned now epoch r).gives ≡ Send text → ⊥)
    → (turned now epoch r).after.session ≡ r.session
turn_silent now epoch r = turned_rule (λ (t : Turned). ((text : List ℕ) → t.gives ≡ Send text → ⊥) → t.after.session ≡ r.session) now epoch r (record {
  superseded = λ newer silent. refl;
  unbound = λ own none silent. refl;
  owes = λ text owed own bound alive is silent. absurd (silent text refl);
  loops = λ own bound alive none over silent. absurd (silent _ refl);
  next = λ own bound alive none stays unsent silent. absurd (silent _ refl);
  round = λ own bound alive none stays sent silent. (round_quiet now r).same;
  ending = λ code own bound ends silent. absurd (silent _ refl);
  over = λ code own bound closed silent. refl;
})

pub keeps_unturned : (config : List ItemDef) (number : ℕ) (lines : List Told) (ws : List Watched) (now epoch : ℕ) (r : Record)
    → ((text : List ℕ) → (turned now epoch r).gives ≡ Send text → ⊥) → KeepsTold config number lines ws r.session
    → KeepsTold config number lines ws (turned now epoch r).after.session
keeps_unturned config number lines ws now epoch r silent k =
    subst (λ (s : Session). KeepsTold config number lines ws s) (sym (turn_silent now epoch r silent)) k

-- a slot's cut that makes no line is passed
pub keeps_silent : (config : List ItemDef) (number : ℕ) (lines : List Told) (ws : List Watched) (r : Record) (v : LiveSlot) (t : Taken)
    → slice_get r.session.board.round r.asked ≡ Some v → cut (seen_of ws v.item) v.slot ≡ Some t → what_of r.session.board.lines v t ≡ None
    → KeepsTold config number lines ws r.session → KeepsTold config number lines ws (answered r v t).session
keeps_silent config number lines ws r v t is cuts silent k =
    subst (λ (o : Option What). KeepsTold config number lines ws (answered_by r v t o).session) (sym silent)
    (keeps_passed config number lines ws r.session r.asked v t is cuts silent k)

-- and one that makes a line
pub keeps_told : (config : List ItemDef) (number : ℕ) (lines : List Told) (ws : List Watched) (r : Record) (v : LiveSlot) (t : Taken) (what : What)
    (line : NumberedLine) → slice_get r.session.board.round r.asked ≡ Some v → cut (seen_of ws v.item) v.slot ≡ Some t
    → what_of r.session.board.lines v t ≡ Some what
    → line.text ≡ line_text r.session.board.lines (Tells v.sub v.rank r.tick (came_by v.slot t what)) → TellsOf line v.sub v.rank r.tick (came_by v.slot t what)
    → KeepsTold config number lines ws r.session → KeepsTold config number (lines ++ Numbered line ∷ []) ws (answered r v t).session
keeps_told config number lines ws r v t what line is cuts tells text of k =
    subst (λ (o : Option What). KeepsTold config number (lines ++ Numbered line ∷ []) ws (answered_by r v t o).session) (sym tells)
    (subst (λ (m : ℕ). KeepsTold config number (lines ++ Numbered line ∷ []) ws
    (numbered (λ (b : Board). record {
      lines = told_of v r.tick t what b.lines;
      round = (take r.asked b.round ++ drop m b.round) ++ record v { slot = passed v.slot t } ∷ [];
    }) r.session)) {x = suc r.asked} {y = r.asked + 1} (omega arith)
    (keeps_line config number lines ws r.session r.tick r.asked v t what line is cuts tells text of k))

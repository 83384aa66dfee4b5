-- The records: an item with its whole history, and a session with all its numbered lines, its slots and its streams
-- (TLCP 2.1, session life and recovery; this project's profile).
use Rattle.std.specs.Prelude.{◌==◌, ℕ, zero, suc, ◌+◌, List, [], ◌∷◌, ◌++◌, length, map, min, max, Bool, true, false}
use Rattle.std.specs.Prelude.{not, ◌&&◌, ◌||◌, Option, None, Some, is_some, nat_lt, nat_le, codes, if◌then◌else◌}
use Rattle.std.specs.Prelude.{option_and_then, unwrap_or, sum_by, nat_eq}
use Rattle.std.specs.Option.{option_map_or}
use Rattle.std.specs.List.{flat_map}
use Rattle.std.specs.Fmt.{decimal}
use Rattle.ls_event.specs.declared.event.Entry.{Entry}
use Rattle.ls_event.specs.declared.event.Mode.{Mode}
use Rattle.ls_event.specs.declared.item.ItemDef.{ItemDef}
use Rattle.ls_event.specs.Shapes.{Shape, shape_of}
use Rattle.ls_budget.specs.Budget.{frequency_tick, credit_tick, due_tick}
use Rattle.ls_event.specs.Cuts.{is_pending}
use Rattle.ls_event.specs.Slots.{Slot, enqueued, is_far}
use Rattle.ls_event.specs.Joining.{plan_of, joined}
use Rattle.ls_request.specs.declared.request.Bind.{Bind}
use Rattle.ls_keep.specs.Keeping.{given_up_after}
use Rattle.ls_mirror.specs.declared.command.KeyPlaces.{KeyPlaces}
use Rattle.ls_record.specs.Cases.{with_found}
use Rattle.ls_record.specs.Came.{Came}
use Rattle.ls_line.specs.Lines.{text_of_line}
use Rattle.ls_record.specs.Lines.{Line, Begins, Ends, Configures, Answers, Tells, MessageOutcome, came, updated}
use Rattle.ls_record.specs.Lines.{spends_behind, limit_text}
use Rattle.ls_record.specs.Lines.{text_at, texts_behind}
use Rattle.ls_record.specs.declared.TheConstants.{MOST_UNBOUND}
use Rattle.ls_record.specs.Tables.{keys_shown_at}
use Rattle.ls_record.specs.Cutting.{Wanted, Ask, Turn, turn}
use Rattle.ls_event.specs.declared.event.Event.{Event}
use Rattle.ls_event.specs.declared.event.Event.TheVariants.{Update, Clear}
use Rattle.ls_event.specs.declared.event.Mode.TheVariants as mode
use Rattle.ls_event.specs.declared.item.Kind.TheVariants as kind
use Rattle.ls_line.specs.declared.line.Line.TheVariants as line

-- an item: its definition and its history
pub record Item : Type 0 where
  pub definition : ItemDef
  pub history : List Entry

-- a slot of a session: the subscription, the rank of the item in it, the item, the slot's number on the item, the
-- greatest frequency, in thousandths of an update per second, and what the subscription wants
pub record LiveSlot : Type 0 where
  pub sub : ℕ
  pub rank : ℕ
  pub item : ℕ
  pub number : ℕ
  pub frequency : Option ℕ
  pub wanted : Wanted
  pub slot : Slot

-- all numbered lines, the newest first, and the round of slots
pub record Board : Type 0 where
  pub lines : List Line
  pub round : List LiveSlot

-- a stream: the number after which it was bound, the numbers of the lines given on it, the newest first, how many bytes
-- all lines given on it have with CR LF, its content length in bytes, if it has one, and whether a force_rebind came
-- for it (TLCP 2.1, create_session, bind_session, force_rebind)
pub record Stream : Type 0 where
  pub from : ℕ
  pub given : List ℕ
  pub bytes : ℕ
  pub content : Option ℕ
  pub forced : Bool

-- a session is alive; or it has ended for the cause of a code, and its client is to be told, or was told
pub data Life : Type 0 where
  Alive : Life
  Ending : ℕ → Life
  Closed : ℕ → Life

-- a session's greatest bandwidth, in thousandths of a kbit per second, and how many lines were numbered when it was
-- set. The credit is the greatest one then, so that it doesn't depend on the tick.
pub record Rate : Type 0 where
  pub limit : Option ℕ
  pub behind : ℕ

-- a session: its board, its bandwidth, the number sent last, the given-up number, up to which no line is kept, the
-- lines owed to its stream, its streams, the newest first, the tick since which no stream is bound, if none is, and
-- whether it has ended. Its epoch is the number of its streams.
pub record Session : Type 0 where
  pub board : Board
  pub rate : Rate
  pub sent : ℕ
  pub given_up : ℕ
  pub owed : List (List ℕ)
  pub streams : List Stream
  pub unbound : Option ℕ
  pub life : Life

-- an item's history; past the last item there is nothing
abbrev pub history_of : List Item → ℕ → List Entry
history_of [] n = []
history_of (i ∷ items) zero = i.history
history_of (i ∷ items) (suc n) = history_of items n

-- the definitions of items
abbrev pub definitions : List Item → List ItemDef
definitions items = map (λ i. i.definition) items

-- the shape and the fields of an item, by the definitions; past the last item there is nothing
abbrev pub shape_in : List ItemDef → ℕ → Shape
shape_in [] n = record { kind = kind.Merge; fields = 0; key = 0; command = 0 }
shape_in (d ∷ defs) zero = shape_of d
shape_in (d ∷ defs) (suc n) = shape_in defs n

abbrev pub fields_in : List ItemDef → ℕ → List (List ℕ)
fields_in [] n = []
fields_in (d ∷ defs) zero = d.fields
fields_in (d ∷ defs) (suc n) = fields_in defs n

abbrev pub shape_at : List Item → ℕ → Shape
shape_at items n = shape_in (definitions items) n

-- the list with the n-th changed
abbrev pub change : {A : Type 0} → ℕ → (A → A) → List A → List A
change n f [] = []
change zero f (x ∷ xs) = f x ∷ xs
change (suc n) f (x ∷ xs) = x ∷ change n f xs

-- whether a slot is of this rank in this subscription, and whether it is of the subscription
abbrev pub is_at : ℕ → ℕ → LiveSlot → Bool
is_at sub rank v = (sub == v.sub) && (rank == v.rank)

abbrev pub is_of : ℕ → LiveSlot → Bool
is_of sub v = sub == v.sub

-- whether a subscription has a slot
abbrev pub is_used : ℕ → List LiveSlot → Bool
is_used sub [] = false
is_used sub (v ∷ vs) = is_of sub v || is_used sub vs

-- the slot of a rank in a subscription
abbrev pub live_at : ℕ → ℕ → List LiveSlot → Option LiveSlot
live_at sub rank [] = None
live_at sub rank (v ∷ vs) = if is_at sub rank v then Some v else live_at sub rank vs

-- the slots of all sessions
abbrev pub all_live : List Session → List LiveSlot
all_live sessions = flat_map (λ s. s.board.round) sessions

-- the numbers of the slots on an item
abbrev pub numbers_of : ℕ → List LiveSlot → List ℕ
numbers_of item [] = []
numbers_of item (v ∷ vs) = if item == v.item then v.number ∷ numbers_of item vs else numbers_of item vs

-- those that lag by as much as a slot may behind so many events
abbrev pub far_numbers : ℕ → ℕ → List LiveSlot → List ℕ
far_numbers item events [] = []
far_numbers item events (v ∷ vs) =
    if (item == v.item) && is_far events v.slot then v.number ∷ far_numbers item events vs
    else far_numbers item events vs

-- the least of them, if there is any
abbrev pub least_of : List ℕ → Option ℕ
least_of [] = None
least_of (n ∷ ns) = Some (option_map_or (min n) (least_of ns) n)

-- the least slot on an item that lags by as much as one may
abbrev pub least_far : ℕ → ℕ → List Session → Option ℕ
least_far item events sessions = least_of (far_numbers item events (all_live sessions))

-- whether a number is among others
abbrev pub holds : ℕ → List ℕ → Bool
holds n [] = false
holds n (m ∷ ms) = (n == m) || holds n ms

-- the least number from n on that isn't used, among the next k
abbrev pub least_free_from : ℕ → ℕ → List ℕ → ℕ
least_free_from zero n used = n
least_free_from (suc k) n used = if holds n used then least_free_from k (n + 1) used else n

-- the greatest of numbers, 0 where there is none
abbrev pub greatest_of : List ℕ → ℕ
greatest_of [] = 0
greatest_of (n ∷ ns) = max n (greatest_of ns)

-- the least number from 1 that no slot on the item has: one up to the greatest that a slot has, or the next
abbrev pub free_number : List Session → ℕ → ℕ
free_number sessions item = let used = numbers_of item (all_live sessions) in least_free_from (greatest_of used) 1 used

-- the slot that joins an item, as is asked
abbrev pub joined_slot : List Item → Ask → Slot
joined_slot items a =
    joined (plan_of (shape_at items a.item) (history_of items a.item) a.mode a.size) (history_of items a.item)
    a.wanted.snapshot

-- the slots of a new subscription, from this rank on, where an item's next slot gets this number
abbrev pub joined_all : List Item → (ℕ → ℕ) → ℕ → ℕ → List Ask → List LiveSlot
joined_all items free sub rank [] = []
joined_all items free sub rank (a ∷ asks) =
    record {
      sub = sub;
      rank = rank;
      item = a.item;
      number = free a.item;
      frequency = a.frequency;
      wanted = a.wanted;
      slot = joined_slot items a;
    }
    ∷ joined_all items free sub (rank + 1) asks

-- the first of what is asked, if anything is
abbrev pub first_of : List Ask → Option Ask
first_of [] = None
first_of (a ∷ asks) = Some a

-- a schema shows the key and the command in mode COMMAND alone
abbrev pub keys_in : Mode → KeyPlaces → Option KeyPlaces
keys_in mode.Command at = Some at
keys_in m at = None

-- their places in the schema of a subscription, by what is asked of its first item
abbrev pub keys_shown : List Item → List Ask → Option KeyPlaces
keys_shown items asks =
    option_and_then (λ a. keys_in a.mode (keys_shown_at (shape_at items a.item) a.wanted.places)) (first_of asks)

-- RAW knows no frequency, so it isn't filtered
abbrev pub is_filtered : Mode → Bool
is_filtered mode.Raw = false
is_filtered m = true

-- and it has no greatest frequency either
abbrev pub frequency_in : Mode → Option ℕ → Option ℕ
frequency_in mode.Raw frequency = None
frequency_in m frequency = frequency

-- the greatest frequency of a subscription, by what is asked of its first item
abbrev pub frequency_of : List Ask → Option ℕ
frequency_of asks = option_and_then (λ a. a.frequency) (first_of asks)

-- whether the updates of a subscription are filtered, by what is asked of its first item
abbrev pub are_filtered : List Ask → Bool
are_filtered asks = option_map_or (λ a. is_filtered a.mode) (first_of asks) true

-- a new subscription numbers SUBOK or SUBCMD, and CONF, and its slots join the round's end
abbrev pub added : List Item → (ℕ → ℕ) → ℕ → ℕ → List Ask → Board → Board
added items free sub fields asks b =
    record b {
      lines = Configures sub (frequency_of asks) (are_filtered asks)
          ∷ Begins sub (length asks) fields (keys_shown items asks) ∷ b.lines;
      round = b.round ++ joined_all items free sub 1 asks;
    }

-- the slots of other subscriptions
abbrev pub without : ℕ → List LiveSlot → List LiveSlot
without sub [] = []
without sub (v ∷ vs) = if is_of sub v then without sub vs else v ∷ without sub vs

-- a subscription ends: UNSUB is numbered, and its slots leave
abbrev pub removed : ℕ → Board → Board
removed sub b = record b { lines = Ends sub ∷ b.lines; round = without sub b.round }

-- the mode of a subscription is that of its first slot
abbrev pub mode_in : ℕ → List LiveSlot → Mode
mode_in sub round = option_map_or (λ v. v.slot.plan.mode) (live_at sub 1 round) mode.Merge

-- a slot of a subscription has another greatest frequency; the tick of its last update stays
abbrev pub with_frequency : ℕ → Option ℕ → LiveSlot → LiveSlot
with_frequency sub frequency v = if is_of sub v then record v { frequency = frequency } else v

-- a subscription has another greatest frequency: CONF is numbered
abbrev pub reconfigured : ℕ → Option ℕ → Board → Board
reconfigured sub frequency b =
    let m : Mode = mode_in sub b.round in
    record {
      lines = Configures sub (frequency_in m frequency) (is_filtered m) ∷ b.lines;
      round = map (with_frequency sub (frequency_in m frequency)) b.round;
    }

-- a client is told what became of its message: MSGDONE or MSGFAIL is numbered, and no slot changes
abbrev pub with_outcome : MessageOutcome → Board → Board
with_outcome outcome b = record b { lines = Answers outcome ∷ b.lines }

-- a slot takes its item's next event, if there is one
abbrev pub enqueue_slot : List Entry → LiveSlot → LiveSlot
enqueue_slot h v = if nat_lt v.slot.last (length h) then record v { slot = enqueued v.slot } else v

-- the slot of a rank in a subscription does, and no other
abbrev pub enqueue_at : List Item → ℕ → ℕ → LiveSlot → LiveSlot
enqueue_at items sub rank v = if is_at sub rank v then enqueue_slot (history_of items v.item) v else v

abbrev pub enqueued_in : List Item → ℕ → ℕ → Board → Board
enqueued_in items sub rank b = record b { round = map (enqueue_at items sub rank) b.round }

-- the slot of a round that gives a line, and what comes by it
pub record RoundLine : Type 0 where
  pub live : LiveSlot
  pub came : Came

-- a round that had its turns: the first slot that gave a line, and the others in their order
pub record Round : Type 0 where
  pub kept : List LiveSlot
  pub came : Option RoundLine

-- a slot that isn't due has no turn
abbrev pub live_turn : (LiveSlot → Bool) → List Item → List Line → LiveSlot → Turn
live_turn due items lines v =
    if due v then turn (history_of items v.item) v.wanted v.slot (came v.sub v.rank lines)
    else record { slot = v.slot; came = None }

-- the slots of a round have their turns in its order, up to the first line
abbrev pub round_of : (LiveSlot → Bool) → List Item → List Line → List LiveSlot → Round
round_of due items lines [] = record { kept = []; came = None }
round_of due items lines (v ∷ vs) =
    let t : Turn = live_turn due items lines v in
    let rest : Round = round_of due items lines vs in
    with_found t.came (record rest { kept = record v { slot = t.slot } ∷ rest.kept })
    (λ c. record { kept = vs; came = Some (record { live = record v { slot = t.slot }; came = c }) })

-- the line that a round gives at a tick is numbered, and its slot goes to the round's end
abbrev pub taken_in : (LiveSlot → Bool) → ℕ → List Item → Board → Board
taken_in due now items b =
    let r : Round = round_of due items b.lines b.round in
    with_found r.came (record b { round = r.kept })
    (λ t. record b { lines = Tells t.live.sub t.live.rank now t.came ∷ b.lines; round = r.kept ++ t.live ∷ [] })

-- the first tick from now on at which a slot may give a line: its frequency and the session's credit allow it (General
-- Concepts, frequency and bandwidth)
abbrev pub due_at : ℕ → Session → LiveSlot → ℕ
due_at now s v =
    due_tick (frequency_tick v.frequency (updated v.sub v.rank s.board.lines))
    (credit_tick s.rate.limit (spends_behind s.rate.behind s.board.lines) now)

-- whether it may now
abbrev pub is_due : ℕ → Session → LiveSlot → Bool
is_due now s v = nat_le (due_at now s v) now

-- whether a slot waits: something of it is pending, and it isn't due
abbrev pub is_waiting : ℕ → List Item → Session → LiveSlot → Bool
is_waiting now items s v = not (is_due now s v) && is_pending (history_of items v.item) v.slot

-- the ticks at which the slots that wait are due
abbrev pub waits_of : ℕ → List Item → Session → List LiveSlot → List ℕ
waits_of now items s [] = []
waits_of now items s (v ∷ vs) =
    if is_waiting now items s v then due_at now s v ∷ waits_of now items s vs else waits_of now items s vs

-- the least of them, if there is any
abbrev pub least_wait : ℕ → List Item → Session → Option ℕ
least_wait now items s = least_of (waits_of now items s s.board.round)

-- a step of the board
abbrev pub on_board : (Board → Board) → Session → Session
on_board f s = record s { board = f s.board }

-- as a line was numbered or given, lines that aren't to be kept are given up
abbrev pub trimmed : Session → Session
trimmed s = record s { given_up = given_up_after s.given_up s.sent (texts_behind 0 s.board.lines) }

-- a step of the board that numbers lines
abbrev pub numbered : (Board → Board) → Session → Session
numbered f s = trimmed (on_board f s)

-- a change of the newest stream
abbrev pub on_stream : (Stream → Stream) → Session → Session
on_stream f s = record s { streams = change 0 f s.streams }

-- a line was given on a stream, and it is the numbered one of this number
abbrev pub with_text : List ℕ → Stream → Stream
with_text text t = record t { bytes = t.bytes + (length text + 2) }

abbrev pub with_line : ℕ → List ℕ → Stream → Stream
with_line n text t = record (with_text text t) { given = n ∷ t.given }

-- whether a numbered line isn't given yet
abbrev pub is_unsent : Session → Bool
is_unsent s = nat_lt s.sent (length s.board.lines)

-- the next unsent line is given, if there is one
abbrev pub given_next : Session → Session
given_next s =
    if is_unsent s
    then trimmed (on_stream (with_line (s.sent + 1) (text_at s.board.lines (s.sent + 1)))
    (record s { sent = s.sent + 1 }))
    else s

-- whether a stream is over: it is forced to be, or the bytes given on it have reached its content length
abbrev pub is_over : Stream → Bool
is_over t = t.forced || option_map_or (λ most. nat_le most t.bytes) t.content false

-- whether the newest one is, so that its client is to be told (TLCP 2.1, LOOP)
abbrev pub is_to_loop : List Stream → Bool
is_to_loop [] = false
is_to_loop (t ∷ ts) = is_over t

-- whether a stream is bound, and a session without one from a tick on
abbrev pub is_bound : Session → Bool
is_bound s = not (is_some s.unbound)

abbrev pub unbound_at : ℕ → Session → Session
unbound_at tick s = record s { unbound = Some tick }

-- what tells of a bandwidth (TLCP 2.1, CONS)
abbrev pub bandwidth_text : Option ℕ → List ℕ
bandwidth_text limit = text_of_line (line.Cons (limit_text limit))

-- what a new stream begins with: the session's name, the longest request, the keep-alive in ms and no control link; the
-- server's name; the bandwidth (TLCP 2.1, CONOK, SERVNAME, CONS)
abbrev pub opening_lines : ℕ → ℕ → Option ℕ → List (List ℕ)
opening_lines number keepalive limit =
    text_of_line (line.ConOk (codes "S" ++ decimal number) keepalive) ∷ text_of_line line.ServName
    ∷ bandwidth_text limit ∷ []

-- a stream that begins behind a number, by its content length
abbrev pub begun_stream : ℕ → Option ℕ → Stream
begun_stream from content = record { from = from; given = []; bytes = 0; content = content; forced = false }

-- a session that begins, by its number from 1, its keep-alive, its bandwidth and the content length of its stream
abbrev pub opened : ℕ → ℕ → Option ℕ → Option ℕ → Session
opened number keepalive limit content =
    record {
      board = record { lines = []; round = [] };
      rate = record { limit = limit; behind = 0 };
      sent = 0;
      given_up = 0;
      owed = opening_lines number keepalive limit;
      streams = begun_stream 0 content ∷ [];
      unbound = None;
      life = Alive;
    }

-- a new stream behind the count that a client tells is told it (TLCP 2.1, PROG)
abbrev pub count_lines : Option ℕ → List (List ℕ)
count_lines None = []
count_lines (Some count) = text_of_line (line.Prog count) ∷ []

-- a new stream of the session of a number, as a bind asks for it: it begins behind the count that the client tells, and
-- else behind the line given last, and only its own lines are owed (TLCP 2.1, bind_session)
abbrev pub rebound : ℕ → Bind → Session → Session
rebound number b s =
    let from : ℕ = unwrap_or b.recover s.sent in
    record s {
      sent = from;
      owed = opening_lines number b.keepalive s.rate.limit ++ count_lines b.recover;
      streams = begun_stream from b.length ∷ s.streams;
      unbound = None;
    }

-- the newest stream is forced to be over
abbrev pub forced : Session → Session
forced s = on_stream (λ t. record t { forced = true }) s

-- a session has another bandwidth: CONS is owed, and the credit begins anew
abbrev pub constrained : Option ℕ → Session → Session
constrained limit s =
    record s {
      rate = record { limit = limit; behind = length s.board.lines };
      owed = s.owed ++ bandwidth_text limit ∷ [];
    }

-- a session that ends for the cause of a code: its slots leave, and its client is to be told
abbrev pub ended : ℕ → Session → Session
ended code s = record s { board = record s.board { round = [] }; life = Ending code }

-- whether a session hasn't ended, and how many haven't
abbrev pub is_alive : Life → Bool
is_alive Alive = true
is_alive (Ending code) = false
is_alive (Closed code) = false

abbrev pub alive : List Session → ℕ
alive sessions = sum_by (λ s. if is_alive s.life then 1 else 0) sessions

-- the code of a session that was without a stream for too long; it ends at the first tick that is told then
abbrev pub timed_out : ℕ
timed_out = 73

abbrev pub is_timed_out : ℕ → Session → Bool
is_timed_out now s = is_alive s.life && option_map_or (λ since. nat_le (since + MOST_UNBOUND) now) s.unbound false

abbrev pub unless_timed_out : ℕ → Session → Session
unless_timed_out now s = if is_timed_out now s then ended timed_out s else s

-- an item whose history has this entry at its end
abbrev pub grown : Entry → Item → Item
grown e i = record i { history = i.history ++ e ∷ [] }

-- an update has a cell for each field, as a condition
abbrev pub is_whole : ℕ → Event → Bool
is_whole fields (Update cells) = nat_eq (length cells) fields
is_whole fields Clear = true

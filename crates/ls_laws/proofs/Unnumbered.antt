-- The numbers of slots tell nothing: each change of a session goes with a session without them.
use Rattle.std.proofs.Common.{◌≡◌, ◌==◌, ℕ, ◌+◌, List, [], ◌∷◌, ◌++◌, length, map, refl, sym, ◌∙◌, ap, cond, Bool, true, false, ◌&&◌, ◌||◌, Option, None, Some}
use Rattle.std.proofs.Common.{nat_lt, nat_le, option_map}
use Rattle.std.specs.Prelude.{not}
use Rattle.std.specs.List.{list_any}
use Rattle.std.specs.Option.{option_map_or}
use Rattle.std.proofs.lemmas.List.{map-append}
use Rattle.std.proofs.lemmas.List.Sums.{sum_by-cons}
use Rattle.ls_event.specs.declared.event.Mode.{Mode}
use Rattle.ls_event.specs.declared.event.Mode.TheVariants as mode
use Rattle.ls_event.specs.Slots.{enqueued}
use Rattle.ls_event.specs.declared.item.ItemDef.{ItemDef}
use Rattle.ls_request.specs.declared.request.Add.{Add}
use Rattle.ls_record.specs.Came.{Came}
use Rattle.ls_record.specs.Cutting.{Ask}
use Rattle.ls_record.specs.Lines.{Line, Configures}
use Rattle.ls_value.specs.declared.limits.TheConstants.{GREATEST_NUMBER}
use Rattle.ls_record.specs.declared.TheConstants.{MOST_SUBSCRIPTIONS}
use Rattle.ls_record.specs.Records.{Item, LiveSlot, Board, Life, Alive, Ending, Closed, Session, RoundLine, Round}
use Rattle.ls_record.specs.Records.{history_of, is_at, is_of, is_used, live_at}
use Rattle.ls_record.specs.Records.{joined_slot, joined_all, added, without, removed, enqueue_slot, enqueue_at}
use Rattle.ls_record.specs.Records.{enqueued_in, live_turn, round_of, taken_in}
use Rattle.ls_record.specs.Records.{trimmed, numbered, is_to_loop, is_bound, unbound_at, unless_timed_out}
use Rattle.ls_record.specs.Records.{is_timed_out, ended, timed_out}
use Rattle.ls_record.specs.Records.{on_board, is_unsent, given_next, frequency_in, is_filtered, mode_in}
use Rattle.ls_record.specs.Records.{with_frequency, reconfigured, due_at, is_due, is_waiting}
use Rattle.ls_record.specs.Records.{least_of, waits_of, least_wait}
use Rattle.ls_record.specs.Acting.{is_group, group_of, is_allowed, is_schema, subscriptions, are_too_many, are_spent}
use Rattle.ls_record.specs.Acting.{add_refusals, change_code}
use Rattle.ls_record.specs.Cases.{with_found}
use Rattle.ls_record.specs.Turning.{SessionTurn, Send, Spent, Superseded, loop_text, next_given, waits_until}
use Rattle.ls_record.specs.Turning.{round_turn, turn_owing, turn_bound, gives_unbound}
use Rattle.ls_record.specs.Turning.{session_turn}
use Rattle.ls_record.proofs.Parts.{met_by, given_by}
use Rattle.ls_laws.specs.Alone.{unnumbered_slot, unnumbered_board, unnumbered}

-- a function of both parts of a test
pushed : {A B : Type 0} (f : A → B) (b : Bool) (x y : A) → cond b (f x) (f y) ≡ f (cond b x y)
pushed f true x y = refl
pushed f false x y = refl

-- slots without their numbers
abbrev slots : List LiveSlot → List LiveSlot
slots vs = map unnumbered_slot vs

-- what is asked of a round
used_same : (sub : ℕ) (vs : List LiveSlot) → is_used sub (slots vs) ≡ is_used sub vs
used_same sub [] = refl
used_same sub (v ∷ vs) = ap (λ b. is_of sub v || b) (used_same sub vs)

pub live_same : (sub rank : ℕ) (vs : List LiveSlot) → live_at sub rank (slots vs) ≡ option_map unnumbered_slot (live_at sub rank vs)
live_same sub rank [] = refl
live_same sub rank (v ∷ vs) =
    ap (λ o. cond (is_at sub rank v) (Some (unnumbered_slot v)) o) (live_same sub rank vs)
    ∙ pushed (option_map unnumbered_slot) (is_at sub rank v) (Some v) (live_at sub rank vs)

subscriptions_same : (vs : List LiveSlot) → subscriptions (slots vs) ≡ subscriptions vs
subscriptions_same [] = refl
subscriptions_same (v ∷ vs) =
    sum_by-cons (λ (u : LiveSlot). cond (u.rank == 1) 1 0) (unnumbered_slot v) (slots vs)
    ∙ ap (λ n. cond (v.rank == 1) 1 0 + n) (subscriptions_same vs)
    ∙ sym (sum_by-cons (λ (u : LiveSlot). cond (u.rank == 1) 1 0) v vs)

-- an add is refused by whether it lacks slots
abbrev pub refusals_by : List ItemDef → Bool → Session → Add → List (ℕ × Bool)
refusals_by defs lacks s a =
    (72, is_used a.sub s.board.round)
    ∷ (70, are_too_many s 2)
    ∷ (21, not (is_group defs a.group))
    ∷ (24, not (is_allowed defs a.mode (group_of defs a.group)))
    ∷ (23, not (is_schema defs a.mode (group_of defs a.group) a.schema))
    ∷ (71, nat_le MOST_SUBSCRIPTIONS (subscriptions s.board.round) || lacks)
    ∷ (74, are_spent s 2)
    ∷ []

pub refusals_same : (defs : List ItemDef) (free : ℕ) (s : Session) (a : Add) → refusals_by defs (nat_lt free (length a.group)) (unnumbered s) a
    ≡ add_refusals defs free s a
refusals_same defs free s a = rw (used_same a.sub s.board.round, subscriptions_same s.board.round) refl

pub change_same : (s : Session) (sub : ℕ) → change_code (unnumbered s) sub ≡ change_code s sub
change_same s sub = rw (used_same sub s.board.round) refl

-- a subscription begins, and ends
joined_same : (items : List Item) (free : ℕ → ℕ) (sub rank : ℕ) (asks : List Ask) → slots (joined_all items free sub rank asks)
    ≡ joined_all items (λ item. 0) sub rank asks
joined_same items free sub rank [] = refl
joined_same items free sub rank (a ∷ asks) =
    ap (λ vs. unnumbered_slot (record {
      sub = sub;
      rank = rank;
      item = a.item;
      number = 0;
      frequency = a.frequency;
      wanted = a.wanted;
      slot = joined_slot items a;
    }) ∷ vs) (joined_same items free sub (rank + 1) asks)

pub added_same : (items : List Item) (free : ℕ → ℕ) (sub fields : ℕ) (asks : List Ask) (b : Board) → unnumbered_board (added items free sub fields asks b)
    ≡ added items (λ item. 0) sub fields asks (unnumbered_board b)
added_same items free sub fields asks b =
    ap (λ vs. record (added items free sub fields asks b) { round = vs })
    (map-append unnumbered_slot b.round (joined_all items free sub 1 asks) ∙ ap (λ vs. slots b.round ++ vs) (joined_same items free sub 1 asks))

without_same : (sub : ℕ) (vs : List LiveSlot) → without sub (slots vs) ≡ slots (without sub vs)
without_same sub [] = refl
without_same sub (v ∷ vs) =
    ap (λ us. cond (is_of sub v) us (unnumbered_slot v ∷ us)) (without_same sub vs) ∙ pushed slots (is_of sub v) (without sub vs) (v ∷ without sub vs)

pub removed_same : (sub : ℕ) (b : Board) → removed sub (unnumbered_board b) ≡ unnumbered_board (removed sub b)
removed_same sub b = ap (λ vs. record (removed sub b) { round = vs }) (without_same sub b.round)

-- a subscription gets another frequency
mode_same : (o : Option LiveSlot) → option_map_or (λ (v : LiveSlot). v.slot.plan.mode) (option_map unnumbered_slot o) mode.Merge
    ≡ option_map_or (λ (v : LiveSlot). v.slot.plan.mode) o mode.Merge
mode_same None = refl
mode_same (Some v) = refl

mode_in_same : (sub : ℕ) (vs : List LiveSlot) → mode_in sub (slots vs) ≡ mode_in sub vs
mode_in_same sub vs =
    ap (λ o. option_map_or (λ (v : LiveSlot). v.slot.plan.mode) o mode.Merge) (live_same sub 1 vs) ∙ mode_same (live_at sub 1 vs)

frequencies_same : (sub : ℕ) (f : Option ℕ) (vs : List LiveSlot) → map (with_frequency sub f) (slots vs) ≡ slots (map (with_frequency sub f) vs)
frequencies_same sub f [] = refl
frequencies_same sub f (v ∷ vs) =
    λ i. pushed unnumbered_slot (is_of sub v) (record v { frequency = f }) v i ∷ frequencies_same sub f vs i

pub reconfigured_same : (sub : ℕ) (frequency : Option ℕ) (b : Board) → reconfigured sub frequency (unnumbered_board b)
    ≡ unnumbered_board (reconfigured sub frequency b)
reconfigured_same sub frequency b =
    ap (λ (m : Mode). record {
      lines = Configures sub (frequency_in m frequency) (is_filtered m) ∷ b.lines;
      round = map (with_frequency sub (frequency_in m frequency)) (slots b.round);
    }) (mode_in_same sub b.round)
    ∙ ap (λ vs. record (reconfigured sub frequency b) { round = vs }) (frequencies_same sub (frequency_in (mode_in sub b.round) frequency) b.round)

-- an enqueue
enqueue_same : (items : List Item) (sub rank : ℕ) (v : LiveSlot) → enqueue_at items sub rank (unnumbered_slot v) ≡ unnumbered_slot (enqueue_at items sub rank v)
enqueue_same items sub rank v =
    ap (λ u. cond (is_at sub rank v) u (unnumbered_slot v))
    (pushed unnumbered_slot (nat_lt v.slot.last (length (history_of items v.item))) (record v { slot = enqueued v.slot }) v)
    ∙ pushed unnumbered_slot (is_at sub rank v) (enqueue_slot (history_of items v.item) v) v

enqueues_same : (items : List Item) (sub rank : ℕ) (vs : List LiveSlot) → map (enqueue_at items sub rank) (slots vs) ≡ slots (map (enqueue_at items sub rank) vs)
enqueues_same items sub rank [] = refl
enqueues_same items sub rank (v ∷ vs) = λ i. enqueue_same items sub rank v i ∷ enqueues_same items sub rank vs i

pub enqueued_same : (items : List Item) (sub rank : ℕ) (b : Board) → enqueued_in items sub rank (unnumbered_board b)
    ≡ unnumbered_board (enqueued_in items sub rank b)
enqueued_same items sub rank b = ap (λ vs. record b { round = vs }) (enqueues_same items sub rank b.round)

-- a round's turns
abbrev line_of : RoundLine → RoundLine
line_of t = record t { live = unnumbered_slot t.live }

abbrev round_without : Round → Round
round_without r = record { kept = slots r.kept; came = option_map line_of r.came }

met_same : (v : LiveSlot) (o : Option Came) (vs : List LiveSlot) (r : Round) → met_by (unnumbered_slot v) o (slots vs) (round_without r)
    ≡ round_without (met_by v o vs r)
met_same v None vs r = refl
met_same v (Some c) vs r = refl

round_same : (now : ℕ) (s : Session) (items : List Item) (lines : List Line) (vs : List LiveSlot)
    → round_of (is_due now (unnumbered s)) items lines (slots vs) ≡ round_without (round_of (is_due now s) items lines vs)
round_same now s items lines [] = refl
round_same now s items lines (v ∷ vs) =
    let t = live_turn (is_due now s) items lines v in
    ap (λ r. met_by (unnumbered_slot (record v { slot = t.slot })) t.came (slots vs) r) (round_same now s items lines vs)
    ∙ met_same (record v { slot = t.slot }) t.came vs (round_of (is_due now s) items lines vs)

given_same : (now : ℕ) (b : Board) (kept : List LiveSlot) (o : Option RoundLine) → given_by now (unnumbered_board b) (slots kept) (option_map line_of o)
    ≡ unnumbered_board (given_by now b kept o)
given_same now b kept None = refl
given_same now b kept (Some t) =
    ap (λ vs. record (given_by now b kept (Some t)) { round = vs }) (sym (map-append unnumbered_slot kept (t.live ∷ [])))

taken_same : (now : ℕ) (items : List Item) (s : Session) → taken_in (is_due now (unnumbered s)) now items (unnumbered_board s.board)
    ≡ unnumbered_board (taken_in (is_due now s) now items s.board)
taken_same now items s =
    let r = round_of (is_due now s) items s.board.lines s.board.round in
    ap (λ (x : Round). given_by now (unnumbered_board s.board) x.kept x.came) (round_same now s items s.board.lines s.board.round)
    ∙ given_same now s.board r.kept r.came

-- which slots are due, and which wait
any_same : (now : ℕ) (s : Session) (vs : List LiveSlot) → list_any (is_due now (unnumbered s)) (slots vs) ≡ list_any (is_due now s) vs
any_same now s [] = refl
any_same now s (v ∷ vs) = ap (λ b. is_due now s v || b) (any_same now s vs)

waits_same : (now : ℕ) (items : List Item) (s : Session) (vs : List LiveSlot) → waits_of now items (unnumbered s) (slots vs) ≡ waits_of now items s vs
waits_same now items s [] = refl
waits_same now items s (v ∷ vs) = ap (λ ns. cond (is_waiting now items s v) (due_at now s v ∷ ns) ns) (waits_same now items s vs)

-- a session's turn
abbrev pub turn_without : SessionTurn → SessionTurn
turn_without t = record t { session = unnumbered t.session }

given_next_same : (s : Session) → given_next (unnumbered s) ≡ unnumbered (given_next s)
given_next_same s = pushed unnumbered (is_unsent s) _ s

next_same : (s : Session) → next_given (unnumbered s) ≡ turn_without (next_given s)
next_same s = ap (λ t. record (next_given s) { session = t }) (given_next_same s)

-- by the line of its round
abbrev round_gives : Option ℕ → Session → Session → Option RoundLine → SessionTurn
round_gives wait none some o = with_found o (record { session = none; gives = waits_until wait }) (λ t. next_given some)

round_gives_same : (wait : Option ℕ) (none some : Session) (o : Option RoundLine)
    → round_gives wait (unnumbered none) (unnumbered some) (option_map line_of o) ≡ turn_without (round_gives wait none some o)
round_gives_same wait none some None = refl
round_gives_same wait none some (Some t) = next_same some

abbrev round_taken : ℕ → List Item → Session → SessionTurn
round_taken now items s =
    round_gives (least_wait now items s) (on_board (taken_in (is_due now s) now items) s) (numbered (taken_in (is_due now s) now items) s)
    (round_of (is_due now s) items s.board.lines s.board.round).came

round_taken_same : (now : ℕ) (items : List Item) (s : Session) → round_taken now items (unnumbered s) ≡ turn_without (round_taken now items s)
round_taken_same now items s =
    let r = round_of (is_due now s) items s.board.lines s.board.round in
    let board : Board = taken_in (is_due now s) now items s.board in
    let after : Board → Session = λ b. record s { board = b } in
    ap (λ ns. round_gives (least_of ns) (on_board (taken_in (is_due now (unnumbered s)) now items) (unnumbered s))
    (numbered (taken_in (is_due now (unnumbered s)) now items) (unnumbered s))
    (round_of (is_due now (unnumbered s)) items s.board.lines (slots s.board.round)).came) (waits_same now items s s.board.round)
    ∙ ap (λ (b : Board). round_gives (least_wait now items s) (after b) (trimmed (after b))
    (round_of (is_due now (unnumbered s)) items s.board.lines (slots s.board.round)).came) (taken_same now items s)
    ∙ ap (λ (x : Round). round_gives (least_wait now items s) (unnumbered (after board)) (unnumbered (trimmed (after board))) x.came)
    (round_same now s items s.board.lines s.board.round)
    ∙ round_gives_same (least_wait now items s) (after board) (trimmed (after board)) r.came

round_turn_same : (now : ℕ) (items : List Item) (s : Session) → round_turn now items (unnumbered s) ≡ turn_without (round_turn now items s)
round_turn_same now items s =
    ap (λ b. cond (b && nat_le GREATEST_NUMBER (length s.board.lines)) (record { session = unnumbered s; gives = Spent })
    (round_taken now items (unnumbered s)))
    (any_same now s s.board.round)
    ∙ ap (λ (t : SessionTurn). cond (list_any (is_due now s) s.board.round && nat_le GREATEST_NUMBER (length s.board.lines))
    (record { session = unnumbered s; gives = Spent }) t) (round_taken_same now items s)
    ∙ pushed turn_without (list_any (is_due now s) s.board.round && nat_le GREATEST_NUMBER (length s.board.lines)) (record { session = s; gives = Spent })
    (round_taken now items s)

owing_same : (now : ℕ) (items : List Item) (s : Session) (owed : List (List ℕ)) → turn_owing now items (unnumbered s) owed
    ≡ turn_without (turn_owing now items s owed)
owing_same now items s (text ∷ owed) = refl
owing_same now items s [] =
    let loops : SessionTurn = record { session = unbound_at now s; gives = Send loop_text } in
    ap (λ (t : SessionTurn). cond (is_to_loop s.streams) (turn_without loops) (cond (is_unsent s) t (round_turn now items (unnumbered s)))) (next_same s)
    ∙ ap (λ (t : SessionTurn). cond (is_to_loop s.streams) (turn_without loops) (cond (is_unsent s) (turn_without (next_given s)) t))
    (round_turn_same now items s)
    ∙ ap (λ (t : SessionTurn). cond (is_to_loop s.streams) (turn_without loops) t)
    (pushed turn_without (is_unsent s) (next_given s) (round_turn now items s))
    ∙ pushed turn_without (is_to_loop s.streams) loops (cond (is_unsent s) (next_given s) (round_turn now items s))

bound_same : (now : ℕ) (items : List Item) (s : Session) (life : Life) → turn_bound now items (unnumbered s) life
    ≡ turn_without (turn_bound now items s life)
bound_same now items s Alive = owing_same now items s s.owed
bound_same now items s (Ending code) = refl
bound_same now items s (Closed code) = refl

pub turn_same : (now : ℕ) (items : List Item) (epoch : ℕ) (s : Session) → session_turn now items epoch (unnumbered s)
    ≡ turn_without (session_turn now items epoch s)
turn_same now items epoch s =
    let newer : SessionTurn = record { session = s; gives = Superseded (length s.streams) } in
    let gone : SessionTurn = record { session = s; gives = gives_unbound s.life } in
    let t : SessionTurn = turn_bound now items s s.life in
    ap (λ (x : SessionTurn). cond (nat_lt epoch (length s.streams)) (turn_without newer) (cond (is_bound s) x (turn_without gone)))
    (bound_same now items s s.life)
    ∙ ap (λ (x : SessionTurn). cond (nat_lt epoch (length s.streams)) (turn_without newer) x) (pushed turn_without (is_bound s) t gone)
    ∙ pushed turn_without (nat_lt epoch (length s.streams)) newer (cond (is_bound s) t gone)

-- a session that times out
pub timed_out_same : (now : ℕ) (s : Session) → unless_timed_out now (unnumbered s) ≡ unnumbered (unless_timed_out now s)
timed_out_same now s = pushed unnumbered (is_timed_out now s) (ended timed_out s) s

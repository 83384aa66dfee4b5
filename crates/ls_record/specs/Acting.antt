-- What is done on a request: the order of its refusals, and what is asked of the items of a new subscription (TLCP 2.1,
-- requests; the codes are this project's profile).
use Rattle.std.specs.Prelude.{◌==◌, ℕ, ◌+◌, ◌-◌, List, [], ◌∷◌, length, map, sum_by, Bool, true, not, ◌&&◌, ◌||◌}
use Rattle.std.specs.Prelude.{Option, None, Some, is_some, nat_lt, nat_le, codes, if◌then◌else◌, unwrap_or}
use Rattle.std.specs.Prelude.{option_and_then}
use Rattle.std.specs.List.{list_all}
use Rattle.ls_value.specs.Values.{place_of, are_distinct}
use Rattle.ls_event.specs.declared.item.ItemDef.{ItemDef}
use Rattle.ls_event.specs.declared.event.Mode.{Mode}
use Rattle.ls_event.specs.declared.event.Snap.{Snap}
use Rattle.ls_event.specs.Joining.{is_mode_of, rows_asked, buffer_size}
use Rattle.ls_request.specs.declared.request.Add.{Add}
use Rattle.ls_request.specs.declared.request.Bind.{Bind}
use Rattle.ls_record.specs.Cutting.{Ask}
use Rattle.ls_record.specs.Cases.{first_code}
use Rattle.ls_record.specs.Records.{Item, LiveSlot, Session, definitions, shape_in, fields_in, is_used, all_live, added}
use Rattle.ls_record.specs.Records.{numbered, frequency_in}
use Rattle.ls_record.specs.declared.TheConstants.{MOST_GROUP_ITEMS, MOST_SUBSCRIPTIONS, MOST_UNSENT}
use Rattle.ls_event.specs.declared.limits.TheConstants.{MOST_FIELDS, MOST_SLOTS}
use Rattle.ls_value.specs.declared.limits.TheConstants.{GREATEST_NUMBER}
use Rattle.ls_form.specs.declared.form.Pair.{Pair}
use Rattle.ls_request.specs.declared.request.LinkKind.{LinkKind}
use Rattle.ls_request.specs.declared.request.Request.{Request}
use Rattle.ls_request.specs.Requests.{request_of}
use Rattle.ls_request.specs.Values.{is_word}
use Rattle.ls_event.specs.declared.event.Mode.TheVariants as mode

-- the message of a code; other codes have none
abbrev pub message_of : ℕ → List ℕ
message_of code =
    if code == 2 then codes "Unknown adapter set"
    else if code == 4 then codes "Recovery not possible"
    else if code == 8 then codes "Too many sessions"
    else if code == 19 then codes "Unknown subscription"
    else if code == 20 then codes "Unknown session"
    else if code == 21 then codes "Bad group"
    else if code == 23 then codes "Bad schema"
    else if code == 24 then codes "Mode not allowed"
    else if code == 31 then codes "Destroyed by request"
    else if code == 65 then codes "Malformed request"
    else if code == 70 then codes "Too many lines waiting"
    else if code == 71 then codes "Too many subscriptions"
    else if code == 72 then codes "Subscription id in use"
    else if code == 73 then codes "Session timed out"
    else if code == 74 then codes "Counter spent"
    else if code == 75 then codes "Out of memory"
    else []

-- whether each of these names is among others, and their places there
abbrev pub are_among : List (List ℕ) → List (List ℕ) → Bool
are_among names others = list_all (λ t. is_some (place_of names t)) others

abbrev pub places_among : List (List ℕ) → List (List ℕ) → List ℕ
places_among names others = map (λ t. unwrap_or (place_of names t) 0) others

-- whether texts are distinct names, at least 1 and at most so many
abbrev pub are_names : ℕ → List (List ℕ) → Bool
are_names most names = nat_le 1 (length names) && nat_le (length names) most && are_distinct names

-- the names of items
abbrev pub names_of : List ItemDef → List (List ℕ)
names_of defs = map (λ d. d.name) defs

-- whether a group is one of declared items, at most as many as it may name, and its items by their places
abbrev pub is_group : List ItemDef → List (List ℕ) → Bool
is_group defs group = are_names MOST_GROUP_ITEMS group && are_among (names_of defs) group

abbrev pub group_of : List ItemDef → List (List ℕ) → List ℕ
group_of defs group = places_among (names_of defs) group

-- whether a mode is allowed on each of these items
abbrev pub is_allowed : List ItemDef → Mode → List ℕ → Bool
is_allowed defs m group = list_all (λ n. is_mode_of m (shape_in defs n).kind) group

-- in mode COMMAND a schema shows the key and the command
abbrev pub shows_keys : Mode → List (List ℕ) → Bool
shows_keys mode.Command schema = is_some (place_of schema (codes "key")) && is_some (place_of schema (codes "command"))
shows_keys m schema = true

-- whether a schema is one of a mode, and each of these items has its fields
abbrev pub is_schema : List ItemDef → Mode → List ℕ → List (List ℕ) → Bool
is_schema defs m group schema =
    are_names MOST_FIELDS schema && shows_keys m schema
    && list_all (λ n. are_among (fields_in defs n) schema) group

-- RAW has no snapshot
abbrev pub snapshot_asked : Mode → Snap → Option ℕ
snapshot_asked mode.Raw s = None
snapshot_asked m s = rows_asked s

-- what an add asks of an item, by the places of the schema in it
abbrev pub ask_of : Add → ℕ → List ℕ → Ask
ask_of a item places =
    record {
      item = item;
      mode = a.mode;
      size = buffer_size a.mode a.size;
      frequency = frequency_in a.mode a.frequency;
      wanted = record { places = places; snapshot = snapshot_asked a.mode a.snapshot };
    }

-- what it asks of each item of its group, in their order
abbrev pub asks_of : List ItemDef → Add → List Ask
asks_of defs a = map (λ n. ask_of a n (places_among (fields_in defs n) a.schema)) (group_of defs a.group)

-- a session with the subscription that an add asks for, where an item's next slot gets this number
abbrev pub subscribed_on : List Item → (ℕ → ℕ) → Add → Session → Session
subscribed_on items free a = numbered (added items free a.sub (length a.schema) (asks_of (definitions items) a))

-- how many subscriptions are in a round: each has one first item
abbrev pub subscriptions : List LiveSlot → ℕ
subscriptions round = sum_by (λ v. if v.rank == 1 then 1 else 0) round

-- how many numbered lines aren't given yet
abbrev pub unsent : Session → ℕ
unsent s = length s.board.lines - s.sent

-- whether so many more lines may wait to be given, or be numbered
abbrev pub are_too_many : Session → ℕ → Bool
are_too_many s more = nat_lt MOST_UNSENT (unsent s + more)

abbrev pub are_spent : Session → ℕ → Bool
are_spent s more = nat_lt GREATEST_NUMBER (length s.board.lines + more)

-- how many slots the server may still give
abbrev pub free_slots : List Session → ℕ
free_slots sessions = MOST_SLOTS - length (all_live sessions)

-- whether the session has no room for a subscription, or the server none for the slots of a group
abbrev pub is_full : ℕ → Session → List (List ℕ) → Bool
is_full free s group = nat_le MOST_SUBSCRIPTIONS (subscriptions s.board.round) || nat_lt free (length group)

-- what an add to a session is refused for, by the items and the slots that the server may still give: each code beside
-- its condition, in their order
abbrev pub add_refusals : List ItemDef → ℕ → Session → Add → List (ℕ × Bool)
add_refusals defs free s a =
    (72, is_used a.sub s.board.round)
    ∷ (70, are_too_many s 2)
    ∷ (21, not (is_group defs a.group))
    ∷ (24, not (is_allowed defs a.mode (group_of defs a.group)))
    ∷ (23, not (is_schema defs a.mode (group_of defs a.group) a.schema))
    ∷ (71, is_full free s a.group)
    ∷ (74, are_spent s 2)
    ∷ []

-- what the end of a subscription, or another frequency of it, is refused for, in this order
abbrev pub change_code : Session → ℕ → Option ℕ
change_code s sub =
    first_code ((19, not (is_used sub s.board.round)) ∷ (70, are_too_many s 1) ∷ (74, are_spent s 1) ∷ [])

-- what another bandwidth of a session is refused for: too many lines are owed to its stream
abbrev pub constrain_code : Session → Option ℕ
constrain_code s = first_code ((70, nat_lt MOST_UNSENT (length s.owed + 1)) ∷ [])

-- the code of a session that a request destroyed
abbrev pub destroyed : ℕ
destroyed = 31

-- whether a client may go on behind the lines that it says it has: the next one is kept, or is yet to be numbered
abbrev pub may_resume : Session → Option ℕ → Bool
may_resume s None = true
may_resume s (Some count) = nat_le s.given_up count && nat_le count (length s.board.lines)

-- what a bind is refused for, in this order
abbrev pub bind_code : Session → Bind → Option ℕ
bind_code s b =
    first_code ((4, not (may_resume s b.recover)) ∷ (74, nat_le GREATEST_NUMBER (length s.streams)) ∷ [])

-- the request that pairs say, as it is read over a link
abbrev pub request_over : LinkKind → List ℕ → Option (List Pair) → Option Request
request_over l name ps = option_and_then (request_of l name) ps

-- whether a name is that of a request for a session or a stream
abbrev pub is_opening : List ℕ → Bool
is_opening name = if is_word (codes "create_session") name then true else is_word (codes "bind_session") name

-- The script of a soak: lines that open two sessions, and lines drawn from a number (this project's profile).
use Rattle.std.specs.Prelude.{◌==◌, ℕ, zero, suc, ◌+◌, ◌*◌, ◌/◌, ◌%◌, ◌^◌, List, [], ◌∷◌, ◌++◌, codes, nat_lt}
use Rattle.std.specs.Prelude.{if◌then◌else◌}
use Rattle.std.specs.Fmt.{decimal}
use Rattle.ls_soak.specs.declared.drawing.Choice.{Choice}

-- the lines before the first step: three items, and two sessions with a subscription to each of them
abbrev pub opening : List (List ℕ)
opening =
    codes "item m MERGE a,b,c" ∷ codes "item d DISTINCT a,b" ∷ codes "item k COMMAND key,command,a"
    ∷ codes "open c" ∷ codes "open e"
    ∷ codes "add c 1 m a,b,c MERGE snapshot=true" ∷ codes "add c 2 d a,b DISTINCT snapshot=true"
    ∷ codes "add c 3 k key,command,a COMMAND snapshot=true"
    ∷ codes "add e 1 m a,b,c RAW" ∷ codes "add e 2 k key,command,a COMMAND"
    ∷ codes "add e 3 d a,b DISTINCT buffer=2" ∷ []

-- the number behind another one: a linear congruential generator of 64 bits, with Knuth's multiplier
abbrev pub following : ℕ → ℕ
following x = (x * 6364136223846793005 + 1442695040888963407) % 2 ^ 64

-- what the upper 32 bits of a number have a step do: its act from 0 to 9, its kind from 0 to 2, its value from 0 to 49
abbrev pub chosen_by : ℕ → Choice
chosen_by r = record { act = r % 10; kind = r / 10 % 3; value = r / 30 % 50 }

abbrev pub choice_of : ℕ → Choice
choice_of x = chosen_by (x / 2 ^ 32)

-- the connection of a value, and the number of its session
abbrev pub connection_of : ℕ → List ℕ
connection_of value = if value % 2 == 0 then codes "c" else codes "e"

abbrev pub session_of : ℕ → ℕ
session_of value = if value % 2 == 0 then 1 else 2

-- an event of the item in MERGE mode: a value for one of its fields, or null
abbrev pub merge_event : ℕ → List ℕ
merge_event value =
    if value % 3 == 0 then codes " m a=" ++ decimal value
    else if value % 3 == 1 then codes " m b=" ++ decimal value
    else codes " m c=#"

-- what is said of a key: it is deleted, or updated
abbrev pub command_said : ℕ → List ℕ
command_said value =
    if value % 7 == 0 then codes "&command=DELETE" else codes "&command=UPDATE&a=" ++ decimal value

-- an event of the item in COMMAND mode, for one of five keys
abbrev pub command_event : ℕ → List ℕ
command_event value = codes " k key=k" ++ decimal (value % 5) ++ command_said value

-- the item and the event of a publish
abbrev pub event_said : ℕ → ℕ → List ℕ
event_said kind value =
    if kind == 0 then merge_event value
    else if kind == 1 then codes " d a=" ++ decimal value
    else command_event value

-- a step's line
abbrev pub publish_line : ℕ → ℕ → ℕ → List ℕ
publish_line number kind value = codes "pub 1 " ++ decimal number ++ event_said kind value

abbrev pub enqueue_line : ℕ → ℕ → List ℕ
enqueue_line kind value = codes "enq " ++ connection_of value ++ codes " " ++ decimal (kind + 1) ++ codes " 1 3"

abbrev pub take_line : ℕ → List ℕ
take_line value = codes "take " ++ connection_of value ++ codes " 4"

-- a Clear of the item in COMMAND mode, a lost stream, or a bind after it
abbrev pub other_line : ℕ → ℕ → ℕ → List ℕ
other_line number kind value =
    if kind == 0 then codes "clear 1 " ++ decimal number ++ codes " k"
    else if kind == 1 then codes "lose " ++ connection_of value
    else codes "req " ++ connection_of value ++ codes " bind_session LS_session=S" ++ decimal (session_of value)

abbrev pub line_by : ℕ → Choice → List ℕ
line_by number c =
    if nat_lt c.act 4 then publish_line number c.kind c.value
    else if nat_lt c.act 7 then enqueue_line c.kind c.value
    else if nat_lt c.act 9 then take_line c.value
    else other_line number c.kind c.value

-- the lines of so many steps, from a number on, where this many steps came before
abbrev pub drawn : ℕ → ℕ → ℕ → List (List ℕ)
drawn x before zero = []
drawn x before (suc n) = line_by (before + 1) (choice_of (following x)) ∷ drawn (following x) (before + 1) n

-- the whole script
abbrev pub script : ℕ → ℕ → List (List ℕ)
script start steps = opening ++ drawn start 0 steps

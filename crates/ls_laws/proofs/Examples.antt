-- Short scripts, run in the definitions alone: the steps that their lines ask for, and what is printed for them.
use Rattle.std.proofs.Common.{◌≡◌, ◌∙◌, sym, ◌==◌, ◌<◌, arith, ℕ, List, [], ◌∷◌, ◌++◌, replicate, map, reverse, refl, codes, Bool, true, false}
use Rattle.std.proofs.Common.{Option, None, Some}
use Rattle.std.proofs.lemmas.Bool.{eq-eqb}
use Rattle.std.specs.Fmt.{digits}
use Rattle.std.specs.List.{Contains}
use Rattle.ls_value.specs.declared.row.Cell.{Cell}
use Rattle.ls_value.specs.declared.row.Cell.TheVariants as cell
use Rattle.ls_value.specs.declared.row.Value.TheVariants as value
use Rattle.ls_event.specs.declared.event.Entry.{Entry}
use Rattle.ls_event.specs.declared.event.Event.TheVariants.{Update}
use Rattle.ls_event.specs.declared.event.Mode.{Mode}
use Rattle.ls_event.specs.declared.event.Mode.TheVariants as mode
use Rattle.ls_event.specs.declared.event.Taken.TheVariants as taken
use Rattle.ls_event.specs.declared.item.ItemDef.{ItemDef}
use Rattle.ls_event.specs.declared.item.Kind.{Kind}
use Rattle.ls_event.specs.declared.item.Kind.TheVariants as kind
use Rattle.ls_event.specs.Joining.{plan_of, joined}
use Rattle.ls_event.specs.Slots.{Plan, Slot, fresh, passed}
use Rattle.ls_form.specs.declared.form.Pair.{Pair}
use Rattle.ls_mirror.specs.Client.{Row, Lost}
use Rattle.ls_request.specs.declared.request.LinkKind.TheVariants as link
use Rattle.ls_step.specs.declared.step.AddWords.{AddWords}
use Rattle.ls_step.specs.declared.step.Step.{Step}
use Rattle.ls_step.specs.declared.step.Repeat.{Repeat}
use Rattle.ls_step.specs.declared.step.Step.TheVariants as step
use Rattle.ls_step.specs.Adding.{are_utf8, all_pairs, parameter}
use Rattle.ls_record.specs.Came.{Came}
use Rattle.ls_record.specs.Cutting.{Wanted, turn}
use Rattle.ls_lawful.specs.Lawful.{IsMergeLine, LawfulMerge}
use Rattle.ls_record.specs.Lines.{Ends}
use Rattle.ls_record.specs.Cases.{first_code}
use Rattle.ls_world.specs.World.{World, empty}
use Rattle.ls_record.specs.Records.{LiveSlot, Session, is_used, opened}
use Rattle.ls_request.specs.declared.request.Add.{Add}
use Rattle.ls_record.specs.Acting.{is_group, group_of, is_allowed, is_schema, is_full, are_too_many, are_spent}
use Rattle.ls_record.specs.Acting.{add_refusals}
use Rattle.ls_world.specs.Steps.{Stepped, link_of, requests, does}
use Rattle.ls_laws.specs.Streams.{Had, held, BindsWithItsCount}
use Rattle.ls_laws.specs.Alone.{RunStep, First, Second, Own, Shared, firsts, told, DifferElsewhere}
use Rattle.ls_world.specs.Script.{with_line_read, lines_of, output_of, text_of_outs, done, has_bad_line}

-- one line after another, each with_line_read, and what is printed for them
abbrev printed_from : World → List (World → Stepped) → List ℕ
printed_from w [] = []
printed_from w (line ∷ lines) = text_of_outs (line (with_line_read w)).outs ++ printed_from (line (with_line_read w)).after lines

abbrev printed : List (World → Stepped) → List ℕ
printed lines = printed_from empty lines

abbrev after : World → List (World → Stepped) → World
after w [] = w
after w (line ∷ lines) = after (line (with_line_read w)).after lines

-- `item q KIND FIELDS`, `open c` and `conn c ws`
abbrev item : Kind → List (List ℕ) → World → Stepped
item k fields w = does w (step.Item (codes "q") k fields) 1

abbrev opens : World → Stepped
opens w = does w (step.Open (codes "c")) 1

abbrev conn : World → Stepped
conn w = does w (step.Conn (codes "c") link.Ws) 1

-- the request that an add line says
abbrev asks : AddWords → World → Stepped
asks words w = requests w 0 link.Ws (codes "control") (Some (all_pairs w.line words))

-- a line of UTF-8 words is this request
pub add_line : (w : World) (words : AddWords) → are_utf8 words ≡ true → does w (step.Add 0 words) 1 ≡ asks words w
add_line w words h = rw h refl

-- `add c 1 q FIELDS MODE snapshot=.. buffer=..`
abbrev add : Mode → List ℕ → Option (List ℕ) → Option (List ℕ) → World → Stepped
add m fields snapshot buffer w =
    asks (record { sub = codes "1"; items = codes "q"; fields = fields; mode = m; snapshot = snapshot; buffer = buffer; frequency = None }) w

-- `pub 1 SEQ q ..`, `clear 1 SEQ q`, `enq c 1 1 TIMES` and `take c TIMES`
abbrev publish : ℕ → List Cell → World → Stepped
publish seq cells w = does w (step.Publish 1 seq 0 cells) 1

abbrev clear : ℕ → World → Stepped
clear seq w = does w (step.Clear 1 seq 0) 1

abbrev enqueue : ℕ → World → Stepped
enqueue times w = does w (step.Enqueue 0 1 1) times

abbrev take : ℕ → World → Stepped
take times w = does w (step.Take 0) times

-- a request by its name and parameters
abbrev request : List ℕ → List Pair → World → Stepped
request name ps w = requests w 0 (link_of w 0) name (Some ps)

abbrev text : List ℕ → Cell
text t = cell.Text t

-- what a session is given first
abbrev opening : List ℕ
opening = codes "c:CONOK,S1,50000,5000,*\nc:SERVNAME,tlcpd\nc:CONS,unlimited\n"

-- mode MERGE

-- a quote of two fields, published after the subscription, and told
pub quote : printed (item kind.Merge (codes "last" ∷ codes "time" ∷ []) ∷ opens ∷ add mode.Merge (codes "last,time") None None
    ∷ publish 1 (text (codes "3.04") ∷ text (codes "20:00:33") ∷ []) ∷ enqueue 1 ∷ take 9 ∷ [])
    ≡ codes "c:REQOK,3\n-no 1\n-moved 1\n" ++ opening ++ codes "c:SUBOK,1,1,2\nc:CONF,1,unlimited,filtered\nc:U,1,1,3.04|20:00:33\n-idle\n"
unfolding digits
quote = refl

-- a value that goes and comes back within one cut makes no line
pub unchanged : printed (item kind.Merge (codes "x" ∷ []) ∷ opens ∷ add mode.Merge (codes "x") None None ∷ publish 1 (text (codes "A") ∷ []) ∷ enqueue 1
    ∷ take 9 ∷ publish 2 (text (codes "B") ∷ []) ∷ publish 3 (text (codes "A") ∷ []) ∷ enqueue 2 ∷ take 1 ∷ [])
    ≡ codes "c:REQOK,3\n-no 1\n-moved 1\n" ++ opening ++ codes "c:SUBOK,1,1,1\nc:CONF,1,unlimited,filtered\nc:U,1,1,A\n-idle\n-no 2\n-no 3\n-moved 2\n-moved"
    ++ codes " 3\n-idle\n"
unfolding digits
unchanged = refl

-- a seq that comes again, a slot that is up to date, and a field that was never set
pub notes : printed (item kind.Merge (codes "x" ∷ codes "y" ∷ []) ∷ opens ∷ add mode.Merge (codes "y,x") None None
    ∷ publish 5 (text (codes "1") ∷ cell.Same ∷ []) ∷ publish 5 (text (codes "1") ∷ cell.Same ∷ []) ∷ enqueue 5 ∷ (λ w. does w (step.Enqueue 0 1 2) 1) ∷ take 9
    ∷ [])
    ≡ codes "c:REQOK,3\n-no 1\n-repeated 5\n-moved 1\n-uptodate\n-noslot\n" ++ opening
    ++ codes "c:SUBOK,1,1,2\nc:CONF,1,unlimited,filtered\nc:U,1,1,#|1\n-idle\n"
unfolding digits
notes = refl

-- a value that the text form of a line escapes, published before the subscription and after it
pub escaped : printed (item kind.Merge (codes "x" ∷ []) ∷ publish 1 (text (codes "A") ∷ []) ∷ opens ∷ add mode.Merge (codes "x") None None ∷ enqueue 1
    ∷ publish 2 (text (codes "#") ∷ []) ∷ enqueue 1 ∷ take 9 ∷ [])
    ≡ codes "-no 1\nc:REQOK,4\n-uptodate\n-no 2\n-moved 2\n" ++ opening ++ codes "c:SUBOK,1,1,1\nc:CONF,1,unlimited,filtered\nc:U,1,1,%23\n-idle\n"
unfolding digits
escaped = refl

-- a buffer of size 2 tells the first of three events with the second
abbrev fields_abc : List (List ℕ)
fields_abc = codes "a" ∷ codes "b" ∷ codes "c" ∷ []

pub merge_of_two : printed (item kind.Merge fields_abc ∷ opens ∷ add mode.Merge (codes "a,b,c") None (Some (codes "2"))
    ∷ publish 1 (text (codes "1") ∷ cell.Same ∷ cell.Same ∷ []) ∷ publish 2 (cell.Same ∷ text (codes "2") ∷ cell.Same ∷ [])
    ∷ publish 3 (cell.Same ∷ cell.Same ∷ text (codes "3") ∷ []) ∷ enqueue 3 ∷ take 9 ∷ [])
    ≡ codes "c:REQOK,3\n-no 1\n-no 2\n-no 3\n-moved 1\n-moved 2\n-moved 3\n" ++ opening
    ++ codes "c:SUBOK,1,1,3\nc:CONF,1,unlimited,filtered\nc:U,1,1,1|2|#\nc:U,1,1,||3\n-idle\n"
unfolding digits
merge_of_two = refl

-- a snapshot behind a Clear, and one of an item without events
pub merge_cleared : printed (item kind.Merge (codes "x" ∷ []) ∷ publish 1 (text (codes "1") ∷ []) ∷ clear 2 ∷ opens
    ∷ add mode.Merge (codes "x") (Some (codes "true")) None ∷ take 9 ∷ [])
    ≡ codes "-no 1\n-no 2\nc:REQOK,5\n" ++ opening ++ codes "c:SUBOK,1,1,1\nc:CONF,1,unlimited,filtered\nc:U,1,1,#\n-idle\n"
unfolding digits
merge_cleared = refl

pub merge_no_events : printed (item kind.Merge (codes "x" ∷ []) ∷ opens ∷ add mode.Merge (codes "x") (Some (codes "true")) None ∷ take 9 ∷ [])
    ≡ codes "c:REQOK,3\n" ++ opening ++ codes "c:SUBOK,1,1,1\nc:CONF,1,unlimited,filtered\n-idle\n"
unfolding digits
merge_no_events = refl

-- a snapshot is the item's state when the slot joins, and without one nothing of it is told
abbrev update : Entry
update = record { adapter = 1; seq = 1; event = Update (text (codes "A") ∷ []) }

abbrev one_field : Wanted
one_field = record { places = 0 ∷ []; snapshot = None }

abbrev with_snapshot : Wanted
with_snapshot = record { places = 0 ∷ []; snapshot = Some 1 }

abbrev merge_plan : Plan
merge_plan = plan_of (record { kind = kind.Merge; fields = 1; key = 0; command = 0 }) (update ∷ []) mode.Merge 1

abbrev row_a : Came
row_a = record { what = Row (value.Text (codes "A") ∷ []); before = 0; upto = 1; at = 1 }

pub merge_snapshot : (turn (update ∷ []) with_snapshot (joined merge_plan (update ∷ []) (Some 1)) []).came ≡ Some row_a
merge_snapshot = refl

pub merge_without : (turn (update ∷ []) one_field (joined merge_plan (update ∷ []) None) []).came ≡ None
merge_without = refl

-- so it isn't lawful that a snapshot doesn't come, and neither is a line of that state without one
pub snapshot_comes : LawfulMerge (update ∷ []) with_snapshot (fresh merge_plan 1) [] → ⊥
snapshot_comes l = (let x : 1 < 1 = l.waits refl (omega arith, omega arith) in omega arith)

pub nothing_earlier : IsMergeLine merge_plan one_field (update ∷ []) row_a → ⊥
nothing_earlier l = (let x : 1 < 1 = l.since in omega arith)

-- mode RAW tells each update, an equal row in an empty list of fields
pub raw_twice : printed (item kind.Merge (codes "x" ∷ []) ∷ opens ∷ add mode.Raw (codes "x") None None ∷ publish 1 (text (codes "1") ∷ [])
    ∷ publish 2 (text (codes "1") ∷ []) ∷ enqueue 2 ∷ take 9 ∷ [])
    ≡ codes "c:REQOK,3\n-no 1\n-no 2\n-moved 1\n-moved 2\n" ++ opening ++ codes "c:SUBOK,1,1,1\nc:CONF,1,unlimited,unfiltered\nc:U,1,1,1\nc:U,1,1,\n-idle\n"
unfolding digits
raw_twice = refl

-- behind 300 updates the first 44 are with_line_read, and the next one is told
abbrev raw_behind : Slot
raw_behind = record (joined (plan_of (record { kind = kind.Merge; fields = 1; key = 0; command = 0 }) [] mode.Raw 1) [] None) { last = 300 }

pub raw_lost : (turn (replicate 300 update) one_field raw_behind []).came ≡ Some (record { what = Lost 44; before = 0; upto = 44; at = 300 })
raw_lost = refl

pub raw_next : (turn (replicate 300 update) one_field (passed raw_behind (taken.Lost 44 44)) []).came
    ≡ Some (record { what = Row (value.Text (codes "A") ∷ []); before = 44; upto = 45; at = 300 })
raw_next = refl

-- mode DISTINCT: a buffer of size 2 keeps the last two of five
abbrev message : ℕ → List ℕ → World → Stepped
message seq t = publish seq (text t ∷ [])

pub distinct_of_two : printed (item kind.Distinct (codes "m" ∷ []) ∷ opens ∷ add mode.Distinct (codes "m") None (Some (codes "2")) ∷ message 1 (codes "1")
    ∷ message 2 (codes "2") ∷ message 3 (codes "3") ∷ message 4 (codes "4") ∷ message 5 (codes "5") ∷ enqueue 5 ∷ take 9 ∷ [])
    ≡ codes "c:REQOK,3\n-no 1\n-no 2\n-no 3\n-no 4\n-no 5\n-moved 1\n-moved 2\n-moved 3\n-moved 4\n-moved 5\n" ++ opening
    ++ codes "c:SUBOK,1,1,1\nc:CONF,1,unlimited,filtered\nc:U,1,1,4\nc:U,1,1,5\n-idle\n"
unfolding digits
distinct_of_two = refl

-- a snapshot of one row, its end, and a Clear
pub distinct_snapshot : printed (item kind.Distinct (codes "m" ∷ []) ∷ message 1 (codes "1") ∷ message 2 (codes "2") ∷ opens
    ∷ add mode.Distinct (codes "m") (Some (codes "1")) None ∷ clear 3 ∷ message 4 (codes "4") ∷ take 7 ∷ enqueue 2 ∷ take 9 ∷ [])
    ≡ codes "-no 1\n-no 2\nc:REQOK,5\n-no 3\n-no 4\n" ++ opening ++ codes "c:SUBOK,1,1,1\nc:CONF,1,unlimited,filtered\nc:U,1,1,2\nc:EOS,1,1\n-moved 3\n-moved"
    ++ codes " 4\nc:CS,1,1\nc:U,1,1,4\n-idle\n"
unfolding digits
distinct_snapshot = refl

-- mode COMMAND: the fields key, command, qty and px
abbrev table : World → Stepped
table = item kind.Command (codes "key" ∷ codes "command" ∷ codes "qty" ∷ codes "px" ∷ [])

abbrev order : ℕ → List ℕ → List ℕ → Cell → Cell → World → Stepped
order seq key command qty px = publish seq (text key ∷ text command ∷ qty ∷ px ∷ [])

abbrev subscribe : Option (List ℕ) → World → Stepped
subscribe snapshot = add mode.Command (codes "key,command,qty,px") snapshot None

-- without a snapshot a key that was there before is added at its first touch, and then changed and deleted
pub command_rows : printed (table ∷ opens ∷ order 1 (codes "a") (codes "ADD") (text (codes "1")) (text (codes "9")) ∷ subscribe None
    ∷ order 2 (codes "a") (codes "UPDATE") (text (codes "3")) cell.Same ∷ enqueue 1 ∷ take 6
    ∷ order 3 (codes "a") (codes "UPDATE") (text (codes "4")) cell.Same ∷ enqueue 1 ∷ take 1 ∷ order 4 (codes "a") (codes "DELETE") cell.Same cell.Same
    ∷ enqueue 1 ∷ take 9 ∷ [])
    ≡ codes "-no 1\nc:REQOK,4\n-no 2\n-moved 2\n" ++ opening ++ codes "c:SUBCMD,1,1,4,1,2\nc:CONF,1,unlimited,filtered\nc:U,1,1,a|ADD|3|9\n-no 3\n-moved"
    ++ codes " 3\nc:U,1,1,|UPDATE|4|\n-no 4\n-moved 4\nc:U,1,1,|DELETE|#|#\n-idle\n"
unfolding digits
command_rows = refl

-- a key that comes and goes between two turns makes no line
pub command_silent : printed (table ∷ opens ∷ subscribe None ∷ order 1 (codes "k") (codes "ADD") (text (codes "5")) cell.Same
    ∷ order 2 (codes "k") (codes "DELETE") cell.Same cell.Same ∷ enqueue 2 ∷ take 9
    ∷ order 3 (codes "k") (codes "ADD") (text (codes "7")) cell.Same ∷ enqueue 1 ∷ take 9 ∷ [])
    ≡ codes "c:REQOK,3\n-no 1\n-no 2\n-moved 1\n-moved 2\n" ++ opening ++ codes "c:SUBCMD,1,1,4,1,2\nc:CONF,1,unlimited,filtered\n-idle\n-no 3\n-moved"
    ++ codes " 3\nc:U,1,1,k|ADD|7|#\n-idle\n"
unfolding digits
command_silent = refl

-- a Clear drops a snapshot, whose keys else come in the order of their bytes
pub command_cleared : printed (table ∷ opens ∷ order 1 (codes "a") (codes "ADD") cell.Same cell.Same ∷ order 2 (codes "b") (codes "ADD") cell.Same cell.Same
    ∷ subscribe (Some (codes "true")) ∷ clear 3
    ∷ order 4 (codes "b") (codes "ADD") (text (codes "9")) cell.Same ∷ enqueue 2 ∷ take 9 ∷ [])
    ≡ codes "-no 1\n-no 2\nc:REQOK,5\n-no 3\n-no 4\n-moved 3\n-moved 4\n" ++ opening
    ++ codes "c:SUBCMD,1,1,4,1,2\nc:CONF,1,unlimited,filtered\nc:EOS,1,1\nc:CS,1,1\nc:U,1,1,b|ADD|9|#\n-idle\n"
unfolding digits
command_cleared = refl

pub command_snapshot : printed (table ∷ opens ∷ order 1 (codes "b") (codes "ADD") cell.Same cell.Same ∷ order 2 (codes "a") (codes "ADD") cell.Same cell.Same
    ∷ subscribe (Some (codes "true")) ∷ take 9 ∷ [])
    ≡ codes "-no 1\n-no 2\nc:REQOK,5\n" ++ opening
    ++ codes "c:SUBCMD,1,1,4,1,2\nc:CONF,1,unlimited,filtered\nc:U,1,1,a|ADD|#|#\nc:U,1,1,b|^3\nc:EOS,1,1\n-idle\n"
unfolding digits
command_snapshot = refl

-- why an update of a table is refused
pub command_refusals : printed (table ∷ publish 9 (cell.Same ∷ text (codes "ADD") ∷ cell.Same ∷ cell.Same ∷ [])
    ∷ order 9 (codes "k") (codes "GO") cell.Same cell.Same ∷ order 9 (codes "k") (codes "UPDATE") cell.Same cell.Same
    ∷ order 9 (codes "k") (codes "UPDATE") cell.Same cell.Same ∷ [])
    ≡ codes "-nokey\n-badcommand\n-no 1\n-repeated 9\n"
unfolding digits
command_refusals = refl

-- requests

abbrev says : List ℕ → List ℕ → Pair
says name t = parameter name t

-- a session and a subscription by requests, of an adapter set that was named
abbrev create : List Pair → World → Stepped
create ps = request (codes "create_session") ps

pub by_requests : printed ((λ w. does w (step.Set (codes "A")) 1) ∷ item kind.Merge (codes "x" ∷ codes "y" ∷ []) ∷ conn
    ∷ create (says (codes "LS_adapter_set") (codes "B") ∷ []) ∷ create (says (codes "LS_adapter_set") (codes "A")
    ∷ says (codes "LS_keepalive_millis") (codes "900") ∷ [])
    ∷ request (codes "control") (says (codes "LS_reqId") (codes "r") ∷ says (codes "LS_session") (codes "S1") ∷ says (codes "LS_op") (codes "add")
    ∷ says (codes "LS_subId") (codes "4") ∷ says (codes "LS_mode") (codes "MERGE")
    ∷ says (codes "LS_group") (codes "q") ∷ says (codes "LS_schema") (codes "y x") ∷ says (codes "LS_snapshot") (codes "true") ∷ []) ∷ take 9 ∷ [])
    ≡ codes "c:CONERR,2,Unknown adapter"
    ++ codes " set\nc:REQOK,r\nc:CONOK,S1,50000,1000,*\nc:SERVNAME,tlcpd\nc:CONS,unlimited\nc:SUBOK,4,1,2\nc:CONF,4,unlimited,filtered\n-idle\n"
unfolding digits
by_requests = refl

-- requests that are malformed, by their names
pub malformed : printed (conn ∷ request (codes "nonsense") [] ∷ request (codes "wsok") [] ∷ request (codes "control") (says (codes "LS_reqId") (codes "7") ∷ [])
    ∷ create (says (codes "LS_polling") (codes "true") ∷ []) ∷ take 1 ∷ enqueue 1 ∷ [])
    ≡ codes "c:ERROR,65,Malformed request\nc:WSOK\nc:REQERR,7,65,Malformed request\nc:CONERR,65,Malformed request\n-none\n-noslot\n"
unfolding digits
malformed = refl

-- the codes that refuse an add: no session, an unknown item, an unknown field, a mode that isn't the item's, and a number in use
abbrev add_of : List ℕ → List ℕ → Mode → World → Stepped
add_of items fields m w = asks (record { sub = codes "1"; items = items; fields = fields; mode = m; snapshot = None; buffer = None; frequency = None }) w

pub refusals : printed (item kind.Merge (codes "x" ∷ []) ∷ conn ∷ add_of (codes "q") (codes "x") mode.Merge ∷ create []
    ∷ add_of (codes "ghost") (codes "x") mode.Merge ∷ add_of (codes "q") (codes "z") mode.Merge ∷ add_of (codes "q") (codes "x") mode.Distinct
    ∷ add_of (codes "q") (codes "x") mode.Merge ∷ add_of (codes "q") (codes "x") mode.Merge ∷ [])
    ≡ codes "c:REQERR,3,20,Unknown session\nc:REQERR,5,21,Bad group\nc:REQERR,6,23,Bad schema\nc:REQERR,7,24,Mode not"
    ++ codes " allowed\nc:REQOK,8\nc:REQERR,9,72,Subscription id in use\n"
unfolding digits
refusals = refl

-- in mode COMMAND a schema shows the key and the command
pub without_key : printed (table ∷ opens ∷ add_of (codes "q") (codes "key,qty") mode.Command ∷ []) ≡ codes "c:REQERR,3,23,Bad schema\n"
unfolding digits
without_key = refl

-- a subscription ends: none of its updates is told any more, its number is free, and a number without one is unknown
abbrev operates_on : List ℕ → List Pair → World → Stepped
operates_on word more =
    request (codes "control") (says (codes "LS_reqId") (codes "r") ∷ says (codes "LS_session") (codes "S1") ∷ says (codes "LS_op") word ∷ more)

abbrev unsubscribe : World → Stepped
unsubscribe = operates_on (codes "delete") (says (codes "LS_subId") (codes "1") ∷ [])

pub unsubscribed : printed (item kind.Merge (codes "x" ∷ []) ∷ opens ∷ add mode.Merge (codes "x") None None ∷ take 9 ∷ publish 1 (text (codes "A") ∷ [])
    ∷ enqueue 1 ∷ unsubscribe ∷ unsubscribe ∷ enqueue 1 ∷ take 9 ∷ add mode.Merge (codes "x") None None ∷ [])
    ≡ codes "c:REQOK,3\n" ++ opening ++ codes "c:SUBOK,1,1,1\nc:CONF,1,unlimited,filtered\n-idle\n-no 1\n-moved 1\nc:REQOK,r\n"
    ++ codes "c:REQERR,r,19,Unknown subscription\n-noslot\nc:UNSUB,1\n-idle\nc:REQOK,11\n"
unfolding digits
unsubscribed = refl

-- a session ends: END is given once, and requests know it no more
pub ends : printed (item kind.Merge (codes "x" ∷ []) ∷ opens ∷ add mode.Merge (codes "x") None None ∷ take 1 ∷ operates_on (codes "destroy") [] ∷ take 9
    ∷ take 1 ∷ operates_on (codes "destroy") [] ∷ [])
    ≡ codes "c:REQOK,3\nc:CONOK,S1,50000,5000,*\nc:REQOK,r\nc:END,31,Destroyed by request\n-ended 31\n-ended 31\nc:REQERR,r,20,Unknown session\n"
unfolding digits
ends = refl

-- frequencies and bandwidths

-- `tick MS`, and an add line with a frequency
abbrev tick : ℕ → World → Stepped
tick ms w = does w (step.Tick ms) 1

abbrev add_at : Mode → List ℕ → World → Stepped
add_at m frequency w =
    asks (record { sub = codes "1"; items = codes "q"; fields = codes "x"; mode = m; snapshot = None; buffer = None; frequency = Some frequency }) w

-- two updates a second: the second one comes 500 ms behind the first
pub by_frequency : printed (item kind.Merge (codes "x" ∷ []) ∷ opens ∷ add_at mode.Merge (codes "2.0") ∷ message 1 (codes "A") ∷ enqueue 1 ∷ take 9
    ∷ tick 499 ∷ message 2 (codes "B") ∷ enqueue 1 ∷ take 9 ∷ tick 500 ∷ take 9 ∷ [])
    ≡ codes "c:REQOK,3\n-no 1\n-moved 1\n" ++ opening ++ codes "c:SUBOK,1,1,1\nc:CONF,1,2.0,filtered\nc:U,1,1,A\n-idle\n"
    ++ codes "-no 2\n-moved 2\n-notdue 500\nc:U,1,1,B\n-idle\n"
unfolding digits
by_frequency = refl

-- between them each turn merges what came: the update of the later turn has both changes
pub merged_meanwhile : printed (item kind.Merge (codes "x" ∷ []) ∷ opens ∷ add_at mode.Merge (codes "2.0") ∷ message 1 (codes "A") ∷ enqueue 1 ∷ take 9
    ∷ message 2 (codes "B") ∷ enqueue 1 ∷ take 9 ∷ message 3 (codes "C") ∷ enqueue 1 ∷ tick 500 ∷ take 9 ∷ [])
    ≡ codes "c:REQOK,3\n-no 1\n-moved 1\n" ++ opening ++ codes "c:SUBOK,1,1,1\nc:CONF,1,2.0,filtered\nc:U,1,1,A\n-idle\n"
    ++ codes "-no 2\n-moved 2\n-notdue 500\n-no 3\n-moved 3\nc:U,1,1,C\n-idle\n"
unfolding digits
merged_meanwhile = refl

-- 0.08 kbit per s, which is 80 bits: two updates of 9 bytes, with CR LF, leave a debt of 64 bits, which is gone at tick 800
abbrev opens_at : List ℕ → World → Stepped
opens_at bandwidth = create (says (codes "LS_requested_max_bandwidth") bandwidth ∷ [])

abbrev three_values : List (World → Stepped)
three_values = message 1 (codes "A") ∷ message 2 (codes "B") ∷ message 3 (codes "C") ∷ enqueue 3 ∷ []

pub by_bandwidth : printed (item kind.Merge (codes "x" ∷ []) ∷ conn ∷ opens_at (codes "0.08") ∷ add mode.Raw (codes "x") None None
    ∷ (three_values ++ take 9 ∷ tick 800 ∷ take 9 ∷ tick 801 ∷ take 9 ∷ []))
    ≡ codes "c:REQOK,4\n-no 1\n-no 2\n-no 3\n-moved 1\n-moved 2\n-moved 3\nc:CONOK,S1,50000,5000,*\nc:SERVNAME,tlcpd\nc:CONS,0.08\n"
    ++ codes "c:SUBOK,1,1,1\nc:CONF,1,unlimited,unfiltered\nc:U,1,1,A\nc:U,1,1,B\n-notdue 801\n-notdue 801\nc:U,1,1,C\n-idle\n"
unfolding digits
by_bandwidth = refl

-- a constrain: CONS comes before the numbered lines, and the credit is the greatest one again
abbrev constrain : List ℕ → World → Stepped
constrain bandwidth = operates_on (codes "constrain") (says (codes "LS_requested_max_bandwidth") bandwidth ∷ [])

pub constrained : printed (item kind.Merge (codes "x" ∷ []) ∷ opens ∷ add mode.Raw (codes "x") None None ∷ take 3 ∷ constrain (codes "0.08")
    ∷ (three_values ++ take 9 ∷ constrain (codes "0.080") ∷ take 9 ∷ []))
    ≡ codes "c:REQOK,3\n" ++ opening ++ codes "c:REQOK,r\n-no 1\n-no 2\n-no 3\n-moved 1\n-moved 2\n-moved 3\nc:CONS,0.08\nc:SUBOK,1,1,1\n"
    ++ codes "c:CONF,1,unlimited,unfiltered\nc:U,1,1,A\nc:U,1,1,B\n-notdue 801\nc:REQOK,r\nc:CONS,0.08\nc:U,1,1,C\n-idle\n"
unfolding digits
constrained = refl

-- a reconf numbers CONF, and the tick of the last update stays
abbrev reconf : List ℕ → World → Stepped
reconf frequency = operates_on (codes "reconf") (says (codes "LS_subId") (codes "1") ∷ says (codes "LS_requested_max_frequency") frequency ∷ [])

pub reconfigured : printed (item kind.Merge (codes "x" ∷ []) ∷ opens ∷ reconf (codes "2") ∷ add mode.Merge (codes "x") None None ∷ message 1 (codes "A")
    ∷ enqueue 1 ∷ take 9 ∷ reconf (codes "0.5") ∷ message 2 (codes "B") ∷ enqueue 1 ∷ take 9 ∷ reconf (codes "unlimited") ∷ take 9 ∷ [])
    ≡ codes "c:REQERR,r,19,Unknown subscription\nc:REQOK,4\n-no 1\n-moved 1\n" ++ opening
    ++ codes "c:SUBOK,1,1,1\nc:CONF,1,unlimited,filtered\nc:U,1,1,A\n-idle\nc:REQOK,r\n-no 2\n-moved 2\nc:CONF,1,0.5,filtered\n-notdue 2000\n"
    ++ codes "c:REQOK,r\nc:CONF,1,unlimited,filtered\nc:U,1,1,B\n-idle\n"
unfolding digits
reconfigured = refl

-- mode RAW has no frequency
pub raw_reconfigured : printed (item kind.Merge (codes "x" ∷ []) ∷ opens ∷ add_at mode.Raw (codes "2.0") ∷ reconf (codes "0.5")
    ∷ (three_values ++ take 10 ∷ []))
    ≡ codes "c:REQOK,3\nc:REQOK,r\n-no 1\n-no 2\n-no 3\n-moved 1\n-moved 2\n-moved 3\n" ++ opening
    ++ codes "c:SUBOK,1,1,1\nc:CONF,1,unlimited,unfiltered\nc:CONF,1,unlimited,unfiltered\nc:U,1,1,A\nc:U,1,1,B\nc:U,1,1,C\n-idle\n"
unfolding digits
raw_reconfigured = refl

-- lost streams and recovery

-- on the connection of a place: `lose`, `take`, a bind_session and a force_rebind
abbrev loses : ℕ → World → Stepped
loses connection w = does w (step.Lose connection) 1

abbrev takes : ℕ → ℕ → World → Stepped
takes connection times w = does w (step.Take connection) times

abbrev binds : ℕ → List Pair → World → Stepped
binds connection more w = requests w connection (link_of w connection) (codes "bind_session") (Some (says (codes "LS_session") (codes "S1") ∷ more))

abbrev counting : List ℕ → List Pair
counting count = says (codes "LS_recovery_from") count ∷ []

abbrev second_conn : World → Stepped
second_conn w = does w (step.Conn (codes "d") link.Ws) 1

abbrev other_opening : List ℕ
other_opening = codes "d:CONOK,S1,50000,5000,*\nd:SERVNAME,tlcpd\nd:CONS,unlimited\n"

-- a client that has the first line of three binds with its count on another connection; the first one is superseded
abbrev lossy : List (World → Stepped)
lossy =
    item kind.Merge (codes "x" ∷ []) ∷ opens ∷ add mode.Merge (codes "x") None None ∷ take 4 ∷ publish 1 (text (codes "A") ∷ []) ∷ enqueue 1
    ∷ loses 0 ∷ take 1 ∷ second_conn ∷ binds 1 (counting (codes "1")) ∷ takes 1 9 ∷ []

pub recovered : printed (lossy ++ take 1 ∷ loses 0 ∷ [])
    ≡ codes "c:REQOK,3\n" ++ opening ++ codes "c:SUBOK,1,1,1\n-no 1\n-moved 1\n-lost\n-unbound\n" ++ other_opening
    ++ codes "d:PROG,1\nd:CONF,1,unlimited,filtered\nd:U,1,1,A\n-idle\n-superseded 2\n-superseded 2\n"
unfolding digits
recovered = refl

-- a bind without a count goes on behind the last line; a count past it, and a session that isn't there, are refused
pub refused_binds : printed_from (after empty lossy) (loses 1 ∷ binds 1 [] ∷ takes 1 9 ∷ binds 1 (counting (codes "4"))
    ∷ (λ w. requests w 1 link.Ws (codes "bind_session") (Some (says (codes "LS_session") (codes "S2") ∷ []))) ∷ [])
    ≡ codes "-lost\n" ++ other_opening ++ codes "-idle\nd:CONERR,4,Recovery not possible\nd:CONERR,20,Unknown session\n"
unfolding digits
refused_binds = refl

-- so the client of both streams holds the three lines
abbrev streams_had : List Had
streams_had = record { stream = record { from = 0; given = 1 ∷ []; bytes = 68; content = None; forced = false }; came = 1 }
    ∷ record { stream = record { from = 1; given = 3 ∷ 2 ∷ []; bytes = 99; content = None; forced = false }; came = 2 } ∷ []

pub had_streams : map (λ (s : Session). s.streams) (after empty lossy).sessions ≡ reverse (map (λ (had : Had). had.stream) streams_had) ∷ []
unfolding digits
had_streams = refl

pub held_lines : held [] streams_had ≡ 1 ∷ 2 ∷ 3 ∷ []
held_lines = refl

pub with_its_count : BindsWithItsCount [] streams_had
with_its_count = (refl, (refl, tt))

-- LOOP by a force_rebind, before lines that wait, and by a content length of 68 bytes, which SUBOK reaches
pub forced : printed (item kind.Merge (codes "x" ∷ []) ∷ opens ∷ add mode.Merge (codes "x") None None ∷ operates_on (codes "force_rebind") [] ∷ take 9
    ∷ take 1 ∷ [])
    ≡ codes "c:REQOK,3\nc:REQOK,r\n" ++ opening ++ codes "c:LOOP,0\n-unbound\n-unbound\n"
unfolding digits
forced = refl

pub over : printed_from
    (let w = after empty (item kind.Merge (codes "x" ∷ []) ∷ opens ∷ []) in record w { sessions = opened 1 5000 None (Some 68) ∷ [] })
    (add mode.Merge (codes "x") None None ∷ take 9 ∷ [])
    ≡ codes "c:REQOK,3\n" ++ opening ++ codes "c:SUBOK,1,1,1\nc:LOOP,0\n-unbound\n"
unfolding digits
over = refl

-- a session without a stream for 30 s ends at the next tick, and is unknown then
pub timed_out : printed (item kind.Merge (codes "x" ∷ []) ∷ opens ∷ take 9 ∷ tick 5 ∷ loses 0 ∷ tick 30004 ∷ take 1 ∷ tick 30005 ∷ take 1 ∷ binds 0 [] ∷ [])
    ≡ opening ++ codes "-idle\n-lost\n-unbound\n-ended 73\nc:CONERR,20,Unknown session\n"
unfolding digits
timed_out = refl

-- two sessions: in one run the second one takes two lines, in the other its slot moves; the first one, which loses its
-- stream in the end, is told the same
abbrev step_once : Step → Repeat
step_once s = record { step = s; times = 1 }

abbrev subscribes_at : ℕ → World → Stepped
subscribes_at connection w =
    requests w connection link.Ws (codes "control")
    (Some (all_pairs w.line
    (record { sub = codes "1"; items = codes "q"; fields = codes "x"; mode = mode.Merge; snapshot = None; buffer = None; frequency = None })))

abbrev two_sessions : World
two_sessions = after empty (item kind.Merge (codes "x" ∷ []) ∷ opens ∷ (λ w. does w (step.Open (codes "d")) 1)
    ∷ (λ w. does w (step.Conn (codes "e") link.Ws) 1) ∷ subscribes_at 0 ∷ subscribes_at 1 ∷ [])

abbrev apart_steps : List RunStep
apart_steps =
    First (record { step = step.Take 1; times = 2 }) ∷ Shared (step_once (step.Publish 1 1 0 (text (codes "A") ∷ [])))
    ∷ Second (step_once (step.Enqueue 1 1 1)) ∷ Own (step_once (step.Enqueue 0 1 1)) ∷ Own (record { step = step.Take 0; times = 6 })
    ∷ Own (step_once (step.Lose 0)) ∷ []

differ : (m n : ℕ) → (m == n) ≡ false → Some m ≡ Some n → ⊥
differ m n no_same is = absurd (let e : m ≡ n = cc in let x : true ≡ false = sym (eq-eqb m n e) ∙ no_same in cc)

no_place : (n : ℕ) → None ≡ Some n → ⊥
no_place n is = cc

neither : {a b : Bool} → a ≡ false → b ≡ false → a ≡ b
neither p q = p ∙ sym q

abbrev its_connections : List ℕ
its_connections = 0 ∷ 2 ∷ []

first_in : Contains its_connections 0
first_in = (0, omega arith, refl)

pub apart : DifferElsewhere 0 its_connections two_sessions two_sessions apart_steps
unfolding digits
apart = (
  record { session = refl; apart = (differ 1 0 refl, (differ 1 2 refl, tt)) },
  record { items = refl; clock = refl },
  (
    record { session = refl; apart = (no_place 0, (no_place 2, tt)) },
    record { session = refl; apart = (no_place 0, (no_place 2, tt)) },
    record { items = refl; tick = refl },
    (
      record { session = refl; apart = (differ 1 0 refl, (differ 1 2 refl, tt)) },
      record { items = refl; clock = refl },
      (
        record { session = refl; connection = 0; is_in = first_in; on = refl; room = neither refl refl },
        (
          record { session = refl; connection = 0; is_in = first_in; on = refl; room = neither refl refl },
          (record { session = refl; connection = 0; is_in = first_in; on = refl; room = neither refl refl }, tt),
        ),
      ),
    ),
  ),
)

pub told_apart : text_of_outs (told 0 two_sessions (firsts apart_steps)) ≡ codes "-moved 1\n" ++ opening
    ++ codes "c:SUBOK,1,1,1\nc:CONF,1,unlimited,filtered\nc:U,1,1,A\n-lost\n"
unfolding digits
told_apart = refl

-- too many lines wait
abbrev with_session : (Session → Session) → World
with_session f = let w = after empty (item kind.Merge (codes "x" ∷ []) ∷ opens ∷ []) in record w { sessions = f (opened 1 5000 None None) ∷ [] }

abbrev waiting : Session → Session
waiting s = record s { board = record { lines = replicate 511 (Ends 9); round = [] } }

pub too_many_lines : printed_from (with_session waiting) (add_of (codes "q") (codes "x") mode.Merge ∷ []) ≡ codes "c:REQERR,3,70,Too many lines waiting\n"
unfolding digits
too_many_lines = refl

-- and too many subscriptions
abbrev slot_of : ℕ → LiveSlot
slot_of sub = record { sub = sub; rank = 1; item = 0; number = 1; frequency = None; wanted = one_field; slot = raw_behind }

abbrev subscribed : Session → Session
subscribed s = record s { board = record { lines = []; round = replicate 256 (slot_of 9) } }

pub too_many_subscriptions : printed_from (with_session subscribed) (add_of (codes "q") (codes "x") mode.Merge ∷ [])
    ≡ codes "c:REQERR,3,71,Too many subscriptions\n"
unfolding digits
too_many_subscriptions = refl

-- and a session whose numbered lines are spent
pub spent : (defs : List ItemDef) (free : ℕ) (s : Session) (a : Add) → is_used a.sub s.board.round ≡ false → are_too_many s 2 ≡ false
    → is_group defs a.group ≡ true → is_allowed defs a.mode (group_of defs a.group) ≡ true
    → is_schema defs a.mode (group_of defs a.group) a.schema ≡ true → is_full free s a.group ≡ false → are_spent s 2 ≡ true
    → first_code (add_refusals defs free s a) ≡ Some 74
spent defs free s a new room group allowed schema few full = rw (new, room, group, allowed, schema, few, full) refl

-- lines outside the grammar

pub undeclared_item : has_bad_line empty (lines_of true (codes "item q MERGE x\npub 1 1 ghost x=1\n")) ≡ true
undeclared_item = refl

pub unknown_field : has_bad_line empty (lines_of true (codes "item q MERGE x\npub 1 1 q z=1\n")) ≡ true
unknown_field = refl

pub no_line : has_bad_line empty (lines_of true (codes "# no line\n\nstop\n")) ≡ true
no_line = refl

pub before_no_line : done empty (lines_of true (codes "# no line\n\nstop\n")) ≡ 2
before_no_line = refl

-- a tick may come twice
pub a_tick : has_bad_line empty (lines_of true (codes "tick 5\ntick 5\n")) ≡ false
a_tick = refl

pub no_tick_back : has_bad_line empty (lines_of true (codes "tick 5\ntick 4\n")) ≡ true
no_tick_back = refl

-- lines without a step of their own compute as bytes

pub plain_lines : output_of empty (lines_of true (codes "item q MERGE x\nclear 1 1 q\nclear 1 1 q\nopen c\nenq c 1 1\ntake c 9\n"))
    ≡ codes "-no 1\n-repeated 1\n-noslot\n" ++ opening ++ codes "-idle\n"
unfolding digits
plain_lines = refl

pub no_lines : output_of empty (lines_of true []) ≡ []
no_lines = refl

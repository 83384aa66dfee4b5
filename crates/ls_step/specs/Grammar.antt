-- The lines of a script: what each asks for, by the names that the lines before it declared (this project's profile).
use Rattle.std.specs.Prelude.{ℕ, List, [], ◌∷◌, ◌++◌, length, Bool, ◌&&◌, not, ◌==◌, Option, None, Some, is_none}
use Rattle.std.specs.Prelude.{Result, Ok, Err, nat_le, nat_lt, codes, if◌then◌else◌, take, drop, slice_get, option_map}
use Rattle.std.specs.Prelude.{option_and_then}
use Rattle.std.specs.Option.{option_map_or}
use Rattle.ls_value.specs.Values.{text_eq, place_of}
use Rattle.ls_value.specs.declared.row.Cell.{Cell}
use Rattle.ls_words.specs.Numbers.{number_in}
use Rattle.ls_words.specs.Words.{Halves, divided, split_once, is_name, name_of}
use Rattle.ls_event.specs.declared.limits.TheConstants.{MOST_ADAPTERS}
use Rattle.ls_event.specs.declared.item.ItemDef.{ItemDef}
use Rattle.ls_event.specs.declared.event.Mode.{Mode}
use Rattle.ls_event.specs.declared.event.Event.{Event}
use Rattle.ls_event.specs.declared.event.Event.TheVariants.{Update, Clear as Cleared}
use Rattle.ls_event.specs.declared.event_text.EventRefused.{EventRefused}
use Rattle.ls_event.specs.EventText.{event_of}
use Rattle.ls_config.specs.Items.{item_said, may_follow, names_of}
-- an empty line and a comment, which begins with `#`, ask for nothing
pub use Rattle.ls_config.specs.Configs.{is_skipped}
use Rattle.ls_request.specs.Values.{mode_of}
use Rattle.ls_request.specs.declared.request.LinkKind.{LinkKind}
use Rattle.ls_request.specs.declared.request.LinkKind.TheVariants as link
use Rattle.ls_step.specs.declared.step.Extras.{Extras}
use Rattle.ls_step.specs.declared.limits.TheConstants.{GREATEST_IN_LINE, MOST_CONNECTIONS, MOST_TIMES}
use Rattle.ls_step.specs.declared.step.Step.{Step}
use Rattle.ls_step.specs.declared.step.Step.TheVariants as step
use Rattle.ls_step.specs.declared.step.AddWords.{AddWords}
use Rattle.ls_step.specs.declared.step.Repeat.{Repeat}

-- what the lines so far declared, each in its order, and the last tick
pub record Known : Type 0 where
  pub items : List ItemDef
  pub connections : List (List ℕ)
  pub tick : ℕ

-- before the first line nothing is declared, and the clock stands at 0
abbrev pub nothing : Known
nothing = record { items = []; connections = []; tick = 0 }

-- a number of a line, from one number on
abbrev pub number_from : ℕ → List ℕ → Option ℕ
number_from low text = number_in text low GREATEST_IN_LINE

-- how often a step is made
abbrev pub times_of : List ℕ → Option ℕ
times_of text = number_in text 1 MOST_TIMES

-- the kind of connections that a word says
abbrev pub link_of : List ℕ → Option LinkKind
link_of word = if text_eq word (codes "ws") then Some link.Ws else if text_eq word (codes "http") then Some link.Http
    else None

-- a new connection's name: fewer than may be are declared, and none has it
abbrev pub is_new : List (List ℕ) → List ℕ → Bool
is_new names name = nat_lt (length names) MOST_CONNECTIONS && is_name name && is_none (place_of names name)

-- the names of the declared items
abbrev pub item_names : Known → List (List ℕ)
item_names k = names_of k.items

-- an adapter's number
abbrev pub adapter_of : List ℕ → Option ℕ
adapter_of text = number_in text 1 MOST_ADAPTERS

-- a declared item's number, and a declared connection's
abbrev pub item_of : Known → List ℕ → Option ℕ
item_of k name = place_of (item_names k) name

abbrev pub connection_of : Known → List ℕ → Option ℕ
connection_of k name = place_of k.connections name

-- the fields of an item by its number
abbrev pub fields_of : List ItemDef → ℕ → List (List ℕ)
fields_of items n = option_map_or (λ i. i.fields) (slice_get items n) []

-- a step once, where there is one
abbrev pub once : Option Step → Option Repeat
once o = option_map (λ s. record { step = s; times = 1 }) o

-- a step so often, where there is one
abbrev pub so_often : Option Step → Option ℕ → Option Repeat
so_often o times = option_and_then (λ s. option_map (λ n. record { step = s; times = n }) times) o

-- a step under a test
abbrev pub where_holds : Bool → Step → Option Step
where_holds test s = if test then Some s else None

-- each line as the step that it asks for
abbrev pub set_line : List ℕ → Option Step
set_line name = option_map (λ n. step.Set n) (name_of name)

-- a new item under a name that no item has
abbrev pub new_item : Known → ItemDef → Option Step
new_item k i = where_holds (may_follow k.items i.name) (step.Item i.name i.kind i.fields)

abbrev pub item_line : Known → List ℕ → List ℕ → List ℕ → Option Step
item_line k name word fields = option_and_then (new_item k) (item_said name word fields)

abbrev pub tick_line : Known → List ℕ → Option Step
tick_line k ms = option_map (λ n. step.Tick n) (number_from k.tick ms)

abbrev pub conn_line : Known → List ℕ → List ℕ → Option Step
conn_line k name word = option_and_then (λ l. where_holds (is_new k.connections name) (step.Conn name l)) (link_of word)

abbrev pub open_line : Known → List ℕ → Option Step
open_line k name = where_holds (is_new k.connections name) (step.Open name)

-- the text behind a word's beginning
abbrev pub behind : List ℕ → List ℕ → Option (List ℕ)
behind begin word = if text_eq (take (length begin) word) begin then Some (drop (length begin) word) else None

-- the text behind a beginning, where the first word has it, and the words that are left
pub record FirstExtra : Type 0 where
  pub text : Option (List ℕ)
  pub rest : List (List ℕ)

-- the same by what stands behind the beginning
abbrev pub extra_in : List ℕ → List (List ℕ) → Option (List ℕ) → FirstExtra
extra_in word words None = record { text = None; rest = word ∷ words }
extra_in word words (Some t) = record { text = Some t; rest = words }

abbrev pub first_extra : List ℕ → List (List ℕ) → FirstExtra
first_extra begin [] = record { text = None; rest = [] }
first_extra begin (w ∷ words) = extra_in w words (behind begin w)

-- the texts behind `snapshot=`, `buffer=` and `frequency=`, each at most once and in this order, where no other words
-- are left
abbrev pub extras_in : FirstExtra → FirstExtra → FirstExtra → Option Extras
extras_in s b f = if nat_le (length f.rest) 0
    then Some (record { snapshot = s.text; buffer = b.text; frequency = f.text }) else None

-- the words behind an `add` line's mode
abbrev pub extras : List (List ℕ) → Option Extras
extras words =
    let s = first_extra (codes "snapshot=") words in
    let b = first_extra (codes "buffer=") s.rest in
    let f = first_extra (codes "frequency=") b.rest in
    extras_in s b f

-- whether a word isn't empty
abbrev pub is_word : List ℕ → Bool
is_word text = not (length text == 0)

-- the words of an `add` line as a step has them
abbrev pub add_words : List ℕ → List ℕ → List ℕ → Mode → Extras → AddWords
add_words sub items fields m e = record {
  sub = sub;
  items = items;
  fields = fields;
  mode = m;
  snapshot =
      e.snapshot;
  buffer = e.buffer;
  frequency = e.frequency;
}

-- the words of an `add` line: the mode is one, and the words that always stand there aren't empty
abbrev pub add_said : List ℕ → List ℕ → List ℕ → List ℕ → List (List ℕ) → Option AddWords
add_said sub items fields word words =
    option_and_then (λ m. option_and_then (λ e.
    if is_word sub && is_word items && is_word fields then Some (add_words sub items fields m e) else None)
    (extras words))
    (mode_of word)

abbrev pub add_line : Known → List ℕ → List ℕ → List ℕ → List ℕ → List ℕ → List (List ℕ) → Option Step
add_line k c sub items fields word words =
    option_and_then (λ n. option_map (λ a. step.Add n a) (add_said sub items fields word words)) (connection_of k c)

-- a request's name is a name; its parameters are the rest of the line
abbrev pub request_line : Known → List ℕ → List ℕ → List ℕ → Option Step
request_line k c name parameters = option_and_then (λ n. where_holds (is_name name) (step.Request n name parameters))
    (connection_of k c)

-- an update: `!`, which is a Clear, is outside the grammar here
abbrev pub update_in : Result Event EventRefused → Option (List Cell)
update_in (Ok (Update cells)) = Some cells
update_in (Ok Cleared) = None
update_in (Err cause) = None

abbrev pub publish_line : Known → List ℕ → List ℕ → List ℕ → List ℕ → Option Step
publish_line k adapter seq item event =
    option_and_then (λ a. option_and_then (λ s. option_and_then (λ i. option_map (λ cells. step.Publish a s i cells)
    (update_in (event_of (fields_of k.items i) event)))
    (item_of k item))
    (number_from 1 seq))
    (adapter_of adapter)

abbrev pub clear_line : Known → List ℕ → List ℕ → List ℕ → Option Step
clear_line k adapter seq item =
    option_and_then (λ a. option_and_then (λ s. option_map (λ i. step.Clear a s i) (item_of k item))
    (number_from 1 seq)) (adapter_of adapter)

abbrev pub enqueue_line : Known → List ℕ → List ℕ → List ℕ → Option Step
enqueue_line k c sub rank =
    option_and_then (λ n. option_and_then (λ s. option_map (λ r. step.Enqueue n s r) (number_from 0 rank))
    (number_from 0 sub)) (connection_of k c)

abbrev pub take_line : Known → List ℕ → Option Step
take_line k c = option_map (λ n. step.Take n) (connection_of k c)

abbrev pub lose_line : Known → List ℕ → Option Step
lose_line k c = option_map (λ n. step.Lose n) (connection_of k c)

-- whether a word is this one
abbrev pub is : List ℕ → List ℕ → Bool
is word other = text_eq word other

-- the lines of two words, of three, and so on; words are divided by single spaces, and a `req` line comes apart by
-- itself
abbrev pub two_words : Known → List ℕ → List ℕ → Option Step
two_words k w a =
    if is w (codes "set") then set_line a
    else if is w (codes "tick") then tick_line k a
    else if is w (codes "open") then open_line k a
    else if is w (codes "take") then take_line k a
    else if is w (codes "lose") then lose_line k a
    else None

abbrev pub three_words : Known → List ℕ → List ℕ → List ℕ → Option Repeat
three_words k w a b =
    if is w (codes "conn") then once (conn_line k a b)
    else if is w (codes "take") then so_often (take_line k a) (times_of b)
    else None

abbrev pub four_words : Known → List ℕ → List ℕ → List ℕ → List ℕ → Option Step
four_words k w a b c =
    if is w (codes "item") then item_line k a b c
    else if is w (codes "clear") then clear_line k a b c
    else if is w (codes "enq") then enqueue_line k a b c
    else None

abbrev pub five_words : Known → List ℕ → List ℕ → List ℕ → List ℕ → List ℕ → Option Repeat
five_words k w a b c d =
    if is w (codes "pub") then once (publish_line k a b c d)
    else if is w (codes "enq") then so_often (enqueue_line k a b c) (times_of d)
    else None

abbrev pub six_words : Known → List ℕ → List ℕ → List ℕ → List ℕ → List ℕ → List ℕ → List (List ℕ) → Option Step
six_words k w a b c d e words = if is w (codes "add") then add_line k a b c d e words else None

abbrev pub more_words : Known → List (List ℕ) → Option Step
more_words k (w ∷ a ∷ b ∷ c ∷ d ∷ e ∷ words) = six_words k w a b c d e words
more_words k words = None

abbrev pub words_of : Known → List (List ℕ) → Option Repeat
words_of k (w ∷ a ∷ []) = once (two_words k w a)
words_of k (w ∷ a ∷ b ∷ []) = three_words k w a b
words_of k (w ∷ a ∷ b ∷ c ∷ []) = once (four_words k w a b c)
words_of k (w ∷ a ∷ b ∷ c ∷ d ∷ []) = five_words k w a b c d
words_of k (w ∷ a ∷ b ∷ c ∷ d ∷ e ∷ words) = once (more_words k (w ∷ a ∷ b ∷ c ∷ d ∷ e ∷ words))
words_of k words = None

-- what stands behind `req`: a connection, a name, and the rest of the line, which may be absent
abbrev pub request_named : Known → List ℕ → List ℕ → Option Halves → Option Step
request_named k c rest None = request_line k c rest []
request_named k c rest (Some h) = request_line k c h.front h.back

-- the same by what stands behind the connection
abbrev pub request_on : Known → Option Halves → Option Step
request_on k None = None
request_on k (Some h) = request_named k h.front h.back (split_once 32 h.back)

-- what a line asks for, by what stands behind its `req `
abbrev pub asked_behind : Known → List ℕ → Option (List ℕ) → Option Repeat
asked_behind k line None = words_of k (divided 32 line)
asked_behind k line (Some rest) = once (request_on k (split_once 32 rest))

-- what a line asks for, that is neither empty nor a comment
abbrev pub line_of : Known → List ℕ → Option Repeat
line_of k line = asked_behind k line (behind (codes "req ") line)

-- what is known after a step
abbrev pub known_after : Known → Step → Known
known_after k (step.Item name kd fields) = record k {
  items =
      k.items ++ record { name = name; kind = kd; fields = fields } ∷ [];
}
known_after k (step.Tick ms) = record k { tick = ms }
known_after k (step.Conn name l) = record k { connections = k.connections ++ name ∷ [] }
known_after k (step.Open name) = record k { connections = k.connections ++ name ∷ [] }
known_after k s = k

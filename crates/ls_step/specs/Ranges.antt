-- What a step keeps to, by what was known before its line.
use Rattle.std.specs.Prelude.{◌≡◌, ℕ, ◌<◌, ◌≤◌, List, length, true, None}
use Rattle.std.specs.List.{list_all}
use Rattle.ls_value.specs.Values.{place_of, are_distinct}
use Rattle.ls_value.specs.declared.row.Cell.{Cell}
use Rattle.ls_words.specs.Words.{is_name}
use Rattle.ls_event.specs.declared.item.Kind.{Kind}
use Rattle.ls_event.specs.EventText.{is_textual}
use Rattle.ls_event.specs.declared.limits.TheConstants.{MOST_FIELDS, MOST_ADAPTERS}
use Rattle.ls_config.specs.declared.items.TheConstants.{MOST_ITEMS}
use Rattle.ls_config.specs.Items.{has_needed}
use Rattle.ls_step.specs.Grammar.{Known, item_names, fields_of}
use Rattle.ls_step.specs.declared.limits.TheConstants.{GREATEST_IN_LINE, MOST_CONNECTIONS, MOST_TIMES}
use Rattle.ls_step.specs.declared.step.Repeat.{Repeat}
use Rattle.ls_step.specs.declared.step.Step.{Step}
use Rattle.ls_step.specs.declared.step.Step.TheVariants as step

-- a new item: fewer than may be are declared, and none has its name; its fields are distinct, at least one and no more
-- than an item may have, and in COMMAND `key` and `command` are among them
pub record NewItem (k : Known) (name : List ℕ) (kind : Kind) (fields : List (List ℕ)) : Type 0 where
  pub few : length k.items < MOST_ITEMS
  pub named : is_name name ≡ true
  pub new : place_of (item_names k) name ≡ None
  pub some : 1 ≤ length fields
  pub most : length fields ≤ MOST_FIELDS
  pub field_names : list_all is_name fields ≡ true
  pub distinct : are_distinct fields ≡ true
  pub keys : has_needed kind fields ≡ true

-- a new connection: fewer than may be are declared, and none has its name
pub record NewConnection (k : Known) (name : List ℕ) : Type 0 where
  pub few : length k.connections < MOST_CONNECTIONS
  pub named : is_name name ≡ true
  pub new : place_of k.connections name ≡ None

-- a request on a declared connection
pub record NamedRequest (k : Known) (connection : ℕ) (name : List ℕ) : Type 0 where
  pub declared : connection < length k.connections
  pub named : is_name name ≡ true

-- an event of a declared item, by an adapter, whose seq is a number of a line
pub record Published (k : Known) (adapter seq item : ℕ) : Type 0 where
  pub some : 1 ≤ adapter
  pub most : adapter ≤ MOST_ADAPTERS
  pub first : 1 ≤ seq
  pub last : seq ≤ GREATEST_IN_LINE
  pub declared : item < length k.items

-- an update of a declared item: a cell for each of its fields, whose texts are UTF-8
pub record PublishedUpdate (k : Known) (adapter seq item : ℕ) (cells : List Cell) : Type 0 where
  pub published : Published k adapter seq item
  pub whole : length cells ≡ length (fields_of k.items item)
  pub textual : list_all is_textual cells ≡ true

-- a slot that is named on a declared connection
pub record NamedSlot (k : Known) (connection sub rank : ℕ) : Type 0 where
  pub declared : connection < length k.connections
  pub sub_most : sub ≤ GREATEST_IN_LINE
  pub rank_most : rank ≤ GREATEST_IN_LINE

-- a tick that isn't below the last one
pub record LaterTick (k : Known) (ms : ℕ) : Type 0 where
  pub later : k.tick ≤ ms
  pub most : ms ≤ GREATEST_IN_LINE

-- what a step keeps to
abbrev pub Fits : Known → Step → Type 0
Fits k (step.Set name) = is_name name ≡ true
Fits k (step.Item name kind fields) = NewItem k name kind fields
Fits k (step.Tick ms) = LaterTick k ms
Fits k (step.Conn name link) = NewConnection k name
Fits k (step.Open name) = NewConnection k name
Fits k (step.Add connection words) = connection < length k.connections
Fits k (step.Request connection name parameters) = NamedRequest k connection name
Fits k (step.Publish adapter seq item cells) = PublishedUpdate k adapter seq item cells
Fits k (step.Clear adapter seq item) = Published k adapter seq item
Fits k (step.Enqueue connection sub rank) = NamedSlot k connection sub rank
Fits k (step.Take connection) = connection < length k.connections
Fits k (step.Lose connection) = connection < length k.connections

-- a step that fits, at least once, and no more often than may be
pub record RepeatFits (k : Known) (r : Repeat) : Type 0 where
  pub fits : Fits k r.step
  pub some : 1 ≤ r.times
  pub most : r.times ≤ MOST_TIMES

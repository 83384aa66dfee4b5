-- The rows by key that a client of mode COMMAND keeps by what SUBCMD told it, against those of the item
-- (TLCP 2.1, SUBCMD; General Concepts, mode COMMAND).
use Rattle.std.specs.Prelude.{◌≡◌, ℕ, List, Option, None, Some, slice_get}
use Rattle.std.specs.FinMap as finite
use Rattle.ls_event.specs.declared.event.Entry.{Entry}
use Rattle.ls_event.specs.declared.event.Mode.{Mode}
use Rattle.ls_event.specs.Slots.{Slot}
use Rattle.ls_mirror.specs.declared.command.KeyPlaces.{KeyPlaces}
use Rattle.ls_mirror.specs.Client.{What}
use Rattle.ls_mirror.specs.Keys.{KeyTable}
use Rattle.ls_mirror.specs.Commands.{key_table}
use Rattle.ls_record.specs.Cutting.{Wanted}
use Rattle.ls_lawful.specs.CommandMode.{cursor_of_key, RowAgrees}
use Rattle.ls_event.specs.declared.event.Mode.TheVariants as mode

-- at a place of a schema a field of the item stands
abbrev pub StandsAt : List ℕ → ℕ → ℕ → Type 0
StandsAt schema place field = slice_get schema place ≡ Some field

-- a client's rows by key are those that the item had, each at the cursor of its key
abbrev pub KeysAgree : List Entry → Wanted → Slot → KeyTable → Type 0
KeysAgree h w s keys =
    (k : List ℕ) → RowAgrees h w s k (finite.get keys k) (cursor_of_key k s.key_cursors)

-- SUBCMD told where in the schema the item's key and command stand, and the rows by key that a client makes by it
-- of what came are the item's
pub record SubcmdKeys (h : List Entry) (w : Wanted) (s : Slot) (told : Option KeyPlaces) (ws : List What) : Type 0 where
  pub places : KeyPlaces
  pub are : told ≡ Some places
  pub key : StandsAt w.places places.key s.plan.shape.key
  pub command : StandsAt w.places places.command s.plan.shape.command
  pub rows : KeysAgree h w s (key_table told ws)

-- what SUBCMD told in mode COMMAND; in the other modes SUBOK began the subscription, and the client has no keys
abbrev pub KeysOf : Mode → List Entry → Wanted → Slot → Option KeyPlaces → List What → Type 0
KeysOf mode.Command h w s told ws = SubcmdKeys h w s told ws
KeysOf m h w s told ws = told ≡ None

-- What an update of a COMMAND item does to its key (General Concepts, mode COMMAND).
use Rattle.std.specs.Prelude.{ℕ, List, Result, Ok, Err, codes, if◌then◌else◌}
use Rattle.ls_value.specs.Values.{text_eq, cell_at}
use Rattle.ls_value.specs.declared.row.Cell.{Cell}
use Rattle.ls_value.specs.declared.row.Cell.TheVariants as cell
use Rattle.ls_event.specs.declared.orders.Order.{Order}
use Rattle.ls_event.specs.declared.orders.Order.TheVariants as order
use Rattle.ls_event.specs.declared.orders.CommandRefused.{CommandRefused}
use Rattle.ls_event.specs.declared.orders.CommandRefused.TheVariants as refused

-- the word that a command's cell has for an order
abbrev pub word_of : Order → List ℕ
word_of order.Add = codes "ADD"
word_of order.Update = codes "UPDATE"
word_of order.Delete = codes "DELETE"

-- the order that a word says, and no other word does
abbrev pub order_said : List ℕ → Result Order CommandRefused
order_said word =
    if text_eq word (word_of order.Add) then Ok order.Add
    else if text_eq word (word_of order.Update) then Ok order.Update
    else if text_eq word (word_of order.Delete) then Ok order.Delete
    else Err refused.BadCommand

-- the order of the key's and the command's cells; without a key there is none
abbrev pub order_with : Cell → Cell → Result Order CommandRefused
order_with cell.Same command = Err refused.NoKey
order_with cell.Null command = Err refused.NoKey
order_with (cell.Text key) cell.Same = Err refused.BadCommand
order_with (cell.Text key) cell.Null = Err refused.BadCommand
order_with (cell.Text key) (cell.Text word) = order_said word

-- the order that cells say, with the places of the key and of the command
abbrev pub order_of : List Cell → ℕ → ℕ → Result Order CommandRefused
order_of cells key command = order_with (cell_at cells key) (cell_at cells command)

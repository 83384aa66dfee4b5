-- What contracts see of a session to which a subscription is added (TLCP 2.1, control with LS_op add).
use Rattle.std.specs.Prelude.{◌≡◌, ◌≤◌, ℕ, ◌||◌, List, [], Bool, Option}
use Rattle.atomic_table.specs.Seated.{TableId}
use Rattle.ls_event.specs.declared.item.ItemDef.{ItemDef}
use Rattle.ls_request.specs.declared.request.Add.{Add}
use Rattle.ls_record.specs.Records.{Session}
use Rattle.ls_register.specs.Places.{Placed}
use Rattle.ls_register.specs.declared.begun.SlotBegun.{SlotBegun}
use Rattle.ls_register.specs.declared.told.Told.{Told}
use Rattle.ls_told.specs.Seen.{Watched}
use Rattle.ls_told.specs.Keeping.{KeepsTold}
use Rattle.ls_told.specs.Requests.{op_code, is_spent}
use Rattle.ls_request.specs.declared.request.Op.TheVariants as op
pub use Rattle.ls_joining.specs.Adding.{AddsTo}

-- what contracts see of it: the session as before, the request, how many slots the server may still give, the items that
-- are asked for, in order, and how many of them have a slot by now
pub record AddingSeen : Type 0 where
  pub number : ℕ
  pub place : Option Placed
  pub table : TableId
  pub lines : List Told
  pub watches : List Watched
  pub add : Add
  pub free : ℕ
  pub items : List ℕ
  pub joined : ℕ

-- what an add is refused for, or not, by what is told of the session, where the server may give so many slots, and its
-- register is spent or not
pub record FindsAdd (config : List ItemDef) (number : ℕ) (es : List Told) (ws : List Watched) (free : ℕ) (spent : Bool) (a : Add)
    (code : Option ℕ) : Type 0 where
  pub session : Session
  pub told : KeepsTold config number es ws session
  pub code_is : op_code config free (is_spent es || spent) session (op.Add a) ≡ code

-- what the line is to say with which a subscription of so many items begins: its schema is there, none of its slots is, and
-- there is room for them
pub record MayBegin (a : Add) (items : ℕ) (schema : List (List ℕ)) (slots : List SlotBegun) (count room : ℕ) : Type 0 where
  pub schema_is : schema ≡ a.schema
  pub none : slots ≡ []
  pub empty : count ≡ 0
  pub enough : items ≤ room

-- A session to which a subscription is added, while its slots join their items one after another (TLCP 2.1, control with
-- LS_op add).
use Rattle.std.specs.Prelude.{◌≡◌, ◌⊎◌, ℕ, ◌+◌, List, [], ◌∷◌, ◌++◌, length, map, false, None}
use mathlib.Core.List.{IsPrefix}
use Rattle.ls_value.specs.Each.{Each}
use Rattle.ls_event.specs.declared.item.ItemDef.{ItemDef}
use Rattle.ls_event.specs.Joining.{plan_of, joined, rows_asked}
use Rattle.ls_request.specs.declared.request.Add.{Add}
use Rattle.ls_request.specs.Ranges.{AddFits}
use Rattle.ls_record.specs.Acting.{asks_of}
use Rattle.ls_record.specs.Cutting.{Ask}
use Rattle.ls_record.specs.Lines.{Begins, Configures, line_text}
use Rattle.ls_record.specs.Records.{Session, frequency_of, are_filtered, change, shape_in}
use Rattle.ls_live.specs.Live.{HeldItem}
use Rattle.ls_register.specs.Begun.{BegunSeen}
use Rattle.ls_register.specs.declared.begun.SlotBegun.{SlotBegun}
use Rattle.ls_register.specs.declared.told.Told.{Told}
use Rattle.ls_seated.specs.Seats.{SeatSeen, IsAt, planned_at, first_cursor}
use Rattle.ls_subs.specs.declared.plan.AddPlan.{AddPlan}
use Rattle.ls_subs.specs.declared.plan.PlanItem.{PlanItem}
use Rattle.ls_subs.specs.Plans.{IsPlan, MayJoin, keys_of_asks}
use Rattle.ls_session.specs.Record.{Record, adding_code}
use Rattle.ls_session.specs.Session.{IsReady}
use Rattle.ls_session.specs.declared.session.Session.{Session as Kept}
use Rattle.ls_told.specs.Joining.{joins_as}
use Rattle.ls_told.specs.Seen.{Watched, items_seen, IsWatched, FitsWatch, showing}
use Rattle.ls_told.specs.Keeping.{KeepsTold}
use Rattle.ls_told.specs.Requests.{op_code, is_spent, plain, begins_with, slots_in, AreAsked, AreBegunFor}
use Rattle.ls_request.specs.declared.request.Op.TheVariants as op
use Rattle.ls_parts.specs.Sights.{IsFirst}
use Rattle.ls_parts.specs.Groups.{SubSeen}
use Rattle.ls_parts.specs.Lives.{IsSeatOf, LivesAs}

-- a subscription was added at a tick: nothing stood against it, SUBOK or SUBCMD and CONF were numbered, and it began with a
-- slot for each item that it asks for
pub record AddsTo (config : List ItemDef) (number : ℕ) (a : Add) (free tick : ℕ) (before es : List Told) (ws : List Watched) : Type 0 where
  pub begun : BegunSeen
  pub schema : begun.schema ≡ a.schema
  pub begins : AreBegunFor ws (asks_of config a) begun.slots
  pub lines : es
      ≡ before
      ++ begins_with (line_text [] (Begins a.sub (length (asks_of config a)) (length a.schema) (keys_of_asks config (asks_of config a)))) begun tick
      ∷ plain (line_text [] (Configures a.sub (frequency_of (asks_of config a)) (are_filtered (asks_of config a)))) tick
      ∷ []
  pub earlier : Session
  pub was : KeepsTold config number before ws earlier
  pub none : op_code config free false earlier (op.Add a) ≡ None
  pub session : Session
  pub told : KeepsTold config number es ws session
  pub slots : AreAsked config ws a.sub 1 (asks_of config a) (slots_in a.sub session)

-- a seat is of the slot that joined as is asked of an item, which is watched
pub record SitsAs (config : List ItemDef) (ws : List Watched) (sub rank : ℕ) (a : Ask) (t : SeatSeen) : Type 0 where
  pub of : IsSeatOf config ws t (joins_as (items_seen config ws) sub rank a t.number)
  pub watched : IsWatched ws a.item
  pub asked : rows_asked t.plan.snapshot ≡ a.wanted.snapshot

-- so are seats, of the first ones that are asked for, in order
abbrev pub AreSitting : List ItemDef → List Watched → ℕ → ℕ → List Ask → List SeatSeen → Type 0
AreSitting config ws sub rank asks [] = Unit {0}
AreSitting config ws sub rank [] (t ∷ ts) = ⊥
AreSitting config ws sub rank (a ∷ asks) (t ∷ ts) =
    SitsAs config ws sub rank a t × AreSitting config ws sub (rank + 1) asks ts

-- what is told of the slot of a seat as its subscription begins
abbrev pub slot_begun : SeatSeen → SlotBegun
slot_begun t =
    record { item = t.item; mode = t.plan.mode; size = t.plan.size; snapshot = t.plan.snapshot; base = t.plan.base }

-- what is kept while the slots of a subscription join is right: the session stands for a record to which the subscription
-- may be added, as a plan says that the session is ready for, and the seats are of the slots that have joined
pub record IsAdding (config : List ItemDef) (number : ℕ) (es : List Told) (ws : List Watched) (subs : List SubSeen) (k : Kept) (a : Add)
    (free : ℕ) (plan : AddPlan) (seats : List SeatSeen) (numbers : List ℕ) (r : Record) : Type 0 where
  pub lives : LivesAs config number es ws subs k r
  pub ready : IsReady k plan
  pub plan_is : IsPlan config a plan
  pub may : Each (MayJoin config) plan.items.items
  pub fits : AddFits a
  pub none : adding_code config free r.session a ≡ None
  pub left : is_spent es ≡ false
  pub sitting : AreSitting config ws a.sub 1 (asks_of config a) seats
  pub numbers_are : numbers ≡ map (λ (t : SeatSeen). t.number) seats

-- more watches are the same, or one more stands behind them, of which no more is seen than may be
pub record AddsWatch (config : List ItemDef) (old new : List Watched) : Type 0 where
  pub adds : (new ≡ old) ⊎ ((w : Watched) × (new ≡ old ++ w ∷ []) × FitsWatch config w)

-- a slot joined an item as a plan's item asks, of which the whole history was seen then
pub record JoinsNow (config : List ItemDef) (old new : List Watched) (k sub rank : ℕ) (i : HeldItem) (p : PlanItem) (t : SeatSeen) : Type 0 where
  pub first : IsFirst old k p.item i
  pub new_is : new ≡ change k (showing i.history) old
  pub more : IsPrefix first.watch.list i.history
  pub fits : FitsWatch config (showing i.history first.watch)
  pub shape : i.shape ≡ shape_in config p.item
  pub sub_is : t.sub ≡ sub
  pub rank_is : t.rank ≡ rank
  pub item_is : t.item ≡ p.item
  pub list : t.list ≡ []
  pub last : t.last ≡ length i.history
  pub quiet : t.quiet ≡ false
  pub plan : t.plan ≡ planned_at p.mode p.n p.snapshot (length i.history)
  pub cursor : t.cursor ≡ first_cursor p.mode (length i.history) (rows_asked p.snapshot)
  pub at : IsAt i.shape i.history t.plan []
      (joined (plan_of i.shape i.history p.mode p.n) i.history (rows_asked p.snapshot))

-- a slot of the next item of a plan joined, behind a watch that there was or that was begun
pub record JoinsOne (config : List ItemDef) (old new : List Watched) (sub : ℕ) (seats seats' : List SeatSeen) (numbers numbers' : List ℕ)
    (i : HeldItem) (p : PlanItem) : Type 0 where
  pub watches : List Watched
  pub adds : AddsWatch config old watches
  pub seat : SeatSeen
  pub place : ℕ
  pub seats_are : seats' ≡ seats ++ seat ∷ []
  pub numbers_are : numbers' ≡ numbers ++ seat.number ∷ []
  pub now : JoinsNow config watches new place sub (length seats) i p seat

-- none did
pub record JoinsNone (config : List ItemDef) (old new : List Watched) (seats seats' : List SeatSeen) (numbers numbers' : List ℕ) : Type 0 where
  pub adds : AddsWatch config old new
  pub seats_are : seats' ≡ seats
  pub numbers_are : numbers' ≡ numbers

-- Causes in their order.
use Rattle.std.proofs.Common.{◌≡◌, ℕ, List, max, sum_by, refl, arith, subst, Option, None, Some}
use Rattle.std.specs.Option.{option_or}
use Rattle.ls_value.specs.Values.{weight_of, weight_of_cell}
use Rattle.ls_value.specs.declared.row.Cell.{Cell}
use Rattle.ls_event.specs.declared.event.Event.{Event}
use Rattle.ls_event.specs.declared.event.Event.TheVariants.{Update, Clear}
use Rattle.ls_event.specs.declared.snapshot.Snapshot.{Snapshot}
use Rattle.ls_event.specs.Shapes.{Shape}
use Rattle.ls_event.specs.Updates.{own_row}
use Rattle.ls_event.specs.States.{push_refusal, order_refusal, weight_refusal, weight_made, row_made, keys_refusal}
use Rattle.ls_item.specs.Items.{kept_of}
use Rattle.ls_item.specs.declared.item.AnyState.{AnyState}
use Rattle.ls_item.specs.declared.item.AnyState.TheVariants as any
use Rattle.ls_item.proofs.RowWeights.{own_row_weight}

pub or_none : {A : Type 0} (o : Option A) → option_or o None ≡ o
or_none None = refl
or_none (Some a) = refl

-- where nothing stands against an event, it adds no key to as many as there may be
last_none : {A : Type 0} (a b c : Option A) → option_or a (option_or b c) ≡ None → c ≡ None
last_none None None c none = none
last_none None (Some x) c none = cc
last_none (Some x) b c none = cc

pub few_of : (p : Shape) (s : Snapshot) (e u : Event) → e ≡ u → push_refusal p s e ≡ None → keys_refusal p s u ≡ None
few_of p s e u is none =
    subst (λ (x : Event). keys_refusal p s x ≡ None) is (last_none (order_refusal p s e)
    (weight_refusal (weight_made e (row_made p s e))) (keys_refusal p s e) none)

-- an update and its own row
pub own_weight : (cells : List Cell) → max (sum_by weight_of_cell cells) (weight_of (own_row cells))
    ≡ sum_by weight_of_cell cells
own_weight cells = omega (arith, own_row_weight cells)

-- where nothing stands against an event, nothing does wherever a key and a command that no event names would stand
pub admitted_anywhere : (key command : ℕ) (s : AnyState) (e : Event)
    → push_refusal (kept_of key command s).shape (kept_of key command s).state e ≡ None
    → push_refusal (kept_of 0 0 s).shape (kept_of 0 0 s).state e ≡ None
admitted_anywhere key command (any.Merge row) e none = none
admitted_anywhere key command (any.Distinct s) (Update cells) none = none
admitted_anywhere key command (any.Distinct s) Clear none = none
admitted_anywhere key command (any.Command t) e none = none

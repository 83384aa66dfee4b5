-- Slots that join the items of a new subscription, and that leave (TLCP 2.1, control; General Concepts, subscriptions).
use Rattle.std.specs.Prelude.{◌≡◌, ℕ, ◌<◌, List, [], ◌∷◌, ◌++◌, length, drop}
use Rattle.ls_event.specs.Joining.{plan_of, joined, rows_asked}
use Rattle.ls_event.specs.declared.limits.TheConstants.{MOST_SLOTS}
use Rattle.ls_record.specs.Records.{Item, LiveSlot, definitions, shape_at, history_of}
use Rattle.ls_cells.specs.Cells.{free_in}
use Rattle.ls_subs.specs.declared.plan.PlanItem.{PlanItem}
use Rattle.ls_subs.specs.Plans.{MayJoin}

-- a slot that an item of a plan joins by, where these are live
pub record Joins (items : List Item) (lives : List LiveSlot) (p : PlanItem) (v : LiveSlot) : Type 0 where
  pub item : v.item ≡ p.item
  pub may : MayJoin (definitions items) p
  pub room : length lives < MOST_SLOTS
  pub number : v.number ≡ free_in lives p.item
  pub slot : v.slot ≡ joined (plan_of (shape_at items p.item) (history_of items p.item) p.mode p.n)
      (history_of items p.item) (rows_asked p.snapshot)

-- the slots by which the items of a plan join, each after those before it
abbrev pub JoinInOrder : List Item → List LiveSlot → List LiveSlot → List PlanItem → List LiveSlot → Type 0
JoinInOrder items a b [] [] = Unit {0}
JoinInOrder items a b [] (v ∷ vs) = ⊥
JoinInOrder items a b (p ∷ ps) [] = ⊥
JoinInOrder items a b (p ∷ ps) (v ∷ vs) = Joins items (a ++ b) p v × JoinInOrder items (a ++ v ∷ []) b ps vs

-- a slot joined an item by a number
pub record JoinedAs (stands : List Item → List LiveSlot → Type 0) (items : List Item) (lives : List LiveSlot) (at n : ℕ) : Type 0 where
  pub live : LiveSlot
  pub item : live.item ≡ at
  pub number : live.number ≡ n
  pub slots : stands items (live ∷ lives)

-- slots leave one after another, each from among those that are left
abbrev pub Leave : List LiveSlot → List LiveSlot → List LiveSlot → Type 0
Leave [] lives left = lives ≡ left
Leave (v ∷ vs) lives left = (a : List LiveSlot) × (b : List LiveSlot) × (lives ≡ a ++ v ∷ b) × Leave vs (a ++ b) left

-- of these slots the first ones left
pub record LeftSoFar (stands : List Item → List LiveSlot → Type 0) (items : List Item) (vs left : List LiveSlot) (from : ℕ) : Type 0 where
  pub lives : List LiveSlot
  pub slots : stands items lives
  pub rest : Leave (drop from vs) lives left

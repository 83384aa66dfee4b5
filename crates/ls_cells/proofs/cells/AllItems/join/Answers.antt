use Rattle.std.proofs.Common.{subst, ◌≡◌, ◌<◌, ◌≤◌, ◌++◌, ◌∷◌, List, Some, IfOk, IsSome, length, true}
use Rattle.ls_event.specs.declared.limits.TheConstants.{MOST_BUFFER_SIZE, MOST_SLOTS}
use Rattle.ls_event.specs.Joining.{plan_of, rows_asked, joined, is_mode_of}
use Rattle.ls_record.specs.Records.{Item, LiveSlot, history_of, shape_at}
use Rattle.ls_cells.specs.Cells.{AllCells, StandsCells, MayJoin, free_in}
use Rattle.ls_cells.proofs.cells.AllItems.join.Goals as goal

pub returns-clause-joined : goal.returns-clause-joined
returns-clause-joined c =
    subst (λ (k : AllCells). IfOk c.join_in.result (λ number. (items : List Item) (a b : List LiveSlot) (v : LiveSlot)
    → StandsCells k items (a ++ b) → v.item ≡ c.args.item → c.args.item < length items
    → is_mode_of c.args.mode (shape_at items c.args.item).kind ≡ true → 0 < c.args.n → c.args.n ≤ MOST_BUFFER_SIZE
    → length (a ++ b) < MOST_SLOTS → v.number ≡ free_in (a ++ b) c.args.item
    → v.slot ≡ joined (plan_of (shape_at items c.args.item) (history_of items c.args.item) c.args.mode c.args.n)
    (history_of items c.args.item) (rows_asked c.args.snapshot)
    → (number ≡ Some v.number) × StandsCells (record { cells = c.join_in.new.cells.items; live = c.join_in.new.live }) items (a ++ v ∷ b)))
    c.self.view_is c.join_in.ensures.joined

pub returns-clause-may : goal.returns-clause-may
returns-clause-may c =
    subst (λ (k : AllCells). IfOk c.join_in.result (λ number. (items : List Item) (lives : List LiveSlot) → StandsCells k items lives
    → IsSome number → MayJoin items lives c.args.item c.args.mode c.args.n)) c.self.view_is c.join_in.ensures.may

use Rattle.std.proofs.Common.{◌≡◌, ◌≢◌, ℕ, ◌++◌, ◌∷◌, [], IfOk, OnOk, None, subst}
use mathlib.Core.List.{IsPrefix}
use Rattle.ls_cell.specs.Numbered.{slot_at}
use Rattle.ls_register.specs.declared.made.Made.TheVariants.{Slot}
use Rattle.ls_seated.specs.Seats.{SeatedItem}
use Rattle.ls_seated.proofs.Ready.{seat_joined, others_joined, free_joined}
use Rattle.ls_seated.proofs.seated.Seated.join.Goals as goal

pub returns-clause-of : goal.returns-clause-of
returns-clause-of g c =
    let said = c.join_in.ensures in
    seat_joined c.join_in.result c.join_in.new.live c.self.inside.sides.items c.join_in.new.sides.items said.number said.sides

pub returns-clause-others : goal.returns-clause-others
returns-clause-others g c =
    let said = c.join_in.ensures in
    subst (λ (x : SeatedItem). IfOk c.join_in.result (λ t. (k : ℕ) → k ≢ t.number
    → slot_at c.join_in.new.sides.items k ≡ slot_at x.sides k)) c.self.view_is
    (others_joined c.join_in.result c.self.inside.sides.items c.join_in.new.sides.items said.number said.sides)

pub returns-clause-free : goal.returns-clause-free
returns-clause-free g c =
    subst (λ (x : SeatedItem). IfOk c.join_in.result (λ t. slot_at x.sides t.number ≡ None)) c.self.view_is
    (free_joined c.join_in.result c.self.inside.sides.items c.join_in.ensures.number)

pub returns-clause-book : goal.returns-clause-book
returns-clause-book g c =
    subst (λ (x : SeatedItem). IfOk c.join_in.result
    (λ t. c.join_in.new.book ≡ c.args.book.now ++ Slot x.item.item t.number t.table ∷ [])) c.self.view_is
    c.join_in.ensures.book

pub returns-clause-begins : goal.returns-clause-begins
returns-clause-begins g c =
    subst (λ (x : SeatedItem). OnOk c.join_in.result (IsPrefix c.args.watch.now.list x.item.history)) c.self.view_is c.join_in.ensures.begins

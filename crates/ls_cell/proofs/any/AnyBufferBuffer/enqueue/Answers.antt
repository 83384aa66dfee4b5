use Rattle.std.proofs.Common.{◌≡◌, ◌+◌, ℕ, List, Result, Ok, Err, OnOk, OnErr, ap, sym, subst}
use Rattle.ls_event.specs.declared.event.Entry.{Entry}
use Rattle.ls_event.specs.declared.event.Event.{Event}
use Rattle.ls_event.specs.History.{HasFields, RowFits}
use Rattle.ls_event.specs.Slots.{Slot, IsNext, enqueued}
use Rattle.ls_cell.specs.Any.{StandsAny, HasAnyFields, AnyAdmits, any_last}
use Rattle.ls_cell.specs.declared.any.AnyBuffer.TheVariants as any
use Rattle.ls_cell.proofs.any.AnyBufferBuffer.enqueue.Goals as goal

same_err : {A B X Y : Type 0} (f : X → Y) (r : Result A B) (x y : X) → OnErr r (x ≡ y) → OnErr r (f x ≡ f y)
same_err f (Ok a) x y same = tt
same_err f (Err b) x y same = ap f same

pub returns-in-Raw-clause-last : goal.returns-in-Raw-clause-last
returns-in-Raw-clause-last c =
    subst (λ b. OnOk c.enqueue.result (any_last (any.Raw c.enqueue.new.self) ≡ any_last b + 1))
    (sym c.in-Raw.is) c.enqueue.ensures.last

pub returns-in-Raw-clause-fields : goal.returns-in-Raw-clause-fields
returns-in-Raw-clause-fields c =
    subst (λ b. OnOk c.enqueue.result ((n : ℕ) → HasAnyFields b n → HasFields n c.args.event.now.event
    → RowFits n c.args.event.now.after → HasAnyFields (any.Raw c.enqueue.new.self) n))
    (sym c.in-Raw.is) c.enqueue.ensures.fields

pub returns-in-Raw-clause-admits : goal.returns-in-Raw-clause-admits
returns-in-Raw-clause-admits c =
    subst (λ b. OnOk c.enqueue.result ((e : Event) → AnyAdmits b e → AnyAdmits (any.Raw c.enqueue.new.self) e))
    (sym c.in-Raw.is) c.enqueue.ensures.admits

pub returns-in-Raw-clause-stands : goal.returns-in-Raw-clause-stands
returns-in-Raw-clause-stands c =
    subst (λ b. OnOk c.enqueue.result ((s : Slot) (h : List Entry) → StandsAny b s h → IsNext s h c.args.event.now
    → StandsAny (any.Raw c.enqueue.new.self) (enqueued s) h))
    (sym c.in-Raw.is) c.enqueue.ensures.stands

pub returns-in-Raw-clause-err : goal.returns-in-Raw-clause-err
returns-in-Raw-clause-err c =
    subst (λ b. OnErr c.enqueue.result (any.Raw c.enqueue.new.self ≡ b))
    (sym c.in-Raw.is) (same_err any.Raw c.enqueue.result c.enqueue.new.self c.in-Raw.buffer c.enqueue.ensures.err)

pub returns-in-Merge-clause-last : goal.returns-in-Merge-clause-last
returns-in-Merge-clause-last c =
    subst (λ b. OnOk c.enqueue-in-Merge.result (any_last (any.Merge c.enqueue-in-Merge.new.self) ≡ any_last b + 1))
    (sym c.in-Merge.is) c.enqueue-in-Merge.ensures.last

pub returns-in-Merge-clause-fields : goal.returns-in-Merge-clause-fields
returns-in-Merge-clause-fields c =
    subst (λ b. OnOk c.enqueue-in-Merge.result ((n : ℕ) → HasAnyFields b n → HasFields n c.args.event.now.event
    → RowFits n c.args.event.now.after → HasAnyFields (any.Merge c.enqueue-in-Merge.new.self) n))
    (sym c.in-Merge.is) c.enqueue-in-Merge.ensures.fields

pub returns-in-Merge-clause-admits : goal.returns-in-Merge-clause-admits
returns-in-Merge-clause-admits c =
    subst (λ b. OnOk c.enqueue-in-Merge.result ((e : Event) → AnyAdmits b e → AnyAdmits (any.Merge c.enqueue-in-Merge.new.self) e))
    (sym c.in-Merge.is) c.enqueue-in-Merge.ensures.admits

pub returns-in-Merge-clause-stands : goal.returns-in-Merge-clause-stands
returns-in-Merge-clause-stands c =
    subst (λ b. OnOk c.enqueue-in-Merge.result ((s : Slot) (h : List Entry) → StandsAny b s h → IsNext s h c.args.event.now
    → StandsAny (any.Merge c.enqueue-in-Merge.new.self) (enqueued s) h))
    (sym c.in-Merge.is) c.enqueue-in-Merge.ensures.stands

pub returns-in-Merge-clause-err : goal.returns-in-Merge-clause-err
returns-in-Merge-clause-err c =
    subst (λ b. OnErr c.enqueue-in-Merge.result (any.Merge c.enqueue-in-Merge.new.self ≡ b))
    (sym c.in-Merge.is) (same_err any.Merge c.enqueue-in-Merge.result c.enqueue-in-Merge.new.self c.in-Merge.buffer c.enqueue-in-Merge.ensures.err)

pub returns-in-Distinct-clause-last : goal.returns-in-Distinct-clause-last
returns-in-Distinct-clause-last c =
    subst (λ b. OnOk c.enqueue-in-Distinct.result (any_last (any.Distinct c.enqueue-in-Distinct.new.self) ≡ any_last b + 1))
    (sym c.in-Distinct.is) c.enqueue-in-Distinct.ensures.last

pub returns-in-Distinct-clause-fields : goal.returns-in-Distinct-clause-fields
returns-in-Distinct-clause-fields c =
    subst (λ b. OnOk c.enqueue-in-Distinct.result ((n : ℕ) → HasAnyFields b n → HasFields n c.args.event.now.event
    → RowFits n c.args.event.now.after → HasAnyFields (any.Distinct c.enqueue-in-Distinct.new.self) n))
    (sym c.in-Distinct.is) c.enqueue-in-Distinct.ensures.fields

pub returns-in-Distinct-clause-admits : goal.returns-in-Distinct-clause-admits
returns-in-Distinct-clause-admits c =
    subst (λ b. OnOk c.enqueue-in-Distinct.result ((e : Event) → AnyAdmits b e → AnyAdmits (any.Distinct c.enqueue-in-Distinct.new.self) e))
    (sym c.in-Distinct.is) c.enqueue-in-Distinct.ensures.admits

pub returns-in-Distinct-clause-stands : goal.returns-in-Distinct-clause-stands
returns-in-Distinct-clause-stands c =
    subst (λ b. OnOk c.enqueue-in-Distinct.result ((s : Slot) (h : List Entry) → StandsAny b s h → IsNext s h c.args.event.now
    → StandsAny (any.Distinct c.enqueue-in-Distinct.new.self) (enqueued s) h))
    (sym c.in-Distinct.is) c.enqueue-in-Distinct.ensures.stands

pub returns-in-Distinct-clause-err : goal.returns-in-Distinct-clause-err
returns-in-Distinct-clause-err c =
    subst (λ b. OnErr c.enqueue-in-Distinct.result (any.Distinct c.enqueue-in-Distinct.new.self ≡ b))
    (sym c.in-Distinct.is) (same_err any.Distinct c.enqueue-in-Distinct.result c.enqueue-in-Distinct.new.self c.in-Distinct.buffer c.enqueue-in-Distinct.ensures.err)

pub returns-in-Command-clause-last : goal.returns-in-Command-clause-last
returns-in-Command-clause-last c =
    subst (λ b. OnOk c.enqueue-in-Command.result (any_last (any.Command c.enqueue-in-Command.new.self) ≡ any_last b + 1))
    (sym c.in-Command.is) c.enqueue-in-Command.ensures.last

pub returns-in-Command-clause-fields : goal.returns-in-Command-clause-fields
returns-in-Command-clause-fields c =
    subst (λ b. OnOk c.enqueue-in-Command.result ((n : ℕ) → HasAnyFields b n → HasFields n c.args.event.now.event
    → RowFits n c.args.event.now.after → HasAnyFields (any.Command c.enqueue-in-Command.new.self) n))
    (sym c.in-Command.is) c.enqueue-in-Command.ensures.fields

pub returns-in-Command-clause-admits : goal.returns-in-Command-clause-admits
returns-in-Command-clause-admits c =
    subst (λ b. OnOk c.enqueue-in-Command.result ((e : Event) → AnyAdmits b e → AnyAdmits (any.Command c.enqueue-in-Command.new.self) e))
    (sym c.in-Command.is) c.enqueue-in-Command.ensures.admits

pub returns-in-Command-clause-stands : goal.returns-in-Command-clause-stands
returns-in-Command-clause-stands c =
    subst (λ b. OnOk c.enqueue-in-Command.result ((s : Slot) (h : List Entry) → StandsAny b s h → IsNext s h c.args.event.now
    → StandsAny (any.Command c.enqueue-in-Command.new.self) (enqueued s) h))
    (sym c.in-Command.is) c.enqueue-in-Command.ensures.stands

pub returns-in-Command-clause-err : goal.returns-in-Command-clause-err
returns-in-Command-clause-err c =
    subst (λ b. OnErr c.enqueue-in-Command.result (any.Command c.enqueue-in-Command.new.self ≡ b))
    (sym c.in-Command.is) (same_err any.Command c.enqueue-in-Command.result c.enqueue-in-Command.new.self c.in-Command.buffer c.enqueue-in-Command.ensures.err)

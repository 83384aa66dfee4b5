use Rattle.std.proofs.Common.{subst, sym, arith, ◌∙◌, ap, cond, ◌+◌, ◌≡◌, length}
use Rattle.ls_event.proofs.Conditions.{below, not_below}
use Rattle.ls_cell.specs.Numbered.{slot_at}
use Rattle.ls_cell.specs.Standing.{last_at}
use Rattle.ls_cell.specs.Cell.{Held, StandsCell, HasSlot, next_last, last_in}
use Rattle.ls_cell.specs.declared.cell.Enqueued.TheVariants as answer
use Rattle.ls_cell.proofs.Recorded.{recorded}
use Rattle.ls_cell.proofs.Sound.{sound_slots, near_at, taken_next}
use Rattle.ls_cell.proofs.CellStands.{stands_same, stands_enqueued, moved_last}
use Rattle.ls_cell.proofs.cell.ItemCell.enqueue.Goals as goal

pub returns-then-last-self-clause-answered : goal.returns-then-last-self-clause-answered
returns-then-last-self-clause-answered c = λ ss h s st is.
    let held = subst (λ v. StandsCell v ss h) (sym c.self.view_is) st in
    let t = recorded _ ss h c.args.slot s held is in
    sym (ap (λ v. cond v (answer.Moved (s.last + 1)) answer.UpToDate)
    (not_below s.last (length h) (omega (arith, c.if-last-self.true, c.last-last.ensures, t.last, held.number))))

pub returns-then-last-self-clause-stands : goal.returns-then-last-self-clause-stands
returns-then-last-self-clause-stands c = λ ss h s st is.
    let held = subst (λ v. StandsCell v ss h) (sym c.self.view_is) st in
    let t = recorded _ ss h c.args.slot s held is in
    stands_same _ ss h s c.args.slot st is
    (omega (arith, c.if-last-self.true, c.last-last.ensures, t.last, held.number))

pub overflow_sub-index-2 : goal.overflow_sub-index-2
overflow_sub-index-2 c =
    let live = subst (λ v. HasSlot v c.args.slot) (sym c.self.view_is) c.requires in
    omega (
      arith,
      (near_at _ c.args.slot c.self.invariant live).near,
      c.last-last.ensures,
      c.len.ensures,
      c.self.inside.tail.ok.0,
    )

pub index-requires : goal.index-requires
index-requires c =
    let live = subst (λ v. HasSlot v c.args.slot) (sym c.self.view_is) c.requires in
    omega (
      arith,
      (near_at _ c.args.slot c.self.invariant live).near,
      c.if-last-self.false,
      c.last-last.ensures,
      c.len.ensures,
      c.self.inside.tail.ok.0,
      c.self.invariant.within,
    )

pub enqueue-requires-clause-next : goal.enqueue-requires-clause-next
enqueue-requires-clause-next c =
    let live = subst (λ v. HasSlot v c.args.slot) (sym c.self.view_is) c.requires in
    (taken_next _ c.args.slot _ c.index.result.now c.self.invariant live
    (omega (arith, c.if-last-self.false, c.last-last.ensures))
    (omega (arith, c.last-last.ensures, c.len.ensures, c.self.inside.tail.ok.0)) c.index.ensures).no

pub enqueue-requires-clause-few : goal.enqueue-requires-clause-few
enqueue-requires-clause-few c =
    let live = subst (λ v. HasSlot v c.args.slot) (sym c.self.view_is) c.requires in
    omega (
      arith,
      c.self.invariant.in_range,
      (taken_next _ c.args.slot _ c.index.result.now c.self.invariant live
          (omega (arith, c.if-last-self.false, c.last-last.ensures))
          (omega (arith, c.last-last.ensures, c.len.ensures, c.self.inside.tail.ok.0)) c.index.ensures).low,
    )

pub enqueue-requires-clause-admits : goal.enqueue-requires-clause-admits
enqueue-requires-clause-admits c =
    let live = subst (λ v. HasSlot v c.args.slot) (sym c.self.view_is) c.requires in
    (taken_next _ c.args.slot _ c.index.result.now c.self.invariant live
    (omega (arith, c.if-last-self.false, c.last-last.ensures))
    (omega (arith, c.last-last.ensures, c.len.ensures, c.self.inside.tail.ok.0)) c.index.ensures).admits

pub invariant_of-self-2 : goal.invariant_of-self-2
invariant_of-self-2 c =
    let live = subst (λ v. HasSlot v c.args.slot) (sym c.self.view_is) c.requires in
    let x = taken_next _ c.args.slot _ c.index.result.now c.self.invariant live
    (omega (arith, c.if-last-self.false, c.last-last.ensures))
    (omega (arith, c.last-last.ensures, c.len.ensures, c.self.inside.tail.ok.0)) c.index.ensures in
    sound_slots _ c.enqueue.new.self c.self.invariant (c.in_ok-enqueue.ensures.sound _ _ _ x.low x.fields x.after
    c.self.invariant.slots)

pub returns-clause-answered : goal.returns-clause-answered
returns-clause-answered c = λ ss h s st is.
    let held = subst (λ v. StandsCell v ss h) (sym c.self.view_is) st in
    let t = recorded _ ss h c.args.slot s held is in
    let last : c.last-last.result ≡ s.last = c.last-last.ensures ∙ t.last in
    ap (λ n. answer.Moved (n + 1)) last
    ∙ sym (ap (λ v. cond v (answer.Moved (s.last + 1)) answer.UpToDate)
    (below s.last (length h) (omega (arith, c.if-last-self.false, last, held.number))))

pub returns-clause-last : goal.returns-clause-last
returns-clause-last c =
    let live = subst (λ v. HasSlot v c.args.slot) (sym c.self.view_is) c.requires in
    let x = taken_next _ c.args.slot _ c.index.result.now c.self.invariant live
    (omega (arith, c.if-last-self.false, c.last-last.ensures))
    (omega (arith, c.last-last.ensures, c.len.ensures, c.self.inside.tail.ok.0)) c.index.ensures in
    subst (λ (v : Held). last_at (slot_at c.enqueue.new.self c.args.slot) ≡ next_last v.number (last_in v c.args.slot))
    c.self.view_is
    (moved_last _ _ _ (omega (arith, c.if-last-self.false, c.last-last.ensures)) (c.in_ok-enqueue.ensures.last ∙ x.no))

pub returns-clause-stands : goal.returns-clause-stands
returns-clause-stands c = λ ss h s st is.
    let held = subst (λ v. StandsCell v ss h) (sym c.self.view_is) st in
    stands_enqueued _ c.enqueue.new.self ss h s c.args.slot _ c.index.result.now held is
    (omega (arith, c.if-last-self.false, c.last-last.ensures))
    (omega (arith, c.last-last.ensures, c.len.ensures, c.self.inside.tail.ok.0)) c.index.ensures
    c.in_ok-enqueue.ensures.stands

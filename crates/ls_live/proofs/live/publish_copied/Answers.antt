use Rattle.std.proofs.Common.{◌≡◌, ◌++◌, ◌∷◌, [], List, sym, ◌∙◌, ap, subst, IfSome, IfOk, IfErr, length, None}
use mathlib.Core.List.{IsPrefix}
use Rattle.std.specs.Arc.{arc_value}
use Rattle.ls_event.specs.declared.event.Entry.{Entry}
use Rattle.ls_event.specs.History.{HasFields}
use Rattle.ls_event.specs.Publishes.{IsHistory}
use Rattle.ls_event.specs.Shapes.{Shape}
use Rattle.ls_event.specs.Textual.{Textual}
use Rattle.ls_register.specs.Items.{ShowsItem}
use Rattle.atomic_table.specs.Seated.{TableId}
use Rattle.ls_live.specs.Live.{HeldItem, Pass, KeepsSlots, IsCause, cause_in, entry_of, shape_kept}
use Rattle.ls_live.proofs.Keeping.{stands_kept, stands_lawful}
use Rattle.ls_live.proofs.live.publish_copied.Goals as goal

pub add_copied-requires-clause-adapter : goal.add_copied-requires-clause-adapter
add_copied-requires-clause-adapter g c = c.pass.invariant.1

pub add_copied-requires-clause-fields : goal.add_copied-requires-clause-fields
add_copied-requires-clause-fields g c =
    subst (λ (x : HeldItem). HasFields x.shape.fields c.args.event) (sym c.item.view_is) c.requires.fields

pub add_copied-requires-clause-writer : goal.add_copied-requires-clause-writer
add_copied-requires-clause-writer g c = c.item.invariant.0 ∙ sym c.deref.ensures

pub add_copied-requires-clause-reader : goal.add_copied-requires-clause-reader
add_copied-requires-clause-reader g c =
    ap (λ (x : Pass). x.table) c.pass.view_is
    ∙ (c.requires.of.table ∙ (sym (ap (λ (x : HeldItem). x.table) c.item.view_is) ∙ sym c.deref.ensures))

pub add_copied-requires-clause-stands : goal.add_copied-requires-clause-stands
add_copied-requires-clause-stands g c = c.item.invariant.2

pub add_copied-requires-clause-copy : goal.add_copied-requires-clause-copy
add_copied-requires-clause-copy g c =
    subst (λ (x : Pass). IfOk c.args.entry.now (λ e. e ≡ entry_of x.adapter c.args.seq c.args.event)) (sym c.pass.view_is)
    c.requires.copy

pub invariant_of-item : goal.invariant_of-item
invariant_of-item g c =
    let i = c.item.inside in
    let inv = c.item.invariant in
    let said = c.add_copied.ensures in (
      said.table ∙ inv.0,
      inv.1 ∙ sym said.shape,
      stands_kept i.cell i.writer.list c.add_copied.new.cell c.add_copied.new.writer.list said.slots inv.2,
      subst (λ (p : Shape). IfSome i.place (λ q. ShowsItem g.N.House.deed.config q i.item p (arc_value i.chron))) (sym said.shape) inv.3,
      said.textual inv.4,
    )

pub invariant_of-pass : goal.invariant_of-pass
invariant_of-pass g c =
    let p = c.pass.inside in
    let said = c.add_copied.ensures in
    let same : c.add_copied.new.reader.table ≡ p.reader.table = ap (λ t. t.table) said.reader
    ∙ (said.table ∙ (c.item.invariant.0 ∙ (ap (λ (x : HeldItem). x.table) c.item.view_is
    ∙ (sym c.requires.of.table ∙ sym (ap (λ (x : Pass). x.table) c.pass.view_is))))) in (
      c.pass.invariant.0,
      c.pass.invariant.1,
      subst (λ (t : TableId). IfSome p.place (λ q. ShowsItem g.N.House.deed.config q p.item (shape_kept p.shape) t))
          (sym same) c.pass.invariant.2,
      subst Textual (sym (ap (λ t. t.list) said.reader)) (said.textual c.item.invariant.4),
      subst (λ (x : Shape × List Entry). IsHistory x.0 x.1)
          (λ k. (
            (ap (λ (x : HeldItem). x.shape) c.item.view_is
                ∙ (sym c.requires.of.shape ∙ sym (ap (λ (x : Pass). x.shape) c.pass.view_is))) k,
            (sym (ap (λ t. t.list) said.reader)) k,
          ))
          (subst (λ (q : Shape). IsHistory q c.add_copied.new.writer.list) said.shape
          (stands_lawful c.add_copied.new.cell c.add_copied.new.writer.list
          (stands_kept c.item.inside.cell c.item.inside.writer.list c.add_copied.new.cell c.add_copied.new.writer.list
          said.slots c.item.invariant.2))),
    )

pub returns-clause-item : goal.returns-clause-item
returns-clause-item g c =
    let shape = c.add_copied.ensures.shape ∙ ap (λ (x : HeldItem). x.shape) c.item.view_is in λ k. record {
      item = (c.item.view_is k).item;
      place = (c.item.view_is k).place;
      cell = c.add_copied.new.cell;
      table = (c.item.view_is k).table;
      shape = shape k;
      history = c.add_copied.new.writer.list;
    }

pub returns-clause-slots : goal.returns-clause-slots
returns-clause-slots g c =
    subst (λ (x : HeldItem). KeepsSlots x.cell x.history c.add_copied.new.cell c.add_copied.new.writer.list) c.item.view_is
    c.add_copied.ensures.slots

pub returns-clause-pass : goal.returns-clause-pass
returns-clause-pass g c =
    let said = c.add_copied.ensures in
    let same = ap (λ t. t.table) said.reader
    ∙ (said.table ∙ (c.item.invariant.0 ∙ (ap (λ (x : HeldItem). x.table) c.item.view_is ∙ sym c.requires.of.table))) in λ k. record {
      adapter = (c.pass.view_is k).adapter;
      item = (c.pass.view_is k).item;
      place = (c.pass.view_is k).place;
      table = same k;
      shape = (c.pass.view_is k).shape;
      list = (said.reader k).list;
    }

pub returns-clause-begins : goal.returns-clause-begins
returns-clause-begins g c =
    subst (λ (x : HeldItem × Pass). IsPrefix x.1.list x.0.history) (λ k. (c.item.view_is k, c.pass.view_is k))
    c.add_copied.ensures.begins

pub returns-clause-done : goal.returns-clause-done
returns-clause-done g c =
    let list = c.add_copied.new.writer.list in
    subst (λ (x : HeldItem × Pass). IfOk c.add_copied.result (λ number.
    (list ≡ x.0.history ++ entry_of x.1.adapter c.args.seq c.args.event ∷ []) × (number ≡ length list)))
    (λ k. (c.item.view_is k, c.pass.view_is k)) c.add_copied.ensures.done

pub returns-clause-admitted : goal.returns-clause-admitted
returns-clause-admitted g c =
    subst (λ (x : HeldItem × Pass). IfOk c.add_copied.result (λ _.
    cause_in x.0.shape x.0.history (entry_of x.1.adapter c.args.seq c.args.event) ≡ None))
    (λ k. (c.item.view_is k, c.pass.view_is k)) c.add_copied.ensures.admitted

pub returns-clause-refused : goal.returns-clause-refused
returns-clause-refused g c =
    let list = c.add_copied.new.writer.list in
    subst (λ (x : HeldItem × Pass). IfErr c.add_copied.result (λ cause. (list ≡ x.0.history)
    × IsCause (cause_in x.0.shape x.0.history (entry_of x.1.adapter c.args.seq c.args.event)) cause))
    (λ k. (c.item.view_is k, c.pass.view_is k)) c.add_copied.ensures.refused

pub returns-clause-lawful : goal.returns-clause-lawful
returns-clause-lawful g c =
    let i = c.item.inside in
    let said = c.add_copied.ensures in
    let list = c.add_copied.new.writer.list in
    subst (λ (p : Shape). IsHistory p list) (said.shape ∙ ap (λ (x : HeldItem). x.shape) c.item.view_is)
    (stands_lawful c.add_copied.new.cell list
    (stands_kept i.cell i.writer.list c.add_copied.new.cell list said.slots c.item.invariant.2))

pub returns-clause-textual : goal.returns-clause-textual
returns-clause-textual g c = c.add_copied.ensures.textual c.item.invariant.4

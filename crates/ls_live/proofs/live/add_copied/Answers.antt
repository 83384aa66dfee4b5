use Rattle.std.proofs.Common.{◌≡◌, ◌++◌, ◌∷◌, [], List, sym, ◌∙◌, ap, subst, length}
use Rattle.ls_event.specs.declared.event.Entry.{Entry}
use Rattle.ls_cell.specs.Cell.{Held}
use Rattle.ls_live.specs.Live.{KeepsSlots, entry_of}
use Rattle.ls_live.proofs.Keeping.{keeps_added, textual_added}
use Rattle.ls_live.proofs.live.add_copied.Goals as goal

pub whole-requires : goal.whole-requires
whole-requires c = (c.requires.writer, c.requires.reader)

pub returns-in-Err-clause-refused : goal.returns-in-Err-clause-refused
returns-in-Err-clause-refused c =
    (ap (λ t. t.list) c.whole.ensures.writer, c.in-Err.ensures.refused c.args.writer.now.list c.requires.stands)

pub returns-in-Err-clause-slots : goal.returns-in-Err-clause-slots
returns-in-Err-clause-slots c =
    let h = c.args.writer.now.list in
    subst (KeepsSlots c.args.cell.now h c.weigh_copied.new.cell) (sym (ap (λ t. t.list) c.whole.ensures.writer))
    (c.weigh_copied.ensures.slots h)

pub returns-in_default-clause-slots : goal.returns-in_default-clause-slots
returns-in_default-clause-slots c =
    let h = c.args.writer.now.list in
    subst (λ (x : Held × List Entry). KeepsSlots c.args.cell.now h x.0 x.1)
    (λ k. (sym c.in_default.ensures.err k, sym (ap (λ t. t.list) c.whole.ensures.writer) k)) (c.weigh_copied.ensures.slots h)

pub append-requires : goal.append-requires
append-requires c = ap (λ t. t.table) c.whole.ensures.writer ∙ c.requires.writer

pub whole-requires-2 : goal.whole-requires-2
whole-requires-2 c = (
  c.append.ensures.table ∙ (ap (λ t. t.table) c.whole.ensures.writer ∙ c.requires.writer),
  ap (λ t. t.table) c.whole.ensures.reader ∙ c.requires.writer,
)

pub returns-clause-shape : goal.returns-clause-shape
returns-clause-shape c = ap (λ (v : Held). v.item.shape) c.in-Ok-add.ensures.ok ∙ c.weigh_copied.ensures.shape

pub returns-clause-slots : goal.returns-clause-slots
returns-clause-slots c =
    let h = c.args.writer.now.list in
    let mine : Entry = entry_of c.args.adapter c.args.seq c.args.event in
    let list : c.whole-2.new.w.list ≡ h ++ mine ∷ [] = ap (λ t. t.list) c.whole-2.ensures.writer
    ∙ (c.in-Ok-append.ensures.added.0 ∙ (λ k. (c.whole.ensures.writer k).list ++ c.in-Ok.ensures.copy k ∷ [])) in
    keeps_added c.args.cell.now h c.weigh_copied.new.cell c.add.new.self c.whole-2.new.w.list mine
    (c.weigh_copied.ensures.slots h) c.in-Ok-add.ensures.stands list

pub returns-clause-textual : goal.returns-clause-textual
returns-clause-textual c =
    let added = c.in-Ok.entry.now in
    textual_added c.args.writer.now.list added c.whole-2.new.w.list
    (ap (λ t. t.list) c.whole-2.ensures.writer
    ∙ (c.in-Ok-append.ensures.added.0 ∙ (λ k. (c.whole.ensures.writer k).list ++ added ∷ []))) c.in-Ok.ensures.textual

pub returns-clause-table : goal.returns-clause-table
returns-clause-table c =
    ap (λ t. t.table) c.whole-2.ensures.writer ∙ (c.append.ensures.table ∙ ap (λ t. t.table) c.whole.ensures.writer)

pub returns-clause-reader : goal.returns-clause-reader
returns-clause-reader c = c.whole-2.ensures.reader ∙ sym c.whole-2.ensures.writer

pub returns-clause-done : goal.returns-clause-done
returns-clause-done c = (
  ap (λ t. t.list) c.whole-2.ensures.writer
      ∙ (c.in-Ok-append.ensures.added.0 ∙ (λ k. (c.whole.ensures.writer k).list ++ c.in-Ok.ensures.copy k ∷ [])),
  c.in-Ok-append.ensures.added.1 ∙ sym (ap (λ t. length t.list) c.whole-2.ensures.writer),
)

pub returns-clause-admitted : goal.returns-clause-admitted
returns-clause-admitted c = c.in-Ok.ensures.admitted c.args.writer.now.list c.requires.stands

use Rattle.std.proofs.Common.{ℕ, ◌++◌, ◌∷◌, [], ap, ◌∙◌}
use Rattle.ls_register.specs.declared.made.Made.TheVariants.{Item}
use Rattle.ls_register.specs.Items.{items_of}
use Rattle.ls_register.proofs.Showing.{items_more}
use Rattle.ls_register.proofs.blank.add_item.Goals as goal

pub returns-clause-items : goal.returns-clause-items
returns-clause-items g c =
    let d = c.args.def.now in
    let old = c.args.writer.now.list in
    ap (λ t. items_of t.list) c.note.ensures.1 ∙ (ap items_of c.in_ok-number.ensures.added.0
    ∙ (ap (λ (n : ℕ). items_of (old ++ Item c.args.item n d.kind c.args.table ∷ [])) c.len.ensures
    ∙ items_more old c.args.item d c.args.table))

use Rattle.std.proofs.Common.{List, [], ◌∷◌, ◌++◌, ◌+◌, length, sym, ap, ◌∙◌}
use Rattle.ls_register.specs.declared.made.Made.{Made}
use Rattle.ls_register.specs.Items.{items_of, fact_of, facts_of}
use Rattle.ls_event.specs.declared.item.ItemDef.{ItemDef}
use Rattle.ls_thread_tests.proofs.register.is_one_place.Goals as goal

pub new-book-requires-clause-items : goal.new-book-requires-clause-items
new-book-requires-clause-items g c =
    c.in-Ok.ensures.items ∙ ap (λ (l : List Made). items_of l ++ fact_of 0 c.args.def.now ∷ []) c.args.blank.empty
    ∙ sym (ap (λ (ds : List ItemDef). facts_of ds) c.requires.config)

pub new-book-requires-clause-nothing : goal.new-book-requires-clause-nothing
new-book-requires-clause-nothing g c =
    ap (λ xs. length xs) (c.in-Ok.ensures.items ∙ ap (λ (l : List Made). items_of l ++ fact_of 0 c.args.def.now ∷ []) c.args.blank.empty)
    ∙ sym (c.in-Ok.ensures.more ∙ ap (λ (l : List Made). length l + 1) c.args.blank.empty)

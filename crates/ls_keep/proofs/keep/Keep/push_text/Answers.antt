use Rattle.std.proofs.Common.{arith, ◌++◌, ◌∷◌, [], ap, ◌∙◌}
use Rattle.ls_keep.specs.Kept.{KeptLines}
use Rattle.ls_keep.specs.Texts.{HeldTexts}
use Rattle.ls_keep.proofs.Trimming.{bytes_fit, pushed_stands, gave_up_with}
use Rattle.ls_keep.proofs.keep.Keep.push_text.Goals as goal

pub overflow_add-self : goal.overflow_add-self
overflow_add-self c = omega (arith, bytes_fit _ _ _ _ _ c.self.invariant c.len.type_inv)

pub returns-clause-gave_up : goal.returns-clause-gave_up
returns-clause-gave_up c =
    let k = c.self.inside in
    gave_up_with c.args.self.now c.numbered.new.self k.lines c.push_text.new.self c.args.text.items k.sent k.given_up c.self.view_is
    c.push_text.ensures.texts c.push_text.ensures.room c.numbered.ensures.gave_up

pub returns-clause-stands : goal.returns-clause-stands
returns-clause-stands c = λ n st.
    pushed_stands c.args.self.now _ c.numbered.new.self n c.args.text.items st c.requires.number
    (ap (λ (v : HeldTexts). v.texts) c.push_text.ensures.texts ∙ ap (λ (v : KeptLines). v.texts ++ c.args.text.items ∷ []) c.self.view_is)
    (ap (λ (v : KeptLines). v.sent) c.self.view_is) (ap (λ (v : KeptLines). v.given_up) c.self.view_is)
    c.numbered.ensures.gave_up c.numbered.ensures.is_trim

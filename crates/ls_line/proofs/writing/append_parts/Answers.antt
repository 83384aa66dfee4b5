use Rattle.std.proofs.Common.{refl, ap, map, ◌++◌, ◌∙◌}
use Rattle.ls_line.specs.Lines.{lent_text, then_texts}
use Rattle.ls_line.proofs.Commas.{texts_whole, texts_next}
use Rattle.ls_line.proofs.writing.append_parts.Goals as goal

pub loop-part-init : goal.loop-part-init
loop-part-init c = refl

pub returns : goal.returns
returns c =
    texts_whole c.loop-part.text.items c.args.text.now.items c.args.tag.now c.args.parts.now c.loop-part.part-index
    c.loop-part-test.false
    (c.loop-part.invariant ∙ ap (λ x. then_texts x (map lent_text c.args.parts.now))
    c.in_ok-extend_from_slice.ensures.items)

pub loop-part-preserved : goal.loop-part-preserved
loop-part-preserved c =
    texts_next c.loop-part.text.items c.push.new.self.items c.append_part.new.text.items c.args.parts.now
    c.loop-part.part-index c.part-item.result
    c.loop-part-test.true c.in_ok-push.ensures.items
    (c.in_ok-append_part.ensures ∙ ap (λ p. c.push.new.self.items ++ lent_text p) c.part-item.is)
    ∙ c.loop-part.invariant

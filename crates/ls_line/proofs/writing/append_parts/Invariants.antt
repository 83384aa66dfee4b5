use Rattle.std.proofs.Common.{◌≡◌, drop, map}
use Rattle.ls_line.specs.Lines.{lent_text, then_texts}
use Rattle.ls_line.proofs.writing.append_parts.Given as goal

-- the parts left behind the text so far
abbrev pub invariant-loop-part : goal.invariant-loop-part
invariant-loop-part l =
    then_texts l.text.items (map lent_text (drop l.part-index l.parts))
    ≡ then_texts l.initial.text.items (map lent_text l.parts)

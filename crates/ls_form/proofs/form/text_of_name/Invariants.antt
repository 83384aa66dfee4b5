use Rattle.std.proofs.Common.{◌≡◌, drop}
use Rattle.ls_form.specs.Forms.{text_under}
use Rattle.ls_form.proofs.form.text_of_name.Given as goal

abbrev pub invariant-loop-pair : goal.invariant-loop-pair
invariant-loop-pair l = text_under l.pairs l.name ≡ text_under (drop l.pair-index l.pairs) l.name

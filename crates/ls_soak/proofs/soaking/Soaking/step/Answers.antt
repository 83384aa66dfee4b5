use Rattle.std.proofs.Common.{◌∷◌, ℕ, List, subst, OnOk}
use Rattle.ls_soak.specs.declared.tally.Tally.{Tally}
use Rattle.ls_soak.specs.Drawing.{choice_of}
use Rattle.ls_soak.specs.Soaking.{Leaves}
use Rattle.ls_soak.proofs.Playing.{line_said, other_line_left}
use Rattle.ls_soak.proofs.soaking.Soaking.step.Goals as goal

pub returns-in-Ok-clause-ok : goal.returns-in-Ok-clause-ok
returns-in-Ok-clause-ok c =
    let is = line_said c.as_bytes.result.now _ _ c.args.before c.choice_of.result (choice_of c.args.x) c.as_bytes.ensures.value c.in-Ok.ensures
    c.clear.ensures.bytes c.choice_of.ensures.chosen in
    subst (λ (t : List ℕ). OnOk c.play.result ((lines : List (List ℕ)) (all : Tally)
    → Leaves c.args.self.now.engine c.args.self.now.tally (t ∷ lines) all → Leaves c.play.new.self.engine c.play.new.self.tally lines all))
    is c.play.ensures.ok

pub returns-in-Ok-clause-bad : goal.returns-in-Ok-clause-bad
returns-in-Ok-clause-bad c = λ bad lines all l.
    let is = line_said c.as_bytes.result.now _ _ c.args.before c.choice_of.result (choice_of c.args.x) c.as_bytes.ensures.value c.in-Ok.ensures
    c.clear.ensures.bytes c.choice_of.ensures.chosen in
    c.play.ensures.bad bad lines all (other_line_left _ _ all _ _ lines is l)

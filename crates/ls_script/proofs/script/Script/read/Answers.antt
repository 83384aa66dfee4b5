use Rattle.std.proofs.Common.{◌≡◌, Some, ◌∙◌, sym}
use Rattle.ls_step.specs.Grammar.{line_of}
use Rattle.ls_step.proofs.Fitting.{line_fits_is}
use Rattle.ls_script.proofs.script.Script.read.Goals as goal

pub declare-requires : goal.declare-requires
declare-requires c =
    let asked : line_of c.args.self.now c.args.line.now ≡ Some c.in-Some.asked = sym c.in_ok-asked.ensures ∙ c.in-Some.is in
    (line_fits_is c.args.self.now c.args.line.now c.in-Some.asked asked).fits

pub returns-in_ok-declare-in-Some-clause-fits : goal.returns-in_ok-declare-in-Some-clause-fits
returns-in_ok-declare-in-Some-clause-fits c =
    let asked : line_of c.args.self.now c.args.line.now ≡ Some c.in-Some.asked = sym c.in_ok-asked.ensures ∙ c.in-Some.is in
    line_fits_is c.args.self.now c.args.line.now c.in-Some.asked asked

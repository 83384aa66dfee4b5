use Rattle.std.proofs.Common.{sym, ap}
use Rattle.std.specs.Prelude.{Err}
use Rattle.ls_acts.proofs.acting.reconf.Goals as goal

pub returns-in-Err-Code-clause-did : goal.returns-in-Err-Code-clause-did
returns-in-Err-Code-clause-did c = λ now defs items free numbers r st early range. (
  sym (c.in-Err-Code.ensures.refused c.in-Err-Code.code (ap (λ x. Err x) c.in-Err-Code.field-0-is) r st),
  c.in-Err-Code.ensures.err r st,
)

pub returns-in-Ok-clause-did : goal.returns-in-Ok-clause-did
returns-in-Ok-clause-did c = λ now defs items free numbers r st early range.
    let d = c.in-Ok.ensures.accepted r st in
    (sym d.0, d.1)

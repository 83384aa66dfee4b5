use Rattle.std.proofs.Common.{◌∙◌, ap, List, ℕ, Option, None}
use Rattle.ls_request.specs.Values.{recovery_of}
use Rattle.ls_request.specs.Requests.{or_absent}
use Rattle.ls_request.proofs.open.recovery.Goals as goal

pub returns-in-Some-clause-value : goal.returns-in-Some-clause-value
returns-in-Some-clause-value c = c.recovery.ensures.value ∙ ap recovery_of c.as_bytes.ensures
    ∙ ap (λ (text : Option (List ℕ)). or_absent None recovery_of text) c.in-Some.ensures

pub returns-in-None-clause-value : goal.returns-in-None-clause-value
returns-in-None-clause-value c = ap (λ (text : Option (List ℕ)). or_absent None recovery_of text) c.in-None.ensures

use Rattle.std.proofs.Common.{◌∙◌, ap, List, ℕ, Option}
use Rattle.ls_request.specs.declared.limits.TheConstants.{DEFAULT_KEEPALIVE}
use Rattle.ls_request.specs.Values.{keepalive_of}
use Rattle.ls_request.specs.Requests.{or_absent}
use Rattle.ls_request.proofs.open.keepalive.Goals as goal

pub returns-in-Some-clause-value : goal.returns-in-Some-clause-value
returns-in-Some-clause-value c = c.keepalive.ensures.value ∙ ap keepalive_of c.as_bytes.ensures
    ∙ ap (λ (text : Option (List ℕ)). or_absent DEFAULT_KEEPALIVE keepalive_of text) c.in-Some.ensures

pub returns-in-None-clause-value : goal.returns-in-None-clause-value
returns-in-None-clause-value c = ap (λ (text : Option (List ℕ)). or_absent DEFAULT_KEEPALIVE keepalive_of text)
    c.in-None.ensures

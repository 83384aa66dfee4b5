use Rattle.std.proofs.Common.{◌∙◌, ap, List, ℕ, Option}
use Rattle.ls_event.specs.declared.event.Snap.TheVariants as snap
use Rattle.ls_request.specs.Values.{snap_of}
use Rattle.ls_request.specs.Requests.{or_absent}
use Rattle.ls_request.proofs.add.snapshot.Goals as goal

pub returns-in-Some-clause-value : goal.returns-in-Some-clause-value
returns-in-Some-clause-value c = c.snapshot.ensures.value ∙ ap (snap_of c.args.mode) c.as_bytes.ensures
    ∙ ap (λ (text : Option (List ℕ)). or_absent snap.No (snap_of c.args.mode) text) c.in-Some.ensures

pub returns-in-None-clause-value : goal.returns-in-None-clause-value
returns-in-None-clause-value c = ap (λ (text : Option (List ℕ)). or_absent snap.No (snap_of c.args.mode) text)
    c.in-None.ensures
